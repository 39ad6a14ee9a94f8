-- A quote that is worked again: coarse ends that leave the figure open give the answer of the fine ones, where cells in range on the
-- coarse grid are so on the fine one.
use Rattle.std.specs.Prelude.{◌≡◌, Bool, ◌&&◌, ℕ}
use Rattle.std.proofs.Math.Path.{refl}
use Rattle.std.proofs.Math.Bool.{true, false}
use Rattle.number_whole.proofs.laws.Clash.{clash}
use Rattle.number_exponential.specs.declared.Ends.{Ends}
use Rattle.number_exponential.specs.declared.GridUnit.{GridUnit}
use Rattle.number_exponential.specs.declared.GridUnit.TheVariants.{Coarse, Fine}
use Rattle.quote_along.specs.QuoteBy.{quote_on, quote_by, Answer}
use Rattle.quote_along.specs.code.Code.{in_range_or, left_open, quote_for}

module _ (s : ℕ) (ends : GridUnit → Ends) where
  abbrev coarse : Bool → Answer
  coarse inside = in_range_or inside (quote_on s Coarse (ends Coarse))

  pub worked-again : (again inside fine : Bool) → (inside ≡ true → fine ≡ true) → again && left_open (coarse inside) ≡ true
      → in_range_or fine (quote_on s Fine (ends Fine)) ≡ in_range_or inside (quote_for again s ends)
  unfolding in_range_or left_open quote_for quote_by
  worked-again true true fine h e = rw (h refl, e)
  worked-again true false fine h e = clash cc
  worked-again false inside fine h e = clash cc

  pub worked-once : (again inside : Bool) → again && left_open (coarse inside) ≡ false
      → coarse inside ≡ in_range_or inside (quote_for again s ends)
  unfolding in_range_or left_open quote_for quote_by
  worked-once true true e = rw e
  worked-once true false e = refl
  worked-once false true e = refl
  worked-once false false e = refl

-- the rounds after one on a grid
abbrev pub rounds_left : GridUnit → ℕ
rounds_left Coarse = 1
rounds_left Fine = 0
