-- All the factors of a path, or a cell out of range.
use Rattle.std.specs.Prelude.{Some, None}
use mathlib.Core.Path.{◌≡◌, refl, ap, ap₂, subst, sym, ◌∙◌}
use mathlib.Core.Bool.{Bool, true, false}
use mathlib.Core.List.{List, ◌++◌, append-nil}
use Prim.Native.Nat.{ℕ, zero, suc, ◌+◌, ◌-◌, ◌≤◌, ◌<◌, min}
use native.Mathlib.Nat.{le_refl}
use native.Mathlib.Decide.{dec_lt}
use native.Mathlib.Omega.{arith}
use lib.Dec.{T}
use lib.Ieee.Bits.{is_true}
use lib.ListN.{length, take, get_or, replicate}
use Rattle.number_exponential.specs.declared.Ends.{Ends}
use Rattle.number_exponential.specs.Grid.{Grid}
use Rattle.set_params.specs.declared.Params.{Params}
use Rattle.model_closure.specs.Weights.{first_closed, last_closed}
use Rattle.number_folds.specs.code.Code.{most_factors}
use Rattle.model_mortality.specs.Cell.{whole_year, survival}
use Rattle.quote_paths.specs.Path.{place_at, path_of, factors, path_in_range}
use Rattle.quote_paths.proofs.laws.Oldest.{range-stays, factors-stay, place-oldest}
use Rattle.quote_paths.specs.declared.Path.{Path}
use Rattle.quote_walks.specs.code.Code.{path_to, path_is, Worked}
use Rattle.quote_walks.proofs.Steps.{worked-last}
use Rattle.quote_factors.specs.code.Code.{worked_cells, empty, Repeated, FactorsOf}

all_of : {g : Grid} {p : Params} {w : Path} {es : List Ends} → T (path_in_range g p (path_is w))
    → take w.count es ≡ factors g p (path_is w) → length es ≡ most_factors
    → FactorsOf g p w (Some es)
all_of {g} {p} {w} t e l = record { ok = sym (is_true (path_in_range g p (path_is w)) t); ends = e; size = l }

pub worked-all : {g : Grid} {p : Params} {w : Path} {es : List Ends} {s : ℕ} → Worked g p w es s → s ≡ w.count
    → FactorsOf g p w (Some es)
worked-all h e = let k = rw e at h in all_of k.range k.ends k.size

pub out-all : {g : Grid} {p : Params} {w : Path} → path_in_range g p (path_is w) ≡ false
    → FactorsOf g p w None
out-all e = record { ok = sym e; ends = tt; size = tt }

-- ---- the cells that are worked

-- no more than the path has
pub cells-most : (c : Bool) (x k : ℕ) → worked_cells c x k ≤ k
cells-most true x k = le_refl k
cells-most false x k = omega arith

-- where they end before the path does, it stays in its year and age 120 is worked
pub cells_left : (c : Bool) (x k : ℕ) {d s : ℕ} → d ≡ worked_cells c x k → d ≤ s → s < k → (c ≡ false) × (last_closed < x + s)
cells_left true x k e h l = absurd (omega arith)
cells_left false x k e h l = (refl, omega arith)

-- some are
pub cells-some : (c : Bool) (x k : ℕ) {d s : ℕ} → d ≡ worked_cells c x k → x ≤ last_closed → 0 < k → d ≤ s → 0 < s
cells-some true x k e h l m = omega arith
cells-some false x k e h l m = omega arith

-- those to age 90 among them
pub cells-young : (c : Bool) (x k : ℕ) {d y : ℕ} → d ≡ worked_cells c x k → y ≡ min (first_closed - x) k → y ≤ d
cells-young true x k e h = omega arith
cells-young false x k e h = omega arith

-- ---- the cell of age 120 worked once

-- in one calendar year, past age 120
module _ (g : Grid) (p : Params) (c : Bool) (x n s count : ℕ) (q : c ≡ false) (l : suc s ≤ count) (a : last_closed ≤ x + s) where
  to-count : suc s + (count - suc s) ≡ count
  to-count = omega arith

  range-rest : T (path_in_range g p (path_of c x n (suc s))) → T (path_in_range g p (path_of c x n count))
  range-rest t = rw (q, ← to-count) (range-stays g p x n s (count - suc s) a (rw q at t))

  factors-rest : factors g p (path_of c x n count)
      ≡ factors g p (path_of c x n (suc s)) ++ replicate (count - suc s) (survival g p last_closed n whole_year)
  factors-rest =
      rw q
      (ap (λ (k : ℕ). factors g p (path_of false x n k)) (sym to-count)
      ∙ factors-stay g p x n s (count - suc s) a)

  factor-oldest : survival g p (place_at c x n s).age (place_at c x n s).year whole_year ≡ survival g p last_closed n whole_year
  factor-oldest = rw (q, place-oldest x n s a)

suc-pred : (s : ℕ) → suc s - 1 ≡ s
suc-pred s = omega arith

-- all the factors are those that were worked, or in one calendar year those to age 120 and then the last of them
pub worked-rest : {g : Grid} {p : Params} {w : Path} {es r : List Ends} (s : ℕ) → 0 < s → w.count ≤ most_factors → Worked g p w es s
    → (s < w.count → (w.cohort ≡ false) × (last_closed < w.age + s)) → Repeated es s w.count r
    → FactorsOf g p w (Some r)
worked-rest zero some m h old f = absurd (omega arith)
worked-rest {g} {p} {w} {es} {r} (suc s) some m h old f = let e = rw (suc-pred s) at f.ends in elim (dec_lt (suc s) w.count) [
  | yes l ↦
      let o = old l in
      let a : last_closed ≤ w.age + s = omega (arith, o.1) in
      all_of (range-rest g p w.cohort w.age w.year s w.count o.0 h.some a h.range)
      (e ∙ ap₂ (λ (b d : List Ends). b ++ d) h.ends
      (ap (replicate (w.count - suc s))
      (worked-last empty h m ∙ factor-oldest g p w.cohort w.age w.year s w.count o.0 h.some a))
      ∙ sym (factors-rest g p w.cohort w.age w.year s w.count o.0 h.some a)) f.size
  | no l ↦
      let c : suc s ≡ w.count = omega (arith, h.some) in
      let z : w.count - suc s ≡ 0 = omega arith in
      all_of (subst (λ (k : ℕ). T (path_in_range g p (path_to w k))) c h.range)
      (e ∙ ap (λ (k : ℕ). take (suc s) es ++ replicate k (get_or es s empty)) z ∙ append-nil (take (suc s) es)
      ∙ h.ends ∙ ap (λ (k : ℕ). factors g p (path_to w k)) c) f.size
]
