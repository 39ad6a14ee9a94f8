-- A number with the least or the greatest product of two ends, over 10^8: by the end that the factor's sign chooses.
use Rattle.std.specs.Prelude.{◌≡◌, refl, Bool, true, false, cond, ℤ, pos, ◌+ℤ◌, ◌*ℤ◌}
use Rattle.std.proofs.Math.Path.{ap}
use Rattle.std.specs.Int.Signed.{non_neg}
use Rattle.number_whole.specs.Division.{floor_div, ceil_div}
use Rattle.number_whole.proofs.laws.Split.{split, split-add, split-scale-left}
use Rattle.number_whole.specs.declared.SignedEnds.{SignedEnds}
use Rattle.number_whole.specs.SignedEnds.{least_product, greatest_product}
use Rattle.number_exponential.specs.Grid.{Grid}
use Rattle.set_series.specs.Series.{coefficient_unit, in_grid}
use Rattle.set_series.specs.code.Within.{mixed_over}

-- the end that is chosen
abbrev pub end_by : ℤ → ℤ → ℤ → ℤ
end_by a end other = cond (non_neg a) end other

chosen : (b : Bool) (a l u : ℤ) → a *ℤ cond b l u ≡ cond b (a *ℤ l) (a *ℤ u)
chosen true a l u = refl
chosen false a l u = refl

module _ (g : Grid) (p a : ℤ) (e : SignedEnds) where
  pub least-over : mixed_over g p a (end_by a e.lower e.upper) false ≡ floor_div (in_grid g p +ℤ least_product a e) coefficient_unit
  unfolding mixed_over least_product
  least-over = ap (λ (z : ℤ). floor_div (in_grid g p +ℤ z) coefficient_unit) (chosen (non_neg a) a e.lower e.upper)

  pub greatest-over : mixed_over g p a (end_by a e.upper e.lower) true ≡ ceil_div (in_grid g p +ℤ greatest_product a e) coefficient_unit
  unfolding mixed_over greatest_product
  greatest-over = ap (λ (z : ℤ). ceil_div (in_grid g p +ℤ z) coefficient_unit) (chosen (non_neg a) a e.upper e.lower)

-- 0 adds nothing
pub none-added : (g : Grid) (z : ℤ) → in_grid g (pos 0) +ℤ z ≡ z
unfolding in_grid
none-added g z = omega (split, split-add (pos g.scale *ℤ pos 0) z, split-scale-left g.scale (pos 0))
