-- G at ages 91 to 120 on the grid (001, section 3; paper 01, "The grid"): "G = the weighted sum of H over 110."
use Rattle.std.specs.Prelude.{ℕ, zero, suc, List, ℤ, pos, ◌+ℤ◌, get_or}
use Rattle.number_whole.specs.declared.SignedEnds.{SignedEnds}
use Rattle.number_whole.specs.SignedEnds.{least_product, greatest_product, outward}
use Rattle.model_closure.specs.Weights.{fitted, weight_unit, weight}

-- the ends of H at the i-th fitted age, of eleven
abbrev pub ends_at : List SignedEnds → ℕ → SignedEnds
ends_at hs i = get_or hs i (record { lower = pos 0; upper = pos 0 })

-- the weighted sums of the first n, least and greatest: a negative weight exchanges the ends
unfoldable pub least_sum : (ℕ → ℤ) → List SignedEnds → ℕ → ℤ
least_sum w hs zero = pos 0
least_sum w hs (suc n) = least_sum w hs n +ℤ least_product (w n) (ends_at hs n)

unfoldable pub greatest_sum : (ℕ → ℤ) → List SignedEnds → ℕ → ℤ
greatest_sum w hs zero = pos 0
greatest_sum w hs (suc n) = greatest_sum w hs n +ℤ greatest_product (w n) (ends_at hs n)

-- the weighted sum over 110, by these weights
unfoldable pub weighted_mean : (ℕ → ℤ) → List SignedEnds → SignedEnds
weighted_mean w hs = outward (least_sum w hs fitted) (greatest_sum w hs fitted) weight_unit

-- G at age x
abbrev pub closed_sum : ℕ → List SignedEnds → SignedEnds
closed_sum x hs = weighted_mean (weight x) hs
