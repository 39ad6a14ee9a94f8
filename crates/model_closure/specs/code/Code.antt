-- What the code's contracts say beside the definitions: the limits in which the weighted sums of
-- the ends of H are worked, and the sums with one product added.
use Rattle.std.specs.Prelude.{List, ℕ, ◌*◌, ◌^◌, ◌<◌, ℤ, pos, ◌+ℤ◌, get_or}
use Rattle.number_whole.specs.code.Sizes.{Under, Within}
use Rattle.number_whole.specs.declared.SignedEnds.{SignedEnds}
use Rattle.number_whole.specs.SignedEnds.{least_product, greatest_product}
use Rattle.model_closure.specs.Weights.{fitted}
use Rattle.model_closure.specs.code.Totals.{weight_limit}
use Rattle.model_closure.specs.Closure.{ends_at}

-- how far from 0 an end of H and the weighted sums may lie
abbrev pub end_limit : ℕ
end_limit = 10 ^ 15

abbrev pub sums_limit : ℕ
sums_limit = fitted * (weight_limit * end_limit)

-- every end of H is within its limit
abbrev pub InLimit : List SignedEnds → Type 0
InLimit h = (i : ℕ) → i < fitted → Within end_limit (ends_at h i)

-- the weights of a row, each within its limit
abbrev pub weight_of : List ℤ → ℕ → ℤ
weight_of row i = get_or row i (pos 0)

pub record RowWithin (row : List ℤ) : Type 0 where
  pub weights : (i : ℕ) → i < fitted → Under (weight_of row i) weight_limit

-- the sums with w times the ends added
unfoldable pub with_product : SignedEnds → ℤ → SignedEnds → SignedEnds
with_product s w e = record { lower = s.lower +ℤ least_product w e; upper = s.upper +ℤ greatest_product w e }
