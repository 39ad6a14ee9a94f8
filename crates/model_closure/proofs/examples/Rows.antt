-- The row of weights of an age serves as the weights of that age.
use Rattle.std.specs.Prelude.{◌≡◌, List, ℤ}
use Rattle.std.proofs.Math.Path.{refl}
use Prim.Native.Nat.{ℕ, zero, suc, ◌≤◌, ◌<◌}
use Rattle.std.proofs.Common.{le_refl, arith}
use Rattle.number_whole.specs.declared.SignedEnds.{SignedEnds}
use Rattle.model_closure.specs.Weights.{fitted, first_closed, last_closed, weight}
use Rattle.model_closure.specs.code.Table.{weight_row}
use Rattle.model_closure.proofs.laws.WeightLaws.{row-weight, weight-under}
use Rattle.model_closure.specs.Closure.{least_sum, greatest_sum, weighted_mean, closed_sum}
use Rattle.model_closure.specs.code.Code.{weight_of, RowWithin}

pub row_within : {x : ℕ} → first_closed ≤ x → x ≤ last_closed → RowWithin (weight_row x)
row_within {x} l m = record { weights = λ i h. rw (row-weight x i h) (weight-under l m h) }

-- weights that are equal give equal sums
module _ {w v : ℕ → ℤ} (hs : List SignedEnds) (e : (i : ℕ) → i < fitted → w i ≡ v i) where
  least-same : (n : ℕ) → n ≤ fitted → least_sum w hs n ≡ least_sum v hs n
  unfolding least_sum
  least-same zero h = refl
  least-same (suc n) h = rw (least-same n (omega arith), e n h)

  greatest-same : (n : ℕ) → n ≤ fitted → greatest_sum w hs n ≡ greatest_sum v hs n
  unfolding greatest_sum
  greatest-same zero h = refl
  greatest-same (suc n) h = rw (greatest-same n (omega arith), e n h)

  mean-same : weighted_mean w hs ≡ weighted_mean v hs
  unfolding weighted_mean
  mean-same = rw (least-same fitted (le_refl fitted), greatest-same fitted (le_refl fitted))

pub row-mean : (x : ℕ) (hs : List SignedEnds) → weighted_mean (weight_of (weight_row x)) hs ≡ closed_sum x hs
row-mean x hs = mean-same {w = weight_of (weight_row x)} {v = weight x} hs (row-weight x)
