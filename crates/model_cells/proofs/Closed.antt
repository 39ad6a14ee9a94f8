-- The ends of G are within their limit.
use mathlib.Core.List.{List}
use native.Mathlib.Nat.{le_refl}
use lib.Dec.{lit≤}
use lib.IntN.{ℤ}
use Rattle.number_whole.proofs.laws.Bound.{under-weaken, under-floor, under-ceil}
use Rattle.number_whole.specs.SignedEnds.{outward}
use Rattle.number_whole.specs.declared.SignedEnds.{SignedEnds}
use Rattle.number_whole.specs.code.Sizes.{Within}
use Rattle.model_closure.specs.Weights.{fitted, weight_unit}
use Rattle.model_logistic.specs.code.Code.{closed_limit}
use Rattle.model_closure.specs.Closure.{weighted_mean}
use Rattle.model_closure.specs.code.Code.{InLimit, weight_of, RowWithin}
use Rattle.model_closure.proofs.Sums.{sums-within}

pub closed-within : (row : List ℤ) (h : List SignedEnds) → RowWithin row → InLimit h
    → Within closed_limit (weighted_mean (weight_of row) h)
unfolding weighted_mean outward
closed-within row h r k =
    let u = sums-within row h r k fitted (le_refl _) in
    record {
      low = under-weaken (under-floor weight_unit u.low) (lit≤ tt);
      high = under-weaken (under-ceil weight_unit u.high) (lit≤ tt);
    }
