-- G's ends on a grid: they lie in order, and how far apart they lie at most.
use Rattle.std.specs.Prelude.{List, ℤ, pos, nat_abs, ◌+ℤ◌, ◌≤ℤ◌}
use Prim.Native.Nat.{ℕ, zero, suc, ◌+◌, ◌*◌, ◌/◌, ◌≤◌, ◌<◌}
use Rattle.std.proofs.Common.{mul-le-mul_right, arith, lit<}
use Rattle.std.specs.Int.Signed.{≤ℤ_refl}
use Rattle.number_whole.proofs.laws.Split.{split, split-add}
use Rattle.number_whole.proofs.laws.Order.{≤ℤ-trans, +ℤ-mono}
use Rattle.number_whole.specs.declared.SignedEnds.{SignedEnds}
use Rattle.number_whole.specs.SignedEnds.{least_product, greatest_product, outward}
use Rattle.number_whole.specs.Division.{floor_div, ceil_div}
use Rattle.number_whole.proofs.laws.DivisionLaws.{split-floor, split-ceil, floor-mono, floor-le-ceil}
use Rattle.number_whole.proofs.laws.EndLaws.{product-spread, product-ordered}
use Rattle.model_closure.specs.Weights.{fitted, first_closed, last_closed, weight_unit, weight}
use Rattle.model_closure.specs.code.Totals.{most_size, size_total}
use Rattle.model_closure.proofs.laws.WeightLaws.{weights-size}
use Rattle.model_closure.specs.Closure.{ends_at, least_sum, greatest_sum, weighted_mean, closed_sum}

-- ---- the sums of the first n

sum-algebra : (a b c d : ℤ) (s t W : ℕ) → a ≤ℤ (b +ℤ pos (s * W)) → c ≤ℤ (d +ℤ pos (t * W))
    → (a +ℤ c) ≤ℤ ((b +ℤ d) +ℤ pos ((s + t) * W))
sum-algebra a b c d s t W h k =
    omega (
      split,
      split-add a c,
      split-add b d,
      split-add (b +ℤ d) (pos ((s + t) * W)),
      split-add b (pos (s * W)),
      split-add d (pos (t * W)),
    )

module _ (x : ℕ) (hs : List SignedEnds) where
  sum-width : (W n : ℕ) → ((i : ℕ) → i < n → (ends_at hs i).upper ≤ℤ ((ends_at hs i).lower +ℤ pos W))
      → greatest_sum (weight x) hs n ≤ℤ (least_sum (weight x) hs n +ℤ pos (size_total x n * W))
  unfolding greatest_sum least_sum size_total
  sum-width W zero h = omega split
  sum-width W (suc n) h =
      let w = weight x n in
      let e = ends_at hs n in
      sum-algebra (greatest_sum (weight x) hs n) (least_sum (weight x) hs n) (greatest_product w e) (least_product w e) (size_total x n)
      (nat_abs w) W
      (sum-width W n (λ i l. h i (omega arith))) (product-spread w e W (h n (omega arith)))

  sum-ordered : (n : ℕ) → ((i : ℕ) → i < n → (ends_at hs i).lower ≤ℤ (ends_at hs i).upper)
      → least_sum (weight x) hs n ≤ℤ greatest_sum (weight x) hs n
  unfolding greatest_sum least_sum
  sum-ordered zero h = ≤ℤ_refl (pos 0)
  sum-ordered (suc n) h =
      +ℤ-mono (sum-ordered n (λ i l. h i (omega arith)))
      (product-ordered (weight x n) (ends_at hs n) (h n (omega arith)))

-- ---- G

quotient-width : (L G : ℤ) (R W : ℕ) → G ≤ℤ (L +ℤ pos R) → R ≤ most_size * W
    → ceil_div G weight_unit ≤ℤ (floor_div L weight_unit +ℤ pos (most_size * W / weight_unit + 2))
quotient-width L G R W h k =
    let f = split-floor L {m = weight_unit} (lit< tt) in
    let c = split-ceil G {m = weight_unit} (lit< tt) in
    omega (split, split-add (floor_div L weight_unit) (pos (most_size * W / weight_unit + 2)), split-add L (pos R))

module _ (x : ℕ) (hs : List SignedEnds) where
  -- where no end of H lies more than W above the other, G's lie at most 1,060·W/110 and 2 units apart
  pub closed_sum-width : (W : ℕ) → first_closed ≤ x → x ≤ last_closed
      → ((i : ℕ) → i < fitted → (ends_at hs i).upper ≤ℤ ((ends_at hs i).lower +ℤ pos W))
      → (closed_sum x hs).upper ≤ℤ ((closed_sum x hs).lower +ℤ pos (most_size * W / weight_unit + 2))
  unfolding weighted_mean outward
  closed_sum-width W l m h =
      quotient-width (least_sum (weight x) hs fitted) (greatest_sum (weight x) hs fitted) (size_total x fitted * W) W
      (sum-width x hs W fitted h)
      (mul-le-mul_right W (weights-size x l m))

  -- in order where H's are
  pub closed_sum-ordered : ((i : ℕ) → i < fitted → (ends_at hs i).lower ≤ℤ (ends_at hs i).upper)
      → (closed_sum x hs).lower ≤ℤ (closed_sum x hs).upper
  unfolding weighted_mean outward
  closed_sum-ordered h =
      ≤ℤ-trans (floor-mono {m = weight_unit} (lit< tt) (sum-ordered x hs fitted h))
      (floor-le-ceil (greatest_sum (weight x) hs fitted) (lit< tt))
