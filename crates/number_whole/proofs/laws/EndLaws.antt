-- Two signed ends: how wide their products with a whole number and their outward quotients are, and how far from zero these
-- lie.
use Rattle.std.specs.Prelude.{ℕ, suc, ◌+◌, ◌*◌, ◌≤◌, ◌<◌, ℤ, pos, negsuc, nat_abs, ◌+ℤ◌, ◌≤ℤ◌}
use Rattle.std.proofs.Common.{mul-le-mul_left, mul-le-mul_right, arith}
use Rattle.std.specs.Int.Signed.{non_neg}
use Rattle.number_whole.specs.Parts.{below}
use Rattle.number_whole.proofs.laws.Above.{above}
use Rattle.number_whole.proofs.laws.Split.{split, split-le, split-add}
use Rattle.number_whole.proofs.laws.Difference.{Difference, difference, difference-pos, difference-add, difference-mul}
use Rattle.number_whole.proofs.laws.Difference.{difference-le}
use Rattle.number_whole.proofs.laws.Order.{≤ℤ-trans}
use Rattle.number_whole.specs.Division.{floor_div, ceil_div}
use Rattle.number_whole.proofs.laws.DivisionLaws.{split-floor, split-ceil, le-of-mul-lt, floor-mono, floor-le-ceil}
use Rattle.number_whole.specs.code.Sizes.{Under, Within}
use Rattle.number_whole.proofs.laws.Bound.{under-add, under-mul, under-cond, under-floor-to, under-ceil-to}
use Rattle.number_whole.specs.declared.SignedEnds.{SignedEnds}
use Rattle.number_whole.specs.SignedEnds.{least_product, greatest_product, outward, shifted}

-- ---- the width

-- the lower end is at most the upper one, which is at most w above it
pub record Wide (lower upper : ℤ) (w : ℕ) : Type 0 where
  pub ordered : lower ≤ℤ upper
  pub width : upper ≤ℤ (lower +ℤ pos w)

negative : (k : ℕ) → Difference (negsuc k) 0 (suc k)
negative k = difference (negsuc k)

-- the products with c are at most |c| times as far apart
pub product-spread : (c : ℤ) (e : SignedEnds) (w : ℕ) → e.upper ≤ℤ (e.lower +ℤ pos w)
    → greatest_product c e ≤ℤ (least_product c e +ℤ pos (nat_abs c * w))
unfolding greatest_product least_product
product-spread (pos k) e w h =
    let a = difference e.upper in
    let b = difference e.lower in
    (difference-le (difference-mul (difference-pos k) a)
    (difference-add (difference-mul (difference-pos k) b) (difference-pos (k * w)))).0
    (omega (arith, mul-le-mul_left k ((difference-le a (difference-add b (difference-pos w))).1 h)))
product-spread (negsuc k) e w h =
    let a = difference e.upper in
    let b = difference e.lower in
    (difference-le (difference-mul (negative k) b)
    (difference-add (difference-mul (negative k) a) (difference-pos (suc k * w)))).0
    (omega (arith, mul-le-mul_left (suc k) ((difference-le a (difference-add b (difference-pos w))).1 h)))

-- and are in order where the ends are
pub product-ordered : (c : ℤ) (e : SignedEnds) → e.lower ≤ℤ e.upper → least_product c e ≤ℤ greatest_product c e
unfolding greatest_product least_product
product-ordered (pos k) e h =
    let a = difference e.upper in
    let b = difference e.lower in
    (difference-le (difference-mul (difference-pos k) b) (difference-mul (difference-pos k) a)).0
    (omega (arith, mul-le-mul_left k ((difference-le b a).1 h)))
product-ordered (negsuc k) e h =
    let a = difference e.upper in
    let b = difference e.lower in
    (difference-le (difference-mul (negative k) a) (difference-mul (negative k) b)).0
    (omega (arith, mul-le-mul_left (suc k) ((difference-le b a).1 h)))

-- |c| ≤ n: the products with c are at most n times as wide
pub product-width : {c : ℤ} {n w : ℕ} {e : SignedEnds} → Under c n → Wide e.lower e.upper w
    → Wide (least_product c e) (greatest_product c e) (n * w)
product-width {c} {n} {w} {e} u h =
    let l = least_product c e in
    let s = product-spread c e w h.width in
    record {
      ordered = product-ordered c e h.ordered;
      width = omega (
        split,
        split-add l (pos (nat_abs c * w)),
        split-add l (pos (n * w)),
        mul-le-mul_right w u.under,
      );
    }

-- with k + m ≤ w·m + 1, ends at most k apart are at most w apart when divided by m outward
pub outward-width : {least greatest : ℤ} {k m : ℕ} (w : ℕ) → 0 < m → Wide least greatest k → k + m ≤ w * m + 1
    → Wide (outward least greatest m).lower (outward least greatest m).upper w
unfolding outward
outward-width {least} {greatest} {k} {m} w p h l =
    let q = floor_div least m in
    let r = ceil_div greatest m in
    let t : above r + below q ≤ above q + below r + w
    = le-of-mul-lt (above r + below q) (above q + below r + w) m
    (omega (arith, split-floor least p, split-ceil greatest p, split-le h.width, split-add least (pos k))) in
    record {
      ordered = ≤ℤ-trans (floor-mono p h.ordered) (floor-le-ceil greatest p);
      width = omega (split, split-add q (pos w));
    }

-- what is at most w wide is at most v wide, for a greater v
pub wide-more : {l u : ℤ} {w v : ℕ} → w ≤ v → Wide l u w → Wide l u v
wide-more {l} {u} {w} {v} h e =
    record { ordered = e.ordered; width = omega (split, e.width, split-add l (pos w), split-add l (pos v)) }

-- with a number added to both, the ends are as wide
pub sum-wide : (c : ℤ) {l u : ℤ} {w : ℕ} → Wide l u w → Wide (c +ℤ l) (c +ℤ u) w
sum-wide c {l} {u} {w} h = record {
  ordered = omega (split, split-add c l, split-add c u);
  width = omega (split, split-add c l, split-add c u, split-add l (pos w), split-add (c +ℤ l) (pos w));
}

-- ---- the distance from zero

pub least_under : {c : ℤ} {j k : ℕ} {e : SignedEnds} → Under c j → Within k e → Under (least_product c e) (j * k)
unfolding least_product
least_under {c} u v = under-cond (non_neg c) (under-mul u v.low) (under-mul u v.high)

pub greatest-under : {c : ℤ} {j k : ℕ} {e : SignedEnds} → Under c j → Within k e → Under (greatest_product c e) (j * k)
unfolding greatest_product
greatest-under {c} u v = under-cond (non_neg c) (under-mul u v.high) (under-mul u v.low)

-- |least|, |greatest| ≤ k ≤ q·m gives q
pub outward-under : {least greatest : ℤ} {k m : ℕ} (q : ℕ) → 0 < m → k ≤ q * m → Under least k → Under greatest k
    → Within q (outward least greatest m)
unfolding outward
outward-under q p h u v = record { low = under-floor-to q p h u; high = under-ceil-to q p h v }

-- and a number added adds its size
pub shifted-under : {c : ℤ} {j k : ℕ} {e : SignedEnds} → Under c j → Within k e → Within (j + k) (shifted c e)
shifted-under u v = record { low = under-add u v.low; high = under-add u v.high }
