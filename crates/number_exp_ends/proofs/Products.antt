-- The two ends from the sums: below the cut-off the product of a sum and its constant, which below the first step is the sum
-- itself; and that each factor is at most the unit. m is a step, and c the cut-off in units.
use mathlib.Core.Path.{◌≡◌, refl, sym, ◌∙◌}
use Prim.Native.Nat.{ℕ, zero, suc, ◌+◌, ◌-◌, ◌*◌, ◌/◌, ◌%◌, ◌≤◌, ◌<◌, zero-le}
use native.Mathlib.Nat.{mul-div_cancel, add-zero, le_refl, le_of_lt}
use native.Mathlib.Numerals.{add-one}
use native.Mathlib.Omega.{arith}
use native.Mathlib.Decide.{dec_lt}
use lib.ListN.{length, get_or-eq_default}
use borrow.Author.Tests.{lt-ltb, le-ltb}
use Rattle.number_whole.specs.Division.{ceil_div_ℕ}
use Rattle.number_whole.proofs.laws.DivisionLaws.{ceilℕ-exact}
use Rattle.number_taylor.specs.Taylor.{taylor_den, taylor_num}
use Rattle.number_exponential.specs.Grid.{Grid}
use Rattle.number_exponential.specs.Exponential.{step, cutoff_units, sum_lower, sum_upper, constant_lower, constant_upper, exp_lower, exp_upper}
use Rattle.number_exponential.proofs.laws.Facts.{Sound}
use Rattle.number_exponential.proofs.laws.Soundness.{rest-small, steps-below}
use Rattle.number_exponential.proofs.laws.SumLaws.{sum-lower}
use Rattle.number_exponential.proofs.laws.AtMostOne.{constant-upper-one}
use Rattle.number_exponential.proofs.laws.Width.{sum-upper-bound}

-- past 0 a constant's upper end is one more than its lower end
one_more : (g : Grid) (n : ℕ) → (n ≡ 0 → ⊥) → constant_upper g n ≡ constant_lower g n + 1
unfolding constant_upper
one_more g zero h = absurd (h refl)
one_more g (suc n) h = sym (add-one (constant_lower g (suc n)))

-- no constant passes the unit
constant-bound : (g : Grid) → Sound g → (n : ℕ) → n < length g.constants → constant_lower g n ≤ g.unit
unfolding constant_upper
constant-bound g s zero l = rw s.constant-first (le_refl g.unit)
constant-bound g s (suc n) l = le_of_lt (constant-upper-one g s (suc n) l)

pub constant-small : (g : Grid) → Sound g → (n : ℕ) {w : ℕ} → w ≡ constant_lower g n → w ≤ g.unit
unfolding constant_lower
constant-small g s n k =
    elim (dec_lt n (length g.constants)) [
      | yes l ↦ rw k (constant-bound g s n l)
      | no l ↦ let h : length g.constants ≤ n = omega arith in rw (k, get_or-eq_default g.constants 0 h) zero-le
    ]

-- nor does the lower sum
sum-lower-bound : (g : Grid) → Sound g → (f : ℕ) → f ≤ g.unit → sum_lower g f ≤ g.unit
unfolding taylor_den taylor_num
sum-lower-bound g s f h = omega (arith, sum-lower g s f h 0)

module _ (g : Grid) (s : Sound g) {z m c : ℕ} (e : m ≡ step g) (d : c ≡ cutoff_units g) (l : z < c) where
  within : z < cutoff_units g
  within = rw d at l

  -- the lower end
  pub lower-first : {x : ℕ} → x ≡ sum_lower g (z % m) → z / m ≡ 0 → x ≡ exp_lower g z
  unfolding exp_lower
  lower-first h o =
      let o' = rw e at o in
      rw (lt-ltb _ _ within, o', s.constant-first, mul-div_cancel _ g.positive) (rw e at h)

  pub lower-later : {x w r : ℕ} → x ≡ sum_lower g (z % m) → w ≡ constant_lower g (z / m) → r ≡ (x * w + 0) / g.unit
      → r ≡ exp_lower g z
  unfolding exp_lower
  lower-later {x} {w} h k p =
      let h' = rw e at h in
      let k' = rw e at k in
      p ∙ rw (lt-ltb _ _ within, h', k', add-zero)

  pub lower-small : {x : ℕ} → x ≡ sum_lower g (z % m) → x ≤ g.unit
  lower-small h = rw (h, e) (sum-lower-bound g s (z % step g) (rest-small g s z))

  -- the upper end
  pub upper_first : {x : ℕ} → x ≡ sum_upper g (z % m) → z / m ≡ 0 → x ≡ exp_upper g z
  unfolding exp_upper constant_upper
  upper_first h o =
      let o' = rw e at o in
      rw (lt-ltb _ _ within, o', ceilℕ-exact _ g.positive) (rw e at h)

  pub upper-later : {x w u r : ℕ} → (z / m ≡ 0 → ⊥) → x ≡ sum_upper g (z % m) → w ≡ constant_lower g (z / m) → u ≡ g.unit
      → r ≡ (x * (w + 1) + (u - 1)) / g.unit → r ≡ exp_upper g z
  unfolding exp_upper ceil_div_ℕ
  upper-later {x} {w} {u} o h k v p =
      let o' = rw e at o in
      let h' = rw e at h in
      let k' = rw e at k in
      p ∙ rw (lt-ltb _ _ within, one_more g _ o', h', k', v)

  pub upper-small : {x : ℕ} → x ≡ sum_upper g (z % m) → x ≤ g.unit
  upper-small h = rw (h, e) (sum-upper-bound g (z % step g))

  pub constant-more : {w : ℕ} → (z / m ≡ 0 → ⊥) → w ≡ constant_lower g (z / m) → w + 1 ≤ g.unit
  constant-more o k =
      let o' = rw e at o in
      rw (k, e, ← one_more g (z / step g) o') (constant-upper-one g s (z / step g) (steps-below g s z within))

-- from the cut-off on
module _ (g : Grid) (z : ℕ) {c : ℕ} (d : c ≡ cutoff_units g) (l : c ≤ z) where
  pub lower-past : 0 ≡ exp_lower g z
  unfolding exp_lower
  lower-past = let l' = rw d at l in rw (le-ltb _ _ l')

  pub upper-past : 1 ≡ exp_upper g z
  unfolding exp_upper
  upper-past = let l' = rw d at l in rw (le-ltb _ _ l')
