-- The grid's sums of terms against the exponential's: at every order the lower sum is at most unit/s, and from the order of
-- its last term on the upper sum is at least unit/s, s the Taylor sum at f/unit.
use Rattle.std.specs.Prelude.{◌≡◌}
use Rattle.std.proofs.Common.{◌∙◌, ap₂, mul-le-mul_left, mul-le-mul_right, le_of_mul-le-mul_right, mul_comm, arith}
use Prim.Native.Nat.{ℕ, suc, ◌+◌, ◌-◌, ◌*◌, ◌≤◌, ◌<◌, min}
use Rattle.std.proofs.Math.Nat.{min-eq_left, min-eq_right, mul-sub}
use Rattle.std.proofs.Math.Decide.{dec_le}
use Rattle.number_taylor.specs.Taylor.{taylor_den, taylor_num}
use Rattle.number_taylor.specs.Positive.{taylor_den-positive, sum-at-least-one}
use Rattle.number_taylor.specs.Alternating.{double}
use Rattle.number_taylor.proofs.laws.AlternatingSums.{even_num, odd_num}
use Rattle.number_taylor.proofs.laws.AlternatingLaws.{even-above, odd-below}
use Rattle.number_exponential.specs.Grid.{Grid}
use Rattle.number_exponential.specs.Exponential.{total, evens, odds, term_lower, term_upper, sum_lower, sum_upper}
use Rattle.number_exponential.proofs.laws.Facts.{Sound}
use Rattle.number_exponential.proofs.laws.Terms.{term-lower-below, term-upper-above}
use Rattle.number_exponential.proofs.laws.Sums.{even_total, odd_total, evens-even, evens-odd, odds-even, odds-odd, total-zero, even-sum-below, even-sum-above, odd-sum-below, odd-sum-above}

-- ---- the sums with no error

one_below : (a U P D : ℕ) → a * D ≤ U * P → 1 * a * D ≤ 1 * (U * P) + 0 * D
one_below a U P D h = omega arith

one-above : (a U P D : ℕ) → U * P ≤ a * D → 1 * (U * P) ≤ (1 * a + 0) * D
one-above a U P D h = omega arith

none_below : (A E U N D : ℕ) → E ≡ 0 → 1 * A * D ≤ 1 * (U * N) + E * D → A * D ≤ U * N
none_below A E U N D e h = let h' : 1 * A * D ≤ 1 * (U * N) + 0 * D = rw e at h in omega arith

none_above : (A E U N D : ℕ) → E ≡ 0 → 1 * (U * N) ≤ (1 * A + E) * D → U * N ≤ A * D
none_above A E U N D e h = let h' : 1 * (U * N) ≤ (1 * A + 0) * D = rw e at h in omega arith

module _ (g : Grid) (f : ℕ) (up : 0 < g.unit) (h : ℕ) where
  pub even-lower : even_total (term_lower g f) h * taylor_den g.unit (double h) ≤ g.unit * even_num f g.unit h
  even-lower =
      none_below _ _ _ _ _ (total-zero (suc h))
      (even-sum-below g.unit f 1 (term_lower g f) (λ k. 0) (λ k. one_below _ _ _ _ (term-lower-below g f up k)) h)

  pub even-upper : g.unit * even_num f g.unit h ≤ even_total (term_upper g f) h * taylor_den g.unit (double h)
  even-upper =
      none_above _ _ _ _ _ (total-zero (suc h))
      (even-sum-above g.unit f 1 (term_upper g f) (λ k. 0) (λ k. one-above _ _ _ _ (term-upper-above g f up k)) h)

  pub odd-lower : odd_total (term_lower g f) h * taylor_den g.unit (double h) ≤ g.unit * odd_num f g.unit h
  odd-lower =
      none_below _ _ _ _ _ (total-zero h)
      (odd-sum-below g.unit f 1 (term_lower g f) (λ k. 0) (λ k. one_below _ _ _ _ (term-lower-below g f up k)) h)

  pub odd-upper : g.unit * odd_num f g.unit h ≤ odd_total (term_upper g f) h * taylor_den g.unit (double h)
  odd-upper =
      none_above _ _ _ _ _ (total-zero h)
      (odd-sum-above g.unit f 1 (term_upper g f) (λ k. 0) (λ k. one-above _ _ _ _ (term-upper-above g f up k)) h)

-- ---- even terms less odd terms

upper-algebra : (U D F n e o E O : ℕ) → 0 < D → D * F + o * n ≤ e * n → U * e ≤ E * D → O * D ≤ U * o → U * F + O * n ≤ E * n
upper-algebra U D F n e o E O p h k l =
    le_of_mul-le-mul_right {k = D} (omega (arith, mul-le-mul_left U h, mul-le-mul_right n k, mul-le-mul_right n l)) p

lower-algebra : (U D w P F n e o E O t : ℕ) → 0 < D * w → e * w * n ≤ D * w * F + (o * w + P) * n → E * D ≤ U * e → U * o ≤ O * D
    → U * P ≤ t * (D * w) → E * n ≤ U * F + (O + t) * n
lower-algebra U D w P F n e o E O t p h k l m =
    le_of_mul-le-mul_right {k = D * w}
    (omega (arith, mul-le-mul_left U h, mul-le-mul_right (w * n) k, mul-le-mul_right (w * n) l, mul-le-mul_right n m)) p

pub sub-mul : (E O n : ℕ) → (E - O) * n ≡ E * n - O * n
sub-mul E O n = mul_comm (E - O) n ∙ mul-sub n E O ∙ ap₂ ◌-◌ (mul_comm n E) (mul_comm n O)

less : (A E O n : ℕ) → A + O * n ≤ E * n → A ≤ (E - O) * n
less A E O n h = rw (sub-mul E O n) (omega arith)

more : (A E O n : ℕ) → E * n ≤ A + O * n → (E - O) * n ≤ A
more A E O n h = rw (sub-mul E O n) (omega arith)

capped : (U x F n : ℕ) → U * F ≤ x * n → F ≤ n → U * F ≤ min U x * n
capped U x F n h k =
    elim (dec_le U x) [
      | yes l ↦ rw (min-eq_left l) (mul-le-mul_left U k)
      | no l ↦ let k : x ≤ U = omega arith in rw (min-eq_right k) h
    ]

module _ (g : Grid) (s : Sound g) (f : ℕ) (small : f ≤ g.unit) where
  -- the upper sum before its cap, from the order of its last term on
  pub upper-terms : (j : ℕ) → g.last_upper ≤ j
      → g.unit * taylor_den g.unit j + odds (term_lower g f) g.last_upper * taylor_num f g.unit j
      ≤ evens (term_upper g f) g.last_upper * taylor_num f g.unit j
  upper-terms j l =
      let h = s.upper_pairs in
      let up = g.positive in
      let l' : double h ≤ j = rw s.upper-last at l in
      rw (evens-even (term_upper g f) h g.last_upper s.upper-last, odds-even (term_lower g f) h g.last_upper s.upper-last)
      (upper-algebra _ _ _ _ _ _ _ _ (taylor_den-positive g.unit (double h) up) (even-above f g.unit h j small up l')
      (even-upper g f up h) (odd-lower g f up h))

  -- the lower sum, at every order
  pub lower-terms : (j : ℕ)
      → evens (term_lower g f) g.last_lower * taylor_num f g.unit j
      ≤ g.unit * taylor_den g.unit j + odds (term_upper g f) g.last_lower * taylor_num f g.unit j
  unfolding taylor_den total
  lower-terms j =
      let h = s.lower_pairs in
      let up = g.positive in
      rw (evens-odd (term_lower g f) h g.last_lower s.lower_last, odds-odd (term_upper g f) h g.last_lower s.lower_last)
      (lower-algebra g.unit (taylor_den g.unit (double h)) (g.unit * suc (double h)) _ _ _ _ _ _ _ _
      (taylor_den-positive g.unit (suc (double h)) up) (odd-below f g.unit h j small up)
      (even-lower g f up h) (odd-upper g f up h) (term-upper-above g f up (suc (double h))))

  pub sum-upper : (j : ℕ) → g.last_upper ≤ j → g.unit * taylor_den g.unit j ≤ sum_upper g f * taylor_num f g.unit j
  unfolding sum_upper
  sum-upper j l = capped _ _ _ _ (less _ _ _ _ (upper-terms j l)) (sum-at-least-one f g.unit j)

  pub sum-lower : (j : ℕ) → sum_lower g f * taylor_num f g.unit j ≤ g.unit * taylor_den g.unit j
  unfolding sum_lower
  sum-lower j = more _ _ _ _ (lower-terms j)
