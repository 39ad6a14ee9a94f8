-- The grid's sums of terms lie no further from the exponential's than their slack: the upper sum is at most unit/s and the
-- slack, at every order, and the lower sum with its slack at least unit/s, at the test's order.
use Rattle.std.specs.Prelude.{◌≡◌}
use Rattle.std.proofs.Math.Path.{sym, ap}
use Rattle.std.proofs.Common.{◌∙◌, mul-le-mul_left, mul-le-mul_right, mul-le-mul, le_of_mul-le-mul_right, le_refl, mul-lt-mul_of_pos_right, arith}
use Prim.Native.Nat.{ℕ, zero, suc, ◌+◌, ◌-◌, ◌*◌, ◌^◌, ◌≤◌, ◌<◌}
use Rattle.std.proofs.Math.Nat.{mul_assoc, pow-le-pow_left, min-le_right, le_trans}
use Rattle.std.proofs.Math.Decide.{dec_le}
use Rattle.number_taylor.specs.Taylor.{taylor_den, taylor_num}
use Rattle.number_taylor.proofs.laws.Factorial.{factorial}
use Rattle.number_taylor.specs.Positive.{taylor_den-positive, taylor_num-positive}
use Rattle.number_taylor.proofs.laws.Meaning.{taylor_den-factorial}
use Rattle.number_taylor.proofs.laws.Sums.{sum-monotone}
use Rattle.number_taylor.specs.Alternating.{double}
use Rattle.number_taylor.proofs.laws.AlternatingSums.{even_num, odd_num}
use Rattle.number_taylor.proofs.laws.AlternatingLaws.{even-above, odd-below}
use Rattle.number_exponential.specs.Grid.{Grid}
use Rattle.number_exponential.specs.Exponential.{total, evens, odds, term_lower, term_upper, sum_lower, sum_upper}
use Rattle.number_exponential.proofs.laws.Facts.{Sound}
use Rattle.number_exponential.proofs.laws.WidthFacts.{Narrow, slack_upper, slack_lower}
use Rattle.number_exponential.proofs.laws.Terms.{slack, term-lower-near, term-upper-near}
use Rattle.number_exponential.proofs.laws.Sums.{even_total, odd_total, evens-even, evens-odd, odds-even, odds-odd, even-sum-below, even-sum-above, odd-sum-below, odd-sum-above}
use Rattle.number_exponential.proofs.laws.SumLaws.{sub-mul, upper-terms}

-- ---- the slack of the even and of the odd terms together

both-even : (e : ℕ → ℕ) (h : ℕ) → even_total e h + odd_total e h ≡ total e (suc (double h))
unfolding total double
both-even e zero = omega arith
both-even e (suc h) = omega (arith, both-even e h)

both-odd : (e : ℕ → ℕ) (h : ℕ) → even_total e h + odd_total e (suc h) ≡ total e (suc (suc (double h)))
unfolding total
both-odd e h = omega (arith, both-even e h)

-- ---- the first term left out is at most a third of a unit

rest-algebra : (U P Q k D : ℕ) → 3 * U ≤ k → P ≤ Q → D ≡ Q * k → 3 * (U * P) ≤ D
rest-algebra U P Q k D h l e = omega (arith, mul-le-mul h l, e)

rest-third : (U f k : ℕ) → f ≤ U → 3 * U ≤ factorial k → 3 * (U * f ^ k) ≤ taylor_den U k
rest-third U f k l h = rest-algebra U (f ^ k) (U ^ k) (factorial k) (taylor_den U k) h (pow-le-pow_left l k) (taylor_den-factorial U k)

-- ---- even terms less odd terms

-- with A, B and P the unit times the even sum, the odd sum and the term left out, over the denominator X
upper-core : (U X F n A B P E O Ee Oe : ℕ) → 0 < X → A * n ≤ U * (X * F) + (B + P) * n → 3 * E * X ≤ 3 * A + Ee * X
    → 3 * B ≤ (3 * O + Oe) * X → 3 * P ≤ X → 3 * E * n ≤ 3 * (U * F) + (3 * O + suc (Ee + Oe)) * n
upper-core U X F n A B P E O Ee Oe p h k l m =
    le_of_mul-le-mul_right {k = X} (omega (arith, mul-le-mul_right n k, mul-le-mul_right n l, mul-le-mul_right n m)) p

lower-core : (U X F n A B P E O Ee Oe : ℕ) → 0 < X → U * (X * F) + B * n ≤ (A + P) * n → 3 * A ≤ (3 * E + Ee) * X
    → 3 * O * X ≤ 3 * B + Oe * X → 3 * P ≤ X → 3 * (U * F) + 3 * O * n ≤ (3 * E + suc (Ee + Oe)) * n
lower-core U X F n A B P E O Ee Oe p h k l m =
    le_of_mul-le-mul_right {k = X} (omega (arith, mul-le-mul_right n k, mul-le-mul_right n l, mul-le-mul_right n m)) p

times-unit : (U X e o P n F : ℕ) → e * n ≤ X * F + (o + P) * n → U * e * n ≤ U * (X * F) + (U * o + U * P) * n
times-unit U X e o P n F h = omega (arith, mul-le-mul_left U h)

times-unit-above : (U X e o P n F : ℕ) → X * F + o * n ≤ (e + P) * n → U * (X * F) + U * o * n ≤ (U * e + U * P) * n
times-unit-above U X e o P n F h = omega (arith, mul-le-mul_left U h)

scale-below : (c E D U e Ee w : ℕ) → c * E * D ≤ c * (U * e) + Ee * D → c * E * (D * w) ≤ c * (U * (e * w)) + Ee * (D * w)
scale-below c E D U e Ee w h = omega (arith, mul-le-mul_right w h)

scale-above : (c E D U e Ee w : ℕ) → c * (U * e) ≤ (c * E + Ee) * D → c * (U * (e * w)) ≤ (c * E + Ee) * (D * w)
scale-above c E D U e Ee w h = omega (arith, mul-le-mul_right w h)

upper-algebra : (U D w P F n e o E O Ee Oe : ℕ) → 0 < D * w → e * w * n ≤ D * w * F + (o * w + P) * n
    → 3 * E * D ≤ 3 * (U * e) + Ee * D → 3 * (U * o) ≤ (3 * O + Oe) * D → 3 * (U * P) ≤ D * w
    → 3 * E * n ≤ 3 * (U * F) + (3 * O + suc (Ee + Oe)) * n
upper-algebra U D w P F n e o E O Ee Oe p h k l m =
    upper-core U (D * w) F n (U * (e * w)) (U * (o * w)) (U * P) E O Ee Oe p (times-unit U (D * w) (e * w) (o * w) P n F h)
    (scale-below 3 E D U e Ee w k) (scale-above 3 O D U o Oe w l) m

lower-algebra : (U D W P F n e o E O Ee Oe : ℕ) → 0 < D * W → D * W * F + o * n ≤ (e * W + P) * n
    → 3 * (U * e) ≤ (3 * E + Ee) * D → 3 * O * (D * W) ≤ 3 * (U * o) + Oe * (D * W) → 3 * (U * P) ≤ D * W
    → 3 * (U * F) + 3 * O * n ≤ (3 * E + suc (Ee + Oe)) * n
lower-algebra U D W P F n e o E O Ee Oe p h k l m =
    lower-core U (D * W) F n (U * (e * W)) (U * o) (U * P) E O Ee Oe p (times-unit-above U (D * W) (e * W) o P n F h)
    (scale-above 3 E D U e Ee W k) l m

upper-less : (A E O S n : ℕ) → 3 * E * n ≤ A + (3 * O + S) * n → 3 * (E - O) * n ≤ A + S * n
upper-less A E O S n h = let e : (E - O) * n ≡ E * n - O * n = sub-mul E O n in omega arith

lower-less : (A E O S n : ℕ) → A + 3 * O * n ≤ (3 * E + S) * n → A ≤ (3 * (E - O) + S) * n
lower-less A E O S n h = let e : (E - O) * n ≡ E * n - O * n = sub-mul E O n in omega arith

-- the slack alone is less than unit/s
not-all-slack : (U S N D F n E O : ℕ) → S * N < 3 * U * D → n * D ≤ N * F → 3 * (U * F) + 3 * O * n ≤ (3 * E + S) * n → E < O → 0 < F → ⊥
not-all-slack U S N D F n E O h k l m p =
    let a : 3 * (U * F) ≤ S * n = omega (arith, mul-le-mul_right n m) in
    omega (arith, mul-le-mul_right D a, mul-le-mul_left S k, mul-lt-mul_of_pos_right h p)

module _ (g : Grid) (s : Sound g) (w : Narrow g s) (f : ℕ) (small : f ≤ g.unit) where
  near-upper-terms : (j : ℕ)
      → 3 * evens (term_upper g f) g.last_upper * taylor_num f g.unit j
      ≤ 3 * (g.unit * taylor_den g.unit j) + (3 * odds (term_lower g f) g.last_upper + slack_upper g) * taylor_num f g.unit j
  unfolding taylor_den slack_upper
  near-upper-terms j =
      let h = s.upper_pairs in
      let up = g.positive in
      let e : total slack (suc g.last_upper) ≡ even_total slack h + odd_total slack h =
      ap (λ (m : ℕ). total slack (suc m)) s.upper-last ∙ sym (both-even slack h) in
      rw (evens-even (term_upper g f) h g.last_upper s.upper-last, odds-even (term_lower g f) h g.last_upper s.upper-last, e)
      (upper-algebra g.unit (taylor_den g.unit (double h)) (g.unit * suc (double h)) _ _ _ _ _ _ _ _ _
      (taylor_den-positive g.unit (suc (double h)) up) (odd-below f g.unit h j small up)
      (even-sum-below g.unit f 3 (term_upper g f) slack (term-upper-near g f up small) h)
      (odd-sum-above g.unit f 3 (term_lower g f) slack (term-lower-near g f up small) h)
      (rest-third g.unit f (suc (double h)) small w.upper-rest))

  near-lower-terms : 3 * (g.unit * taylor_den g.unit s.order) + 3 * odds (term_upper g f) g.last_lower * taylor_num f g.unit s.order
      ≤ (3 * evens (term_lower g f) g.last_lower + slack_lower g) * taylor_num f g.unit s.order
  unfolding slack_lower taylor_den double even_num
  near-lower-terms =
      let h = s.lower_pairs in
      let up = g.positive in
      let D = taylor_den g.unit (double h) in
      let W = (g.unit * suc (double h)) * (g.unit * suc (suc (double h))) in
      let e : total slack (suc g.last_lower) ≡ even_total slack h + odd_total slack (suc h) =
      ap (λ (m : ℕ). total slack (suc m)) s.lower_last ∙ sym (both-odd slack h) in
      let d : taylor_den g.unit (double (suc h)) ≡ D * W =
      mul_assoc D (g.unit * suc (double h)) (g.unit * suc (suc (double h))) in
      rw (evens-odd (term_lower g f) h g.last_lower s.lower_last, odds-odd (term_upper g f) h g.last_lower s.lower_last, e)
      (lower-algebra g.unit D W _ _ _ _ (odd_num f g.unit (suc h)) _ _ _ _
      (rw d at (taylor_den-positive g.unit (double (suc h)) up))
      (rw d at (even-above f g.unit (suc h) s.order small up w.lower-order))
      (even-sum-above g.unit f 3 (term_lower g f) slack (term-lower-near g f up small) h)
      (rw d at (odd-sum-below g.unit f 3 (term_upper g f) slack (term-upper-near g f up small) (suc h)))
      (rw d at (rest-third g.unit f (double (suc h)) small w.lower-rest)))

  -- the upper sum is at most unit/s and its slack
  pub sum-upper-near : (j : ℕ)
      → 3 * sum_upper g f * taylor_num f g.unit j ≤ 3 * (g.unit * taylor_den g.unit j) + slack_upper g * taylor_num f g.unit j
  unfolding sum_upper
  sum-upper-near j =
      le_trans
      (mul-le-mul_right (taylor_num f g.unit j) (mul-le-mul_left 3
      (min-le_right g.unit (evens (term_upper g f) g.last_upper - odds (term_lower g f) g.last_upper))))
      (upper-less _ _ _ _ _ (near-upper-terms j))

  -- the lower sum and its slack are at least unit/s
  pub sum-lower-near : 3 * (g.unit * taylor_den g.unit s.order)
      ≤ (3 * sum_lower g f + slack_lower g) * taylor_num f g.unit s.order
  unfolding sum_lower
  sum-lower-near = lower-less _ _ _ _ _ near-lower-terms

  -- neither sum is cut at 0
  pub upper-kept : odds (term_lower g f) g.last_upper ≤ evens (term_upper g f) g.last_upper
  upper-kept =
      le_of_mul-le-mul_right {k = taylor_num f g.unit g.last_upper}
      (omega (arith, upper-terms g s f small g.last_upper (le_refl g.last_upper)))
      (taylor_num-positive f g.unit g.last_upper g.positive)

  pub lower-kept : odds (term_upper g f) g.last_lower ≤ evens (term_lower g f) g.last_lower
  lower-kept =
      elim (dec_le (odds (term_upper g f) g.last_lower) (evens (term_lower g f) g.last_lower)) [
        | yes l ↦ l
        | no l ↦ absurd (not-all-slack g.unit _ _ _ _ _ _ _ w.fine (sum-monotone f g.unit 1 1 s.order (omega arith))
            near-lower-terms (omega arith) (taylor_den-positive g.unit s.order g.positive))
      ]
