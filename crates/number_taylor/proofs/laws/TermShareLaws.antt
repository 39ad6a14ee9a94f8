-- The weights are the terms x^n/n!: the product of two is a third times the number of choices, (n + 1) times the next is
-- at most the one before where x ≤ 1, and their sums are the numerators of the Taylor sums and of the alternating sums.
use Rattle.std.specs.Prelude.{◌≡◌, refl}
use Rattle.std.proofs.Common.{sym, ◌∙◌, zero-add, suc-add, add-zero, add-suc, add-sub_of_le, pow-suc, mul-pos, zero-lt-suc, lt-suc_self, pow-add}
use Rattle.std.proofs.Math.Path.{ap}
use Prim.Native.Nat.{ℕ, zero, suc, ◌+◌, ◌-◌, ◌*◌, ◌^◌, ◌≤◌, ◌<◌}
use Rattle.std.proofs.Math.Nat.{pow-zero, mul_comm, mul-le-mul_right, eq_of_mul-eq-mul_left, le_step}
use native.Mathlib.Omega.{arith}
use Rattle.number_taylor.specs.Taylor.{taylor_den, taylor_num}
use Rattle.number_taylor.specs.Alternating.{double}
use Rattle.number_taylor.proofs.laws.AlternatingSums.{even_num, odd_num}
use Rattle.number_taylor.proofs.laws.DoubleSums.{sum, evens, odds, choose, row}
use Rattle.number_taylor.proofs.laws.TermShares.{fill, share, weight}

den_pos : (q n : ℕ) → 0 < q → 0 < taylor_den q n
unfolding taylor_den
den_pos q zero h = omega arith
den_pos q (suc n) h = mul-pos (den_pos q n h) (mul-pos h (zero-lt-suc n))

choose-last : (i : ℕ) → choose i 0 ≡ 1
unfolding choose sum
choose-last zero = refl
choose-last (suc i) = omega (arith, choose-last i)

-- one step of the law below, by Pascal's rule
pascal-step : (F q a b d e c k : ℕ) → F ≡ c * ((d * (q * suc a)) * e) → F ≡ k * (d * (e * (q * suc b)))
    → F * (q * suc (suc (a + b))) ≡ (c + k) * ((d * (q * suc a)) * (e * (q * suc b)))
pascal-step F q a b d e c k f g =
    omega (arith, ap (λ (x : ℕ). x * (q * suc b)) f, ap (λ (x : ℕ). x * (q * suc a)) g)

split-suc : (q a : ℕ) → ((b : ℕ) → taylor_den q (a + b) ≡ choose a b * (taylor_den q a * taylor_den q b))
    → (b : ℕ) → taylor_den q (suc a + b) ≡ choose (suc a) b * (taylor_den q (suc a) * taylor_den q b)
unfolding taylor_den choose sum
split-suc q a above zero = rw (add-zero (suc a)) (omega (arith, ap (λ (x : ℕ). x * taylor_den q (suc a)) (choose-last a)))
split-suc q a above (suc b) =
    rw (suc-add a (suc b), add-suc a b) (
    pascal-step (taylor_den q (suc (a + b))) q a b (taylor_den q a) (taylor_den q b) (choose (suc a) b) (choose a (suc b))
    (ap (taylor_den q) (sym (suc-add a b)) ∙ split-suc q a above b)
    (ap (taylor_den q) (sym (add-suc a b)) ∙ above (suc b))
    )

-- q^(a+b)·(a+b)! is the number of choices times q^a·a! times q^b·b!
den-split : (q a b : ℕ) → taylor_den q (a + b) ≡ choose a b * (taylor_den q a * taylor_den q b)
unfolding taylor_den choose
den-split q zero b = rw zero-add (omega arith)
den-split q (suc a) b = split-suc q a (den-split q a) b

fill-den : (q n k : ℕ) → taylor_den q n * fill q n k ≡ taylor_den q (n + k)
unfolding taylor_den fill
fill-den q n zero = rw add-zero (omega arith)
fill-den q n (suc k) = rw add-suc (omega (arith, ap (λ (x : ℕ). x * (q * suc (n + k))) (fill-den q n k)))

fill-pos : (q n k : ℕ) → 0 < q → 0 < fill q n k
unfolding fill
fill-pos q n zero h = omega arith
fill-pos q n (suc k) h = mul-pos (fill-pos q n k h) (mul-pos h (zero-lt-suc (n + k)))

pub share-pos : (q M n : ℕ) → 0 < q → 0 < share q M n
unfolding share
share-pos q M n h = fill-pos q n (M - n) h

-- q^n·n! times its share is q^M·M!
pub share-den : (q M n : ℕ) → n ≤ M → taylor_den q n * share q M n ≡ taylor_den q M
unfolding share
share-den q M n h = fill-den q n (M - n) ∙ ap (taylor_den q) (add-sub_of_le h)

-- the share of n is q·(n + 1) times the next
pub share-suc : (q M n : ℕ) → 0 < q → n < M → share q M n ≡ (q * suc n) * share q M (suc n)
unfolding taylor_den
share-suc q M n hq h =
    eq_of_mul-eq-mul_left (taylor_den q n) (den_pos q n hq) (share q M n) ((q * suc n) * share q M (suc n))
    (omega (arith, share-den q M n (omega arith), share-den q M (suc n) h))

-- u/d times v/e is c·(uv)/f where f = c·d·e, over the one denominator W
product-over : (W d e f x y z c u v : ℕ) → 0 < d * e → d * x ≡ W → e * y ≡ W → f * z ≡ W → f ≡ c * (d * e)
    → (u * x) * (v * y) ≡ W * (c * ((u * v) * z))
product-over W d e f x y z c u v h dx ey fz cde =
    eq_of_mul-eq-mul_left (d * e) h ((u * x) * (v * y)) (W * (c * ((u * v) * z)))
    (omega (
      arith,
      ap (λ (k : ℕ). k * (e * y * (u * v))) dx,
      ap (λ (k : ℕ). W * k * (u * v)) ey,
      ap (λ (k : ℕ). W * k * (u * v)) fz,
      ap (λ (k : ℕ). k * (W * z * (u * v))) cde,
    ))

-- a common factor of a sum
sum-scale : (f g : ℕ → ℕ) (k W n : ℕ) → ((i : ℕ) → i < n → k * f i ≡ W * g i) → k * sum f n ≡ W * sum g n
unfolding sum
sum-scale f g k W zero e = omega arith
sum-scale f g k W (suc n) e =
    omega (arith, sum-scale f g k W n (λ (i : ℕ) (l : i < n). e i (le_step l)), e n (lt-suc_self n))

double-sum : (h : ℕ) → double h ≡ h + h
unfolding double
double-sum zero = omega arith
double-sum (suc h) = omega (arith, double-sum h)

module _ (p q M : ℕ) (hq : 0 < q) where
  pub weight-zero : weight p q M 0 ≡ taylor_den q M
  unfolding weight taylor_den
  weight-zero = rw pow-zero (omega (arith, share-den q M 0 (omega arith)))

  -- (n + 1)·x^(n+1)/(n+1)! ≤ x^n/n! where x ≤ 1
  pub weight-falls : p ≤ q → (n : ℕ) → n < M → suc n * weight p q M (suc n) ≤ weight p q M n
  unfolding weight
  weight-falls hp n h =
      rw (pow-suc p n, share-suc q M n hq h) (omega (arith, mul-le-mul_right (p ^ n * suc n * share q M (suc n)) hp))

  -- x^a/a! times x^b/b! is the number of choices times x^(a+b)/(a+b)!
  weight-mul : (a b : ℕ) → a + b ≤ M
      → weight p q M a * weight p q M b ≡ taylor_den q M * (choose a b * weight p q M (a + b))
  unfolding weight
  weight-mul a b h =
      rw (pow-add p a b) (
      product-over (taylor_den q M) (taylor_den q a) (taylor_den q b) (taylor_den q (a + b))
      (share q M a) (share q M b) (share q M (a + b)) (choose a b) (p ^ a) (p ^ b)
      (mul-pos (den_pos q a hq) (den_pos q b hq))
      (share-den q M a (omega arith)) (share-den q M b (omega arith)) (share-den q M (a + b) h) (den-split q a b)
      )

  -- a Taylor sum times a term is a row
  row-mul : (j a : ℕ) → a + j ≤ M
      → sum (weight p q M) (suc j) * weight p q M a ≡ taylor_den q M * row (weight p q M) j a
  unfolding row
  row-mul j a h =
      mul_comm (sum (weight p q M) (suc j)) (weight p q M a)
      ∙ sum-scale (weight p q M) (λ (k : ℕ). choose a k * weight p q M (a + k)) (weight p q M a) (taylor_den q M) (suc j)
      (λ (k : ℕ) (l : k < suc j). weight-mul a k (omega arith))

  -- a Taylor sum times the sum of some of the terms is the sum of their rows
  picked-mul : (j n : ℕ) (pick : ℕ → ℕ) → ((i : ℕ) → i < n → pick i + j ≤ M)
      → sum (weight p q M) (suc j) * sum (λ (i : ℕ). weight p q M (pick i)) n
      ≡ taylor_den q M * sum (λ (i : ℕ). row (weight p q M) j (pick i)) n
  picked-mul j n pick room =
      sum-scale (λ (i : ℕ). weight p q M (pick i)) (λ (i : ℕ). row (weight p q M) j (pick i))
      (sum (weight p q M) (suc j)) (taylor_den q M) n
      (λ (i : ℕ) (l : i < n). row-mul j (pick i) (room i l))

  pub evens-mul : (j h : ℕ) → double h + j ≤ M
      → sum (weight p q M) (suc j) * evens (weight p q M) h ≡ taylor_den q M * evens (row (weight p q M) j) h
  unfolding evens
  evens-mul j h l =
      picked-mul j (suc h) double (λ (i : ℕ) (s : i < suc h). omega (arith, double-sum i, double-sum h))

  pub odds-mul : (j h : ℕ) → double h + j ≤ suc M
      → sum (weight p q M) (suc j) * odds (weight p q M) h ≡ taylor_den q M * odds (row (weight p q M) j) h
  unfolding odds
  odds-mul j h l =
      picked-mul j h (λ (i : ℕ). suc (double i)) (λ (i : ℕ) (s : i < h). omega (arith, double-sum i, double-sum h))

  -- the Taylor sum's numerator over q^M·M!, and below the alternating sums'
  pub taylor-weights : (j : ℕ) → j ≤ M → sum (weight p q M) (suc j) ≡ taylor_num p q j * share q M j
  unfolding taylor_num weight sum
  taylor-weights zero h = rw pow-zero (omega arith)
  taylor-weights (suc j) h =
      omega (arith, taylor-weights j (omega arith), ap (λ (x : ℕ). taylor_num p q j * x) (share-suc q M j hq h))

  pub even-weights : (h : ℕ) → double h ≤ M → evens (weight p q M) h ≡ even_num p q h * share q M (double h)
  unfolding even_num evens double weight sum
  even-weights zero l = rw pow-zero (omega arith)
  even-weights (suc h) l =
      omega (
        arith,
        even-weights h (omega arith),
        ap (λ (x : ℕ). even_num p q h * x) (share-suc q M (double h) hq (omega arith)),
        ap (λ (x : ℕ). even_num p q h * (q * suc (double h)) * x) (share-suc q M (suc (double h)) hq (omega arith)),
      )

  pub odd-weights : (h : ℕ) → double h ≤ M → odds (weight p q M) h ≡ odd_num p q h * share q M (double h)
  unfolding odd_num odds double weight sum
  odd-weights zero l = omega arith
  odd-weights (suc h) l =
      omega (
        arith,
        odd-weights h (omega arith),
        ap (λ (x : ℕ). odd_num p q h * x) (share-suc q M (double h) hq (omega arith)),
        ap (λ (x : ℕ). (odd_num p q h * (q * suc (double h)) + p ^ suc (double h)) * x)
            (share-suc q M (suc (double h)) hq (omega arith)),
      )
