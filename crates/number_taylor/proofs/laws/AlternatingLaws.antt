-- The alternating sums A of the exponential's terms lie on either side of 1/s, s the Taylor sum to order j, at
-- 0 ≤ x = p/q ≤ 1: A to order 2h is at least 1/s where 2h ≤ j, and A to order 2h + 1 is at most 1/s at every j.
use Rattle.std.specs.Prelude.{◌≡◌}
use Rattle.std.proofs.Common.{sym, ◌∙◌, ap₂, le_of_mul-le-mul_right, mul-pos, mul-le-mul_left, arith}
use Rattle.std.proofs.Math.Path.{ap}
use Prim.Native.Nat.{ℕ, suc, ◌+◌, ◌*◌, ◌^◌, ◌≤◌, ◌<◌}
use Rattle.number_taylor.specs.Taylor.{taylor_den, taylor_num}
use Rattle.number_taylor.specs.Alternating.{double}
use Rattle.number_taylor.proofs.laws.AlternatingSums.{even_num, odd_num}
use Rattle.number_taylor.proofs.laws.DoubleSums.{sum, evens, odds, row}
use Rattle.number_taylor.proofs.laws.TermShares.{share, weight}
use Rattle.number_taylor.proofs.laws.DoubleSumLaws.{even-rows, odd-rows}
use Rattle.number_taylor.proofs.laws.TermShareLaws.{share-den, share-pos, share-suc, weight-zero, weight-falls}
use Rattle.number_taylor.proofs.laws.TermShareLaws.{evens-mul, odds-mul, taylor-weights, even-weights, odd-weights}

-- (e − o)/D against F/n, from the sums over the one denominator W = D·x = F·y: n/F times e/D is E/W, and times o/D is O/W
module _ (D F e o n x y W E O : ℕ) (pos : 0 < x * y) (dx : D * x ≡ W) (fy : F * y ≡ W)
    (ex : (n * y) * (e * x) ≡ W * E) (ox : (n * y) * (o * x) ≡ W * O) where
  unit : D * F * (x * y) ≡ W * W
  unit = omega (arith, ap (λ (k : ℕ). k * (F * y)) dx, ap (λ (k : ℕ). W * k) fy)

  above : W + O ≤ E → D * F + o * n ≤ e * n
  above h = le_of_mul-le-mul_right {k = x * y} (omega (arith, unit, mul-le-mul_left W h)) pos

  below : E ≤ W + O → e * n ≤ D * F + o * n
  below h = le_of_mul-le-mul_right {k = x * y} (omega (arith, unit, mul-le-mul_left W h)) pos

-- both laws, by weights over q^M·M! for any M that has room for them
module _ (p q h j M : ℕ) (hp : p ≤ q) (hq : 0 < q) (room : double h + j < M) where
  taylor : taylor_num p q j * share q M j ≡ sum (weight p q M) (suc j)
  taylor = sym (taylor-weights p q M hq j (omega arith))

  even-by-weights : double h ≤ j
      → taylor_den q (double h) * taylor_den q j + odd_num p q h * taylor_num p q j ≤ even_num p q h * taylor_num p q j
  even-by-weights l =
      above (taylor_den q (double h)) (taylor_den q j) (even_num p q h) (odd_num p q h) (taylor_num p q j)
      (share q M (double h)) (share q M j) (taylor_den q M)
      (evens (row (weight p q M) j) h) (odds (row (weight p q M) j) h)
      (mul-pos (share-pos q M (double h) hq) (share-pos q M j hq))
      (share-den q M (double h) (omega arith))
      (share-den q M j (omega arith))
      (ap₂ ◌*◌ taylor (sym (even-weights p q M hq h (omega arith))) ∙ evens-mul p q M hq j h (omega arith))
      (ap₂ ◌*◌ taylor (sym (odd-weights p q M hq h (omega arith))) ∙ odds-mul p q M hq j h (omega arith))
      (omega (arith, weight-zero p q M hq, even-rows (weight p q M) M (weight-falls p q M hq hp) j h l room))

  odd-by-weights : (even_num p q h * (q * suc (double h))) * taylor_num p q j
      ≤ taylor_den q (suc (double h)) * taylor_den q j
      + (odd_num p q h * (q * suc (double h)) + p ^ suc (double h)) * taylor_num p q j
  unfolding odds sum weight double
  odd-by-weights =
      let step = share-suc q M (double h) hq (omega arith) in
      let x : ℕ = share q M (suc (double h)) in
      let even : even_num p q h * (q * suc (double h)) * x ≡ evens (weight p q M) h =
      omega (arith, even-weights p q M hq h (omega arith), ap (λ (k : ℕ). even_num p q h * k) step) in
      let odd : (odd_num p q h * (q * suc (double h)) + p ^ suc (double h)) * x ≡ odds (weight p q M) (suc h) =
      omega (arith, odd-weights p q M hq h (omega arith), ap (λ (k : ℕ). odd_num p q h * k) step) in
      below (taylor_den q (suc (double h))) (taylor_den q j) (even_num p q h * (q * suc (double h)))
      (odd_num p q h * (q * suc (double h)) + p ^ suc (double h)) (taylor_num p q j)
      x (share q M j) (taylor_den q M)
      (evens (row (weight p q M) j) h) (odds (row (weight p q M) j) (suc h))
      (mul-pos (share-pos q M (suc (double h)) hq) (share-pos q M j hq))
      (share-den q M (suc (double h)) (omega arith))
      (share-den q M j (omega arith))
      (ap₂ ◌*◌ taylor even ∙ evens-mul p q M hq j h (omega arith))
      (ap₂ ◌*◌ taylor odd ∙ odds-mul p q M hq j (suc h) (omega arith))
      (omega (arith, weight-zero p q M hq, odd-rows (weight p q M) M (weight-falls p q M hq hp) j h room))

-- A to the order 2h times s is at least 1
pub even-above : (p q h j : ℕ) → p ≤ q → 0 < q → double h ≤ j
    → taylor_den q (double h) * taylor_den q j + odd_num p q h * taylor_num p q j ≤ even_num p q h * taylor_num p q j
even-above p q h j hp hq = even-by-weights p q h j (suc (double h + j)) hp hq (omega arith)

-- A to the order 2h + 1 times s is at most 1
pub odd-below : (p q h j : ℕ) → p ≤ q → 0 < q
    → (even_num p q h * (q * suc (double h))) * taylor_num p q j
    ≤ taylor_den q (suc (double h)) * taylor_den q j
    + (odd_num p q h * (q * suc (double h)) + p ^ suc (double h)) * taylor_num p q j
odd-below p q h j hp hq = odd-by-weights p q h j (suc (double h + j)) hp hq (omega arith)
