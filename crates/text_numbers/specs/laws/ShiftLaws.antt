-- Lanes shifted to the left: the first n lanes of a word after m lanes of 0. And a word of all its lanes.
use Rattle.std.specs.Prelude.{◌≡◌, refl, ℕ, zero, suc, ◌+◌, ◌*◌, ◌%◌, ◌^◌, ◌<◌, List, ◌∷◌, ◌++◌, map, length, replicate}
use Rattle.std.proofs.Common.{sym, ap, ap₂, ◌∙◌, mod-eq_of_lt, suc-mul, zero-mul, mul-one, arith, pow-add, take_all}
use Rattle.text_words.specs.code.Word.{lane_sum, lanes, Below, more}
use Rattle.text_words.specs.laws.LaneLaws.{lanes-of-sum, sum-of-lanes, shifted}
use Rattle.text_numbers.specs.code.Parts.{numeral}

-- a word is made up of its lanes, and lanes are those of the word that they make up
pub sum-all : (k n w : ℕ) → w < 2 ^ (n * k) → lane_sum k (lanes k n w) ≡ w
sum-all k n w h = sum-of-lanes k n w ∙ mod-eq_of_lt h

pub lanes_all : (k n : ℕ) {xs : List ℕ} → Below (2 ^ k) xs → length xs ≡ n → lanes k n (lane_sum k xs) ≡ xs
lanes_all k n {xs} b e = lanes-of-sum k n b (omega arith) ∙ take_all n xs (omega arith)

-- ---- lanes of 0 before others

regroup : (s a b : ℕ) → s * a * b + 0 ≡ s * (a * b)
regroup s a b = omega arith

pub zeros-sum : (k m : ℕ) (ys : List ℕ) → lane_sum k (replicate m 0 ++ ys) ≡ lane_sum k ys * 2 ^ (m * k)
unfolding lane_sum
zeros-sum k zero ys = rw (zero-mul k) (sym (mul-one _))
zeros-sum k (suc m) ys =
    rw (suc-mul m k, pow-add 2 (m * k) k)
    (ap (λ (s : ℕ). s * 2 ^ k + 0) (zeros-sum k m ys) ∙ regroup (lane_sum k ys) (2 ^ (m * k)) (2 ^ k))

pub zeros-below : (m : ℕ) {b : ℕ} {ys : List ℕ} → 0 < b → Below b ys → Below b (replicate m 0 ++ ys)
zeros-below zero p h = h
zeros-below (suc m) p h = more p (zeros-below m p h)

-- digits 0 before others do not count
pub zeros-numeral : (p m : ℕ) (ys : List ℕ) → numeral p 0 (replicate m 0 ++ ys) ≡ numeral p 0 ys
unfolding numeral
zeros-numeral p zero ys = refl
zeros-numeral p (suc m) ys =
    ap (λ (a : ℕ). numeral p a (replicate m 0 ++ ys)) (omega arith) ∙ zeros-numeral p m ys

-- a rule that leaves 0 as it is
pub zeros-map : (f : ℕ → ℕ) → f 0 ≡ 0 → (m : ℕ) (ys : List ℕ) → map f (replicate m 0 ++ ys) ≡ replicate m 0 ++ map f ys
zeros-map f e zero ys = refl
zeros-map f e (suc m) ys = ap₂ ◌∷◌ e (zeros-map f e m ys)

-- ---- a word shifted by whole lanes

pub shifted-lanes : (k m n w : ℕ) → w * 2 ^ (m * k) % 2 ^ (n * k + m * k) ≡ lane_sum k (replicate m 0 ++ lanes k n w)
shifted-lanes k m n w =
    shifted w (n * k) (m * k)
    ∙ ap (λ (s : ℕ). s * 2 ^ (m * k)) (sym (sum-of-lanes k n w))
    ∙ sym (zeros-sum k m (lanes k n w))
