-- Two brackets with the same ends: each end of the one is the same number as that of the other.
use Rattle.std.specs.Prelude.{ℕ, zero, suc, ◌<◌}
use Rattle.std.proofs.Common.{arith}
use Rattle.number_fraction.specs.Ratio.{Ratio, whole/, ◌+/◌}
use Rattle.number_fraction.proofs.laws.RatioTerms.{◌≈/◌}
use Rattle.number_fraction.proofs.laws.RatioLaws.{≤/-refl, ≤/-antisym, ≈/-trans, +/-mono, +/-comm, +/-assoc}
use Rattle.number_fraction.specs.Bracket.{Bracket}
use Rattle.number_folds.specs.Exact.{exactly, order_plus, order_sum_over}

pub record Same (a b : Bracket) : Type 0 where
  pub least : a.least ≈/ b.least
  pub most : a.most ≈/ b.most

pub ≈/-refl : (x : Ratio) → x ≈/ x
≈/-refl x = ≤/-antisym (≤/-refl x) (≤/-refl x)

pub same_refl : (a : Bracket) → Same a a
same_refl a = record { least = ≈/-refl a.least; most = ≈/-refl a.most }

pub same-trans : {a b c : Bracket} → Same a b → Same b c → Same a c
same-trans h k = record { least = ≈/-trans h.least k.least; most = ≈/-trans h.most k.most }

-- ---- sums

pub same-plus : {a b c d : Bracket} → Same a b → Same c d → Same (order_plus a c) (order_plus b d)
unfolding order_plus
same-plus h k = record { least = both h.least k.least; most = both h.most k.most }
  where
    both : {x y u v : Ratio} → x ≈/ y → u ≈/ v → x +/ u ≈/ y +/ v
    both e f = ≤/-antisym (+/-mono e.below f.below) (+/-mono e.above f.above)

pub same-comm : (a b : Bracket) → Same (order_plus a b) (order_plus b a)
unfolding order_plus
same-comm a b = record { least = +/-comm a.least b.least; most = +/-comm a.most b.most }

pub same-assoc : (a b c : Bracket) → Same (order_plus (order_plus a b) c) (order_plus a (order_plus b c))
unfolding order_plus
same-assoc a b c =
    record { least = +/-assoc a.least b.least c.least; most = +/-assoc a.most b.most c.most }

-- of the same terms
pub same_sum : (f h : ℕ → Bracket) (n : ℕ) → ((k : ℕ) → k < n → Same (f k) (h k)) → Same (order_sum_over f n) (order_sum_over h n)
unfolding order_sum_over
same_sum f h zero e = same_refl (exactly (whole/ 0))
same_sum f h (suc n) e = same-plus (same_sum f h n (λ k l. e k (omega arith))) (e n (omega arith))

-- a sum begins with its first term
pub same_first : (f : ℕ → Bracket) (n : ℕ)
    → Same (order_sum_over f (suc n)) (order_plus (f 0) (order_sum_over (λ (k : ℕ). f (suc k)) n))
unfolding order_sum_over
same_first f zero = same-comm (exactly (whole/ 0)) (f 0)
same_first f (suc n) =
    same-trans (same-plus (same_first f n) (same_refl (f (suc n))))
    (same-assoc (f 0) (order_sum_over (λ (k : ℕ). f (suc k)) n) (f (suc n)))
