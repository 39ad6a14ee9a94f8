-- The orders of the folds narrow with those of the factors: where each factor's bracket is at most e wide, the survival's
-- is at most as many e as there are factors, and the expectancy's at most their square.
use Rattle.std.specs.Prelude.{List, ℕ, zero, suc, ◌+◌, ◌*◌, ◌≤◌, ◌<◌, take}
use Rattle.std.proofs.Common.{zero-add, add-zero, add-suc, arith, length-take}
use Rattle.std.proofs.Math.Nat.{suc-add}
use Rattle.std.proofs.Math.ListN.{length}
use Rattle.number_fraction.specs.Ratio.{Ratio, ◌≤/◌, whole/, ◌+/◌, ◌*/◌}
use Rattle.number_fraction.proofs.laws.RatioLaws.{≤/-refl, ≤/-trans, ≤/-+/, +/-mono, +/-assoc, */-mono, */-one, one-*/, */-+/, +/-*/}
use Rattle.number_fraction.proofs.laws.Multiples.{times, times-suc, times-times, times-grows}
use Rattle.number_fraction.specs.Bracket.{Bracket}
use Rattle.number_folds.specs.Exact.{
  exactly,
  half/,
  order_with_factor,
  order_survival_from,
  order_survival_over,
  order_survivals_over,
  order_plus,
  order_sum_over,
  order_expectancy_over,
}
use Rattle.number_folds.specs.laws.Each.{Each, none, also, each_take}

-- an order's bracket of a chance, a factor or a survival: both ends at most 1, and at most e apart
pub record OrderChance (e : Ratio) (b : Bracket) : Type 0 where
  pub least : b.least ≤/ whole/ 1
  pub most : b.most ≤/ whole/ 1
  pub width : b.most ≤/ b.least +/ e

-- ---- one factor

-- a product with a factor of at most 1
shrunk : (d x : Ratio) → x ≤/ whole/ 1 → d */ x ≤/ d
shrunk d x h = ≤/-trans (*/-mono (≤/-refl d) h) (*/-one d).below

product_narrow : (s s' p p' d e : Ratio) → s' ≤/ whole/ 1 → p ≤/ whole/ 1 → s' ≤/ s +/ d → p' ≤/ p +/ e
    → s' */ p' ≤/ s */ p +/ (d +/ e)
product_narrow s s' p p' d e hs hp h k =
    ≤/-trans (*/-mono (≤/-refl s') k)
    (≤/-trans (*/-+/ s' p e).below
    (≤/-trans (+/-mono (*/-mono h (≤/-refl p)) (*/-mono hs (≤/-refl e)))
    (≤/-trans (+/-mono (+/-*/ s d p).below (one-*/ e).below)
    (≤/-trans (+/-mono (+/-mono (≤/-refl (s */ p)) (shrunk d p hp)) (≤/-refl e)) (+/-assoc (s */ p) d e).below))))

pub with-factor-narrow : {d e : Ratio} {s p : Bracket} → OrderChance d s → OrderChance e p
    → OrderChance (d +/ e) (order_with_factor s p)
unfolding order_with_factor
with-factor-narrow {d} {e} {s} {p} h k =
    record {
      least = ≤/-trans (*/-mono h.least k.least) (*/-one (whole/ 1)).below;
      most = ≤/-trans (*/-mono h.most k.most) (*/-one (whole/ 1)).below;
      width =
          product_narrow s.least s.most p.least p.most d e h.most k.least h.width
          k.width;
    }

pub wider : {d e : Ratio} {b : Bracket} → d ≤/ e → OrderChance d b → OrderChance e b
wider {b = b} l h = record {
  least = h.least;
  most = h.most;
  width = ≤/-trans h.width (+/-mono (≤/-refl b.least) l);
}

-- ---- sums

regroup : (a b c d : Ratio) → (a +/ b) +/ (c +/ d) ≤/ (a +/ c) +/ (b +/ d)
unfolding ◌+/◌
regroup a b c d = record { cross = omega arith }

pub sum-narrow : (f : ℕ → Bracket) (d : Ratio) (n : ℕ) → ((k : ℕ) → k < n → (f k).most ≤/ (f k).least +/ d)
    → (order_sum_over f n).most ≤/ (order_sum_over f n).least +/ times n d
unfolding order_sum_over order_plus exactly
sum-narrow f d zero h = ≤/-+/ (whole/ 0) (times 0 d)
sum-narrow f d (suc n) h =
    let s = order_sum_over f n in
    ≤/-trans (+/-mono (sum-narrow f d n (λ k l. h k (omega arith))) (h n (omega arith)))
    (≤/-trans (regroup s.least (times n d) (f n).least d) (+/-mono (≤/-refl (s.least +/ (f n).least)) (times-suc n d)))

-- ---- the folds

module _ (e : Ratio) where
  from-narrow : (n : ℕ) {s : Bracket} {ps : List Bracket} → OrderChance (times n e) s → Each (OrderChance e) ps
      → OrderChance (times (n + length ps) e) (order_survival_from s ps)
  unfolding order_survival_from
  from-narrow n h none = rw (add-zero n) h
  from-narrow n h (also {xs = ps} k ks) =
      rw (add-suc n (length ps), ← suc-add n (length ps)) (from-narrow (suc n) (wider (times-suc n e) (with-factor-narrow h k)) ks)

  pub survival-narrow : {ps : List Bracket} → Each (OrderChance e) ps → OrderChance (times (length ps) e) (order_survival_over ps)
  unfolding order_survival_over exactly
  survival-narrow {ps} h =
      rw (zero-add (length ps)) at (from-narrow 0 (record {
        least = ≤/-refl (whole/ 1);
        most = ≤/-refl (whole/ 1);
        width = ≤/-+/ (whole/ 1) (times 0 e);
      }) h)

  -- the survival over the first k factors is no wider than that over all
  pub beginning-narrow : (k : ℕ) {ps : List Bracket} → Each (OrderChance e) ps
      → OrderChance (times (length ps) e) (order_survival_over (take k ps))
  beginning-narrow k {ps} h =
      let l : length (take k ps) ≤ length ps = rw (length-take k ps) (omega arith) in
      wider (times-grows (length (take k ps)) (length ps) e l) (survival-narrow (each_take k h))

  pub expectancy-narrow : {ps : List Bracket} → Each (OrderChance e) ps
      → (order_expectancy_over ps).most ≤/ (order_expectancy_over ps).least +/ times (length ps * length ps) e
  unfolding order_expectancy_over order_plus exactly times
  expectancy-narrow {ps} h =
      let n = length ps in
      let f = order_survivals_over ps in
      let w : (order_sum_over f n).most ≤/ (order_sum_over f n).least +/ times (n * n) e =
      ≤/-trans (sum-narrow f (times n e) n (λ k l. (beginning-narrow (suc k) h).width))
      (+/-mono (≤/-refl (order_sum_over f n).least) (times-times n n e)) in
      ≤/-trans (+/-mono (≤/-refl half/) w) (+/-assoc half/ (order_sum_over f n).least (times (n * n) e)).above
