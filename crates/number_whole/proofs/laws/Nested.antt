-- Ends in a finer unit that lie within coarser ones: s fine units in a coarse one. A coarse end is a whole number of fine units, so
-- that what is linear, rounded outward in either unit, stays within.
use Rattle.std.specs.Prelude.{ℕ, suc, ◌*◌, ◌<◌, ℤ, pos, negsuc, neg_ℤ, ◌+ℤ◌, ◌*ℤ◌, ◌≤ℤ◌}
use Rattle.std.proofs.Common.{mul-le-mul_left, arith}
use Rattle.number_whole.proofs.laws.Split.{split, split-abs, split-neg, split-add, split-scale-left, mul-eq}
use Rattle.number_whole.proofs.laws.Difference.{difference, difference-pos, difference-mul, difference-le}
use Rattle.number_whole.specs.Division.{floor_div, ceil_div}
use Rattle.number_whole.proofs.laws.DivisionLaws.{split-floor, split-ceil, at_most}
use Rattle.number_whole.specs.code.Sizes.{Under, Within}
use Rattle.number_whole.proofs.laws.Bound.{under-between}
use Rattle.number_whole.proofs.laws.Order.{≤ℤ-trans}
use Rattle.number_whole.specs.declared.SignedEnds.{SignedEnds}
use Rattle.number_whole.specs.SignedEnds.{least_product, greatest_product, outward, shifted}

-- f, in fine units, lies within e
pub record Nested (s : ℕ) (e f : SignedEnds) : Type 0 where
  pub low : (pos s *ℤ e.lower) ≤ℤ f.lower
  pub high : f.upper ≤ℤ (pos s *ℤ e.upper)

-- ---- products

-- s·a ≤ b gives s·(c·a) ≤ c·b for c of at least 0, and s·(c·b') ≤ c·a' for a negative one where a' ≤ s·b'
keeps : (s k : ℕ) (a b : ℤ) → (pos s *ℤ a) ≤ℤ b → (pos s *ℤ (pos k *ℤ a)) ≤ℤ (pos k *ℤ b)
keeps s k a b h =
    let x = difference a in
    let y = difference b in
    let z = difference-pos k in
    let t = difference-pos s in
    (difference-le (difference-mul t (difference-mul z x)) (difference-mul z y)).0
    (omega (arith, mul-le-mul_left k ((difference-le (difference-mul t x) y).1 h)))

keeps-above : (s k : ℕ) (a b : ℤ) → b ≤ℤ (pos s *ℤ a) → (pos k *ℤ b) ≤ℤ (pos s *ℤ (pos k *ℤ a))
keeps-above s k a b h =
    let x = difference a in
    let y = difference b in
    let z = difference-pos k in
    let t = difference-pos s in
    (difference-le (difference-mul z y) (difference-mul t (difference-mul z x))).0
    (omega (arith, mul-le-mul_left k ((difference-le y (difference-mul t x)).1 h)))

exchanges : (s k : ℕ) (a b : ℤ) → b ≤ℤ (pos s *ℤ a) → (pos s *ℤ (negsuc k *ℤ a)) ≤ℤ (negsuc k *ℤ b)
exchanges s k a b h =
    let x = difference a in
    let y = difference b in
    let z = difference (negsuc k) in
    let t = difference-pos s in
    (difference-le (difference-mul t (difference-mul z x)) (difference-mul z y)).0
    (omega (arith, mul-le-mul_left (suc k) ((difference-le y (difference-mul t x)).1 h)))

exchanges-above : (s k : ℕ) (a b : ℤ) → (pos s *ℤ a) ≤ℤ b → (negsuc k *ℤ b) ≤ℤ (pos s *ℤ (negsuc k *ℤ a))
exchanges-above s k a b h =
    let x = difference a in
    let y = difference b in
    let z = difference (negsuc k) in
    let t = difference-pos s in
    (difference-le (difference-mul z y) (difference-mul t (difference-mul z x))).0
    (omega (arith, mul-le-mul_left (suc k) ((difference-le (difference-mul t x) y).1 h)))

pub nested-least : {s : ℕ} {e f : SignedEnds} (c : ℤ) → Nested s e f → (pos s *ℤ least_product c e) ≤ℤ least_product c f
unfolding least_product
nested-least {s} {e} {f} (pos k) h = keeps s k e.lower f.lower h.low
nested-least {s} {e} {f} (negsuc k) h = exchanges s k e.upper f.upper h.high

pub nested-greatest : {s : ℕ} {e f : SignedEnds} (c : ℤ) → Nested s e f → greatest_product c f ≤ℤ (pos s *ℤ greatest_product c e)
unfolding greatest_product
nested-greatest {s} {e} {f} (pos k) h = keeps-above s k e.upper f.upper h.high
nested-greatest {s} {e} {f} (negsuc k) h = exchanges-above s k e.lower f.lower h.low

-- ---- outward quotients, and numbers added

pub nested-outward : {s : ℕ} (l u l' u' : ℤ) {m : ℕ} → 0 < m → (pos s *ℤ l) ≤ℤ l' → u' ≤ℤ (pos s *ℤ u)
    → Nested s (outward l u m) (outward l' u' m)
unfolding outward
nested-outward {s} l u l' u' {m} p h k =
    let q = floor_div l m in
    let r = ceil_div u m in
    let x = split-floor l p in
    let y = split-ceil u p in
    record {
      low =
          at_most (pos s *ℤ q) (floor_div l' m) m
          (omega (
            split,
            split-floor l' p,
            mul-eq m (split-scale-left s q).0,
            mul-eq m (split-scale-left s q).1,
            split-scale-left s l,
            mul-le-mul_left s x.0,
          ));
      high =
          at_most (ceil_div u' m) (pos s *ℤ r) m
          (omega (
            split,
            split-ceil u' p,
            mul-eq m (split-scale-left s r).0,
            mul-eq m (split-scale-left s r).1,
            split-scale-left s u,
            mul-le-mul_left s y.0,
          ));
    }

pub nested-shifted : {s : ℕ} (c : ℤ) {e f : SignedEnds} → Nested s e f → Nested s (shifted c e) (shifted (pos s *ℤ c) f)
nested-shifted {s} c {e} {f} h =
    let d = pos s *ℤ c in
    record {
      low =
          omega (
            split,
            h.low,
            split-add c e.lower,
            split-scale-left s (c +ℤ e.lower),
            split-scale-left s c,
            split-scale-left s e.lower,
            split-add d f.lower,
            mul-eq s (split-add c e.lower),
          );
      high =
          omega (
            split,
            h.high,
            split-add c e.upper,
            split-scale-left s (c +ℤ e.upper),
            split-scale-left s c,
            split-scale-left s e.upper,
            split-add d f.upper,
            mul-eq s (split-add c e.upper),
          );
    }

-- ---- how far from zero

pub nested-within : {s k : ℕ} {e f : SignedEnds} → Nested s e f → f.lower ≤ℤ f.upper → Within k e → Within (s * k) f
nested-within {s} {k} {e} {f} h o w =
    let low = low_by e.lower w.low in
    let high = high-by e.upper w.high in
    record {
      low = under-between (≤ℤ-trans low h.low) (≤ℤ-trans o (≤ℤ-trans h.high high));
      high = under-between (≤ℤ-trans low (≤ℤ-trans h.low o)) (≤ℤ-trans h.high high);
    }
  where
    low_by : (z : ℤ) → Under z k → neg_ℤ (pos (s * k)) ≤ℤ (pos s *ℤ z)
    low_by z u =
        omega (split, split-neg (pos (s * k)), split-scale-left s z, split-abs z, mul-le-mul_left s u.under, mul-eq s (split-abs z))

    high-by : (z : ℤ) → Under z k → (pos s *ℤ z) ≤ℤ pos (s * k)
    high-by z u = omega (split, split-scale-left s z, mul-le-mul_left s u.under, mul-eq s (split-abs z))
