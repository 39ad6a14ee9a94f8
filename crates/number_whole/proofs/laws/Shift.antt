-- Rounded division of a sum of which one part is a multiple of the divisor, and the rest of a number that was rounded down.
use Rattle.std.specs.Prelude.{◌≡◌, ℕ, ◌-◌, ◌<◌, ℤ, pos, ◌+ℤ◌, ◌-ℤ◌, ◌*ℤ◌, ◌≤ℤ◌}
use Rattle.std.proofs.Common.{arith}
use Rattle.number_whole.proofs.laws.Split.{split, split-neg, split-add, split-sub, split-scale, mul-eq}
use Rattle.number_whole.specs.Division.{floor_div, ceil_div}
use Rattle.number_whole.proofs.laws.DivisionLaws.{split-floor, split-ceil, at_most}
use Rattle.number_whole.specs.code.Sizes.{Under}
use Rattle.number_whole.proofs.laws.Bound.{under-between}

≤ℤ-antisym : {a b : ℤ} → a ≤ℤ b → b ≤ℤ a → a ≡ b
≤ℤ-antisym {a} {b} h k = omega split

-- (q·m + r)/m is q more than r/m, rounded down and up
pub floor-shift : (q r : ℤ) {m : ℕ} → 0 < m → floor_div (q *ℤ pos m +ℤ r) m ≡ q +ℤ floor_div r m
floor-shift q r {m} h =
    let x = q *ℤ pos m +ℤ r in
    let f = floor_div r m in
    ≤ℤ-antisym
    (at_most (floor_div x m) (q +ℤ f) m
    (omega (arith, split-floor x h, split-floor r h, split-add (q *ℤ pos m) r, split-scale q m, mul-eq m (split-add q f))))
    (at_most (q +ℤ f) (floor_div x m) m
    (omega (arith, split-floor x h, split-floor r h, split-add (q *ℤ pos m) r, split-scale q m, mul-eq m (split-add q f))))

pub ceil-shift : (q r : ℤ) {m : ℕ} → 0 < m → ceil_div (q *ℤ pos m +ℤ r) m ≡ q +ℤ ceil_div r m
ceil-shift q r {m} h =
    let x = q *ℤ pos m +ℤ r in
    let f = ceil_div r m in
    ≤ℤ-antisym
    (at_most (ceil_div x m) (q +ℤ f) m
    (omega (arith, split-ceil x h, split-ceil r h, split-add (q *ℤ pos m) r, split-scale q m, mul-eq m (split-add q f))))
    (at_most (q +ℤ f) (ceil_div x m) m
    (omega (arith, split-ceil x h, split-ceil r h, split-add (q *ℤ pos m) r, split-scale q m, mul-eq m (split-add q f))))

-- rounded up it is what one less than the divisor more is, rounded down
pub ceil-is-floor : (z : ℤ) {m : ℕ} → 0 < m → floor_div (pos (m - 1) +ℤ z) m ≡ ceil_div z m
ceil-is-floor z {m} h =
    let x = pos (m - 1) +ℤ z in
    ≤ℤ-antisym
    (at_most (floor_div x m) (ceil_div z m) m (omega (arith, split-floor x h, split-ceil z h, split-add (pos (m - 1)) z)))
    (at_most (ceil_div z m) (floor_div x m) m (omega (arith, split-floor x h, split-ceil z h, split-add (pos (m - 1)) z)))

-- what is left of z where the multiple of its quotient is taken away
abbrev pub rest_over : ℤ → ℕ → ℤ
rest_over z m = z -ℤ floor_div z m *ℤ pos m

pub rest_under : (z : ℤ) {m : ℕ} → 0 < m → Under (rest_over z m) m
rest_under z {m} h =
    let q = floor_div z m in
    under-between
    (omega (split, split-neg (pos m), split-sub z (q *ℤ pos m), split-scale q m, split-floor z h))
    (omega (split, split-sub z (q *ℤ pos m), split-scale q m, split-floor z h))
