-- Rounded division at single numbers, by computation: below zero the floor goes away from zero and the ceiling toward
-- it, and 0 and exact multiples are kept.
use Rattle.std.specs.Prelude.{◌≡◌, refl, ℕ, ℤ, pos, neg_ℤ, ◌*ℤ◌}
use Rattle.number_whole.specs.Division.{floor_div, ceil_div, ceil_div_ℕ}

-- −n
abbrev minus : ℕ → ℤ
minus n = neg_ℤ (pos n)

-- z / m lies between the two
abbrev Between : ℤ → ℕ → ℤ → ℤ → Type 0
Between z m lo hi = (floor_div z m ≡ lo) × (ceil_div z m ≡ hi)

-- −50,000,000 times 3 over 10⁸ is −1.5
minus-one-and-a-half : Between (minus 50000000 *ℤ pos 3) 100000000 (minus 2) (minus 1)
unfolding floor_div ceil_div
minus-one-and-a-half = (refl, refl)

one_and_a_half : Between (pos 50000000 *ℤ pos 3) 100000000 (pos 1) (pos 2)
unfolding floor_div ceil_div
one_and_a_half = (refl, refl)

of_zero : Between (pos 0) 100000000 (pos 0) (pos 0)
unfolding floor_div ceil_div
of_zero = (refl, refl)

of-minus-one : Between (minus 1) 100000000 (minus 1) (pos 0)
unfolding floor_div ceil_div
of-minus-one = (refl, refl)

of_one : Between (pos 1) 100000000 (pos 0) (pos 1)
unfolding floor_div ceil_div
of_one = (refl, refl)

-- an exact multiple below zero, and its two neighbours
minus-two-exact : Between (minus 200000000) 100000000 (minus 2) (minus 2)
unfolding floor_div ceil_div
minus-two-exact = (refl, refl)

below-minus-two : Between (minus 200000001) 100000000 (minus 3) (minus 2)
unfolding floor_div ceil_div
below-minus-two = (refl, refl)

above-minus-two : Between (minus 199999999) 100000000 (minus 2) (minus 1)
unfolding floor_div ceil_div
above-minus-two = (refl, refl)

-- the least number of 64 bits, over 1 and over 3
least-over-one : Between (minus 9223372036854775808) 1 (minus 9223372036854775808) (minus 9223372036854775808)
unfolding floor_div ceil_div
least-over-one = (refl, refl)

least-over-three : Between (minus 9223372036854775808) 3 (minus 3074457345618258603) (minus 3074457345618258602)
unfolding floor_div ceil_div
least-over-three = (refl, refl)

-- rounded up among natural numbers: 0, a multiple and its two neighbours
natural-up : (ceil_div_ℕ 0 7 ≡ 0) × (ceil_div_ℕ 13 7 ≡ 2) × (ceil_div_ℕ 14 7 ≡ 2) × (ceil_div_ℕ 15 7 ≡ 3)
unfolding ceil_div_ℕ
natural-up = (refl, refl, refl, refl)
