-- Whose answer is given of two sheets, by computation: true is the second's.
use Rattle.std.specs.Prelude.{◌≡◌, refl, true, false}
use Rattle.run_sheets.specs.Front.{in_turn, by_number}

-- the first off scale and the second torn: by number the second's 1, and in turn the first's 2
lower-second : (by_number 2 1 ≡ true) × (in_turn 2 1 ≡ false)
unfolding by_number in_turn
lower-second = (refl, refl)

-- the first torn and the second off scale, and both torn
lower-first : (by_number 1 2 ≡ false) × (by_number 1 1 ≡ false)
unfolding by_number
lower-first = (refl, refl)

-- one of them accepted
one-accepted : (by_number 0 2 ≡ true) × (by_number 2 0 ≡ false) × (in_turn 0 2 ≡ true) × (in_turn 2 0 ≡ false)
unfolding by_number in_turn
one-accepted = (refl, refl, refl, refl)
