-- The grids of the two units. Of 10^-9 (paper 01, "The grid", with paper 02, E4): "Let z be cut into half steps, z = n·500,000,000 + f,
-- with constants for n = 0 to 41", [0, 1] from 21 on, lower sums to term 13 and upper sums to term 12, and 28 terms of the logarithm.
-- Of 10^-13 (paper 02, E11): "The fine rules are E4's with upper sums to term 16, lower to 17, constants for n = 0 to 59, [0, 1] from 30
-- on, and 41 logarithm terms with a remainder from the 42nd power."
use Rattle.std.specs.Prelude.{refl, List, [], ◌∷◌, ℕ}
use Rattle.std.proofs.Common.{lit<}
use Rattle.number_exponential.specs.Grid.{Grid}
use Rattle.number_exponential.specs.declared.GridUnit.{GridUnit}
use Rattle.number_exponential.specs.declared.GridUnit.TheVariants.{Coarse, Fine}

-- the whole parts of 10^9·e^−(n/2)
unfoldable pub whole_parts : List ℕ
whole_parts =
    1000000000 ∷ 606530659 ∷ 367879441 ∷ 223130160 ∷ 135335283 ∷ 82084998 ∷ 49787068 ∷ 30197383 ∷ 18315638 ∷ 11108996 ∷
    6737946 ∷ 4086771 ∷ 2478752 ∷ 1503439 ∷ 911881 ∷ 553084 ∷ 335462 ∷ 203468 ∷ 123409 ∷ 74851 ∷ 45399 ∷ 27536 ∷ 16701 ∷
    10130 ∷ 6144 ∷ 3726 ∷ 2260 ∷ 1370 ∷ 831 ∷ 504 ∷ 305 ∷ 185 ∷ 112 ∷ 68 ∷ 41 ∷ 25 ∷ 15 ∷ 9 ∷ 5 ∷ 3 ∷ 2 ∷ 1 ∷ []

abbrev pub billionths : Grid
billionths =
    record {
      unit = 1000000000;
      positive = lit< tt;
      scale = 1;
      scaled = refl;
      steps = 2;
      constants = whole_parts;
      cutoff = 21;
      last_lower = 13;
      last_upper = 12;
      log_terms = 28;
    }

-- the whole parts of 10^13·e^−(n/2)
unfoldable pub fine_parts : List ℕ
fine_parts =
    10000000000000 ∷ 6065306597126 ∷ 3678794411714 ∷ 2231301601484 ∷ 1353352832366 ∷ 820849986238 ∷ 497870683678 ∷
    301973834223 ∷ 183156388887 ∷ 111089965382 ∷ 67379469990 ∷ 40867714384 ∷ 24787521766 ∷ 15034391929 ∷ 9118819655 ∷
    5530843701 ∷ 3354626279 ∷ 2034683690 ∷ 1234098040 ∷ 748518298 ∷ 453999297 ∷ 275364493 ∷ 167017007 ∷ 101300935 ∷
    61442123 ∷ 37266531 ∷ 22603294 ∷ 13709590 ∷ 8315287 ∷ 5043476 ∷ 3059023 ∷ 1855391 ∷ 1125351 ∷ 682560 ∷ 413993 ∷
    251099 ∷ 152299 ∷ 92374 ∷ 56027 ∷ 33982 ∷ 20611 ∷ 12501 ∷ 7582 ∷ 4599 ∷ 2789 ∷ 1691 ∷ 1026 ∷ 622 ∷ 377 ∷ 228 ∷
    138 ∷ 84 ∷ 51 ∷ 30 ∷ 18 ∷ 11 ∷ 6 ∷ 4 ∷ 2 ∷ 1 ∷ []

abbrev pub ten_trillionths : Grid
ten_trillionths =
    record {
      unit = 10000000000000;
      positive = lit< tt;
      scale = 10000;
      scaled = refl;
      steps = 2;
      constants = fine_parts;
      cutoff = 30;
      last_lower = 17;
      last_upper = 16;
      log_terms = 41;
    }

-- the grid of a unit
unfoldable pub grid_of : GridUnit → Grid
grid_of Coarse = billionths
grid_of Fine = ten_trillionths

-- "at most a thousandth as wide as each present limit": the fine ends of a quote, in their units, against the limit in units of 10^-9
unfoldable pub width_times : GridUnit → ℕ
width_times Coarse = 1
width_times Fine = 10
