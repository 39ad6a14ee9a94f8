-- Edges of the exponential on the grid of 10^-9: at each z the two ends, by computing the definition. The papers' own are rows of
-- the crate `edges`.
use Rattle.std.specs.Prelude.{◌≡◌, refl, ℕ}
use Rattle.number_whole.specs.Division.{ceil_div_ℕ}
use Rattle.number_taylor.specs.Alternating.{double}
use Rattle.number_exponential.specs.Exponential.{next_lower, next_upper, term_lower, term_upper, total, evens, odds, sum_lower, sum_upper}
use Rattle.number_exponential.specs.Exponential.{constant_lower, constant_upper, exp_lower, exp_upper, exp_between}
use Rattle.number_exponential.specs.Units.{billionths, whole_parts}

-- the ends of the exponential of −z, at a z whose own ends are equal, are l and u
abbrev pub Row : ℕ → ℕ → ℕ → Type 0
Row z l u = exp_between billionths (record { lower = z; upper = z }) ≡ record { lower = l; upper = u }

-- one unit before the first half step, and the half step; one unit before the cut-off
pub edges : Row 499999999 606530653 606530665 × Row 500000000 606530659 606530660 × Row 20999999999 0 2
unfolding next_lower next_upper term_lower term_upper total evens odds sum_lower sum_upper
    constant_lower constant_upper exp_lower exp_upper exp_between whole_parts double ceil_div_ℕ
edges = (refl, refl, refl)
