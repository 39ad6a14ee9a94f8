-- The force from the ends of G on a grid (001, section 3; paper 01, "The grid"): "Force = 1/(1 + e^−G); for an end of G that
-- is negative, with E = e^G, use E/(1 + E). The ends of E are chosen so that each end of the force lies outward; the one
-- division is rounded outward."
use Rattle.std.specs.Prelude.{ℕ, suc, ◌+◌, ◌*◌, ◌/◌, ℤ, pos, negsuc}
use Rattle.number_whole.specs.Division.{ceil_div_ℕ}
use Rattle.number_whole.specs.declared.SignedEnds.{SignedEnds}
use Rattle.number_exponential.specs.Grid.{Grid}
use Rattle.number_exponential.specs.declared.Ends.{Ends}
use Rattle.number_exponential.specs.Exponential.{exp_lower, exp_upper}

-- 1/(1 + E) and E/(1 + E), rounded down and up
unfoldable pub over_one_lower : Grid → ℕ → ℕ
over_one_lower g e = g.unit * g.unit / (g.unit + e)

unfoldable pub over_one_upper : Grid → ℕ → ℕ
over_one_upper g e = ceil_div_ℕ (g.unit * g.unit) (g.unit + e)

unfoldable pub share_lower : Grid → ℕ → ℕ
share_lower g e = e * g.unit / (g.unit + e)

unfoldable pub share_upper : Grid → ℕ → ℕ
share_upper g e = ceil_div_ℕ (e * g.unit) (g.unit + e)

-- the force from an end of G: from G ≥ 0 by e^−G, below by E = e^G
unfoldable pub logistic_lower : Grid → ℤ → ℕ
logistic_lower g (pos n) = over_one_lower g (exp_upper g n)
logistic_lower g (negsuc n) = share_lower g (exp_lower g (suc n))

unfoldable pub logistic_upper : Grid → ℤ → ℕ
logistic_upper g (pos n) = over_one_upper g (exp_lower g n)
logistic_upper g (negsuc n) = share_upper g (exp_upper g (suc n))

unfoldable pub logistic : Grid → SignedEnds → Ends
logistic g G = record { lower = logistic_lower g G.lower; upper = logistic_upper g G.upper }
