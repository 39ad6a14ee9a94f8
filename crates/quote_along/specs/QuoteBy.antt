-- The quote of two ends, and of the ends in each unit (paper 02, E11).
use Rattle.std.specs.Prelude.{cond, ℕ, ◌*◌, Result}
use Rattle.number_exponential.specs.declared.Ends.{Ends}
use Rattle.number_exponential.specs.declared.GridUnit.{GridUnit}
use Rattle.number_exponential.specs.declared.GridUnit.TheVariants.{Coarse, Fine}
use Rattle.number_exponential.specs.Units.{grid_of}
use Rattle.number_exact.specs.Figure.{figure_of, is_open}
use Rattle.set_refusal.specs.declared.Refusal.{Refusal}
use Rattle.quote_along.specs.declared.Quote.{Quote}

-- two ends in a unit, with the figure in steps of s units of 10^-9
abbrev pub quote_on : ℕ → GridUnit → Ends → Quote
quote_on s u e = record { unit = u; lower = e.lower; upper = e.upper; figure = figure_of (s * (grid_of u).scale) e }

-- "An open figure of any kind is worked again in units of 10^-13." "If fine ends were worked they are the ones reported, with their
-- unit"
unfoldable pub quote_by : ℕ → (GridUnit → Ends) → Quote
quote_by s ends =
    let coarse = quote_on s Coarse (ends Coarse) in
    cond (is_open coarse.figure) (quote_on s Fine (ends Fine)) coarse

-- a quote, or the refusal
abbrev pub Answer : Type 0
Answer = Result Quote Refusal
