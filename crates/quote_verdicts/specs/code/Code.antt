-- What the code's contracts say beside the definitions: a column that was read or not, the verdict on one age, the figures by the
-- factors of a year's cells and where they leave one open, and what a verdict says.
use Rattle.std.specs.Prelude.{◌≡◌, Bool, true, false, cond, Option, None, Some, List, [], ℕ, ℤ, get_or, Ok}
use Rattle.text_tokens.specs.Text.{Parse, malformed, taken}
use Rattle.set_params.specs.declared.Params.{Params}
use Rattle.number_exponential.specs.declared.Ends.{Ends}
use Rattle.number_exponential.specs.Units.{billionths}
use Rattle.number_exact.specs.declared.Figure.{Figure}
use Rattle.number_exact.specs.Figure.{probability_step, figure_of}
use Rattle.number_exact.specs.Figure as figure
use Rattle.model_force.specs.Force.{death_of}
use Rattle.quote.specs.Demand.{Shown, shown_of}
use Rattle.quote_factors.specs.code.Code.{empty}
use Rattle.quote_verdicts.specs.declared.Verdict.{Verdict}
use Rattle.quote_verdicts.specs.declared.Verdict.TheVariants.{Right, Wrong, Open}
use Rattle.quote_verdicts.specs.Verdict.{Judged}
use Rattle.quote_verdicts.specs.Verdict.{figure_here, differs, is_open, EachRounded, SomeOther}

-- a column, where the whole of it was read
unfoldable pub column_read : Option (List ℕ) → Parse (List ℕ)
column_read None = malformed
column_read (Some column) = taken column []

-- the verdict on one age
unfoldable pub age_verdict : Shown → ℕ → Verdict
age_verdict s entry = cond (differs s entry) Wrong (cond (is_open s) Open Right)

-- that on some ages and one more
unfoldable pub joined : Verdict → Verdict → Verdict
joined Wrong v = Wrong
joined Open Wrong = Wrong
joined Open Open = Open
joined Open Right = Open
joined Right v = v

-- the figure of q by p's ends on the coarse grid
unfoldable pub figure_by : Ends → Figure
figure_by p = figure_of probability_step (death_of billionths p)

-- that of age x by the factors of its year
abbrev pub figure_in : List Ends → ℕ → Figure
figure_in factors x = figure_by (get_or factors x empty)

-- and where it is open, the quote's
unfoldable pub figure_kept : Params → ℤ → List Ends → ℕ → Shown
figure_kept p year factors x = cond (figure.is_open (figure_in factors x)) (figure_here p year x) (shown_of (figure_in factors x))

-- what an answer of a column that was read says
pub record Honest (p : Params) (year : ℤ) (column : List ℕ) (r : Judged) : Type 0 where
  pub right : r ≡ Ok Right → EachRounded p year column
  pub wrong : r ≡ Ok Wrong → SomeOther p year column
