-- What an answer reports, and what is promised of it (paper 01, "Figures on offer" and "The exact value").
use Rattle.std.specs.Prelude.{◌≡◌, ◌↔◌, ℕ, ◌+◌, ◌*◌, ◌≤◌, ℤ, nat_abs, Ok, Err}
use Rattle.number_exponential.specs.Units.{billionths, grid_of, width_times}
use Rattle.number_exponential.specs.declared.GridUnit.{GridUnit}
use Rattle.number_exponential.specs.declared.GridUnit.TheVariants.{Coarse, Fine}
use Rattle.number_exponential.specs.Grid.{in_units}
use Rattle.number_exponential.specs.declared.Ends.{Ends}
use Rattle.set_params.specs.declared.Params.{Params}
use Rattle.set_refusal.specs.declared.Refusal.{Refusal}
use Rattle.set_refusal.specs.Refusals.{refusal_number}
use Rattle.number_exact.specs.declared.Figure.{Figure}
use Rattle.number_exact.specs.declared.Figure.TheVariants.{Printed, Open}
use Rattle.number_exact.specs.Value.{Exact, AtLeast, AtMost, RoundsTo, OneStep, Narrows, Agrees}
use Rattle.number_exact.specs.Figure.{half_up}
use Rattle.quote_kinds.specs.declared.Kind.{Kind}
use Rattle.quote_kinds.specs.Kinds.{OneKind, rule_of, step_of, width_of, span_of}
use Rattle.quote_along.specs.QuoteBy.{Answer}
use Rattle.quote.specs.Quote.{query_ends, exact_query, refusal_of, answer_of}

-- ---- the number, the ends and the figure of an answer: "A refusal has its number, ends 0 and 0, no figure"

-- the figure that is shown
pub data Shown : Type 0 where
  printed : ℕ → Shown
  marked_open : Shown
  no_figure : Shown

unfoldable pub shown_of : Figure → Shown
shown_of (Printed n) = printed n
shown_of Open = marked_open

unfoldable pub number_of : Answer → ℕ
number_of (Ok q) = 0
number_of (Err r) = refusal_number r

unfoldable pub lower_of : Answer → ℕ
lower_of (Ok q) = q.lower
lower_of (Err r) = 0

unfoldable pub upper_of : Answer → ℕ
upper_of (Ok q) = q.upper
upper_of (Err r) = 0

-- "a refusal's is 10^-9"
unfoldable pub unit_of : Answer → GridUnit
unit_of (Ok q) = q.unit
unit_of (Err r) = Coarse

unfoldable pub figure_shown : Answer → Shown
figure_shown (Ok q) = shown_of q.figure
figure_shown (Err r) = no_figure

-- ---- what is promised of an answer

-- two ends in a unit round half up to different steps, of s units of 10^-9
abbrev pub LeftOpen : ℕ → GridUnit → ℕ → ℕ → Type 0
LeftOpen s u l h = half_up (s * (grid_of u).scale) l ≡ half_up (s * (grid_of u).scale) h → ⊥

-- of an accepted quote, by its ends e in each unit, its exact value x, and in units of 10^-9 the step of its figure, s, and how far
-- apart its ends may lie, w: the ends are those of its unit, the fine one exactly when the coarse ends leave the figure open, lie no
-- further apart than w, in the fine unit a thousandth of it, and the exact value between them; its brackets are those of one number,
-- since any two agree and they narrow past any whole fraction; and the figure is open exactly when its ends leave it so
pub record KeptBy (e : GridUnit → Ends) (x : Exact) (s w : ℕ) (a : Answer) : Type 0 where
  pub of-grid : (lower_of a ≡ (e (unit_of a)).lower) × (upper_of a ≡ (e (unit_of a)).upper)
  pub fine-when : (unit_of a ≡ Fine) ↔ LeftOpen s Coarse (e Coarse).lower (e Coarse).upper
  pub at_least : AtLeast x (in_units (grid_of (unit_of a)) (lower_of a))
  pub at_most : AtMost x (in_units (grid_of (unit_of a)) (upper_of a))
  pub width : upper_of a ≤ lower_of a + width_times (unit_of a) * w
  pub agrees : Agrees x
  pub narrows : Narrows x
  pub open-when : (figure_shown a ≡ marked_open) ↔ LeftOpen s (unit_of a) (lower_of a) (upper_of a)

-- of any answer: it has the number of its refusal r, and 0 where it is accepted; refused, it has ends 0 and 0 and no figure;
-- accepted, it is kept; and a printed figure is the exact value rounded half up
pub record Promised (r : Refusal) (e : GridUnit → Ends) (x : Exact) (s w : ℕ) (a : Answer) : Type 0 where
  pub number : number_of a ≡ refusal_number r
  pub refused : (number_of a ≡ 0 → ⊥) → (unit_of a ≡ Coarse) × (lower_of a ≡ 0) × (upper_of a ≡ 0) × (figure_shown a ≡ no_figure)
  pub kept : number_of a ≡ 0 → KeptBy e x s w a
  pub rounds : (n : ℕ) → figure_shown a ≡ printed n → RoundsTo billionths s n x

-- ---- demand 3

-- units in a step of the kind's figures
abbrev pub step : Kind → ℕ
step kind = step_of (rule_of kind).fold

-- how far apart the ends of a query may lie
abbrev pub query_width : Kind → ℤ → ℤ → ℤ → ℕ
query_width kind age year term = width_of (rule_of kind) (nat_abs age) (nat_abs (span_of (rule_of kind) year term))

-- the exact value of a query rounds to n steps
abbrev pub RoundsAt : Params → Kind → ℤ → ℤ → ℤ → ℕ → Type 0
RoundsAt p kind age year term n = RoundsTo billionths (step kind) n (exact_query p kind age year term)

-- "Demand 3 is one claim over any two accepted quotes of one kind": what is promised of a by itself, and of any second quote of
-- the kind that is printed, whichever its set, age, year, term and rate, the figures are equal exactly when the two exact values
-- round to one same step
pub record Demand3 (p : Params) (kind : Kind) (age year term : ℤ) (a : Answer) : Type 0 where
  pub alone : Promised (refusal_of p kind age year term) (query_ends p kind age year term) (exact_query p kind age year term)
      (step kind) (query_width kind age year term) a
  pub one-step : (n : ℕ) → figure_shown a ≡ printed n
      → (p' : Params) (kind' : Kind) (age' year' term' : ℤ) (n' : ℕ) → OneKind kind kind'
      → figure_shown (answer_of p' kind' age' year' term') ≡ printed n'
      → (n ≡ n') ↔ OneStep billionths (step kind) (exact_query p kind age year term) (exact_query p' kind' age' year' term')
