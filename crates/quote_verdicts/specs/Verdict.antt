-- The verdict on a published column of q for one year (paper 02, E3): "We need a verdict on whoever's column it is." A column
-- that was read is its 121 entries by age, each a number of steps of 0.00001. And what it says of the exact values.
use Rattle.std.specs.Prelude.{Bool, true, false, cond, not, ◌||◌, List, [], ◌∷◌, ℕ, zero, suc, ◌<◌, eqb, ℤ, pos, get_or, Result, Ok, Err}
use Rattle.text_tokens.specs.Text.{bytes_of, Parse, malformed, taken, is_taken}
use Rattle.number_exponential.specs.Units.{billionths}
use Rattle.set_params.specs.declared.Params.{Params}
use Rattle.set_refusal.specs.declared.Refusal.{Refusal}
use Rattle.set_refusal.specs.declared.Refusal.TheVariants.{OutOfLimits, NoSuchYear, LogForceOutOfRange, MalformedColumn}
use Rattle.set_refusal.specs.Refusals.{refusal_number}
use Rattle.set_limits.specs.InLimits.{in_limits}
use Rattle.set_params.specs.Set.{year_number}
use Rattle.model_closure.specs.Weights.{last_closed}
use Rattle.quote_paths.specs.Path.{Place, path_of, path_in_range}
use Rattle.quote_kinds.specs.declared.Kind.TheVariants.{Death}
use Rattle.quote_kinds.specs.Kinds.{rule_of}
use Rattle.quote_table_tests.specs.TableTests.{year_in_table, first_failed, Test}
use Rattle.quote.specs.Quote.{answer_of}
use Rattle.quote.specs.Demand.{Shown, printed, marked_open, no_figure, figure_shown, RoundsAt}
use Rattle.quote_verdicts.specs.declared.Verdict.{Verdict}
use Rattle.quote_verdicts.specs.declared.Verdict.TheVariants.{Right, Wrong, Open}

-- each case's word
unfoldable pub verdict_word : Verdict → List ℕ
verdict_word Right = bytes_of "right"
verdict_word Wrong = bytes_of "wrong"
verdict_word Open = bytes_of "open"

-- ---- the verdict

-- ages 0 to 120
abbrev pub column_ages : ℕ
column_ages = suc last_closed

-- the figure of age x here: that of `q` in the column's year
unfoldable pub figure_here : Params → ℤ → ℕ → Shown
figure_here p year x = figure_shown (answer_of p Death (pos x) year (pos 0))

-- the column's entry of age x
unfoldable pub entry_at : List ℕ → ℕ → ℕ
entry_at column x = get_or column x 0

-- "a printed figure here differs" from an entry
unfoldable pub differs : Shown → ℕ → Bool
differs (printed n) entry = not (eqb n entry)
differs marked_open entry = false
differs no_figure entry = false

-- a figure "is open here"
unfoldable pub is_open : Shown → Bool
is_open (printed n) = false
is_open marked_open = true
is_open no_figure = false

-- some of the ages below n
unfoldable pub some_below : ℕ → (ℕ → Bool) → Bool
some_below zero test = false
some_below (suc n) test = some_below n test || test n

-- "Wrong, if some age with a printed figure here differs; else open, if some age is open here; else right": of the ages below n,
-- by their figures and entries
unfoldable pub verdict_to : (ℕ → Shown) → (ℕ → ℕ) → ℕ → Verdict
verdict_to figure entry n =
    cond (some_below n (λ (x : ℕ). differs (figure x) (entry x))) Wrong
    (cond (some_below n (λ (x : ℕ). is_open (figure x))) Open Right)

unfoldable pub verdict_of : Params → ℤ → List ℕ → Verdict
verdict_of p year column = verdict_to (figure_here p year) (entry_at column) column_ages

-- ---- what is answered

-- the cells of ages 0 to 120 in a year
unfoldable pub year_cells : ℤ → ℤ → List Place
year_cells start year = path_of false 0 (year_number start year) column_ages

-- "9 torn column, .. after 2 and before 4 and 6": the years are those of `q`, and 6 is given where a cell that some age needs is
-- out of range
unfoldable pub column_tests : Params → ℤ → Parse (List ℕ) → List Test
column_tests p year read =
    record { passed = in_limits p; refusal = OutOfLimits } ∷
    record { passed = is_taken read; refusal = MalformedColumn } ∷
    record { passed = year_in_table p.start (rule_of Death) year; refusal = NoSuchYear } ∷
    record { passed = path_in_range billionths p (year_cells p.start year); refusal = LogForceOutOfRange } ∷ []

unfoldable pub column_refusal : Params → ℤ → Parse (List ℕ) → Refusal
column_refusal p year read = first_failed (column_tests p year read)

-- the entries that were read
unfoldable pub entries_in : Parse (List ℕ) → List ℕ
entries_in malformed = []
entries_in (taken column rest) = column

-- a verdict, or the refusal
abbrev pub Judged : Type 0
Judged = Result Verdict Refusal

-- a verdict where nothing is refused
unfoldable pub judged_by : Refusal → Verdict → Judged
judged_by r v = cond (eqb (refusal_number r) 0) (Ok v) (Err r)

unfoldable pub judged : Params → ℤ → Parse (List ℕ) → Judged
judged p year read = judged_by (column_refusal p year read) (verdict_of p year (entries_in read))

-- ---- what it says of the exact values: "Right is returned only for a column whose every entry is the rounded exact value, wrong
-- only for one with an entry that isn't."

-- the entry of age x is the exact value of `q` at that age and in that year, rounded half up
abbrev pub Rounded : Params → ℤ → List ℕ → ℕ → Type 0
Rounded p year column x = RoundsAt p Death (pos x) year (pos 0) (entry_at column x)

-- every entry is
abbrev pub EachRounded : Params → ℤ → List ℕ → Type 0
EachRounded p year column = (x : ℕ) → x < column_ages → Rounded p year column x

-- some entry isn't
pub record SomeOther (p : Params) (year : ℤ) (column : List ℕ) : Type 0 where
  pub age : ℕ
  pub in-column : age < column_ages
  pub other : Rounded p year column age → ⊥
