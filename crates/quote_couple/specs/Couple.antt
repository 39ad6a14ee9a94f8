-- The quote of a couple (paper 02, E8): "two lives, each with its own sheet, age and one common quote year". Its refusal, and else
-- its ends and figure; and what is promised of it.
use Rattle.std.specs.Prelude.{◌≡◌, ◌↔◌, Bool, ◌&&◌, List, [], ◌∷◌, ◌++◌, ℕ, ℤ, nat_abs}
use Rattle.std.specs.Int.Signed.{le_z}
use Rattle.number_exponential.specs.declared.Ends.{Ends}
use Rattle.number_exponential.specs.Units.{billionths, grid_of}
use Rattle.number_exponential.specs.declared.GridUnit.{GridUnit}
use Rattle.number_exact.specs.Value.{Exact, OneStep}
use Rattle.set_params.specs.declared.Params.{Params}
use Rattle.set_refusal.specs.declared.Refusal.{Refusal}
use Rattle.set_refusal.specs.declared.Refusal.TheVariants.{OutOfLimits, NoSuchAge, NoSuchYear, NoSuchSpan, LogForceOutOfRange, StartsDiffer}
use Rattle.set_limits.specs.InLimits.{in_limits}
use Rattle.quote_paths.specs.Path.{Place, factors, order_factors, path_in_range}
use Rattle.quote_kinds.specs.declared.Rule.{Rule}
use Rattle.quote_kinds.specs.Kinds.{rule_of, step_of}
use Rattle.quote_couple_kinds.specs.declared.CoupleKind.{CoupleKind}
use Rattle.quote_couple_kinds.specs.CoupleKinds.{single_of, couple_width}
use Rattle.quote_two_lives.specs.TwoLives.{couple_over}
use Rattle.quote_two_lives.specs.Exact.{order_couple_over}
use Rattle.quote_table_tests.specs.TableTests.{Test, age_in_table, year_in_table, span_in_table, first_failed}
use Rattle.quote_along.specs.QuoteBy.{Answer, quote_by}
use Rattle.quote.specs.Quote.{query_path, answer_by}
use Rattle.quote.specs.Demand.{printed, figure_shown, Promised}

-- ---- the paths, the ends and the exact value

-- a life's path, "along the cohort": that of the single life's kind
abbrev pub life_path : Params → CoupleKind → ℤ → ℤ → ℤ → List Place
life_path p k age year span = query_path p.start (single_of k) age year span

unfoldable pub couple_ends : Params → Params → CoupleKind → ℤ → ℤ → ℤ → ℤ → GridUnit → Ends
couple_ends p p' k age age' year span u =
    let g = grid_of u in
    couple_over k g (factors g p (life_path p k age year span)) (factors g p' (life_path p' k age' year span))

-- "the same formula over the two lives' exact survivals"
unfoldable pub exact_couple : Params → Params → CoupleKind → ℤ → ℤ → ℤ → ℤ → Exact
exact_couple p p' k age age' year span =
    λ (j : ℕ). order_couple_over k (order_factors p (life_path p k age year span) j) (order_factors p' (life_path p' k age' year span) j)

-- ---- the refusal

-- "starts differ"
unfoldable pub same_start : Params → Params → Bool
same_start p p' = le_z p.start p'.start && le_z p'.start p.start

-- a test, and the refusal where it fails
abbrev pub test : Bool → Refusal → Test
test b r = record { passed = b; refusal = r }

-- the table's tests of two ages in one year, which is both lives' where the starts are the same: "Spans run to the smaller limit of
-- the two", so that each life's limit is tried
unfoldable pub couple_table : ℤ → Rule → ℤ → ℤ → ℤ → ℤ → List Test
couple_table start rule age age' year span =
    test (age_in_table age) NoSuchAge ∷ test (age_in_table age') NoSuchAge ∷ test (year_in_table start rule year) NoSuchYear
    ∷ test (span_in_table rule age year span) NoSuchSpan ∷ test (span_in_table rule age' year span) NoSuchSpan ∷ []

-- "Each number is tried on the first life, then the second, before the next number. Answers: 11 starts differ, after 2 and ahead
-- of any age."
unfoldable pub couple_refusal : Params → Params → CoupleKind → ℤ → ℤ → ℤ → ℤ → Refusal
couple_refusal p p' k age age' year span =
    first_failed
    (test (in_limits p) OutOfLimits ∷ test (in_limits p') OutOfLimits ∷ test (same_start p p') StartsDiffer
    ∷ couple_table p.start (rule_of (single_of k)) age age' year span
    ++ (test (path_in_range billionths p (life_path p k age year span)) LogForceOutOfRange
    ∷ test (path_in_range billionths p' (life_path p' k age' year span)) LogForceOutOfRange ∷ []))

-- ---- the answer

-- units in a step of a kind's figures: "Steps are those of the single life."
abbrev pub couple_step : CoupleKind → ℕ
couple_step k = step_of (rule_of (single_of k)).fold

-- the answer to a query of two lives: the two sets, the kind, the two ages, the year and the span
unfoldable pub couple_answer : Params → Params → CoupleKind → ℤ → ℤ → ℤ → ℤ → Answer
couple_answer p p' k age age' year span =
    answer_by (couple_refusal p p' k age age' year span) (quote_by (couple_step k) (couple_ends p p' k age age' year span))

-- ---- what is promised of it (paper 01, "The exact value"; paper 02, E8: "Ends may be twice as wide as for one life, in demand 3
-- too")

-- demand 3 of a couple: what is promised of a by itself, and of any second couple's quote of the kind that is printed, whichever
-- its sets, ages, year and span, the figures are equal exactly when the two exact values round to one same step
pub record CoupleDemand3 (p p' : Params) (k : CoupleKind) (age age' year span : ℤ) (a : Answer) : Type 0 where
  pub alone : Promised (couple_refusal p p' k age age' year span) (couple_ends p p' k age age' year span)
      (exact_couple p p' k age age' year span) (couple_step k) (couple_width k (nat_abs age) (nat_abs span)) a
  pub one-step : (n : ℕ) → figure_shown a ≡ printed n
      → (q q' : Params) (x x' y s : ℤ) (m : ℕ) → figure_shown (couple_answer q q' k x x' y s) ≡ printed m
      → (n ≡ m) ↔ OneStep billionths (couple_step k) (exact_couple p p' k age age' year span) (exact_couple q q' k x x' y s)
