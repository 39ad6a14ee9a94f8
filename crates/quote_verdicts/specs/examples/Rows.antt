-- Verdicts on some figures and entries, and the order of the refusals, by computing the definitions.
use Rattle.std.specs.Prelude.{◌≡◌, refl, true, false, List, [], ◌∷◌, ℕ, ℤ, pos, get_or, replicate, Err}
use Rattle.std.specs.Float.Ieee.Bits.{is_true}
use Rattle.number_whole.specs.Listed.{listed}
use Rattle.number_whole.specs.SignedEnds.{least_product, greatest_product, outward}
use Rattle.number_whole.specs.Division.{floor_div, ceil_div}
use Rattle.text_tokens.specs.Text.{malformed, taken}
use Rattle.set_params.specs.declared.Params.{Params}
use Rattle.set_refusal.specs.declared.Refusal.TheVariants.{OutOfLimits, NoSuchYear, LogForceOutOfRange, MalformedColumn}
use Rattle.set_params.specs.declared.Table.TheVariants.{Ag2014}
use Rattle.set_params.specs.declared.Sex.TheVariants.{M}
use Rattle.set_params.specs.Set.{A, B, alpha, beta, ages, year_number}
use Rattle.set_limits.specs.InLimits.{all_below, last_start_of, constant_limit_of, table_in_limits, series_in_limits, age_in_limits, in_limits}
use Rattle.set_limits.specs.laws.LimitsLaws.{sizes-decide}
use Rattle.set_refusal.specs.Refusals.{refusal_number}
use Rattle.set_series.specs.Series.{period_in, kappa_in, kappa_step, in_grid}
use Rattle.model_log_force.specs.LogForce.{cell_force, log_force, in_range}
use Rattle.model_mortality.specs.Cell.{needed_in_range, fitted_in_range}
use Rattle.quote_paths.specs.Path.{place_at, path_of, path_in_range}
use Rattle.quote_kinds.specs.Kinds.{rule_of}
use Rattle.quote_table_tests.specs.TableTests.{year_in_table, first_failed}
use Rattle.quote.specs.Demand.{Shown, printed, marked_open, no_figure}
use Rattle.quote_verdicts.specs.declared.Verdict.{Verdict}
use Rattle.quote_verdicts.specs.declared.Verdict.TheVariants.{Right, Wrong, Open}
use Rattle.quote_verdicts.specs.Verdict.{
  entry_at,
  differs,
  is_open,
  some_below,
  verdict_to,
  year_cells,
  column_tests,
  column_refusal,
  judged_by,
  judged,
}

-- figures and entries of three ages have the verdict v
abbrev pub Row : List Shown → List ℕ → Verdict → Type 0
Row figures entries v = verdict_to (λ (x : ℕ). get_or figures x no_figure) (entry_at entries) 3 ≡ v

-- three printed figures: each entry the same, and the last or the first another; one open: the others the same, whatever stands
-- at the open one, and one before it or after it another
pub rows : Row (printed 5 ∷ printed 6 ∷ printed 7 ∷ []) (5 ∷ 6 ∷ 7 ∷ []) Right
    × Row (printed 5 ∷ printed 6 ∷ printed 7 ∷ []) (5 ∷ 6 ∷ 8 ∷ []) Wrong
    × Row (printed 5 ∷ printed 6 ∷ printed 7 ∷ []) (4 ∷ 6 ∷ 7 ∷ []) Wrong
    × Row (printed 5 ∷ marked_open ∷ printed 7 ∷ []) (5 ∷ 6 ∷ 7 ∷ []) Open
    × Row (printed 5 ∷ marked_open ∷ printed 7 ∷ []) (5 ∷ 9 ∷ 7 ∷ []) Open
    × Row (printed 5 ∷ marked_open ∷ printed 7 ∷ []) (4 ∷ 6 ∷ 7 ∷ []) Wrong
    × Row (printed 5 ∷ marked_open ∷ printed 7 ∷ []) (5 ∷ 6 ∷ 8 ∷ []) Wrong
unfolding verdict_to some_below differs is_open entry_at
rows = (refl, refl, refl, refl, refl, refl, refl)

-- ---- refusals

abbrev zeros : List ℤ
zeros = replicate ages (pos 0)

-- this a, and every other number 0: each cell is out of range
abbrev with_a : ℕ → Params
with_a a =
    record {
      table = Ag2014;
      sex = M;
      start = pos 2013;
      a = pos a;
      theta = pos 0;
      c = pos 0;
      period = pos 0;
      kappa = pos 0;
      level = zeros;
      slope = zeros;
      alpha = zeros;
      beta = zeros;
    }

-- a in its limit, and past it
past : in_limits (with_a 100000001) ≡ false
unfolding in_limits table_in_limits last_start_of constant_limit_of series_in_limits
past = refl

in-limits : (in_limits (with_a 100000000) ≡ true) × (in_limits (with_a 0) ≡ true)
unfolding all_below table_in_limits last_start_of constant_limit_of series_in_limits age_in_limits A B alpha beta
in-limits = (
  is_true (in_limits (with_a 100000000)) (sizes-decide (with_a 100000000) refl tt tt tt),
  is_true (in_limits (with_a 0)) (sizes-decide (with_a 0) refl tt tt tt),
)

-- 2 before 9, and 9 before 4: with a past its limit a malformed column in a year that is none of `q`; with a in its limit the same,
-- and then a whole column in the years before the first and after the last
pub refusals : (judged (with_a 100000001) (pos 2013) malformed ≡ Err OutOfLimits)
    × (judged (with_a 100000000) (pos 2013) malformed ≡ Err MalformedColumn)
    × (judged (with_a 100000000) (pos 2013) (taken [] []) ≡ Err NoSuchYear)
    × (judged (with_a 100000000) (pos 2185) (taken [] []) ≡ Err NoSuchYear)
unfolding judged judged_by column_refusal column_tests first_failed refusal_number year_in_table rule_of
refusals = (rw past, rw in-limits.0, rw in-limits.0, rw in-limits.0)

-- 6 in the first year and in the last
pub out_of_range : (judged (with_a 0) (pos 2014) (taken [] []) ≡ Err LogForceOutOfRange)
    × (judged (with_a 0) (pos 2184) (taken [] []) ≡ Err LogForceOutOfRange)
unfolding judged judged_by column_refusal column_tests first_failed refusal_number A B alpha beta year_in_table rule_of year_cells
    year_number path_of listed place_at path_in_range needed_in_range fitted_in_range in_range log_force cell_force period_in kappa_in kappa_step in_grid
    least_product greatest_product outward floor_div ceil_div
out_of_range = (rw in-limits.1, rw in-limits.1)
