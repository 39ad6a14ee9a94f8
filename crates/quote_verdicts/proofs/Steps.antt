-- What the proofs of a column's answer share: the answer by its tests, in their order.
use Rattle.std.specs.Prelude.{Ok, Err, Option, None, Some}
use mathlib.Core.Path.{◌≡◌, refl, ap, ◌∙◌}
use mathlib.Core.Bool.{Bool, true, false, cond}
use mathlib.Core.List.{List, []}
use Prim.Native.Nat.{ℕ}
use lib.Dec.{T}
use lib.Ieee.Bits.{is_true}
use lib.IntN.{ℤ, pos}
use lib.ListN.{take}
use Rattle.text_tokens.specs.Text.{Parse, taken}
use Rattle.number_exponential.specs.Units.{billionths}
use Rattle.number_exponential.specs.declared.Ends.{Ends}
use Rattle.set_params.specs.declared.Params.{Params}
use Rattle.set_refusal.specs.declared.Refusal.{Refusal}
use Rattle.set_refusal.specs.declared.Refusal.TheVariants.{Accepted, OutOfLimits, NoSuchYear, LogForceOutOfRange, MalformedColumn}
use Rattle.set_limits.specs.InLimits.{in_limits}
use Rattle.set_refusal.specs.Refusals.{refusal_number}
use Rattle.quote_paths.specs.Path.{factors, path_in_range}
use Rattle.quote_kinds.specs.declared.Kind.TheVariants.{Death}
use Rattle.quote_kinds.specs.Kinds.{rule_of, most_span, longest_span, span_of, rate_of}
use Rattle.quote_table_tests.specs.TableTests.{age_in_table, year_in_table, date_in_table, span_in_table, rate_in_table, first_failed, table_tests}
use Rattle.quote_verdicts.specs.declared.Verdict.{Verdict}
use Rattle.quote_verdicts.specs.Verdict.{Judged}
use Rattle.quote_verdicts.specs.Verdict.{
  column_ages,
  entry_at,
  verdict_to,
  verdict_of,
  year_cells,
  column_tests,
  column_refusal,
  entries_in,
  judged_by,
  judged,
}
use Rattle.quote_verdicts.specs.code.Code.{column_read, figure_kept, Honest}
use Rattle.quote_verdicts.proofs.laws.VerdictLaws.{verdict-same}
use Rattle.quote_verdicts.proofs.laws.Figures.{figures-kept}
use Rattle.quote_verdicts.proofs.laws.Theorem.{verdict-honest}

-- a set out of its limits
pub out-of-limits : (p : Params) (year : ℤ) (read : Parse (List ℕ)) → in_limits p ≡ false → Err OutOfLimits ≡ judged p year read
unfolding judged column_refusal column_tests first_failed judged_by refusal_number
out-of-limits p year read e = rw e

-- a malformed column
pub malformed-column : (p : Params) (year : ℤ) {column : Option (List ℕ)} → T (in_limits p) → column ≡ None
    → Err MalformedColumn ≡ judged p year (column_read column)
unfolding judged column_refusal column_tests first_failed judged_by refusal_number column_read
malformed-column p year t e = rw (is_true (in_limits p) t, e)

-- an answer of a whole column is the definition's, and honest
pub answered : (p : Params) (year : ℤ) {column : Option (List ℕ)} {entries : List ℕ} {r : Judged} → column ≡ Some entries
    → r ≡ judged p year (taken entries [])
    → (r ≡ judged p year (column_read column)) × Honest p year (entries_in (column_read column)) r
unfolding column_read
answered p year {entries = entries} w e = rw w (e, rw e (verdict-honest p year (taken entries [])))

-- of age 0 the table tests the year alone
year-tested : (start year : ℤ) → first_failed (table_tests start (rule_of Death) (pos 0) year (pos 0))
    ≡ cond (year_in_table start (rule_of Death) year) Accepted NoSuchYear
unfolding first_failed table_tests age_in_table date_in_table span_in_table rate_in_table rule_of most_span longest_span span_of rate_of
year-tested start year = refl

module _ (p : Params) (year : ℤ) (column : List ℕ) (t : T (in_limits p)) where
  -- a year that is none of `q`
  pub year-out : {r : Refusal} → r ≡ first_failed (table_tests p.start (rule_of Death) (pos 0) year (pos 0)) → (refusal_number r ≡ 0 → ⊥)
      → Err r ≡ judged p year (taken column [])
  unfolding judged column_refusal column_tests first_failed judged_by refusal_number
  year-out {r} e n = go (year_in_table p.start (rule_of Death) year) refl (e ∙ year-tested p.start year)
    where
      go : (b : Bool) → year_in_table p.start (rule_of Death) year ≡ b → r ≡ cond b Accepted NoSuchYear
          → Err r ≡ judged p year (taken column [])
      go true q f = absurd (n (ap refusal_number f))
      go false q f = rw (f, is_true (in_limits p) t, q)

  module _ (y : T (year_in_table p.start (rule_of Death) year)) where
    -- a cell out of range
    pub cell_out : path_in_range billionths p (year_cells p.start year) ≡ false → Err LogForceOutOfRange ≡ judged p year (taken column [])
    unfolding judged column_refusal column_tests first_failed judged_by refusal_number
    cell_out e = rw (is_true (in_limits p) t, is_true (year_in_table p.start (rule_of Death) year) y, e)

    -- the verdict by the factors of the year's cells
    pub verdict-by : (es : List Ends) {v : Verdict} → T (path_in_range billionths p (year_cells p.start year))
        → take column_ages es ≡ factors billionths p (year_cells p.start year)
        → v ≡ verdict_to (figure_kept p year es) (entry_at column) column_ages → Ok v ≡ judged p year (taken column [])
    unfolding judged column_refusal column_tests first_failed judged_by refusal_number verdict_of entries_in
    verdict-by es r f e =
        rw (is_true (in_limits p) t, is_true (year_in_table p.start (rule_of Death) year) y, is_true (path_in_range billionths p (year_cells p.start year)) r)
        (ap Ok
        (e ∙ verdict-same (figure_kept p year es) _ (entry_at column) column_ages
        (figures-kept es (record { limits = t; year-in = y; range = r }) f)))
