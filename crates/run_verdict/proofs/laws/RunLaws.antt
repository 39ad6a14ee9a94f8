-- What is printed of an input: by its year's line and its sheet, and how long it is.
use Rattle.std.specs.Prelude.{◌≡◌, refl, Bool, true, false, cond, List, ℕ, ◌≤◌, eqb, ℤ, length, drop}
use Rattle.std.proofs.Common.{◌∙◌, arith, eq-eqb, ne_eqb}
use Rattle.text_tokens.specs.Text.{Parse, malformed, taken}
use Rattle.set_refusal.specs.declared.Refusal.TheVariants.{Malformed}
use Rattle.set_refusal.specs.Refusals.{refusal_number}
use Rattle.run_answer_text.specs.AnswerText.{refusal_line}
use Rattle.run_answer_text.proofs.laws.Lengths.{refusal-length}
use Rattle.run_sheets.specs.declared.Front.{Front}
use Rattle.run_sheets.specs.declared.Sheets.TheVariants.{One}
use Rattle.run_sheets.specs.Front.{front_of}
use Rattle.run_column_verdict.specs.ColumnVerdict.{column_verdict}
use Rattle.run_verdict_text.specs.VerdictText.{verdict_line, most_verdict}
use Rattle.run_verdict_text.proofs.laws.Lengths.{line-most}
use Rattle.run_verdict.specs.VerdictRun.{read_year, line_by, verdict_by, verdict_run}

-- ---- by the year's line and the sheet

module _ (f : Front) (input : List ℕ) where
  by-malformed : read_year (drop f.next input) ≡ malformed → verdict_by f input ≡ refusal_line Malformed
  unfolding verdict_by
  by-malformed e = rw (e, verdict_by)

  by-year : {year : ℤ} {column : List ℕ} → read_year (drop f.next input) ≡ taken year column
      → verdict_by f input ≡ line_by f year column
  unfolding verdict_by
  by-year e = rw (e, verdict_by)

module _ (input : List ℕ) {f : Front} (s : f ≡ front_of One input) where
  run_by : verdict_run input ≡ verdict_by f input
  unfolding verdict_run
  run_by = rw s

  pub run-malformed : read_year (drop f.next input) ≡ malformed → verdict_run input ≡ refusal_line Malformed
  run-malformed e = run_by ∙ by-malformed f input e

  module _ {year : ℤ} {column : List ℕ} (e : read_year (drop f.next input) ≡ taken year column) where
    pub run-refused : (refusal_number f.refusal ≡ 0 → ⊥) → verdict_run input ≡ refusal_line f.refusal
    unfolding line_by
    run-refused n = run_by ∙ by-year f input e ∙ rw (ne_eqb (refusal_number f.refusal) 0 n)

    pub run-judged : refusal_number f.refusal ≡ 0
        → verdict_run input ≡ verdict_line year (column_verdict f.first year column)
    unfolding line_by
    run-judged n = run_by ∙ by-year f input e ∙ rw (eq-eqb (refusal_number f.refusal) 0 n)

-- ---- how long it is

line-by-most : (f : Front) (year : ℤ) (column : List ℕ) → length (line_by f year column) ≤ most_verdict
unfolding line_by
line-by-most f year column = go (eqb (refusal_number f.refusal) 0)
  where
    go : (b : Bool)
        → length (cond b (verdict_line year (column_verdict f.first year column)) (refusal_line f.refusal)) ≤ most_verdict
    go true = line-most year (column_verdict f.first year column)
    go false = omega (arith, refusal-length f.refusal)

by_most : (f : Front) (input : List ℕ) → length (verdict_by f input) ≤ most_verdict
by_most f input = go (read_year (drop f.next input)) refl
  where
    go : (q : Parse ℤ) → read_year (drop f.next input) ≡ q → length (verdict_by f input) ≤ most_verdict
    go malformed e = rw (by-malformed f input e) (omega (arith, refusal-length Malformed))
    go (taken year column) e = rw (by-year f input e) (line-by-most f year column)

pub run-most : (input : List ℕ) → length (verdict_run input) ≤ most_verdict
unfolding verdict_run
run-most input = by_most (front_of One input) input
