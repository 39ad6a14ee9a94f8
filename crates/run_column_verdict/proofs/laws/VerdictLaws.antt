-- What is answered by a sheet that was read, and what an answer leaves behind.
use Rattle.std.specs.Prelude.{◌≡◌, refl, List, ℕ, ℤ, Ok, Err}
use Rattle.set_refusal.specs.declared.Refusal.{Refusal}
use Rattle.set_refusal.specs.declared.Refusal.TheVariants.{Accepted}
use Rattle.set_refusal.specs.Refusals.{refusal_number}
use Rattle.sheet.specs.declared.Reading.{Reading}
use Rattle.sheet.specs.Sheet.{read_sheet}
use Rattle.sheet.proofs.laws.BySheet.{sheet-refused, sheet-given}
use Rattle.quote_verdicts.specs.declared.Verdict.{Verdict}
use Rattle.quote_verdicts.specs.Verdict.{Judged}
use Rattle.run_column_verdict.specs.ColumnVerdict.{column_verdict, sheet_verdict, verdict_number, verdict_no, verdict_after}

module _ (sheet : List ℕ) (year : ℤ) (column : List ℕ) {got : Reading} (r : got ≡ read_sheet sheet) {number : ℕ}
    (n : number ≡ refusal_number got.refusal) where
  pub verdict-refused : (number ≡ 0 → ⊥) → Err got.refusal ≡ sheet_verdict sheet year column
  unfolding sheet_verdict
  verdict-refused h = sheet-refused Err (λ p. column_verdict p year column) sheet r n h

  pub verdict-given : number ≡ 0 → {a : Judged} → a ≡ column_verdict got.set year column → a ≡ sheet_verdict sheet year column
  unfolding sheet_verdict
  verdict-given h q = sheet-given Err (λ p. column_verdict p year column) sheet r n h q

-- the number that a call gives, and the number after it
abbrev pub PutJudged : Judged → ℕ → ℕ → ℕ → Type 0
PutJudged j before number after = (number ≡ verdict_no j) × (after ≡ verdict_after j before)

module _ {j : Judged} (before : ℕ) {number : ℕ} where
  pub put-verdict : {v : Verdict} → j ≡ Ok v → number ≡ refusal_number Accepted → {after : ℕ} → after ≡ verdict_number v
      → PutJudged j before number after
  unfolding verdict_no verdict_after
  put-verdict e n k = rw e (n, k)

  pub put_refused : {r : Refusal} → j ≡ Err r → number ≡ refusal_number r → PutJudged j before number before
  unfolding verdict_no verdict_after
  put_refused e n = rw e (n, refl)

-- of the same answer
pub put_same : {j k : Judged} (before : ℕ) → j ≡ k → {number after : ℕ} → PutJudged j before number after
    → PutJudged k before number after
put_same before e put = rw (← e) put
