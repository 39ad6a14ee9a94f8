-- What is answered by a sheet that was read, and what an answer leaves behind.
use Rattle.std.specs.Prelude.{◌≡◌, List, ℕ, ℤ, Err}
use Rattle.set_refusal.specs.Refusals.{refusal_number}
use Rattle.sheet.specs.declared.Reading.{Reading}
use Rattle.sheet.specs.Sheet.{read_sheet}
use Rattle.sheet.proofs.laws.BySheet.{sheet-refused, sheet-given}
use Rattle.quote_target.specs.Target.{TargetAnswer, target_answer}
use Rattle.c_target_year.specs.SheetTarget.{sheet_target, target_no, found_after, year_after}

module _ (sheet : List ℕ) (age target : ℤ) {got : Reading} (r : got ≡ read_sheet sheet) {number : ℕ}
    (n : number ≡ refusal_number got.refusal) where
  pub target-refused : (number ≡ 0 → ⊥) → Err got.refusal ≡ sheet_target sheet age target
  unfolding sheet_target
  target-refused h = sheet-refused Err (λ p. target_answer p age target) sheet r n h

  pub target-given : number ≡ 0 → {a : TargetAnswer} → a ≡ target_answer got.set age target → a ≡ sheet_target sheet age target
  unfolding sheet_target
  target-given h q = sheet-given Err (λ p. target_answer p age target) sheet r n h q

-- the number that a call gives, and the two numbers after it
abbrev pub PutTarget : TargetAnswer → ℕ → ℤ → ℕ → ℕ → ℤ → Type 0
PutTarget a found year number found' year' = (number ≡ target_no a) × ((found' ≡ found_after a found) × (year' ≡ year_after a year))

-- of the same answer
pub put_same : {a b : TargetAnswer} (found : ℕ) (year : ℤ) → a ≡ b → {number found' : ℕ} {year' : ℤ}
    → PutTarget a found year number found' year' → PutTarget b found year number found' year'
put_same found year e put = rw (← e) put
