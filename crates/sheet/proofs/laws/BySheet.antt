-- What is answered by a sheet that was read, in the two cases of its refusal's number.
use Rattle.std.specs.Prelude.{◌≡◌, List, ℕ}
use Rattle.std.proofs.Common.{ap, ◌∙◌}
use borrow.Author.Tests.{ne_eqb}
use Rattle.set_params.specs.declared.Params.{Params}
use Rattle.set_refusal.specs.declared.Refusal.{Refusal}
use Rattle.set_refusal.specs.Refusals.{refusal_number}
use Rattle.sheet.specs.declared.Reading.{Reading}
use Rattle.sheet.specs.Sheet.{read_sheet, by_sheet}

module _ {A : Type 0} (refuse : Refusal → A) (answer : Params → A) (sheet : List ℕ) {got : Reading} (r : got ≡ read_sheet sheet)
    {number : ℕ} (n : number ≡ refusal_number got.refusal) where
  of-read : by_sheet refuse answer got ≡ by_sheet refuse answer (read_sheet sheet)
  of-read = ap (by_sheet refuse answer) r

  pub sheet-refused : (number ≡ 0 → ⊥) → refuse got.refusal ≡ by_sheet refuse answer (read_sheet sheet)
  unfolding by_sheet
  sheet-refused h = rw (← of-read, ← n, ne_eqb number 0 h)

  pub sheet-given : number ≡ 0 → {a : A} → a ≡ answer got.set → a ≡ by_sheet refuse answer (read_sheet sheet)
  unfolding by_sheet
  sheet-given h q = q ∙ rw (← of-read, ← n, h)
