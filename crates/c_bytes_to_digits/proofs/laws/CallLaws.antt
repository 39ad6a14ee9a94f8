-- What each call's contract says is what a call is asked.
use Rattle.std.specs.Prelude.{◌≡◌, List, ℕ, ℤ}
use Rattle.text_tokens.specs.Text.{Parse}
use Rattle.quote_kinds.specs.declared.Kind.{Kind}
use Rattle.c_sheet_quote.specs.SheetQuote.{sheet_answer}
use Rattle.c_sheet_quote.specs.laws.AnswerLaws.{PutAnswer}
use Rattle.c_bytes_to_digits.specs.declared.Call.{Call}
use Rattle.c_bytes_to_digits.specs.Calls.{asked, kind_in, answer_in, Called}

-- by the call that is made, and the kind that it reads
pub called : (sheet word : List ℕ) (age year term : ℤ) {call made : Call} → call ≡ made → (before : List ℕ) {number : ℕ} {after : List ℕ}
    → PutAnswer (sheet_answer sheet (kind_in word made) age year term) before number after
    → Called (asked sheet word age year term call) before number after
unfolding answer_in
called sheet word age year term e before k = rw e (record { gives = k.0; leaves = k.1 })
