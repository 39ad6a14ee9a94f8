-- What a query of a sheet is answered, and what stands in the numbers after, in each case.
use Rattle.std.specs.Prelude.{Option, None, Some, ◌≡◌, true, false, List, [], ◌∷◌, ℕ, ◌≤◌, ◌<◌, ℤ, length, set, Ok, Err}
use Rattle.std.proofs.Math.Path.{refl, ap}
use Rattle.std.proofs.Common.{◌∙◌}
use borrow.Author.Tests.{le-leb, lt-leb}
use Rattle.std.proofs.lemmas.List.Edits.{sets-eq}
use Rattle.text_tokens.specs.Text.{Parse, malformed, taken}
use Rattle.text_tokens.specs.laws.Steps.{goes, stops}
use Rattle.set_refusal.specs.declared.Refusal.{Refusal}
use Rattle.set_refusal.specs.declared.Refusal.TheVariants.{Accepted, Malformed, BufferTooShort}
use Rattle.set_refusal.specs.Refusals.{refusal_number}
use Rattle.sheet.specs.declared.Reading.{Reading}
use Rattle.sheet.specs.Sheet.{read_sheet}
use Rattle.sheet.proofs.laws.BySheet.{sheet-refused, sheet-given}
use Rattle.quote_kinds.specs.declared.Kind.{Kind}
use Rattle.quote_along.specs.declared.Quote.{Quote}
use Rattle.quote_along.specs.QuoteBy.{Answer}
use Rattle.quote.specs.Quote.{answer_of}
use Rattle.quote_kinds.specs.Kinds.{rule_of, takes_rate, with_rate}
use Rattle.c_sheet_quote.specs.SheetQuote.{word_kind, kind_of, rated_kind_of, answer_to, sheet_answer}
use Rattle.c_sheet_quote.specs.SheetQuote.{quote_length, printed_number, steps_number, unit_number, quote_numbers, quote_over}
use Rattle.c_sheet_quote.specs.SheetQuote.{quoted_no, quoted_after, quote_no, quote_after}
use Rattle.run_query.specs.code.Code.{kind_read}

-- ---- the kind of a word

module _ (word : List ℕ) where
  -- with a span and no rate, and with a rate
  pub kind-malformed : word_kind word ≡ malformed → kind_of word ≡ malformed
  unfolding kind_of
  kind-malformed e = stops _ e

  pub rated-kind-malformed : (rate : ℤ) → word_kind word ≡ malformed → rated_kind_of word rate ≡ malformed
  unfolding rated_kind_of
  rated-kind-malformed rate e = stops _ e

  module _ {kind : Kind} {rest : List ℕ} (e : word_kind word ≡ taken kind rest) where
    pub rate-wanting : takes_rate kind ≡ true → kind_of word ≡ malformed
    unfolding kind_of
    rate-wanting t = goes _ e ∙ rw t

    module _ (t : takes_rate kind ≡ false) where
      pub date-wanting : (rule_of kind).dated ≡ true → kind_of word ≡ malformed
      unfolding kind_of
      date-wanting d = goes _ e ∙ rw (t, d)

      pub span-given : (rule_of kind).dated ≡ false → kind_of word ≡ taken kind rest
      unfolding kind_of
      span-given d = goes _ e ∙ rw (t, d)

    pub rate-unasked : (rate : ℤ) → takes_rate kind ≡ false → rated_kind_of word rate ≡ malformed
    unfolding rated_kind_of
    rate-unasked rate t = goes _ e ∙ rw t

    pub rate-given : (rate : ℤ) → takes_rate kind ≡ true → rated_kind_of word rate ≡ taken (with_rate kind rate) rest
    unfolding rated_kind_of
    rate-given rate t = goes _ e ∙ rw t

-- ---- the answer

module _ (sheet : List ℕ) (age year term : ℤ) where
  -- of a malformed kind, and of one that was read, whatever follows it
  module _ {k : Parse Kind} where
    pub answer-malformed : k ≡ malformed → sheet_answer sheet k age year term ≡ Err Malformed
    unfolding sheet_answer answer_to
    answer-malformed e = ap (λ (q : Parse Kind). answer_to q (read_sheet sheet) age year term) e

    pub answer-taken : {kind : Kind} {rest : List ℕ} → k ≡ taken kind rest
        → sheet_answer sheet k age year term ≡ sheet_answer sheet (taken kind []) age year term
    unfolding sheet_answer answer_to
    answer-taken e = ap (λ (q : Parse Kind). answer_to q (read_sheet sheet) age year term) e

  module _ (kind : Kind) {got : Reading} (r : got ≡ read_sheet sheet) {number : ℕ}
      (n : number ≡ refusal_number got.refusal) where
    pub answer-refused : (number ≡ 0 → ⊥) → Err got.refusal ≡ sheet_answer sheet (taken kind []) age year term
    unfolding sheet_answer answer_to
    answer-refused h = sheet-refused Err (λ p. answer_of p kind age year term) sheet r n h

    pub answer-given : number ≡ 0 → {a : Answer} → a ≡ answer_of got.set kind age year term
        → a ≡ sheet_answer sheet (taken kind []) age year term
    unfolding sheet_answer answer_to
    answer-given h q = sheet-given Err (λ p. answer_of p kind age year term) sheet r n h q

-- ---- the numbers

-- the number and the numbers after, of a quote and of any answer
abbrev pub PutQuote : Quote → List ℕ → ℕ → List ℕ → Type 0
PutQuote q before number after = (number ≡ quoted_no (length before)) × (after ≡ quoted_after q before)

abbrev pub PutAnswer : Answer → List ℕ → ℕ → List ℕ → Type 0
PutAnswer a before number after = (number ≡ quote_no a (length before)) × (after ≡ quote_after a before)

-- five stores in a row
pub five-put : (q : Quote) (before : List ℕ) {p s u : ℕ} → p ≡ printed_number q.figure → s ≡ steps_number q.figure
    → u ≡ unit_number q.unit → quote_length ≤ length before
    → set (set (set (set (set before 0 q.lower) 1 q.upper) 2 p) 3 s) 4 u ≡ quote_over q before
unfolding quote_over quote_numbers
five-put q before {p} {s} {u} e f g h = sets-eq (q.lower ∷ q.upper ∷ p ∷ s ∷ u ∷ []) before 0 h ∙ rw (e, f, g)

module _ (q : Quote) (before : List ℕ) {number : ℕ} where
  pub put-short : length before < quote_length → number ≡ refusal_number BufferTooShort → PutQuote q before number before
  unfolding quoted_no quoted_after
  put-short h e = let t = lt-leb quote_length (length before) h in (rw t e, rw t)

  pub put_whole : quote_length ≤ length before → number ≡ refusal_number Accepted → {after : List ℕ}
      → after ≡ quote_over q before → PutQuote q before number after
  unfolding quoted_no quoted_after
  put_whole h e k = let t = le-leb quote_length (length before) h in (rw t e, rw t k)

module _ {a : Answer} (before : List ℕ) {number : ℕ} where
  pub put-quoted : {q : Quote} → a ≡ Ok q → {after : List ℕ} → PutQuote q before number after → PutAnswer a before number after
  unfolding quote_no quote_after
  put-quoted e k = rw e k

  pub put_refused : {r : Refusal} → a ≡ Err r → number ≡ refusal_number r → PutAnswer a before number before
  unfolding quote_no quote_after
  put_refused e k = rw e (k, refl)

-- a query of a sheet, by the kind that was read
module _ (sheet : List ℕ) {k : Parse Kind} (age year term : ℤ) (before : List ℕ) {number : ℕ} where
  pub put-malformed : k ≡ malformed → number ≡ refusal_number Malformed → PutAnswer (sheet_answer sheet k age year term) before number before
  put-malformed e n = put_refused before (answer-malformed sheet age year term e) n

  pub put-taken : {kind : Kind} {rest : List ℕ} → k ≡ taken kind rest
      → {a : Answer} → a ≡ sheet_answer sheet (taken kind []) age year term
      → {after : List ℕ} → PutAnswer a before number after → PutAnswer (sheet_answer sheet k age year term) before number after
  put-taken e q put = rw (answer-taken sheet age year term e, ← q) put

-- the same by what the code read of the word, whatever follows it there
module _ (sheet word : List ℕ) (age year term : ℤ) where
  read-alone : (r : Option (Kind × ℕ)) → sheet_answer sheet (kind_read [] r) age year term ≡ sheet_answer sheet (kind_read word r) age year term
  unfolding sheet_answer answer_to
  read-alone None = refl
  read-alone (Some (kind, next)) = refl

  pub put-read : (r : Option (Kind × ℕ)) {k : Parse Kind} → kind_read word r ≡ k → (before : List ℕ) {number : ℕ} {after : List ℕ}
      → PutAnswer (sheet_answer sheet (kind_read [] r) age year term) before number after
      → PutAnswer (sheet_answer sheet k age year term) before number after
  put-read r e before put = rw (← e, ← read-alone r) put
