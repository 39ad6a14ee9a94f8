-- A query of a sheet, with a rate, a date or neither: its answer, the answer's number, and the five numbers in which a quote is told.
use Rattle.std.specs.Prelude.{cond, ◌||◌, List, [], ◌∷◌, ◌++◌, ℕ, leb, ℤ, length, drop, Ok, Err}
use Rattle.text_tokens.specs.Text.{Parse, malformed, taken, and_then}
use Rattle.set_refusal.specs.declared.Refusal.TheVariants.{Accepted, Malformed, BufferTooShort}
use Rattle.set_refusal.specs.Refusals.{refusal_number}
use Rattle.sheet.specs.declared.Reading.{Reading}
use Rattle.sheet.specs.Sheet.{read_sheet, by_sheet}
use Rattle.number_exponential.specs.declared.GridUnit.{GridUnit}
use Rattle.number_exponential.specs.declared.GridUnit.TheVariants.{Coarse, Fine}
use Rattle.number_exact.specs.declared.Figure.{Figure}
use Rattle.number_exact.specs.declared.Figure.TheVariants.{Printed, Open}
use Rattle.quote_kinds.specs.declared.Kind.{Kind}
use Rattle.quote_along.specs.declared.Quote.{Quote}
use Rattle.quote_along.specs.QuoteBy.{Answer}
use Rattle.quote.specs.Quote.{answer_of}
use Rattle.quote_kinds.specs.Kinds.{rule_of, takes_rate, with_rate}
use Rattle.run_query.specs.Query.{word_of, on_offer, whole_word}

-- ---- the kind

-- the kind of a word, rates aside, and malformed where the word is no kind's or goes on
unfoldable pub word_kind : List ℕ → Parse Kind
word_kind word = whole_word word_of on_offer word

-- as in a query line, an annuity's word without a rate and another kind's with one are malformed, and so is the word of a kind
-- whose term is a date where a span is given. The kind of a word with a span and no rate, and with a rate
unfoldable pub kind_of : List ℕ → Parse Kind
kind_of word = and_then (word_kind word) (λ kind rest. cond (takes_rate kind || (rule_of kind).dated) malformed (taken kind rest))

unfoldable pub rated_kind_of : List ℕ → ℤ → Parse Kind
rated_kind_of word rate = and_then (word_kind word) (λ kind rest. cond (takes_rate kind) (taken (with_rate kind rate) rest) malformed)

-- ---- the answer

-- malformed, which has the lowest number; else the sheet's refusal; else the answer of its set
unfoldable pub answer_to : Parse Kind → Reading → ℤ → ℤ → ℤ → Answer
answer_to malformed got age year term = Err Malformed
answer_to (taken kind rest) got age year term = by_sheet Err (λ p. answer_of p kind age year term) got

-- the answer to a query of a sheet's bytes, by the kind that was read
unfoldable pub sheet_answer : List ℕ → Parse Kind → ℤ → ℤ → ℤ → Answer
sheet_answer sheet kind age year term = answer_to kind (read_sheet sheet) age year term

-- ---- a quote as five numbers: its ends, whether its figure is printed, the figure's steps, and the ends' unit

abbrev pub quote_length : ℕ
quote_length = 5

unfoldable pub printed_number : Figure → ℕ
printed_number (Printed n) = 1
printed_number Open = 0

unfoldable pub steps_number : Figure → ℕ
steps_number (Printed n) = n
steps_number Open = 0

-- n of a unit of 10^-n
unfoldable pub unit_number : GridUnit → ℕ
unit_number Coarse = 9
unit_number Fine = 13

unfoldable pub quote_numbers : Quote → List ℕ
quote_numbers q = q.lower ∷ q.upper ∷ printed_number q.figure ∷ steps_number q.figure ∷ unit_number q.unit ∷ []

-- the numbers with a quote's in their first places
unfoldable pub quote_over : Quote → List ℕ → List ℕ
quote_over q before = quote_numbers q ++ drop quote_length before

-- ---- what a call gives, and the numbers after it

-- of a quote: short where there are too few places, and then the numbers as they were
unfoldable pub quoted_no : ℕ → ℕ
quoted_no places = refusal_number (cond (leb quote_length places) Accepted BufferTooShort)

unfoldable pub quoted_after : Quote → List ℕ → List ℕ
quoted_after q before = cond (leb quote_length (length before)) (quote_over q before) before

-- of any answer: a refusal's number comes before short, and then "untouched buffers"
unfoldable pub quote_no : Answer → ℕ → ℕ
quote_no (Ok q) places = quoted_no places
quote_no (Err r) places = refusal_number r

unfoldable pub quote_after : Answer → List ℕ → List ℕ
quote_after (Ok q) before = quoted_after q before
quote_after (Err r) before = before
