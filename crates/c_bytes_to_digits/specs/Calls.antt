-- A query of a sheet's bytes by the C interface: what a call is given, what its contract says that it gives, and the exact value
-- that it asks for.
use Rattle.std.specs.Prelude.{◌≡◌, Bool, true, false, List, [], ℕ, ℤ, length, get_or}
use Rattle.text_tokens.specs.Text.{Parse, malformed, taken}
use Rattle.number_exponential.specs.Units.{billionths}
use Rattle.set_params.specs.declared.Params.{Params}
use Rattle.sheet.specs.Sheet.{read_sheet}
use Rattle.number_exact.specs.Value.{Exact, OneStep}
use Rattle.quote_kinds.specs.declared.Kind.{Kind}
use Rattle.quote_kinds.specs.declared.Kind.TheVariants as kind
use Rattle.quote_along.specs.QuoteBy.{Answer}
use Rattle.quote.specs.Quote.{exact_query}
use Rattle.quote.specs.Demand.{step}
use Rattle.c_sheet_quote.specs.SheetQuote.{kind_of, rated_kind_of, sheet_answer, quote_no, quote_after}
use Rattle.c_bytes_to_digits.specs.declared.Call.{Call}
use Rattle.c_bytes_to_digits.specs.declared.Call.TheVariants.{Quote, Annuity, Day}

-- what a call is given: `kulfizan_day` takes no word
pub record Asked : Type 0 where
  pub sheet : List ℕ
  pub word : List ℕ
  pub age : ℤ
  pub year : ℤ
  pub term : ℤ
  pub call : Call

abbrev pub asked : List ℕ → List ℕ → ℤ → ℤ → ℤ → Call → Asked
asked sheet word age year term call =
    record { sheet = sheet; word = word; age = age; year = year; term = term; call = call }

unfoldable pub takes_word : Call → Bool
takes_word Quote = true
takes_word (Annuity rate) = true
takes_word Day = false

-- the kind that is read: of the word alone by `kulfizan_quote`, of the word and a rate by `kulfizan_annuity`
unfoldable pub kind_in : List ℕ → Call → Parse Kind
kind_in word Quote = kind_of word
kind_in word (Annuity rate) = rated_kind_of word rate
kind_in word Day = taken kind.Day []

-- its answer
unfoldable pub answer_in : Asked → Answer
answer_in q = sheet_answer q.sheet (kind_in q.word q.call) q.age q.year q.term

-- the contract of the three calls: the number that is given, and the numbers that were lent as they are after the call
pub record Called (q : Asked) (before : List ℕ) (number : ℕ) (after : List ℕ) : Type 0 where
  pub gives : number ≡ quote_no (answer_in q) (length before)
  pub leaves : after ≡ quote_after (answer_in q) before

-- the call gives 0 and its figure is printed, which is the third number; its steps are the fourth
pub record Prints (number : ℕ) (after : List ℕ) : Type 0 where
  pub accepted : number ≡ 0
  pub printed : get_or after 2 0 ≡ 1

abbrev pub steps_in : List ℕ → ℕ
steps_in after = get_or after 3 0

-- the set that the bytes are read as
abbrev pub set_read : Asked → Params
set_read q = (read_sheet q.sheet).set

-- the kind that was read; a word that is no kind's has none, and its call gives 1
unfoldable pub kind_taken : Parse Kind → Kind
kind_taken malformed = kind.Death
kind_taken (taken kind rest) = kind

-- the kind that is asked for
abbrev pub kind_asked : Asked → Kind
kind_asked q = kind_taken (kind_in q.word q.call)

-- the exact value of that set and kind at the age, year and term
abbrev pub exact_asked : Asked → Exact
exact_asked q = exact_query (set_read q) (kind_asked q) q.age q.year q.term

-- the exact values that two calls of one kind ask for round half up to one step
abbrev pub RoundAlike : Asked → Asked → Type 0
RoundAlike q q' = OneStep billionths (step (kind_asked q)) (exact_asked q) (exact_asked q')
