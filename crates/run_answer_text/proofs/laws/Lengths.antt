-- How long what is printed after a query is.
use Rattle.std.specs.Prelude.{◌≡◌, Bool, true, false, ℕ, ◌+◌, ◌^◌, ◌≤◌, ◌<◌, length, Ok, Err}
use Rattle.std.proofs.Common.{arith, length-append}
use Rattle.text_tokens.specs.Text.{bytes_of}
use Rattle.text_tokens.specs.Number.{unsigned_text}
use Rattle.text_tokens.specs.laws.DecimalLaws.{text-small}
use Rattle.number_exponential.specs.declared.GridUnit.{GridUnit}
use Rattle.number_exponential.specs.declared.GridUnit.TheVariants.{Coarse, Fine}
use Rattle.set_refusal.specs.declared.Refusal.{Refusal}
use Rattle.set_refusal.specs.declared.Refusal.TheVariants.{Malformed}
use Rattle.set_refusal.specs.Refusals.{refusal_number}
use Rattle.set_refusal.specs.laws.RefusalLaws.{number_small}
use Rattle.quote_paths.specs.declared.Fold.{Fold}
use Rattle.quote_paths.specs.declared.Fold.TheVariants.{Death, Survival, Expectancy, Annuity}
use Rattle.quote_kinds.specs.Kinds.{decimals_of}
use Rattle.run_figure_text.specs.code.Sizes.{few_digits}
use Rattle.run_figure_text.proofs.laws.FigureTextLaws.{digits-within, shown-length}
use Rattle.quote_along.specs.declared.Quote.{Quote}
use Rattle.quote_along.specs.QuoteBy.{Answer}
use Rattle.run_answer_text.specs.AnswerText.{refusal_line, refused_text, end_digits, end_text, unit_text, ends_text, quote_text, answer_text}
use Rattle.run_answer_text.specs.code.Sizes.{Sized, SizedAnswer}

-- ---- a refusal

-- the bytes of `no=` with two digits and the line feed
abbrev pub refusal_bytes : ℕ
refusal_bytes = 6

pub refusal-length : (r : Refusal) → length (refusal_line r) ≤ refusal_bytes
unfolding refusal_line unsigned_text bytes_of
refusal-length r = simp length-append (omega (arith, digits-within 1 15 (refusal_number r) (omega (arith, number_small r))))

-- a malformed line's is shorter
pub malformed-length : length (refusal_line Malformed) ≡ 5
unfolding refusal_line refusal_number bytes_of
malformed-length = simp (text-small 1 (omega arith))

pub refused-length : (r : Refusal) → length (refused_text r) ≤ 1 + refusal_bytes
unfolding refused_text bytes_of
refused-length r = omega (arith, refusal-length r)

-- ---- a quote

pub end-length : (n : ℕ) → n < 10 ^ end_digits → length (end_text n) ≤ end_digits
unfolding end_text
end-length n h = digits-within 15 16 n h

pub unit-length : (u : GridUnit) → length (unit_text u) ≤ 8
unfolding unit_text bytes_of
unit-length Coarse = omega arith
unit-length Fine = omega arith

ends-length : (ends : Bool) (u : GridUnit) (lower upper : ℕ) → lower < 10 ^ end_digits → upper < 10 ^ end_digits
    → length (ends_text ends u lower upper) ≤ 16 + (end_digits + end_digits)
unfolding ends_text bytes_of
ends-length true u lower upper h k =
    simp length-append (omega (arith, end-length lower h, end-length upper k, unit-length u))
ends-length false u lower upper h k = omega arith

-- the most bytes that follow a query
abbrev pub answer_bytes : ℕ
answer_bytes = 63

quote-length : (ends : Bool) (d : ℕ) (a : Quote) → d < few_digits → Sized a → length (quote_text ends d a) ≤ answer_bytes
unfolding quote_text bytes_of
quote-length ends d a l s =
    simp length-append
    (omega (
      arith,
      ends-length ends a.unit a.lower a.upper s.lower s.upper,
      shown-length d a.figure l s.figure,
    ))

-- ---- any answer

pub decimals-few : (f : Fold) → decimals_of f < few_digits
unfolding decimals_of
decimals-few Death = omega arith
decimals-few Survival = omega arith
decimals-few Expectancy = omega arith
decimals-few (Annuity rate) = omega arith

pub answer-length : (ends : Bool) (d : ℕ) (a : Answer) → d < few_digits → SizedAnswer a → length (answer_text ends d a) ≤ answer_bytes
unfolding answer_text SizedAnswer
answer-length ends d (Ok a) l s = quote-length ends d a l s
answer-length ends d (Err r) l s = omega (arith, refused-length r)
