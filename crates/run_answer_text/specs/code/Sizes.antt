-- A quote whose numbers have room: what the writers ask for.
use Rattle.std.specs.Prelude.{◌^◌, ◌<◌, Ok, Err}
use Rattle.quote_along.specs.declared.Quote.{Quote}
use Rattle.quote_along.specs.QuoteBy.{Answer}
use Rattle.run_figure_text.specs.code.Sizes.{Short}
use Rattle.run_answer_text.specs.AnswerText.{end_digits}

-- a quote whose ends have at most 16 digits and whose figure has at most 8
pub record Sized (a : Quote) : Type 0 where
  pub lower : a.lower < 10 ^ end_digits
  pub upper : a.upper < 10 ^ end_digits
  pub figure : Short a.figure

-- an answer of which this holds, where it is a quote
unfoldable pub SizedAnswer : Answer → Type 0
SizedAnswer (Ok a) = Sized a
SizedAnswer (Err r) = Unit
