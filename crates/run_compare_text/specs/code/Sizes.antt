-- A comparison whose numbers have room: what the writers ask for.
use Rattle.std.specs.Prelude.{◌^◌, ◌<◌, Ok, Err}
use Rattle.run_figure_text.specs.code.Sizes.{Short}
use Rattle.run_answer_text.specs.AnswerText.{end_digits}
use Rattle.quote_compare.specs.declared.Excess.{Excess}
use Rattle.quote_compare.specs.declared.Values.{Values}
use Rattle.quote_compare.specs.declared.Values.TheVariants.{Below, Above, Near}
use Rattle.quote_compare.specs.declared.Pair.{Pair}
use Rattle.quote_compare.specs.Compare.{Comparison}

-- an excess whose units have at most 16 digits
pub record SizedExcess (e : Excess) : Type 0 where
  pub least : e.least < 10 ^ end_digits
  pub most : e.most < 10 ^ end_digits

-- values of which this holds
unfoldable pub SizedValues : Values → Type 0
SizedValues (Below e) = SizedExcess e
SizedValues (Above e) = SizedExcess e
SizedValues (Near n) = n < 10 ^ end_digits

-- two quotes compared whose units have at most 16 digits and whose figures have at most 8
pub record SizedPair (c : Pair) : Type 0 where
  pub first : Short c.first
  pub second : Short c.second
  pub values : SizedValues c.values

-- a comparison of which this holds, where it is not a refusal
unfoldable pub SizedComparison : Comparison → Type 0
SizedComparison (Ok c) = SizedPair c
SizedComparison (Err r) = Unit
