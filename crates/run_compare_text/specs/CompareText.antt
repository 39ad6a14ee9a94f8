-- What is printed after a query that two sheets answer: ` fig=` of the first, ` fig=` of the second, and ` values=below` or
-- ` values=above` with ` least=` and ` most=` and their numbers, or ` values=near` with ` most=` and its number, and then their
-- unit; where either is refused, ` no=` and the refusal.
use Rattle.std.specs.Prelude.{List, ◌++◌, ℕ, Ok, Err}
use Rattle.text_tokens.specs.Text.{bytes_of}
use Rattle.run_figure_text.specs.FigureText.{shown_text}
use Rattle.run_answer_text.specs.AnswerText.{refused_text, end_text, unit_text}
use Rattle.quote_compare.specs.declared.Excess.{Excess}
use Rattle.quote_compare.specs.declared.Values.{Values}
use Rattle.quote_compare.specs.declared.Values.TheVariants.{Below, Above, Near}
use Rattle.quote_compare.specs.declared.Pair.{Pair}
use Rattle.quote_compare.specs.Compare.{Comparison}

-- the least and the most units between two values
unfoldable pub excess_text : Excess → List ℕ
excess_text e = (bytes_of " least=" ++ end_text e.least) ++ (bytes_of " most=" ++ end_text e.most)

unfoldable pub values_text : Values → List ℕ
values_text (Below e) = bytes_of " values=below" ++ excess_text e
values_text (Above e) = bytes_of " values=above" ++ excess_text e
values_text (Near n) = bytes_of " values=near most=" ++ end_text n

-- two figures with so many decimals, the values and their unit
unfoldable pub pair_text : ℕ → Pair → List ℕ
pair_text d c =
    shown_text d c.first ++ (shown_text d c.second ++ (values_text c.values ++ (unit_text c.unit ++ bytes_of "\n")))

unfoldable pub comparison_text : ℕ → Comparison → List ℕ
comparison_text d (Ok c) = pair_text d c
comparison_text d (Err r) = refused_text r
