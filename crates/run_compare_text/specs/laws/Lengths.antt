-- How long what is printed after a query that two sheets answer is.
use Rattle.std.specs.Prelude.{ℕ, ◌+◌, ◌≤◌, ◌<◌, length, Ok, Err}
use Rattle.std.proofs.Common.{arith, length-append}
use Rattle.text_tokens.specs.Text.{bytes_of}
use Rattle.run_figure_text.specs.code.Sizes.{few_digits}
use Rattle.run_figure_text.proofs.laws.FigureTextLaws.{shown-length}
use Rattle.run_answer_text.specs.AnswerText.{end_digits}
use Rattle.run_answer_text.proofs.laws.Lengths.{refused-length, end-length, unit-length}
use Rattle.quote_compare.specs.declared.Excess.{Excess}
use Rattle.quote_compare.specs.declared.Values.{Values}
use Rattle.quote_compare.specs.declared.Values.TheVariants.{Below, Above, Near}
use Rattle.quote_compare.specs.declared.Pair.{Pair}
use Rattle.quote_compare.specs.Compare.{Comparison}
use Rattle.run_compare_text.specs.CompareText.{excess_text, values_text, pair_text, comparison_text}
use Rattle.run_compare_text.specs.code.Sizes.{SizedExcess, SizedValues, SizedPair, SizedComparison}

excess-length : (e : Excess) → SizedExcess e → length (excess_text e) ≤ 13 + (end_digits + end_digits)
unfolding excess_text bytes_of
excess-length e s =
    simp length-append (omega (arith, end-length e.least s.least, end-length e.most s.most))

values_length : (v : Values) → SizedValues v → length (values_text v) ≤ 26 + (end_digits + end_digits)
unfolding values_text SizedValues bytes_of
values_length (Below e) s = omega (arith, excess-length e s)
values_length (Above e) s = omega (arith, excess-length e s)
values_length (Near n) s = omega (arith, end-length n s)

-- the most bytes that follow a query
abbrev pub comparison_bytes : ℕ
comparison_bytes = 95

pair-length : (d : ℕ) (c : Pair) → d < few_digits → SizedPair c → length (pair_text d c) ≤ comparison_bytes
unfolding pair_text bytes_of
pair-length d c l s =
    simp length-append
    (omega (
      arith,
      shown-length d c.first l s.first,
      shown-length d c.second l s.second,
      values_length c.values s.values,
      unit-length c.unit,
    ))

pub comparison-length : (d : ℕ) (c : Comparison) → d < few_digits → SizedComparison c → length (comparison_text d c) ≤ comparison_bytes
unfolding comparison_text SizedComparison
comparison-length d (Ok c) l s = pair-length d c l s
comparison-length d (Err r) l s = omega (arith, refused-length r)
