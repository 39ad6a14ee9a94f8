-- `value_of` meets its contract: the first n bytes are digits, and `packed` makes their number of their values.
use mathlib.Core.Path.{◌∙◌}
use native.Mathlib.Omega.{arith}
use borrow.Author.Rules.{rules}
use Rattle.text_words.specs.code.Word.{lane_sum}
use Rattle.text_tokens.specs.Number.{value_from}
use Rattle.text_numbers.proofs.Cutting.{within, cut_below, cut-value, cut_small}
use Rattle.text_numbers.proofs.value_of.Goals as goal

pub returns-then-n-eq0 : goal.returns-then-n-eq0
unfolding value_from
returns-then-n-eq0 c = search rules

pub overflow_mul-n : goal.overflow_mul-n
overflow_mul-n c = record { fits = omega (arith, within c.before.args.word c.before.args.n c.before.requires) }

pub overflow_sub-n : goal.overflow_sub-n
overflow_sub-n c = omega (arith, within c.before.args.word c.before.args.n c.before.requires)

pub packed-requires : goal.packed-requires
unfolding lane_sum
packed-requires c = cut_below c.before.args.word c.before.args.n c.before.requires

pub returns : goal.returns
unfolding lane_sum
returns c =
    let start = c.before.before in
    record {
      value = c.packed.ensures ∙ cut-value start.args.word start.args.n start.requires;
      small = omega (arith, c.packed.ensures, cut_small start.args.word start.args.n start.requires);
    }
