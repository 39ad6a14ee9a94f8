-- `decimals_for` meets its contract: the decimals of the rule's fold.
use borrow.Author.Rules.{rules}
use mathlib.Core.Path.{ap, ◌∙◌}
use Rattle.quote_kinds.specs.declared.Rule.{Rule}
use Rattle.quote_kinds.specs.Kinds.{decimals_of}
use Rattle.run_answer_text.proofs.decimals_for.Goals as goal

pub returns : goal.returns
returns c = c.decimals_of.ensures ∙ ap (λ (r : Rule). decimals_of r.fold) c.rule_of-rule.ensures
