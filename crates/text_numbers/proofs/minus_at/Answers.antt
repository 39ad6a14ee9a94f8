-- `minus_at` meets its contract.
use borrow.Author.Rules.{rules}
use Rattle.text_tokens.specs.code.Unsigned.{minuses}
use Rattle.text_numbers.proofs.minus_at.Goals as goal

pub returns : goal.returns
unfolding minuses
returns c = search rules
