-- `ceil_div_u` meets its contract: the sum fits by what is required, and the quotient is the definition's.
use mathlib.Core.Path.{refl}
use borrow.Author.Rules.{rules}
use Rattle.number_whole.specs.Division.{ceil_div_ℕ}
use Rattle.number_whole.proofs.ceil_div_u.Goals as goal

pub returns : goal.returns
unfolding ceil_div_ℕ
returns c = refl
