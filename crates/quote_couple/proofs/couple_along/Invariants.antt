-- On the fine grid, the coarse answer was left open; the measure is the rounds left.
use Rattle.std.proofs.Common.{◌≡◌, true}
use Rattle.number_exponential.specs.declared.GridUnit.TheVariants.{Coarse, Fine}
use Rattle.quote_walks.specs.code.Code.{path_is}
use Rattle.quote_along.specs.code.Code.{left_open}
use Rattle.quote_along.specs.laws.Again.{rounds_left}
use Rattle.quote_couple.specs.code.Code.{paths_answer}
use Rattle.quote_couple.proofs.couple_along.Given as goal

abbrev pub invariant-round : goal.invariant-round
invariant-round l = l.grid ≡ Fine → left_open (paths_answer Coarse l.first l.second l.kind (path_is l.path) (path_is l.other)) ≡ true

abbrev pub decreases-round : goal.decreases-round
decreases-round l = rounds_left l.grid
