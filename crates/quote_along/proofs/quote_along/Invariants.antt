-- On the fine grid, the coarse answer was left open; the measure is the rounds left.
use Rattle.std.proofs.Common.{◌≡◌, Bool, true, ◌&&◌}
use Rattle.number_fraction.specs.Ratio.{Ratio}
use Rattle.number_exponential.specs.declared.GridUnit.TheVariants.{Coarse, Fine}
use Rattle.quote_paths.specs.code.Code.{IsPart}
use Rattle.quote_factors.specs.code.Code.{all_places}
use Rattle.quote_along.specs.code.Code.{left_open, path_answer}
use Rattle.quote_along.specs.laws.Again.{rounds_left}
use Rattle.quote_along.proofs.quote_along.Given as goal

abbrev pub invariant-round : goal.invariant-round
invariant-round l =
    (part : Ratio) → IsPart l.part part → l.grid ≡ Fine
    → l.again && left_open (path_answer Coarse l.p l.fold (all_places l.path part)) ≡ true

abbrev pub decreases-round : goal.decreases-round
decreases-round l = rounds_left l.grid
