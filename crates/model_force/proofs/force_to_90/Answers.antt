-- `force_to_90` meets its contract: the ends of −m fit, and are those of the definition.
use borrow.Author.Rules.{rules}
use Rattle.number_exponential.specs.Units.{grid_of}
use Rattle.model_force.specs.Force.{negated}
use Rattle.model_force.proofs.Ends.{minus-lower, minus-upper}
use Rattle.model_force.proofs.force_to_90.Goals as goal

pub overflow_sub-m : goal.overflow_sub-m
overflow_sub-m c = (minus-upper c.before.before.args.grid c.before.before.requires).fits

pub overflow_cast-m : goal.overflow_cast-m
overflow_cast-m c = (minus-upper c.before.before.args.grid c.before.before.requires).cast

pub overflow_sub-m-2 : goal.overflow_sub-m-2
overflow_sub-m-2 c = (minus-lower c.before.before.before.before.args.grid c.before.before.before.before.requires).fits

pub overflow_cast-m-2 : goal.overflow_cast-m-2
overflow_cast-m-2 c = (minus-lower c.before.before.before.before.args.grid c.before.before.before.before.requires).cast

pub returns : goal.returns
unfolding negated
returns c =
    let s = c.before.before.before.before.before in
    rw ((minus-lower s.args.grid s.requires).size, (minus-upper s.args.grid s.requires).size) at c.exp_between.ensures
