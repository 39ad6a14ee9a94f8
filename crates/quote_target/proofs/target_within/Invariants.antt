-- What is found is what the years after n tell, and their cells are in range.
use Rattle.std.proofs.Common.{◌≡◌, ◌-◌, suc, true}
use Rattle.set_params.specs.Limits.{quote_years}
use Rattle.quote_target.specs.Target.{sought_from, in_range_from}
use Rattle.quote_target.proofs.target_within.Given as goal

abbrev pub invariant-loop-n : goal.invariant-loop-n
invariant-loop-n l =
    (l.found ≡ sought_from l.p l.age l.target (suc l.n) (quote_years - l.n)) × (in_range_from l.p l.age (suc l.n) (quote_years - l.n) ≡ true)
