-- `log_force_at` meets its contract by that of the log force.
use Rattle.number_whole.proofs.laws.Bound.{back}
use Rattle.model_log_force.proofs.log_force_at.Goals as goal

pub log_force-requires : goal.log_force-requires
log_force-requires c =
    let p = c.before.before.requires in
    rw (back p.period tt) p

pub returns : goal.returns
returns c =
    let p = c.before.before.before.requires in
    rw (back p.period tt) at c.log_force.ensures
