use Rattle.number_exponential.specs.Units.{grid_of}
use Rattle.number_folds.proofs.Running.{SurvivalTo}
use Rattle.number_annuity.proofs.Running.{DiscountTo, PriceTo}
use Rattle.number_annuity.proofs.annuity_over.Given as goal

abbrev pub invariant-loop-p : goal.invariant-loop-p
invariant-loop-p l =
    let g = grid_of l.grid in
    PriceTo g l.rate l.factors l.p-index l.price × DiscountTo g l.rate l.p-index l.discount × SurvivalTo g l.factors l.p-index l.survival
