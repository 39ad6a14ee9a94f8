-- The force of any cell, answered or not, is at most 1.
use Rattle.std.specs.Prelude.{Bool, ℕ, ◌≤◌, ltb}
use Rattle.std.proofs.Math.Bool.{true, false, cond}
use Rattle.number_exponential.specs.Grid.{Grid}
use Rattle.number_exponential.specs.declared.Ends.{Ends}
use Rattle.number_exponential.specs.Exponential.{exp_between}
use Rattle.number_exponential.proofs.laws.Facts.{Sound}
use Rattle.number_exponential.proofs.laws.AtMostOne.{exp-lower-one, exp-upper-one}
use Rattle.set_params.specs.declared.Params.{Params}
use Rattle.model_closure.specs.Weights.{first_closed}
use Rattle.model_logistic.specs.Logistic.{logistic}
use Rattle.model_logistic.proofs.laws.AtMostOne.{logistic-lower-one, logistic-upper-one}
use Rattle.model_mortality.specs.Cell.{young_force, old_force, force}

module _ (g : Grid) (s : Sound g) (p : Params) (x n : ℕ) where
  young-one : ((young_force g p x n).lower ≤ g.unit) × ((young_force g p x n).upper ≤ g.unit)
  unfolding young_force exp_between
  young-one = (exp-lower-one g s _, exp-upper-one g s _)

  old-one : ((old_force g p x n).lower ≤ g.unit) × ((old_force g p x n).upper ≤ g.unit)
  unfolding old_force logistic
  old-one = (logistic-lower-one g _, logistic-upper-one g _)

  pub force-one : ((force g p x n).lower ≤ g.unit) × ((force g p x n).upper ≤ g.unit)
  unfolding force
  force-one = go (ltb x first_closed)
    where
      go : (b : Bool) → let f : Ends = cond b (young_force g p x n) (old_force g p x n) in (f.lower ≤ g.unit) × (f.upper ≤ g.unit)
      go true = young-one
      go false = old-one
