-- The force by the logistic is at most 1.
use Rattle.std.specs.Prelude.{ℕ, suc, ◌+◌, ◌*◌, ◌≤◌, ℤ, pos, negsuc}
use Rattle.std.proofs.Math.Nat.{div-le_of_le-mul}
use Rattle.std.proofs.Common.{mul-le-mul, arith}
use Rattle.number_whole.proofs.laws.DivisionLaws.{ceilℕ-least}
use Rattle.number_exponential.specs.Grid.{Grid}
use Rattle.number_exponential.specs.Exponential.{exp_lower, exp_upper}
use Rattle.model_logistic.specs.Logistic.{over_one_lower, over_one_upper, share_lower, share_upper, logistic_lower, logistic_upper}

module _ (g : Grid) where
  pub logistic-lower-one : (G : ℤ) → logistic_lower g G ≤ g.unit
  unfolding logistic_lower over_one_lower share_lower
  logistic-lower-one (pos n) = div-le_of_le-mul (g.unit + exp_upper g n) (omega arith)
  logistic-lower-one (negsuc n) = div-le_of_le-mul (g.unit + exp_lower g (suc n)) (omega arith)

  pub logistic-upper-one : (G : ℤ) → logistic_upper g G ≤ g.unit
  unfolding logistic_upper over_one_upper share_upper
  logistic-upper-one (pos n) = ceilℕ-least g.unit (g.unit * g.unit) (omega (arith, g.positive)) (omega arith)
  logistic-upper-one (negsuc n) =
      ceilℕ-least g.unit (exp_upper g (suc n) * g.unit) (omega (arith, g.positive)) (omega arith)
