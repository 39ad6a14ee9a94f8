-- The exact definitions at work: one cell of paper 01's flat sheet at an order that can be computed.
use Rattle.std.specs.Prelude.{ℕ, pos, neg_ℤ, replicate}
use Rattle.std.proofs.Common.{lit<, lit≤}
use Rattle.number_fraction.specs.Ratio.{Ratio, ◌≤/◌, ◌*/◌, whole/, complement}
use Rattle.number_fraction.specs.Fraction.{wholeℚ, ◌+ℚ◌, scaleℚ, quotientℚ, absolute}
use Rattle.number_taylor.specs.Taylor.{taylor_num, taylor_den, gap, stretched_num, stretched_den}
use Rattle.number_taylor.specs.Order.{order_lower, order_upper}
use Rattle.set_params.specs.declared.Params.{Params}
use Rattle.set_params.specs.declared.Table.TheVariants.{Ag2014}
use Rattle.set_params.specs.declared.Sex.TheVariants.{M}
use Rattle.set_params.specs.Set.{ages, A, B, alpha, beta}
use Rattle.set_series.specs.Series.{period_in}
use Rattle.set_series.specs.Exact.{per_unit, exact_kappa}
use Rattle.model_log_force.specs.Exact.{exact_log_force}
use Rattle.model_mortality.specs.Exact.{exact_m, exact_z, order_young_force, order_force, order_force_over, order_survival}
use Rattle.model_mortality.proofs.laws.OrderDeath.{order_death}

-- every A −1,000,000,000, and every other number 0
flat : Params
flat =
    record {
      table = Ag2014;
      sex = M;
      start = pos 2013;
      a = pos 0;
      theta = pos 0;
      c = pos 0;
      period = pos 0;
      kappa = pos 0;
      level = replicate ages (neg_ℤ (pos 1000000000));
      slope = replicate ages (pos 0);
      alpha = replicate ages (pos 0);
      beta = replicate ages (pos 0);
    }

millionths : ℕ → Ratio
millionths n = record { num = n; den = 1000000; positive = lit< tt }

-- q at 65 in 2020, seven years after the start, is printed 0.30780: order 8 already has it between 0.307799 and 0.307800
flat-65 : (millionths 307799 ≤/ (order_death flat 65 7 8).least) × ((order_death flat 65 7 8).most ≤/ millionths 307800)
unfolding flat millionths A B alpha beta period_in per_unit exact_kappa exact_log_force exact_m exact_z wholeℚ ◌+ℚ◌ scaleℚ quotientℚ
    absolute taylor_num taylor_den gap stretched_num stretched_den order_lower order_upper order_young_force order_force order_force_over
    order_survival order_death complement ◌*/◌ whole/
flat-65 = (record { cross = lit≤ tt }, record { cross = lit≤ tt })
