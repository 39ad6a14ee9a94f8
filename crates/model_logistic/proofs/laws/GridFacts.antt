-- Both grids have what the law on the force's width asks, where G is at most 25,000 units wide.
use Rattle.std.specs.Prelude.{ℕ, suc, ◌*◌, ◌≤◌}
use Rattle.std.proofs.Common.{lit≤}
use Rattle.number_exponential.specs.declared.GridUnit.{GridUnit}
use Rattle.number_exponential.specs.declared.GridUnit.TheVariants.{Coarse, Fine}
use Rattle.number_exponential.specs.Units.{grid_of}
use Rattle.number_exponential.specs.Exponential.{total}
use Rattle.number_exponential.proofs.laws.Terms.{slack}
use Rattle.number_exponential.proofs.laws.WidthFacts.{slack_upper, slack_lower}
use Rattle.model_logistic.proofs.laws.WidthFacts as facts
use Rattle.model_logistic.proofs.laws.LogisticWidth.{fine-below}

pub unit-fine : (u : GridUnit) {d : ℕ} → d ≤ 25000 → facts.Fine (grid_of u) d
unfolding grid_of facts.spread slack_upper slack_lower slack total
unit-fine u l = fine-below l (record { small = elim u as (λ v. facts.spread (grid_of v) 25000 * suc (facts.spread (grid_of v) 25000) ≤ 6 * (grid_of v).unit) [ Coarse ↦ lit≤ tt | Fine ↦ lit≤ tt ] })
