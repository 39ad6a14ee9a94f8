-- The cell's laws on both grids: q holds every order's bracket, and its ends lie at most 100 units of 10^-9 apart to age 90 and 600
-- above, on the fine grid a thousandth of that.
use Rattle.std.specs.Prelude.{◌≡◌, ℕ, ◌+◌, ◌*◌, ◌≤◌, ◌<◌}
use Rattle.std.proofs.Common.{le_trans}
use Rattle.std.proofs.Math.Dec.{lit≤}
use Rattle.number_whole.specs.Parts.{below}
use Rattle.number_fraction.specs.Ratio.{Ratio, ◌≤/◌}
use Rattle.number_fraction.proofs.laws.RatioLaws.{≤/-refl}
use Rattle.number_taylor.specs.Taylor.{taylor_den, taylor_num}
use Rattle.number_taylor.specs.Order.{least_order}
use Rattle.number_exponential.specs.declared.GridUnit.{GridUnit}
use Rattle.number_exponential.specs.declared.GridUnit.TheVariants.{Coarse, Fine}
use Rattle.number_exponential.specs.Units.{grid_of, width_times}
use Rattle.number_exponential.proofs.laws.GridFacts.{unit-sound, unit-narrow}
use Rattle.number_exponential.specs.Exponential.{total}
use Rattle.number_exponential.proofs.laws.Terms.{slack}
use Rattle.number_exponential.proofs.laws.WidthFacts.{exp_width, slack_upper, slack_lower}
use Rattle.number_exponential.proofs.laws.Overlap.{Overlap}
use Rattle.set_params.specs.declared.Params.{Params}
use Rattle.model_log_force.specs.LogForce.{highest_force}
use Rattle.model_logarithm.proofs.laws.Range.{Halving}
use Rattle.model_logarithm.proofs.laws.WidthFacts.{log_width}
use Rattle.model_logarithm.proofs.laws.GridFacts as log
use Rattle.model_closure.specs.Weights.{first_closed}
use Rattle.model_logistic.proofs.laws.WidthFacts as logistic
use Rattle.model_logistic.proofs.laws.GridFacts as closed
use Rattle.model_mortality.specs.Cell.{whole_year, survival}
use Rattle.model_mortality.proofs.laws.Death.{death}
use Rattle.model_mortality.proofs.laws.OrderDeath.{order_death}
use Rattle.model_mortality.proofs.laws.Facts.{Fit}
use Rattle.model_mortality.proofs.laws.Answered.{Answered}
use Rattle.model_mortality.proofs.laws.CellHolds.{death-holds}
use Rattle.model_mortality.proofs.laws.Width.{Narrowed, narrowed-more, young_width, fitted_width, sum_width, old_width, young_death_width, old_death_width}
use Rattle.model_mortality.proofs.laws.Width.{young-survival-width, old-survival-width, death-narrowed}

-- from the range's upper end down the force is at most one half
halving : (u : GridUnit) → Halving (grid_of u) ((grid_of u).scale * below highest_force)
unfolding grid_of least_order slack_upper slack total taylor_den taylor_num
halving u =
    record {
      order = 6;
      some-order = lit≤ tt;
      counted = lit≤ tt;
      slack-small = elim u as (λ v. 2 * slack_upper (grid_of v) ≤ 3 * (grid_of v).unit) [ Coarse ↦ lit≤ tt | Fine ↦ lit≤ tt ];
      tested = elim u
          as (λ v. 6 * ((grid_of v).unit * taylor_den (grid_of v).unit 6) + 2 * slack_upper (grid_of v) * taylor_num ((grid_of v).scale * below highest_force) (grid_of v).unit 6
          ≤ 3 * (grid_of v).unit * taylor_num ((grid_of v).scale * below highest_force) (grid_of v).unit 6) [ Coarse ↦ lit≤ tt | Fine ↦ lit≤ tt ];
    }

pub unit-fit : (u : GridUnit) → Fit (grid_of u)
unfolding grid_of least_order
unit-fit u = record { log = log.unit-fine u; terms = elim u as (λ v. (grid_of v).log_terms ≤ least_order) [ Coarse ↦ lit≤ tt | Fine ↦ lit≤ tt ]; half = halving u }

-- q's ends and an order's overlap
pub q-holds : (u : GridUnit) {p : Params} {x n : ℕ} → Answered p x n → (j : ℕ) → least_order ≤ j
    → Overlap (grid_of u) (death (grid_of u) p x n) (order_death p x n j).least (order_death p x n j).most
q-holds u a j l = death-holds (grid_of u) (unit-sound u) (unit-fit u) (unit-narrow u) a j l

-- the limits that the widths stay within, in units of 10^-9
abbrev pub young_limit : ℕ
young_limit = 100

abbrev pub old_limit : ℕ
old_limit = 600

module _ (u : GridUnit) where
  young-within : young_death_width (grid_of u) ≤ width_times u * young_limit
  unfolding grid_of width_times young_death_width young_width exp_width slack_upper slack_lower slack total
  young-within = elim u as (λ v. young_death_width (grid_of v) ≤ width_times v * young_limit) [ Coarse ↦ lit≤ tt | Fine ↦ lit≤ tt ]

  old-within : old_death_width (grid_of u) ≤ width_times u * old_limit
  unfolding grid_of width_times old_death_width young_width fitted_width sum_width old_width log_width exp_width slack_upper slack_lower slack total
  old-within = elim u as (λ v. old_death_width (grid_of v) ≤ width_times v * old_limit) [ Coarse ↦ lit≤ tt | Fine ↦ lit≤ tt ]

  sum-small : logistic.Fine (grid_of u) (sum_width (grid_of u))
  unfolding grid_of young_width fitted_width sum_width log_width exp_width slack_upper slack_lower slack total
  sum-small = closed.unit-fine u (elim u as (λ v. sum_width (grid_of v) ≤ 25000) [ Coarse ↦ lit≤ tt | Fine ↦ lit≤ tt ])

  module _ {p : Params} {x n : ℕ} (a : Answered p x n) where
    pub p-width-young : {part : Ratio} → part ≤/ whole_year → x < first_closed → Narrowed (survival (grid_of u) p x n part) (width_times u * young_limit)
    p-width-young h l =
        narrowed-more young-within
        (young-survival-width (grid_of u) (unit-sound u) (unit-narrow u) (unit-fit u) sum-small a h l)

    pub p-width-old : {part : Ratio} → part ≤/ whole_year → first_closed ≤ x → Narrowed (survival (grid_of u) p x n part) (width_times u * old_limit)
    p-width-old h l =
        narrowed-more old-within
        (old-survival-width (grid_of u) (unit-sound u) (unit-narrow u) (unit-fit u) sum-small a h l)

    pub q-width-young : x < first_closed → Narrowed (death (grid_of u) p x n) (width_times u * young_limit)
    q-width-young l = death-narrowed (grid_of u) p x n (width_times u * young_limit) (p-width-young (≤/-refl whole_year) l)

    pub q-width-old : first_closed ≤ x → Narrowed (death (grid_of u) p x n) (width_times u * old_limit)
    q-width-old l = death-narrowed (grid_of u) p x n (width_times u * old_limit) (p-width-old (≤/-refl whole_year) l)
