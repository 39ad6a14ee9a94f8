-- What the laws of a path take of a grid: what those of a cell do, and that the ends of a cell's p lie at most t times as far
-- apart as they may on the grid of 10^-9.
use Rattle.std.specs.Prelude.{cond, ℕ, ◌*◌, ◌≤◌, ◌<◌, ltb}
use Rattle.std.proofs.Math.Decide.{dec_lt}
use Rattle.std.proofs.Common.{arith, lt-ltb, le-ltb, lit<}
use Rattle.number_fraction.specs.Ratio.{Ratio, ◌≤/◌}
use Rattle.number_exponential.specs.Grid.{Grid}
use Rattle.number_exponential.specs.Units.{billionths, grid_of, width_times}
use Rattle.number_exponential.proofs.laws.Facts.{Sound}
use Rattle.number_exponential.proofs.laws.WidthFacts.{Narrow}
use Rattle.number_exponential.specs.declared.GridUnit.{GridUnit}
use Rattle.number_exponential.specs.declared.GridUnit.TheVariants.{Coarse, Fine}
use Rattle.number_exponential.proofs.laws.GridFacts.{unit-sound, unit-narrow}
use Rattle.set_params.specs.declared.Params.{Params}
use Rattle.model_closure.specs.Weights.{first_closed}
use Rattle.model_mortality.specs.Cell.{whole_year, survival}
use Rattle.model_mortality.proofs.laws.Facts.{Fit}
use Rattle.model_mortality.proofs.laws.Answered.{Answered}
use Rattle.model_mortality.proofs.laws.Width.{Narrowed}
use Rattle.model_mortality.proofs.laws.GridFacts.{unit-fit, young_limit, old_limit, p-width-young, p-width-old}

-- `cell_width` of quote_kinds/Kinds
unfoldable pub age_limit : ℕ → ℕ
age_limit x = cond (ltb x first_closed) young_limit old_limit

pub record Facts (g : Grid) (t : ℕ) : Type 0 where
  pub sound : Sound g
  pub narrow : Narrow g sound
  pub fit : Fit g
  pub some : 0 < t
  pub young : {p : Params} {x n : ℕ} → Answered p x n → {part : Ratio} → part ≤/ whole_year → x < first_closed
      → Narrowed (survival g p x n part) (t * young_limit)
  pub old : {p : Params} {x n : ℕ} → Answered p x n → {part : Ratio} → part ≤/ whole_year → first_closed ≤ x
      → Narrowed (survival g p x n part) (t * old_limit)

-- at any age
pub p-narrowed : {g : Grid} {t : ℕ} → Facts g t → {p : Params} {x n : ℕ} {part : Ratio} → Answered p x n → part ≤/ whole_year
    → Narrowed (survival g p x n part) (t * age_limit x)
unfolding age_limit
p-narrowed f {x = x} a h =
    elim (dec_lt x first_closed) [
      | yes l ↦ rw (lt-ltb x first_closed l) (f.young a h l)
      | no l ↦ let k : first_closed ≤ x = omega arith in rw (le-ltb x first_closed k) (f.old a h k)
    ]

-- both grids have it
pub unit-facts : (u : GridUnit) → Facts (grid_of u) (width_times u)
unfolding width_times
unit-facts u =
    record {
      sound = unit-sound u;
      narrow = unit-narrow u;
      fit = unit-fit u;
      some = elim u as (λ v. 0 < width_times v) [ Coarse ↦ lit< tt | Fine ↦ lit< tt ];
      young = p-width-young u;
      old = p-width-old u;
    }

pub billionths-facts : Facts billionths 1
unfolding grid_of width_times
billionths-facts = unit-facts Coarse
