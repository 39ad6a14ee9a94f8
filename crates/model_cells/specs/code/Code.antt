-- What the code's contracts say beside the definitions: the answer at a cell.
use Rattle.std.specs.Prelude.{Bool, cond, List, ℕ, ℤ, Option, Some, None}
use Rattle.std.specs.Option.{option_map}
use Rattle.number_whole.specs.declared.SignedEnds.{SignedEnds}
use Rattle.number_exponential.specs.declared.Ends.{Ends}
use Rattle.number_exponential.specs.Exponential.{exp_between}
use Rattle.number_exponential.specs.Grid.{Grid}
use Rattle.set_params.specs.declared.Params.{Params}
use Rattle.model_log_force.specs.LogForce.{in_range}
use Rattle.model_logistic.specs.Logistic.{logistic}
use Rattle.model_closure.specs.Closure.{weighted_mean}
use Rattle.model_closure.specs.code.Code.{weight_of}
use Rattle.model_force.specs.Force.{negated}
use Rattle.model_mortality.specs.Cell.{force, whole_year, survival, needed_in_range}

-- two ends where the needed cells are in range
unfoldable pub cell_if : Bool → Ends → Option Ends
cell_if ok e = cond ok (Some e) None

-- the force at an age to 90, from its log force, and above, from its weights and the ends of H
abbrev pub young_force_cell : Grid → SignedEnds → Option Ends
young_force_cell g m = cell_if (in_range g m) (exp_between g (negated m))

abbrev pub old_force_cell : Grid → List ℤ → Option (List SignedEnds) → Option Ends
old_force_cell g row f = option_map (λ es. logistic g (weighted_mean (weight_of row) es)) f

-- that at age x in year n
abbrev pub force_cell : Grid → Params → ℕ → ℕ → Option Ends
force_cell g p x n = cell_if (needed_in_range g p x n) (force g p x n)

-- p of a force
abbrev pub lived_cell : Grid → Option Ends → Option Ends
lived_cell g f = option_map (exp_between g) f

-- the answer at an age to 90, and above
abbrev pub young_cell : Grid → SignedEnds → Option Ends
young_cell g m = cell_if (in_range g m) (exp_between g (exp_between g (negated m)))

abbrev pub old_cell : Grid → List ℤ → Option (List SignedEnds) → Option Ends
old_cell g row f = lived_cell g (old_force_cell g row f)

-- the answer at age x in year n: p's ends where every needed cell is in range
abbrev pub cell_of : Grid → Params → ℕ → ℕ → Option Ends
cell_of g p x n = cell_if (needed_in_range g p x n) (survival g p x n whole_year)
