-- What the code's contracts say beside the definitions: the path that the code's struct stands for, and how far its factors
-- are worked.
use Rattle.std.specs.Prelude.{◌≡◌, Bool, false, not, List, ℕ, ◌-◌, min, ◌≤◌, ◌<◌, T, length, take, Option, MatchOption}
use Rattle.number_exponential.specs.Grid.{Grid}
use Rattle.number_exponential.specs.declared.Ends.{Ends}
use Rattle.set_params.specs.declared.Params.{Params}
use Rattle.set_params.specs.declared.Dynamics.{Dynamics}
use Rattle.set_limits.specs.InLimits.{in_limits}
use Rattle.set_params.specs.Limits.{last_years}
use Rattle.model_closure.specs.Weights.{first_closed, last_closed}
use Rattle.model_log_force.specs.declared.Year.{Year}
use Rattle.model_log_force.specs.code.Year.{YearOf, NextOf}
use Rattle.number_folds.specs.code.Code.{most_factors}
use Rattle.quote_paths.specs.Path.{Place, place_at, path_of, factors, path_in_range}
use Rattle.quote_paths.specs.declared.Path.{Path}
use Rattle.quote_walks.specs.declared.Walk.{Walk}

-- the cell at s, the first s cells, and the whole path
abbrev pub place_of : Path → ℕ → Place
place_of w s = place_at w.cohort w.age w.year s

abbrev pub path_to : Path → ℕ → List Place
path_to w s = path_of w.cohort w.age w.year s

abbrev pub path_is : Path → List Place
path_is w = path_to w w.count

-- a set in its limits, and a path whose cells are the table's, with room for its factors
pub record PathWithin (p : Params) (w : Path) : Type 0 where
  pub limits : T (in_limits p)
  pub age : w.age ≤ last_closed
  pub room : w.count ≤ most_factors
  pub first : w.year ≤ last_years
  pub years : (s : ℕ) → s < w.count → (place_of w s).year ≤ last_years

-- r is the year after y, or y itself
pub record Advanced (g : Grid) (d : Dynamics) (y : Year) (on : Bool) (r : Year) : Type 0 where
  pub next : T on → NextOf g d y r
  pub same : T (not on) → r ≡ y

-- the first s cells are in range, and their factors stand in the array
pub record Worked (g : Grid) (p : Params) (w : Path) (es : List Ends) (s : ℕ) : Type 0 where
  pub some : s ≤ w.count
  pub range : T (path_in_range g p (path_to w s))
  pub ends : take s es ≡ factors g p (path_to w s)
  pub size : length es ≡ most_factors

-- y is a year of the set, and that of the cell at s where the path has one
pub record YearAt (g : Grid) (p : Params) (w : Path) (s : ℕ) (y : Year) : Type 0 where
  pub year : YearOf g p y
  pub place : s < w.count → y.number ≡ (place_of w s).year

-- the ages to 90 are worked, the first cells of the path
pub record Walked (g : Grid) (p : Params) (w : Path) (r : Walk) : Type 0 where
  pub worked : Worked g p w r.ends r.done
  pub next : YearAt g p w r.done r.year
  pub young : r.done ≡ min (first_closed - w.age) w.count

-- the ages to 90 are worked, or a cell is out of range
abbrev pub WalkOf : Grid → Params → Path → Option Walk → Type 0
WalkOf g p w r = MatchOption r (path_in_range g p (path_is w) ≡ false) (Walked g p w)
