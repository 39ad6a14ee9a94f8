-- What the code's contracts say beside the definitions: the factors of a path.
use Rattle.std.specs.Prelude.{◌≡◌, Bool, cond, List, ◌++◌, ℕ, suc, ◌+◌, ◌-◌, ◌≤◌, ◌<◌, min, length, take, get_or, replicate, Option, IfSome, is_some}
use Rattle.number_fraction.specs.Ratio.{Ratio}
use Rattle.number_exponential.specs.Grid.{Grid}
use Rattle.number_exponential.specs.declared.Ends.{Ends}
use Rattle.set_params.specs.declared.Params.{Params}
use Rattle.set_params.specs.Limits.{last_years}
use Rattle.model_closure.specs.Weights.{last_closed}
use Rattle.model_part_year.specs.code.Code.{DaysWithin}
use Rattle.number_folds.specs.code.Code.{most_factors}
use Rattle.quote_paths.specs.Path.{Place, part_year, factors, path_in_range}
use Rattle.quote_paths.specs.declared.Path.{Path}
use Rattle.quote_paths.specs.declared.Part.{Part}
use Rattle.quote_paths.specs.code.Code.{IsPart}
use Rattle.quote_walks.specs.code.Code.{path_is}

-- of k cells from age x on those that are worked: along the cohort all, and in one year those to age 120
abbrev pub worked_cells : Bool → ℕ → ℕ → ℕ
worked_cells cohort x k = cond cohort k (min (suc last_closed - x) k)

-- some of `count` factors stand in the array es, which has room for all
pub record Begun (es : List Ends) (done count : ℕ) : Type 0 where
  pub some : 0 < done
  pub rest : done ≤ count
  pub room : count ≤ most_factors
  pub size : length es ≡ most_factors

-- no factor
abbrev pub empty : Ends
empty = record { lower = 0; upper = 0 }

-- the first `count` of the array r are the first `done` of es, and then the last of these
pub record Repeated (es : List Ends) (done count : ℕ) (r : List Ends) : Type 0 where
  pub ends : take count r ≡ take done es ++ replicate (count - done) (get_or es (done - 1) empty)
  pub size : length r ≡ most_factors

-- the factors of the path where every needed cell is in range, and whether they are
pub record FactorsOf (g : Grid) (p : Params) (w : Path) (r : Option (List Ends)) : Type 0 where
  pub ok : is_some r ≡ path_in_range g p (path_is w)
  pub ends : IfSome r (λ es. take w.count es ≡ factors g p (path_is w))
  pub size : IfSome r (λ es. length es ≡ most_factors)

-- the path, and a part of a year after it
abbrev pub all_places : Path → Ratio → List Place
all_places w part = path_is w ++ part_year (w.age + w.count) (w.year + w.count) part

-- the days of a part, and where it has some its cell is the table's, with room for its factor
pub record PartWithin (w : Path) (r : Part) : Type 0 where
  pub days : DaysWithin r.days r.whole
  pub age : (r.days ≡ 0 → ⊥) → w.age + w.count ≤ last_closed
  pub year : (r.days ≡ 0 → ⊥) → w.year + w.count ≤ last_years
  pub room : (r.days ≡ 0 → ⊥) → w.count < most_factors

-- the factors of the path and the part
pub record FactorsWith (g : Grid) (p : Params) (w : Path) (part : Ratio) (r : Option (List Ends)) : Type 0 where
  pub ok : is_some r ≡ path_in_range g p (all_places w part)
  pub ends : IfSome r (λ es. take (length (all_places w part)) es ≡ factors g p (all_places w part))

abbrev pub AllFactorsOf : Grid → Params → Path → Part → Option (List Ends) → Type 0
AllFactorsOf g p w r f = (part : Ratio) → IsPart r part → FactorsWith g p w part f
