-- What the code's contract says beside the definitions: the ends of H of a year.
use Rattle.std.specs.Prelude.{◌≡◌, refl, List, ℕ, ℤ, Option, IfSome, is_some}
use Rattle.number_exponential.specs.Grid.{Grid}
use Rattle.set_params.specs.declared.Params.{Params}
use Rattle.number_whole.specs.declared.SignedEnds.{SignedEnds}
use Rattle.model_closure.specs.Weights.{fitted}
use Rattle.model_closure.specs.code.Code.{InLimit}
use Rattle.model_mortality.specs.Cell.{fitted_list, fitted_in_range}
use Rattle.model_log_force.specs.declared.Year.{Year}
use Rattle.model_log_force.specs.code.Year.{YearOf}

-- f has the ends of H in year n where its eleven cells are in range, and None where one is not
pub record FittedOf (g : Grid) (p : Params) (n : ℕ) (f : Option (List SignedEnds)) : Type 0 where
  pub ok : is_some f ≡ fitted_in_range g p n fitted
  pub ends : IfSome f (λ es. es ≡ fitted_list g p n)
  pub limit : IfSome f InLimit

-- four runs are those of a set of which y is a year
pub record LentIn (g : Grid) (l s a b : List ℤ) (y : Year) : Type 0 where
  pub set : Params
  pub level : l ≡ set.level
  pub slope : s ≡ set.slope
  pub alpha : a ≡ set.alpha
  pub beta : b ≡ set.beta
  pub year : YearOf g set y

abbrev pub lent : {g : Grid} {p : Params} {y : Year} → YearOf g p y → LentIn g p.level p.slope p.alpha p.beta y
lent {p} h = record { set = p; level = refl; slope = refl; alpha = refl; beta = refl; year = h }

-- f has the ends of H in y, whichever set it is
abbrev pub FittedIn : Grid → List ℤ → List ℤ → List ℤ → List ℤ → Year → Option (List SignedEnds) → Type 0
FittedIn g l s a b y f = (o : LentIn g l s a b y) → FittedOf g o.set y.number f
