-- What the inner contracts say beside the definitions: a couple's answer along two paths, and the rules of its kinds.
use Rattle.std.specs.Prelude.{◌≡◌, Bool, false, ◌&&◌, List, pos}
use Rattle.number_exponential.specs.Grid.{Grid}
use Rattle.number_exponential.specs.Units.{billionths, grid_of}
use Rattle.number_exponential.specs.declared.Ends.{Ends}
use Rattle.number_exponential.specs.declared.GridUnit.{GridUnit}
use Rattle.set_params.specs.declared.Params.{Params}
use Rattle.quote_paths.specs.Path.{Place, factors, path_in_range}
use Rattle.quote_kinds.specs.declared.Rule.{Rule}
use Rattle.quote_kinds.specs.Kinds.{rate_of}
use Rattle.quote_couple_kinds.specs.declared.CoupleKind.{CoupleKind}
use Rattle.quote_two_lives.specs.TwoLives.{couple_over}
use Rattle.quote_along.specs.QuoteBy.{Answer, quote_on, quote_by}
use Rattle.quote_along.specs.code.Code.{in_range_or}
use Rattle.quote_couple.specs.Couple.{couple_step}

-- two sets along two paths: both are in range on a grid, and the ends in each unit
abbrev pub paths_in_range : Grid → Params → Params → List Place → List Place → Bool
paths_in_range g p p' path path' = path_in_range g p path && path_in_range g p' path'

abbrev pub paths_ends : Params → Params → CoupleKind → List Place → List Place → GridUnit → Ends
paths_ends p p' k path path' u = couple_over k (grid_of u) (factors (grid_of u) p path) (factors (grid_of u) p' path')

-- their answer in one unit
unfoldable pub paths_answer : GridUnit → Params → Params → CoupleKind → List Place → List Place → Answer
paths_answer u p p' k path path' =
    in_range_or (paths_in_range (grid_of u) p p' path path') (quote_on (couple_step k) u (paths_ends p p' k path path' u))

-- their answer, with an open figure worked again
unfoldable pub paths_quote : Params → Params → CoupleKind → List Place → List Place → Answer
paths_quote p p' k path path' =
    in_range_or (paths_in_range billionths p p' path path') (quote_by (couple_step k) (paths_ends p p' k path path'))

-- a rule whose term is a span and that takes no rate
pub record Plain (rule : Rule) : Type 0 where
  pub undated : rule.dated ≡ false
  pub unrated : rate_of rule.fold ≡ pos 0
