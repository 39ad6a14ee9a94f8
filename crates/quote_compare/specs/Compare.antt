-- Two quotes compared by their ends, in the finer of their units: the first is below the second or above it, with the least and the
-- most between them, or near, with the most that they can differ by; beside it the two figures. And what that says of exact values.
use Rattle.std.specs.Prelude.{cond, ℕ, ◌*◌, ◌-◌, ◌/◌, ◌≤◌, ◌<◌, max, ltb, Result, Ok, Err}
use Rattle.number_fraction.specs.Ratio.{◌</◌, ◌+/◌}
use Rattle.number_taylor.specs.Order.{least_order}
use Rattle.number_exponential.specs.Grid.{Grid, in_units}
use Rattle.number_exponential.specs.declared.Ends.{Ends}
use Rattle.number_exponential.specs.declared.GridUnit.{GridUnit}
use Rattle.number_exponential.specs.declared.GridUnit.TheVariants.{Coarse, Fine}
use Rattle.number_exponential.specs.Units.{grid_of}
use Rattle.number_exact.specs.Value.{Exact, AtLeast, AtMost}
use Rattle.set_refusal.specs.declared.Refusal.{Refusal}
use Rattle.quote_along.specs.declared.Quote.{Quote}
use Rattle.quote_along.specs.QuoteBy.{Answer}
use Rattle.quote_compare.specs.declared.Excess.{Excess}
use Rattle.quote_compare.specs.declared.Values.{Values}
use Rattle.quote_compare.specs.declared.Values.TheVariants.{Below, Above, Near}
use Rattle.quote_compare.specs.declared.Pair.{Pair}

-- by how many units a value between the second ends exceeds one between the first: at least the gap between the two pairs
-- of ends, and at most from end to end
unfoldable pub excess : Ends → Ends → Excess
excess a b = record { least = b.lower - a.upper; most = b.upper - a.lower }

-- the most that two values between these ends can differ by, in units: the greater of the first's upper end less the
-- second's lower and the second's upper end less the first's lower
unfoldable pub most_apart : Ends → Ends → ℕ
most_apart a b = max (a.upper - b.lower) (b.upper - a.lower)

-- below, where the first's upper end is under the second's lower end, by the second's excess; above, where the second's is
-- under the first's, by the first's excess; and else near
unfoldable pub values_of : Ends → Ends → Values
values_of a b =
    cond (ltb a.upper b.lower) (Below (excess a b))
    (cond (ltb b.upper a.lower) (Above (excess b a)) (Near (most_apart a b)))

-- the finer of two units
unfoldable pub finer : GridUnit → GridUnit → GridUnit
finer Coarse u = u
finer Fine u = Fine

-- the ends of a quote in a unit no coarser than its own: each times how many of that unit make one of its own
unfoldable pub ends_in : GridUnit → Quote → Ends
ends_in u q =
    let times = (grid_of u).scale / (grid_of q.unit).scale in
    record { lower = q.lower * times; upper = q.upper * times }

-- of two quotes: the two figures, and the values in the finer unit
unfoldable pub pair_of : Quote → Quote → Pair
pair_of q q' =
    let u = finer q.unit q'.unit in
    record { first = q.figure; second = q'.figure; values = values_of (ends_in u q) (ends_in u q'); unit = u }

-- two answers compared, or the refusal of one
abbrev pub Comparison : Type 0
Comparison = Result Pair Refusal

-- of two answers: a refusal, the first's or, if it has none, the second's; and else the two quotes compared
unfoldable pub comparison_of : Answer → Answer → Comparison
comparison_of (Err r) b = Err r
comparison_of (Ok q) (Err r) = Err r
comparison_of (Ok q) (Ok q') = Ok (pair_of q q')

-- ---- what below, above and near say of two exact values, whatever they are the values of

-- the exact value is at least the lower end and at most the upper one
pub record Held (g : Grid) (ends : Ends) (v : Exact) : Type 0 where
  pub at_least : AtLeast v (in_units g ends.lower)
  pub at_most : AtMost v (in_units g ends.upper)

-- v' exceeds v by at least n units: at every order that counts it is at least the lower end of v and n units
pub record AtLeastOver (g : Grid) (n : ℕ) (v v' : Exact) : Type 0 where
  pub over : (j : ℕ) → least_order ≤ j → AtLeast v' ((v j).least +/ in_units g n)

-- v' exceeds v by at most n units: at every order that counts it is at most the upper end of v and n units
pub record AtMostOver (g : Grid) (n : ℕ) (v v' : Exact) : Type 0 where
  pub over : (j : ℕ) → least_order ≤ j → AtMost v' ((v j).most +/ in_units g n)

-- v' exceeds v by so much: by at least `least` units, which are not 0, and by at most `most`
pub record Exceeds (g : Grid) (e : Excess) (v v' : Exact) : Type 0 where
  pub some : 0 < e.least
  pub at_least : AtLeastOver g e.least v v'
  pub at_most : AtMostOver g e.most v v'

-- neither exceeds the other by more than n units
pub record Within (g : Grid) (n : ℕ) (v v' : Exact) : Type 0 where
  pub first : AtMostOver g n v' v
  pub second : AtMostOver g n v v'

-- below: the second exceeds the first by so much; above: the first the second; near: within so many units
unfoldable pub Means : Grid → Values → Exact → Exact → Type 0
Means g (Below e) v v' = Exceeds g e v v'
Means g (Above e) v v' = Exceeds g e v' v
Means g (Near n) v v' = Within g n v v'

-- the first is less than the second: from an order that counts on its whole bracket is below the other
pub record Less (v v' : Exact) : Type 0 where
  pub order : ℕ
  pub counts : least_order ≤ order
  pub less : (j : ℕ) → order ≤ j → (v j).most </ (v' j).least
