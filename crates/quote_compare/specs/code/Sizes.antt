-- A quote whose ends are no greater than those of any query, so that they fit in the finer unit: what the code asks for.
use Rattle.std.specs.Prelude.{◌*◌, ◌≤◌, Ok, Err}
use Rattle.number_exponential.specs.Units.{grid_of}
use Rattle.quote_along.specs.declared.Quote.{Quote}
use Rattle.quote_along.specs.QuoteBy.{Answer}

-- its ends are at most 172
pub record SmallQuote (q : Quote) : Type 0 where
  pub lower : q.lower ≤ 172 * (grid_of q.unit).unit
  pub upper : q.upper ≤ 172 * (grid_of q.unit).unit

-- an answer of which this holds, where it is a quote
unfoldable pub SmallAnswer : Answer → Type 0
SmallAnswer (Ok q) = SmallQuote q
SmallAnswer (Err r) = Unit
