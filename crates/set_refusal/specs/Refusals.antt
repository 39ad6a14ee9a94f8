-- The table of refusals: each case's number in the papers, and 0 where nothing is refused.
use Rattle.std.specs.Prelude.{cond, ℕ, eqb, leb}
use Rattle.set_refusal.specs.declared.Refusal.{Refusal}
use Rattle.set_refusal.specs.declared.Refusal.TheVariants.{Accepted, Malformed, OutOfLimits, NoSuchAge, NoSuchYear}
use Rattle.set_refusal.specs.declared.Refusal.TheVariants.{NoSuchSpan, LogForceOutOfRange, BufferTooShort, NoSuchRate, MalformedColumn, NoSuchDate, StartsDiffer}

-- of the trade's words "torn" is Malformed, "off scale" OutOfLimits, "steep" LogForceOutOfRange, "short" BufferTooShort and
-- "torn column" MalformedColumn
unfoldable pub refusal_number : Refusal → ℕ
refusal_number Accepted = 0
refusal_number Malformed = 1
refusal_number OutOfLimits = 2
refusal_number NoSuchAge = 3
refusal_number NoSuchYear = 4
refusal_number NoSuchSpan = 5
refusal_number LogForceOutOfRange = 6
refusal_number BufferTooShort = 7
refusal_number NoSuchRate = 8
refusal_number MalformedColumn = 9
refusal_number NoSuchDate = 10
refusal_number StartsDiffer = 11

-- of two lives "each number is tried on the first life, then the second, before the next number": of their two refusals the one
-- with the lower number, and of equal ones the first's; where one life is not refused, the other's
unfoldable pub lower_refusal : Refusal → Refusal → Refusal
lower_refusal r r' =
    cond (eqb (refusal_number r') 0) r
    (cond (eqb (refusal_number r) 0) r' (cond (leb (refusal_number r) (refusal_number r')) r r'))
