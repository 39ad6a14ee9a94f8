-- An exact value that is at least or at most a fraction: of a smaller and of a greater fraction, and of the ends that
-- overlap every order.
use Rattle.std.specs.Prelude.{ℕ, ◌≤◌}
use Rattle.number_fraction.specs.Ratio.{Ratio, ◌≤/◌}
use Rattle.number_fraction.proofs.laws.RatioLaws.{</-≤/-trans, ≤/-</-trans, not-</-of-≤/}
use Rattle.number_taylor.specs.Order.{least_order}
use Rattle.number_exponential.specs.Grid.{Grid, in_units}
use Rattle.number_exponential.proofs.laws.Overlap.{Overlap}
use Rattle.number_exponential.specs.declared.Ends.{Ends}
use Rattle.number_exact.specs.Value.{Exact, AtLeast, AtMost}

-- at least c is at least what is at most c
pub at-least-weaken : {v : Exact} {c d : Ratio} → d ≤/ c → AtLeast v c → AtLeast v d
at-least-weaken h a = record { none_below = λ j l k. a.none_below j l (</-≤/-trans k h) }

-- at most c is at most what is at least c
pub at-most-weaken : {v : Exact} {c d : Ratio} → c ≤/ d → AtMost v c → AtMost v d
at-most-weaken h a = record { none_above = λ j l k. a.none_above j l (≤/-</-trans h k) }

-- a value whose every order the ends overlap lies between them
pub overlap-at-least : {g : Grid} {ends : Ends} {v : Exact}
    → ((j : ℕ) → least_order ≤ j → Overlap g ends (v j).least (v j).most) → AtLeast v (in_units g ends.lower)
overlap-at-least o = record { none_below = λ j l. not-</-of-≤/ (o j l).below }

pub overlap-at-most : {g : Grid} {ends : Ends} {v : Exact}
    → ((j : ℕ) → least_order ≤ j → Overlap g ends (v j).least (v j).most) → AtMost v (in_units g ends.upper)
overlap-at-most o = record { none_above = λ j l. not-</-of-≤/ (o j l).above }
