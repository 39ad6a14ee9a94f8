-- What the ends of two exact values tell of them: that the words and numbers are true, and that values so far apart differ.
use Rattle.std.specs.Prelude.{ℕ, ◌+◌, ◌-◌, ◌≤◌, ◌<◌}
use Rattle.std.proofs.Math.Nat.{le-max_left, le-max_right}
use Rattle.std.proofs.Math.Decide.{dec_lt}
use native.Mathlib.Omega.{arith}
use Rattle.number_fraction.specs.Ratio.{Ratio, ◌≤/◌, ◌</◌, ◌+/◌, whole/}
use Rattle.number_fraction.proofs.laws.RatioLaws.{≤/-refl, ≤/-trans, ≤/-of-not-</, </-of-not-≤/, not-≤/-of-</}
use Rattle.number_fraction.proofs.laws.RatioLaws.{+/-mono, +/-comm, +/-assoc, +/-cancel, ≤/-+/, ≤/-</-trans}
use Rattle.number_fraction.proofs.laws.Room.{finer, finer-positive, room, room-between}
use Rattle.number_taylor.specs.Order.{least_order}
use Rattle.number_exponential.specs.Grid.{Grid, in_units}
use Rattle.number_exponential.specs.declared.Ends.{Ends}
use Rattle.number_exponential.proofs.laws.OutwardLaws.{units-over, units-within}
use Rattle.number_exact.specs.Value.{Exact, Narrows}
use Rattle.number_exact.proofs.laws.ValueLaws.{at-least-weaken, at-most-weaken}
use Rattle.quote_compare.specs.declared.Excess.{Excess}
use Rattle.quote_compare.specs.Compare.{excess, most_apart, values_of}
use Rattle.quote_compare.specs.Compare.{Held, AtLeastOver, AtMostOver, Exceeds, Within, Means, Less}
use Rattle.quote_compare.proofs.laws.CompareLaws.{values-below, values-above, values-near}

-- ---- the three words

module _ {g : Grid} where
  -- an order's lower end of the first is at most its upper end in units, n units under the second's lower one
  ends-least : {a b : Ends} {v v' : Exact} (n : ℕ) → Held g a v → Held g b v' → a.upper + n ≤ b.lower
      → AtLeastOver g n v v'
  ends-least {a} n h k l =
      record {
        over = λ j c.
            at-least-weaken
            (≤/-trans (+/-mono (≤/-of-not-</ (h.at_most.none_above j c)) (≤/-refl _)) (units-over g a.upper n l))
            k.at_least;
      }

  -- the second's upper end in units is at most n units above the first's lower one, and an order's upper end is not under it
  ends-most : {a b : Ends} {v v' : Exact} (n : ℕ) → Held g a v → Held g b v' → b.upper ≤ a.lower + n
      → AtMostOver g n v v'
  ends-most {a} n h k l =
      record {
        over = λ j c.
            at-most-weaken
            (≤/-trans (units-within g a.lower n l) (+/-mono (≤/-of-not-</ (h.at_least.none_below j c)) (≤/-refl _)))
            k.at_most;
      }

  ends-exceed : {a b : Ends} {v v' : Exact} → Held g a v → Held g b v' → a.upper < b.lower
      → Exceeds g (excess a b) v v'
  unfolding excess
  ends-exceed h k l =
      record {
        some = omega arith;
        at_least = ends-least _ h k (omega arith);
        at_most = ends-most _ h k (omega arith);
      }

  ends-within : {a b : Ends} {v v' : Exact} → Held g a v → Held g b v' → Within g (most_apart a b) v v'
  unfolding most_apart
  ends-within {a} {b} h k =
      let f = le-max_left (a.upper - b.lower) (b.upper - a.lower) in
      let t = le-max_right (a.upper - b.lower) (b.upper - a.lower) in
      record {
        first = ends-most _ k h (omega (arith, f));
        second = ends-most _ h k (omega (arith, t));
      }

  -- the words and numbers are true of any two exact values between the ends
  pub values-mean : (a b : Ends) {v v' : Exact} → Held g a v → Held g b v' → Means g (values_of a b) v v'
  unfolding Means
  values-mean a b h k =
      elim (dec_lt a.upper b.lower) [
        | yes l ↦ rw (values-below a b l) (ends-exceed h k l)
        | no l ↦ elim (dec_lt b.upper a.lower) [
          | yes m ↦ rw (values-above a b (omega arith) m) (ends-exceed k h m)
          | no m ↦ rw (values-near a b (omega arith) (omega arith)) (ends-within h k)
        ]
      ]

-- ---- values so far apart differ

-- brackets so narrow, one of each value, cannot fill n units
module _ (g : Grid) (n : ℕ) where
  abbrev first : Ratio
  first = room (whole/ 0) (in_units g n)

  abbrev second : Ratio
  second = room (whole/ 0 +/ first) (in_units g n)

  unfilled : 0 < n → first +/ second </ in_units g n
  unfolding in_units whole/
  unfilled h =
      ≤/-</-trans (+/-mono (≤/-trans (≤/-+/ first (whole/ 0)) (+/-comm first (whole/ 0)).below) (≤/-refl second))
      (room-between (room-between (record { cross = omega arith })))

-- what is added to one and the same fraction
added : (u x y z : Ratio) → u +/ x ≤/ u +/ y +/ z → x ≤/ y +/ z
added u x y z h =
    +/-cancel u
    (≤/-trans (+/-comm x u).below (≤/-trans h (≤/-trans (+/-assoc u y z).below (+/-comm u (y +/ z)).below)))

module _ {g : Grid} {e : Excess} {v v' : Exact} where
  -- of brackets so narrow the first is below the second, or the units between them would be filled
  narrow-less : Exceeds g e v v' → (j : ℕ) → least_order ≤ j → (v j).most ≤/ (v j).least +/ first g e.least
      → (v' j).most ≤/ (v' j).least +/ second g e.least → (v j).most </ (v' j).least
  narrow-less a j c w w' =
      </-of-not-≤/
      (λ h. let l = ≤/-trans w' (+/-mono (≤/-trans h w) (≤/-refl _)) in
      not-≤/-of-</ (unfilled g e.least a.some)
      (added (v j).least (in_units g e.least) (first g e.least) (second g e.least)
      (≤/-trans (≤/-of-not-</ ((a.at_least.over j c).none_below j c)) l)))

  pub exceeds-less : Exceeds g e v v' → Narrows v → Narrows v' → Less v v'
  exceeds-less a w w' =
      let d = in_units g e.least in
      let x = whole/ 0 in
      let y = x +/ room x d in
      record {
        order = w.order (finer x d) + w'.order (finer y d);
        counts = omega (arith, w.counts (finer x d));
        less = λ j l.
            narrow-less a j (omega (arith, w.counts (finer x d))) (w.narrow (finer x d) (finer-positive x d) j (omega arith))
            (w'.narrow (finer y d) (finer-positive y d) j (omega arith));
      }
