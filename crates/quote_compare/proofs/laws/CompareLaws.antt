-- The three cases of two pairs of ends, and what was compared of two answers.
use Rattle.std.specs.Prelude.{◌≡◌, refl, ℕ, ◌-◌, ◌≤◌, ◌<◌, Ok, Err}
use Rattle.std.proofs.Math.Nat.{max-eq_left, max-eq_right}
use Rattle.std.proofs.Common.{arith}
use Rattle.std.proofs.lemmas.Bool.{lt-ltb, le-ltb}
use Rattle.number_whole.proofs.laws.Clash.{clash}
use Rattle.number_exponential.specs.declared.Ends.{Ends}
use Rattle.number_exponential.specs.declared.GridUnit.{GridUnit}
use Rattle.set_refusal.specs.declared.Refusal.{Refusal}
use Rattle.quote_along.specs.declared.Quote.{Quote}
use Rattle.quote_along.specs.QuoteBy.{Answer}
use Rattle.quote_compare.specs.declared.Values.{Values}
use Rattle.quote_compare.specs.declared.Values.TheVariants.{Below, Above, Near}
use Rattle.quote_compare.specs.declared.Pair.{Pair}
use Rattle.quote_compare.specs.Compare.{excess, most_apart, values_of, finer, ends_in, pair_of, comparison_of}

-- ---- two pairs of ends

pub excess-is : (a b : Ends) {l m : ℕ} → l ≡ b.lower - a.upper → m ≡ b.upper - a.lower
    → record { least = l; most = m } ≡ excess a b
unfolding excess
excess-is a b e f = rw (e, f)

pub values-below : (a b : Ends) → a.upper < b.lower → values_of a b ≡ Below (excess a b)
unfolding values_of
values-below a b h = rw (lt-ltb a.upper b.lower h)

pub values-above : (a b : Ends) → b.lower ≤ a.upper → b.upper < a.lower → values_of a b ≡ Above (excess b a)
unfolding values_of
values-above a b h k = rw (le-ltb a.upper b.lower h, lt-ltb b.upper a.lower k)

pub values-near : (a b : Ends) → b.lower ≤ a.upper → a.lower ≤ b.upper → values_of a b ≡ Near (most_apart a b)
unfolding values_of
values-near a b h k = rw (le-ltb a.upper b.lower h, le-ltb b.upper a.lower k)

-- the greater of the two differences
pub apart-second : (a b : Ends) → a.upper - b.lower ≤ b.upper - a.lower → most_apart a b ≡ b.upper - a.lower
unfolding most_apart
apart-second a b h = omega (arith, max-eq_right h)

pub apart-first : (a b : Ends) → b.upper - a.lower ≤ a.upper - b.lower → most_apart a b ≡ a.upper - b.lower
unfolding most_apart
apart-first a b h = omega (arith, max-eq_left h)

-- ---- two answers

-- the three cases
pub first-refused : {a : Answer} (b : Answer) {r : Refusal} → a ≡ Err r → comparison_of a b ≡ Err r
unfolding comparison_of
first-refused b e = rw e

pub second-refused : {a b : Answer} {q : Quote} {r : Refusal} → a ≡ Ok q → b ≡ Err r → comparison_of a b ≡ Err r
unfolding comparison_of
second-refused e f = rw (e, f)

pub pair_is : (q q' : Quote) {u : GridUnit} {e e' : Ends} {v : Values} → u ≡ finer q.unit q'.unit → e ≡ ends_in u q
    → e' ≡ ends_in u q' → v ≡ values_of e e' → record { first = q.figure; second = q'.figure; values = v; unit = u } ≡ pair_of q q'
unfolding pair_of
pair_is q q' h f f' g = rw (g, f, f', h)

pub both-quoted : {a b : Answer} {q q' : Quote} {x : Pair} → a ≡ Ok q → b ≡ Ok q' → x ≡ pair_of q q'
    → comparison_of a b ≡ Ok x
unfolding comparison_of
both-quoted e f g = rw (e, f, g)

-- what was compared: two quotes
pub record Both (a b : Answer) (x : Pair) : Type 0 where
  pub first : Quote
  pub second : Quote
  pub first-is : a ≡ Ok first
  pub second_is : b ≡ Ok second
  pub pair : x ≡ pair_of first second

pub compared-both : (a b : Answer) {x : Pair} → comparison_of a b ≡ Ok x → Both a b x
unfolding comparison_of
compared-both (Err r) b e = clash cc
compared-both (Ok q) (Err r) e = clash cc
compared-both (Ok q) (Ok q') e =
    record { first = q; second = q'; first-is = refl; second_is = refl; pair = cc }
