-- `second_given` meets its contract, test by test.
use mathlib.Core.Bool.{not}
use mathlib.Core.Path.{ap}
use mathlib.Core.Path.{◌≡◌}
use mathlib.Core.Bool.{Bool, true, false, cond}
use Prim.Native.Nat.{ℕ}
use native.Mathlib.Omega.{arith}
use borrow.Author.Tests.{not-true, not-false, eq-eqb, ne_eqb, lt-ltb}
use lib.Dec.{ltb}
use Rattle.run_sheets.specs.Front.{in_turn, by_number}
use Rattle.run_sheets.proofs.second_given.Goals as goal

-- the first is accepted
accepted : (numbered : Bool) (a b : ℕ) → a ≡ 0 → true ≡ cond numbered (by_number a b) (in_turn a b)
unfolding by_number in_turn
accepted true a b e = rw (eq-eqb a 0 e)
accepted false a b e = rw (eq-eqb a 0 e)

-- the first is refused
module _ {numbered : Bool} (a b : ℕ) (n : a ≡ 0 → ⊥) where
  in-turn : numbered ≡ false → false ≡ cond numbered (by_number a b) (in_turn a b)
  unfolding in_turn
  in-turn t = rw (t, ne_eqb a 0 n)

  second-accepted : numbered ≡ true → b ≡ 0 → false ≡ cond numbered (by_number a b) (in_turn a b)
  unfolding by_number
  second-accepted t e = rw (t, ne_eqb a 0 n, e)

  by-number : numbered ≡ true → (b ≡ 0 → ⊥) → ltb b a ≡ cond numbered (by_number a b) (in_turn a b)
  unfolding by_number
  by-number t m = rw (t, ne_eqb a 0 n, lt-ltb 0 b (omega arith))

pub returns-then-first-eq0 : goal.returns-then-first-eq0
returns-then-first-eq0 c = let s = c.before.args in accepted s.numbered s.first s.second (omega arith)

pub returns-then-not-numbered : goal.returns-then-not-numbered
returns-then-not-numbered c =
    let s = c.before.before.args in
    in-turn s.first s.second c.before.if-first-eq0.false (not-true s.numbered (ap not c.if-not-numbered.true))

pub returns-then-second-eq0 : goal.returns-then-second-eq0
returns-then-second-eq0 c =
    let t = c.before in
    let s = t.before.before.args in
    second-accepted s.first s.second t.before.if-first-eq0.false (not-false s.numbered (ap not t.if-not-numbered.false)) c.if-second-eq0.true

pub returns : goal.returns
returns c =
    let t = c.before in
    let s = t.before.before.args in
    by-number s.first s.second t.before.if-first-eq0.false (not-false s.numbered (ap not t.if-not-numbered.false)) c.if-second-eq0.false
