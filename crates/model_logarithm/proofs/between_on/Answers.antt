-- `between_on` meets its contract. The loop's invariant: the k-th powers and the sums of k terms, rounded down and up.
use mathlib.Core.Path.{◌≡◌, ◌∙◌}
use Prim.Native.Nat.{ℕ, ◌+◌, ◌*◌, ◌/◌, ◌≤◌}
use native.Mathlib.Nat.{div-le_self}
use native.Mathlib.Omega.{arith}
use Rattle.number_exponential.specs.Grid.{Grid}
use Rattle.number_exponential.specs.Units.{billionths, ten_trillionths, grid_of}
use Rattle.number_exponential.proofs.laws.RunOut.{count_fits, sum_fits}
use Rattle.number_products.specs.laws.Units.{unit-least, unit-most}
use Rattle.model_logarithm.specs.Logarithm.{log_upper}
use Rattle.model_logarithm.proofs.Steps.{LowerSteps, UpperSteps, few-terms, room, lower-second, upper-second, lower-more, upper-more}
use Rattle.model_logarithm.proofs.Steps.{lower-done, upper-done, lower-out, upper-out}
use Rattle.model_logarithm.proofs.between_on.Goals as goal
use Rattle.model_logarithm.proofs.between_on.Goals.{Start}

-- what stands before the loop: the function's start, the grid and the terms
abbrev start : goal.After-next_up-up → Start
start c = c.before.before.before

abbrev grid : goal.After-next_up-up → Grid
grid c = grid_of (start c).args.grid

abbrev terms : goal.After-next_up-up → ℕ
terms c = c.before.before.terms_of-terms.result

-- the terms and the unit are no more, and the unit no less, than what fits
record Sizes (unit log_terms n : ℕ) : Type 0 where
  all : n ≡ log_terms
  two : 2 ≤ log_terms
  few : log_terms ≤ 50
  least : billionths.unit ≤ unit
  most : unit ≤ ten_trillionths.unit

sizes : (c : goal.After-next_up-up) → Sizes (grid c).unit (grid c).log_terms (terms c)
sizes c =
    let u = (start c).args.grid in
    let f = few-terms u in
    record { all = c.before.before.terms_of-terms.ensures; two = f.0; few = f.1; least = unit-least u; most = unit-most u }

-- the second powers and the sums of two terms
lower-begun : (c : goal.After-next_up-up) → let d = c.before.next_down-down.result in let u = (start c).args.u.lower in
    LowerSteps (grid c) u d (u + d / 2) 2
lower-begun c = lower-second (grid c) (start c).requires.0 (sizes c).two c.before.next_down-down.ensures.0

upper-begun : (c : goal.After-next_up-up) → let d = c.next_up-up.result in let u = (start c).args.u.upper in
    UpperSteps (grid c) u d (u + (d + 1) / 2) 2
upper-begun c = upper-second (grid c) (start c).requires.1 (sizes c).two c.next_up-up.ensures.0

pub overflow_add-least : goal.overflow_add-least
overflow_add-least c = omega (arith, (lower-begun c).sum-small, sizes c)

pub overflow_add-most : goal.overflow_add-most
overflow_add-most c = omega (arith, (upper-begun c).power_small, sizes c)

pub overflow_add-most-2 : goal.overflow_add-most-2
overflow_add-most-2 c = omega (arith, (upper-begun c).sum-small, sizes c)

-- a turn's terms
pub next_down-down-requires-in-loop-k : goal.next_down-down-requires-in-loop-k
next_down-down-requires-in-loop-k c = ((start c.before.before).requires.0, c.before.loop-k.invariant.0.power_small)

pub next_up-up-requires-in-loop-k : goal.next_up-up-requires-in-loop-k
next_up-up-requires-in-loop-k c = let l = c.before.before in ((start l.before).requires.1, l.loop-k.invariant.1.power_small)

pub over-least-requires : goal.over-least-requires
over-least-requires c =
    let d = c.before in
    let s = sizes d.before.before.before in
    (omega (arith, d.next_down-down-in-loop-k.ensures.1), omega arith, omega arith)

pub overflow_add-up : goal.overflow_add-up
overflow_add-up c =
    let n = c.before in
    omega (arith, n.next_up-up-in-loop-k.ensures.1, sizes n.before.before.before.before)

pub over-most-requires : goal.over-most-requires
over-most-requires c =
    let n = c.before in
    let s = sizes n.before.before.before.before in
    (omega (arith, n.next_up-up-in-loop-k.ensures.1), omega arith, omega arith)

-- the powers and the sums after a turn
lower-turned : (c : goal.After-over-least) → let d = c.before.before in let b = d.before.before in let l = b.loop-k in
    LowerSteps (grid b.before) (start b.before).args.u.lower d.next_down-down-in-loop-k.result (l.least + c.over-least.result) (l.k + 1)
lower-turned c =
    let d = c.before.before in
    let b = d.before.before in
    let s = sizes b.before in
    rw (c.over-least.ensures, d.next_down-down-in-loop-k.ensures.0)
    (lower-more (grid b.before) (start b.before).requires.0 b.loop-k.invariant.0 (omega arith))

upper-turned : (c : goal.After-over-most) → let n = c.before.before in let b = n.before.before.before in let l = b.loop-k in
    UpperSteps (grid b.before) (start b.before).args.u.upper n.next_up-up-in-loop-k.result (l.most + c.over-most.result) (l.k + 1)
upper-turned c =
    let n = c.before.before in
    let b = n.before.before.before in
    let s = sizes b.before in
    rw (c.over-most.ensures, n.next_up-up-in-loop-k.ensures.0)
    (upper-more (grid b.before) (start b.before).requires.1 b.loop-k.invariant.1 (omega arith))

pub overflow_add-least-in-loop-k : goal.overflow_add-least-in-loop-k
overflow_add-least-in-loop-k c =
    let b = c.before.before.before.before in
    let t = lower-turned c in
    omega (arith, room (start b.before).args.grid (b.loop-k.k + 1) t.counted t.sum-small)

-- the upper sum after a turn fits
most-fits : (c : goal.After-over-most) → let n = c.before.before in let b = n.before.before.before in
    b.loop-k.most + c.over-most.result ≤ 50 * ten_trillionths.unit
most-fits c =
    let b = c.before.before.before.before.before in
    let t = upper-turned c in room (start b.before).args.grid (b.loop-k.k + 1) t.counted t.sum-small

pub overflow_add-most-in-loop-k : goal.overflow_add-most-in-loop-k
overflow_add-most-in-loop-k c = omega (arith, most-fits c)

-- ---- where the powers have run out

pub overflow_add-up-in-loop-k : goal.overflow_add-up-in-loop-k
overflow_add-up-in-loop-k c =
    let b = c.before.before.before.before.before in
    omega (arith, (lower-turned c.before).power_small, (upper-turned c).power_small, sizes b.before)

pub overflow_mul-down : goal.overflow_mul-down
overflow_mul-down c =
    let b = c.before.before.before.before.before in
    omega (arith, (lower-turned c.before).power_small, sizes b.before)

pub overflow_mul-result : goal.overflow_mul-result
overflow_mul-result c =
    let s = sizes c.before.before.before.before.before.before.before in
    count_fits _ (omega arith) (omega (arith, c.if-up-down-lt2.true))

pub overflow_add-result-then-up-down-lt2 : goal.overflow_add-result-then-up-down-lt2
overflow_add-result-then-up-down-lt2 c =
    let s = sizes c.before.before.before.before.before.before.before in
    sum_fits _ _ (omega (arith, most-fits c.before)) (omega arith) (omega (arith, c.if-up-down-lt2.true))

pub returns-then-up-down-lt2 : goal.returns-then-up-down-lt2
returns-then-up-down-lt2 c =
    let t = c.before in
    let b = t.before.before.before.before.before in (
      lower-out (grid b.before) _ (lower-turned t.before) (omega (arith, c.if-up-down-lt2.true)),
      upper-out (grid b.before) (start b.before).requires.1 b.loop-k.k (upper-turned t) (omega (arith, c.if-up-down-lt2.true))
          (sizes b.before).all,
    )

-- ---- one term more, and after the last

pub loop-k-preserved : goal.loop-k-preserved
loop-k-preserved c = (lower-turned c.before.before, upper-turned c.before)

pub next_up-requires : goal.next_up-requires
next_up-requires c = ((start c.before.before).requires.1, c.before.loop-k.invariant.1.power_small)

last : (c : goal.After-loop-k) → c.before.loop-k.k ≡ terms c.before.before
last c =
    let s = sizes c.before.before in
    omega (arith, c.before.loop-k.invariant.1.counted)

rest : (c : goal.After-over) → let n = c.before in let l = n.before.before in
    l.loop-k.most + c.over.result ≡ log_upper (grid l.before) (start l.before).args.u.upper
rest c =
    let n = c.before in
    let l = n.before.before in
    upper-done (grid l.before) (start l.before).requires.1 l.loop-k.invariant.1 (last n.before) (sizes l.before).all
    n.next_up.ensures.0 c.over.ensures

-- the sum after the last term and the power after it fit
rest-fits : (c : goal.After-next_up) → let l = c.before.before in
    (l.loop-k.most ≤ 50 * ten_trillionths.unit) × (c.next_up.result ≤ ten_trillionths.unit)
rest-fits c =
    let l = c.before.before in
    let i = l.loop-k.invariant.1 in
    let s = sizes l.before in
    (room (start l.before).args.grid l.loop-k.k i.counted i.sum-small, omega (arith, c.next_up.ensures.1))

pub over-requires : goal.over-requires
over-requires c =
    let s = sizes c.before.before.before in
    (omega (arith, c.next_up.ensures.1), omega arith, omega arith)

pub overflow_add-result-2 : goal.overflow_add-result-2
overflow_add-result-2 c =
    let n = c.before in
    let s = sizes n.before.before.before in
    let t = terms n.before.before.before in
    omega (arith, rest-fits n, c.over.ensures, div-le_self (2 * n.next_up.result + t) (t + 1))

pub returns : goal.returns
returns c =
    let l = c.before.before in
    (lower-done (grid l.before.before) _ l.before.loop-k.invariant.0 (last l ∙ (sizes l.before.before).all), rest c)

pub loop-k-init : goal.loop-k-init
loop-k-init c = (lower-begun c, upper-begun c)

pub overflow_add-place : goal.overflow_add-place
overflow_add-place c = omega (arith, sizes c.before.before)

pub overflow_add-result : goal.overflow_add-result
overflow_add-result c = omega (arith, sizes c.before.before.before.before.before.before.before)

pub overflow_mul-next_up : goal.overflow_mul-next_up
overflow_mul-next_up c = omega (arith, rest-fits c)

pub overflow_add-next_up : goal.overflow_add-next_up
overflow_add-next_up c = omega (arith, rest-fits c, sizes c.before.before.before)

pub overflow_add-terms : goal.overflow_add-terms
overflow_add-terms c = omega (arith, sizes c.before.before.before)
