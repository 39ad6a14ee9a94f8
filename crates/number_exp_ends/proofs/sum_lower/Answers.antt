-- `sum_lower` meets its contract. The loop's invariant: i pairs of terms are summed, the even ones by their lower ends and
-- the odd ones by their upper ends.
use mathlib.Core.Path.{◌≡◌, refl, sym}
use Prim.Native.Nat.{ℕ, suc, ◌+◌, ◌-◌, ◌*◌, ◌≤◌, ◌<◌}
use native.Mathlib.Omega.{arith}
use borrow.Author.Rules.{rules}
use Rattle.number_whole.specs.Division.{ceil_div_ℕ}
use Rattle.number_taylor.specs.Alternating.{double}
use Rattle.number_exponential.specs.Grid.{Grid}
use Rattle.number_exponential.specs.Exponential.{next_lower, next_upper, term_lower, term_upper, total, evens, odds, sum_lower}
use Rattle.number_exponential.specs.declared.GridUnit.{GridUnit}
use Rattle.number_exponential.specs.declared.GridUnit.TheVariants.{Coarse, Fine}
use Rattle.number_exponential.specs.Units.{ten_trillionths, grid_of}
use Rattle.number_exponential.proofs.laws.GridFacts.{unit-sound, unit-narrow}
use Rattle.number_exponential.proofs.laws.Sums.{double-two}
use Rattle.number_products.specs.laws.Units.{unit-most}
use Rattle.number_exp_ends.specs.code.Code.{PairCount}
use Rattle.number_exp_ends.proofs.Pairs.{Lower, Less, LowerPairs, room, positive, none, more, all, lower-next, less-next, first-upper, lower-sum, lower-out}
use Rattle.number_exp_ends.proofs.sum_lower.Goals as goal
use Rattle.number_exp_ends.proofs.sum_lower.Goals.{Start}

-- what stands before the loop: the function's start, the grid, f, which is not 0, and the pairs
abbrev start : goal.Else-f-eq0 → Start
start e = e.before.before.before

abbrev grid : goal.Else-f-eq0 → Grid
grid e = grid_of (start e).args.grid

abbrev at : goal.Else-f-eq0 → ℕ
at e = (start e).args.f

abbrev pairs : goal.Else-f-eq0 → ℕ
pairs e = e.before.pairs_of-pairs.result

count : (e : goal.Else-f-eq0) → PairCount (grid e) (pairs e)
count e = e.before.pairs_of-pairs.ensures

some : (e : goal.Else-f-eq0) → 0 < at e
some e = positive e.if-f-eq0.false

-- where a turn begins, and 2i there
abbrev begun : goal.In-loop-i → goal.Else-f-eq0
begun t = t.before.before

abbrev twice : goal.In-loop-i → ℕ
twice t = double t.before.loop-i.i

-- the terms of a turn
even-lower : (c : goal.After-next_lower-even) → let t = c.before in
    Lower (grid (begun t)) (at (begun t)) (suc (suc (twice t))) c.next_lower-even.result
even-lower c =
    let l = c.before.before in
    lower-next _ _ (start l.before).requires l.loop-i.invariant.lower (omega (arith, double-two l.loop-i.i)) c.next_lower-even.ensures

odd-lower : (c : goal.After-next_lower-low) → let t = c.before.before in
    Lower (grid (begun t)) (at (begun t)) (suc (suc (suc (twice t)))) c.next_lower-low.result
odd-lower c =
    let l = c.before.before.before in
    lower-next _ _ (start l.before).requires (even-lower c.before) (omega (arith, double-two l.loop-i.i)) c.next_lower-low.ensures

even-less : (c : goal.After-next_less) → let t = c.before.before.before in
    Less (grid (begun t)) (at (begun t)) (suc (suc (twice t))) c.next_less.result
even-less c =
    let l = c.before.before.before.before in
    less-next _ _ (start l.before).requires l.loop-i.invariant.upper (omega (arith, double-two l.loop-i.i)) c.next_less.ensures

odd-less : (c : goal.After-next_less-less) → let t = c.before.before.before.before in
    Less (grid (begun t)) (at (begun t)) (suc (suc (suc (twice t)))) c.next_less-less.result
odd-less c =
    let l = c.before.before.before.before.before in
    less-next _ _ (start l.before).requires (even-less c.before) (omega (arith, double-two l.loop-i.i)) c.next_less-less.ensures

-- at f = 0
at_none : (u : GridUnit) → (grid_of u).unit ≡ sum_lower (grid_of u) 0
unfolding grid_of next_lower next_upper term_lower term_upper total evens odds sum_lower double ceil_div_ℕ
at_none Coarse = refl
at_none Fine = refl

pub returns-then-f-eq0 : goal.returns-then-f-eq0
returns-then-f-eq0 c =
    let s = c.before.before.before in
    rw (c.if-f-eq0.true, c.before.before.unit_by-one.ensures) (at_none s.args.grid)

pub loop-i-init : goal.loop-i-init
unfolding term_lower
loop-i-init c =
    none _ _ (some c) (start c).requires _ _ _ _ c.before.before.unit_by-one.ensures refl (sym (first-upper _ (at c)))

-- the pairs after a turn
turned : (c : goal.After-next_less-less) → let o = c.before.before in let e = o.before in let t = e.before in
    let l = t.before.loop-i in
    LowerPairs (grid (begun t)) (at (begun t)) o.next_lower-low.result c.next_less-less.result (l.evens + e.next_lower-even.result)
    (l.odds + c.next_less-less.result) (l.i + 1)
turned c =
    let o = c.before.before in
    let e = o.before in
    let h = odd-less c in
    more e.before.before.loop-i.invariant (odd-lower o) h (even-lower e) h

-- ---- what each step asks

pub next_lower-even-requires : goal.next_lower-even-requires
next_lower-even-requires c = let n = count (begun c) in search rules

pub next_lower-low-requires : goal.next_lower-low-requires
next_lower-low-requires c =
    let n = count (begun c.before) in
    let t = even-lower c in search rules

pub next_less-requires : goal.next_less-requires
next_less-requires c = let t = c.before.before in let n = count (begun t) in (search rules, some (begun t))

pub next_less-less-requires : goal.next_less-less-requires
next_less-less-requires c =
    let t = c.before.before.before in
    let n = count (begun t) in
    let h = even-less c in (search rules, some (begun t))

-- the sums before a turn and its ends fit
sums-fit : (t : goal.In-loop-i) → let l = t.before.loop-i in
    (l.evens ≤ 41 * ten_trillionths.unit) × (l.odds ≤ 41 * ten_trillionths.unit) × ((grid (begun t)).unit ≤ ten_trillionths.unit)
sums-fit t =
    let l = t.before.loop-i in
    let u = (start (begun t)).args.grid in
    let h : l.i ≤ 40 = omega (arith, (count (begun t)).few) in
    (room u l.i h l.invariant.evens-small, room u l.i h l.invariant.odds-small, unit-most u)

pub overflow_add-evens : goal.overflow_add-evens
overflow_add-evens c =
    let e = c.before.before.before in
    omega (arith, (even-lower e).small, sums-fit e.before)

pub overflow_add-odds : goal.overflow_add-odds
overflow_add-odds c = omega (arith, (odd-less c).small, sums-fit c.before.before.before.before)

pub overflow_add-less : goal.overflow_add-less
overflow_add-less c = omega (arith, (turned c).lower.small, (turned c).upper.small, unit-most (start (begun c.before.before.before.before)).args.grid)

-- ---- where the terms have run out

pub overflow_add-result : goal.overflow_add-result
overflow_add-result c =
    let u = c.before in
    let t = u.before.before.before.before in
    omega (arith, (odd-less u).small, sums-fit t, (count (begun t)).few)

left : (c : goal.Then-less-low-eq0) → let u = c.before in let o = u.before.before in let e = o.before in let t = e.before in
    let l = t.before.loop-i in let E = l.evens + e.next_lower-even.result in let O = l.odds + u.next_less-less.result + pairs (begun t) in
    (O ≤ E) × (E - O ≡ sum_lower (grid (begun t)) (at (begun t)))
left c =
    let u = c.before in
    let t = u.before.before.before.before in
    let b = begun t in
    let v = (start b).args.grid in
    lower-out (grid b) (unit-sound v) (unit-narrow v) (count b) _ (start b).requires t.before.loop-i.i (turned u) (omega arith)
    (omega (arith, c.if-less-low-eq0.true)) (omega (arith, c.if-less-low-eq0.true))

-- ---- one turn more, and after the last

pub loop-i-preserved : goal.loop-i-preserved
loop-i-preserved c = turned c.before

pub overflow_add-result-2 : goal.overflow_add-result-2
overflow_add-result-2 c =
    let l = c.before.loop-i in
    let b = c.before.before in
    let h : l.i ≤ 40 = omega (arith, (count b).few) in
    omega (arith, room (start b).args.grid l.i h l.invariant.odds-small, (count b).few)

whole : (c : goal.After-loop-i) → let l = c.before.loop-i in let b = c.before.before in
    (l.odds + pairs b ≤ l.evens) × (l.evens - (l.odds + pairs b) ≡ sum_lower (grid b) (at b))
whole c =
    let b = c.before.before in
    let v = (start b).args.grid in
    lower-sum (grid b) (unit-sound v) (unit-narrow v) (count b) _ (start b).requires (all (pairs b) c.before.loop-i.invariant (omega arith))

pub overflow_sub-less : goal.overflow_sub-less
overflow_sub-less c = some c

pub overflow_mul-k : goal.overflow_mul-k
overflow_mul-k c = omega (arith, (count (begun c)).few)

pub overflow_add-k : goal.overflow_add-k
overflow_add-k c = omega (arith, (count (begun c)).few)

pub overflow_add-k-in-loop-i : goal.overflow_add-k-in-loop-i
overflow_add-k-in-loop-i c = omega (arith, (count (begun c.before)).few)

pub overflow_add-k-in-loop-i-2 : goal.overflow_add-k-in-loop-i-2
overflow_add-k-in-loop-i-2 c = omega (arith, (count (begun c.before.before.before)).few)

pub overflow_sub-result : goal.overflow_sub-result
overflow_sub-result c = (left c).0

pub returns-then-less-low-eq0 : goal.returns-then-less-low-eq0
returns-then-less-low-eq0 c = (left c).1

pub overflow_sub-result-2 : goal.overflow_sub-result-2
overflow_sub-result-2 c = (whole c).0

pub returns : goal.returns
returns c = (whole c).1
