-- `sum_upper` meets its contract. The loop's invariant: i pairs of terms are summed, the even ones by their upper ends and
-- the odd ones by their lower ends.
use mathlib.Core.Path.{◌≡◌, refl, sym, ◌∙◌}
use Prim.Native.Nat.{ℕ, suc, ◌+◌, ◌-◌, ◌*◌, ◌≤◌, ◌<◌, min}
use native.Mathlib.Omega.{arith}
use native.Mathlib.Nat.{min_comm}
use borrow.Author.Rules.{rules}
use Rattle.number_whole.specs.Division.{ceil_div_ℕ}
use Rattle.number_taylor.specs.Alternating.{double}
use Rattle.number_exponential.specs.Grid.{Grid}
use Rattle.number_exponential.specs.Exponential.{next_lower, next_upper, term_lower, term_upper, total, evens, odds, sum_upper}
use Rattle.number_exponential.specs.declared.GridUnit.{GridUnit}
use Rattle.number_exponential.specs.declared.GridUnit.TheVariants.{Coarse, Fine}
use Rattle.number_exponential.specs.Units.{ten_trillionths, grid_of}
use Rattle.number_exponential.proofs.laws.GridFacts.{unit-sound, unit-narrow}
use Rattle.number_exponential.proofs.laws.Sums.{double-two}
use Rattle.number_products.specs.laws.Units.{unit-most}
use Rattle.number_exp_ends.specs.code.Code.{PairCount}
use Rattle.number_exp_ends.proofs.Pairs.{Lower, Less, UpperPairs, room, positive, none, more, lower-next, less-next, first-lower, upper-sum, upper-out}
use Rattle.number_exp_ends.proofs.sum_upper.Goals as goal
use Rattle.number_exp_ends.proofs.sum_upper.Goals.{Start, At-loop-i}

-- what stands before the loop: the function's start, the grid, f, which is not 0, and the pairs
abbrev start : goal.Else-f-eq0 → Start
start e = e.before.before.before

abbrev grid : goal.Else-f-eq0 → Grid
grid e = grid_of (start e).args.grid

abbrev at : goal.Else-f-eq0 → ℕ
at e = (start e).args.f

abbrev pairs : goal.Else-f-eq0 → ℕ
pairs e = e.before.pairs_of-pairs.result

count : (e : goal.Else-f-eq0) → PairCount (grid e) (pairs e)
count e = e.before.pairs_of-pairs.ensures

some : (e : goal.Else-f-eq0) → 0 < at e
some e = positive e.if-f-eq0.false

-- where a turn begins, and 2i there
abbrev begun : goal.In-loop-i → goal.Else-f-eq0
begun t = t.before.before

abbrev twice : goal.In-loop-i → ℕ
twice t = double t.before.loop-i.i

-- the terms of a turn, and the last one
even-less : (c : goal.After-next_less-even) → let t = c.before in
    Less (grid (begun t)) (at (begun t)) (suc (suc (twice t))) c.next_less-even.result
even-less c =
    let l = c.before.before in
    less-next _ _ (start l.before).requires l.loop-i.invariant.upper (omega (arith, double-two l.loop-i.i)) c.next_less-even.ensures

even-lower : (c : goal.After-next_lower) → let t = c.before.before in
    Lower (grid (begun t)) (at (begun t)) (suc (suc (twice t))) c.next_lower.result
even-lower c =
    let l = c.before.before.before in
    lower-next _ _ (start l.before).requires l.loop-i.invariant.lower (omega (arith, double-two l.loop-i.i)) c.next_lower.ensures

odd-lower : (c : goal.After-next_lower-low) → let t = c.before.before.before in
    Lower (grid (begun t)) (at (begun t)) (suc (suc (suc (twice t)))) c.next_lower-low.result
odd-lower c =
    let l = c.before.before.before.before in
    lower-next _ _ (start l.before).requires (even-lower c.before) (omega (arith, double-two l.loop-i.i)) c.next_lower-low.ensures

odd-less : (c : goal.After-next_less-less) → let t = c.before.before.before.before in
    Less (grid (begun t)) (at (begun t)) (suc (suc (suc (twice t)))) c.next_less-less.result
odd-less c =
    let l = c.before.before.before.before.before in
    less-next _ _ (start l.before).requires (even-less c.before.before.before) (omega (arith, double-two l.loop-i.i))
    c.next_less-less.ensures

last : (c : goal.After-next_less-evens) → let l = c.before.before in let b = l.before in
    Less (grid b) (at b) (suc (suc (double l.loop-i.i))) c.next_less-evens.result
last c =
    let l = c.before.before in
    less-next _ _ (start l.before).requires l.loop-i.invariant.upper (omega (arith, double-two l.loop-i.i)) c.next_less-evens.ensures

-- at f = 0
at_none : (u : GridUnit) → (grid_of u).unit ≡ sum_upper (grid_of u) 0
unfolding grid_of next_lower next_upper term_lower term_upper total evens odds sum_upper double ceil_div_ℕ
at_none Coarse = refl
at_none Fine = refl

pub returns-then-f-eq0 : goal.returns-then-f-eq0
returns-then-f-eq0 c =
    let s = c.before.before.before in
    rw (c.if-f-eq0.true, c.before.before.unit_by-one.ensures) (at_none s.args.grid)

pub loop-i-init : goal.loop-i-init
unfolding term_upper
loop-i-init c =
    none _ _ (some c) (start c).requires _ _ _ _ c.before.before.unit_by-one.ensures refl (sym (first-lower _ (at c)))

-- the pairs after a turn
turned : (c : goal.After-next_less-less) → let o = c.before in let e = o.before.before in let t = e.before in
    let l = t.before.loop-i in
    UpperPairs (grid (begun t)) (at (begun t)) o.next_lower-low.result c.next_less-less.result (l.evens + e.next_less-even.result)
    (l.odds + o.next_lower-low.result) (l.i + 1)
turned c =
    let o = c.before in
    let e = o.before.before in
    let l = odd-lower o in
    more e.before.before.loop-i.invariant l (odd-less c) (even-less e) l

-- ---- what each step asks

pub next_less-even-requires : goal.next_less-even-requires
next_less-even-requires c = let n = count (begun c) in (search rules, some (begun c))

pub next_lower-requires : goal.next_lower-requires
next_lower-requires c = let n = count (begun c.before) in search rules

pub next_lower-low-requires : goal.next_lower-low-requires
next_lower-low-requires c =
    let n = count (begun c.before.before) in
    let t = even-lower c in search rules

pub next_less-less-requires : goal.next_less-less-requires
next_less-less-requires c =
    let t = c.before.before.before in
    let n = count (begun t) in
    let h = even-less c.before.before in (search rules, some (begun t))

-- the sums of a turn's start, or of the loop's end, fit
sums-fit : (l : At-loop-i) → let b = l.before in
    (l.loop-i.evens ≤ 41 * ten_trillionths.unit) × (l.loop-i.odds ≤ 41 * ten_trillionths.unit) × ((grid b).unit ≤ ten_trillionths.unit)
    × (pairs b ≤ 40)
sums-fit l =
    let i = l.loop-i.i in
    let b = l.before in
    let u = (start b).args.grid in
    let h : i ≤ 40 = omega (arith, (count b).few) in
    (room u i h l.loop-i.invariant.evens-small, room u i h l.loop-i.invariant.odds-small, unit-most u, (count b).few)

pub overflow_add-evens : goal.overflow_add-evens
overflow_add-evens c =
    let e = c.before.before.before in
    omega (arith, (even-less e).small, sums-fit e.before.before)

pub overflow_add-odds : goal.overflow_add-odds
overflow_add-odds c =
    let o = c.before in
    omega (arith, (odd-lower o).small, sums-fit o.before.before.before.before)

pub overflow_add-less : goal.overflow_add-less
overflow_add-less c = omega (arith, (turned c).lower.small, (turned c).upper.small, sums-fit c.before.before.before.before.before)

-- ---- where the terms have run out

pub overflow_add-evens-then-less-low-eq0 : goal.overflow_add-evens-then-less-low-eq0
overflow_add-evens-then-less-low-eq0 c =
    let e = c.before.before.before.before in
    omega (arith, (even-less e).small, sums-fit e.before.before)

left : (c : goal.Then-less-low-eq0) → let u = c.before in let o = u.before in let e = o.before.before in let t = e.before in
    let l = t.before.loop-i in let E = l.evens + e.next_less-even.result + pairs (begun t) in let O = l.odds + o.next_lower-low.result in
    (O ≤ E) × (min (grid (begun t)).unit (E - O) ≡ sum_upper (grid (begun t)) (at (begun t)))
left c =
    let u = c.before in
    let t = u.before.before.before.before in
    let b = begun t in
    let v = (start b).args.grid in
    upper-out (grid b) (unit-sound v) (unit-narrow v) (count b) _ (start b).requires t.before.loop-i.i (turned u) (omega arith)
    (omega (arith, c.if-less-low-eq0.true)) (omega (arith, c.if-less-low-eq0.true))

-- the cap, which the definition names first
capped : (x : ℕ) {n u r s : ℕ} → r ≡ min x n → n ≡ u → min u x ≡ s → r ≡ s
capped x {n} e f h = e ∙ min_comm x n ∙ rw f h

pub returns-then-less-low-eq0 : goal.returns-then-less-low-eq0
returns-then-less-low-eq0 c = capped _ c.min.ensures c.unit_by-one.ensures (left c.before).1

-- ---- one turn more, and after the last

pub loop-i-preserved : goal.loop-i-preserved
loop-i-preserved c = turned c.before

pub next_less-evens-requires : goal.next_less-evens-requires
next_less-evens-requires c = let b = c.before.before in let n = count b in (search rules, some b)

whole : (c : goal.After-next_less-evens) → let l = c.before.before in let b = l.before in
    let E = l.loop-i.evens + c.next_less-evens.result + pairs b in
    (l.loop-i.odds ≤ E) × (min (grid b).unit (E - l.loop-i.odds) ≡ sum_upper (grid b) (at b))
whole c =
    let l = c.before.before in
    let b = l.before in
    let v = (start b).args.grid in
    upper-sum (grid b) (unit-sound v) (unit-narrow v) (count b) _ (start b).requires l.loop-i.i (omega arith) l.loop-i.invariant (last c)

pub overflow_add-evens-2 : goal.overflow_add-evens-2
overflow_add-evens-2 c = omega (arith, (last c).small, sums-fit c.before.before)

pub overflow_add-evens-3 : goal.overflow_add-evens-3
overflow_add-evens-3 c = omega (arith, (last c).small, sums-fit c.before.before)

pub returns : goal.returns
returns c = capped _ c.min-2.ensures c.unit_by-one.ensures (whole c.before).1

pub overflow_sub-last : goal.overflow_sub-last
overflow_sub-last c = omega (arith, c.pairs_of-pairs.ensures.some)

pub overflow_sub-less : goal.overflow_sub-less
overflow_sub-less c = some c

pub overflow_mul-k : goal.overflow_mul-k
overflow_mul-k c = omega (arith, (count (begun c)).few)

pub overflow_add-k : goal.overflow_add-k
overflow_add-k c = omega (arith, (count (begun c)).few)

pub overflow_add-k-in-loop-i : goal.overflow_add-k-in-loop-i
overflow_add-k-in-loop-i c = omega (arith, (count (begun c.before.before)).few)

pub overflow_add-k-in-loop-i-2 : goal.overflow_add-k-in-loop-i-2
overflow_add-k-in-loop-i-2 c = omega (arith, (count (begun c.before.before.before)).few)

pub overflow_sub-evens : goal.overflow_sub-evens
overflow_sub-evens c = (left c).0

pub overflow_mul-pairs : goal.overflow_mul-pairs
overflow_mul-pairs c = omega (arith, (count c.before.before).few)

pub overflow_sub-evens-2 : goal.overflow_sub-evens-2
overflow_sub-evens-2 c = (whole c).0
