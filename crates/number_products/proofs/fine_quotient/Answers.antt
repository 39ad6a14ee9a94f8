-- `fine_quotient` meets its contract: each step's quotient and rest fit, and put together they are those of the whole.
use mathlib.Core.Path.{◌≡◌}
use Prim.Native.Nat.{ℕ, ◌+◌, ◌*◌, ◌/◌, ◌%◌, ◌≤◌, ◌<◌}
use native.Mathlib.Nat.{div-add-mod', mod-lt, div-le_of_le-mul}
use native.Mathlib.Omega.{arith}
use borrow.Author.Rules.{rules}
use Rattle.number_whole.proofs.laws.DivisionLaws.{floorℕ-unique}
use Rattle.number_exponential.specs.Units.{ten_trillionths}
use Rattle.number_products.proofs.fine_quotient.Goals as goal

-- a division with rest, of which the quotient is at most k
record Divided (x d k : ℕ) : Type 0 where
  whole : x / d * d + x % d ≡ x
  rest : x % d < d
  small : x / d ≤ k

divided : (x k : ℕ) {d : ℕ} → 0 < d → x ≤ k * d → Divided x d k
divided x k {d} p h = record { whole = div-add-mod' x d; rest = mod-lt x p; small = div-le_of_le-mul d (omega arith) }

-- the three divisions
module _ (n d c : ℕ) (some : 0 < d) (share : n ≤ d) (more : c < d) where
  step-1 : Divided (n * 10000) d 10000
  step-1 = divided (n * 10000) 10000 some (omega arith)

  step-2 : Divided (n * 10000 % d * 10000) d 10000
  step-2 = divided (n * 10000 % d * 10000) 10000 some (omega (arith, step-1.rest))

  step-3 : Divided (n * 10000 % d * 10000 % d * 100000 + c) d 100001
  step-3 = divided (n * 10000 % d * 10000 % d * 100000 + c) 100001 some (omega (arith, step-2.rest))

  put-together : (n * 10000 / d * 10000 + n * 10000 % d * 10000 / d) * 100000 + (n * 10000 % d * 10000 % d * 100000 + c) / d
      ≡ (n * ten_trillionths.unit + c) / d
  put-together =
      floorℕ-unique _ (n * ten_trillionths.unit + c) some
      (omega (arith, step-1.whole, step-2.whole, step-3.whole))
      (omega (arith, step-1.whole, step-2.whole, step-3.whole, step-3.rest))

steps : (c : goal.Start) → let s = c.args in
    Divided (s.n * 10000) s.d 10000 × Divided (s.n * 10000 % s.d * 10000) s.d 10000
    × Divided (s.n * 10000 % s.d * 10000 % s.d * 100000 + s.c) s.d 100001
steps c =
    let s = c.args in
    let p : 0 < s.d = omega arith in
    let h : s.n ≤ s.d = omega arith in
    (step-1 _ _ _ p h c.requires.3, step-2 _ _ _ p h c.requires.3, step-3 _ _ _ p h c.requires.3)

pub overflow_mul-second : goal.overflow_mul-second
overflow_mul-second c = omega (arith, steps c)

pub overflow_mul-third : goal.overflow_mul-third
overflow_mul-third c = omega (arith, steps c)

pub overflow_add-third : goal.overflow_add-third
overflow_add-third c = omega (arith, steps c)

pub overflow_mul-result : goal.overflow_mul-result
overflow_mul-result c = omega (arith, steps c)

pub overflow_add-result : goal.overflow_add-result
overflow_add-result c = omega (arith, steps c)

pub overflow_mul-result-2 : goal.overflow_mul-result-2
overflow_mul-result-2 c = omega (arith, steps c)

pub overflow_add-result-2 : goal.overflow_add-result-2
overflow_add-result-2 c = omega (arith, steps c)

pub returns : goal.returns
returns c = put-together _ _ _ (omega arith) (omega arith) c.requires.3
