-- The cases of a table of constants: a case for each constant, and past them none.
use mathlib.Core.Path.{◌≡◌, ap, sym}
use Prim.Native.Nat.{ℕ, zero, suc, ◌≤◌, zero-le}
use native.Mathlib.Decide.{dec_lt}
use native.Mathlib.Omega.{arith}
use lib.ListN.{length, get_or-eq_default}
use Rattle.number_exponential.specs.Grid.{Grid}
use Rattle.number_exponential.specs.Exponential.{constant_lower}

-- n is none of the numbers below k, so it is at least k
abbrev pub None : ℕ → ℕ → Type 0
None zero n = Unit
None (suc k) n = None k n × (n ≡ k → ⊥)

none_below : (k n : ℕ) → None k n → k ≤ n
none_below zero n h = zero-le
none_below (suc k) n h = let l = none_below k n h.0 in elim (dec_lt k n) [ yes m ↦ m | no m ↦ absurd (h.1 (omega arith)) ]

module _ (g : Grid) where
  pub of : {n k : ℕ} → n ≡ k → constant_lower g k ≡ constant_lower g n
  of e = ap (constant_lower g) (sym e)

  pub past : (n : ℕ) → None (length g.constants) n → 0 ≡ constant_lower g n
  unfolding constant_lower
  past n h = sym (get_or-eq_default g.constants 0 (none_below (length g.constants) n h))
