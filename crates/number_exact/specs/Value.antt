-- The exact value as a thing of its own: a bracket for each order, whatever it is the value of. What it means that it is
-- at least or at most a fraction, that it rounds to a step, and that its brackets agree and narrow.
use Rattle.std.specs.Prelude.{ℕ, ◌+◌, ◌-◌, ◌*◌, ◌≤◌, ◌<◌}
use Rattle.std.proofs.Common.{mul-pos, lit<}
use Rattle.number_fraction.specs.Ratio.{Ratio, ◌≤/◌, ◌</◌, ◌+/◌, whole/, quotient/}
use Rattle.number_fraction.specs.Bracket.{Bracket}
use Rattle.number_taylor.specs.Order.{least_order}
use Rattle.number_exponential.specs.Grid.{Grid}

-- order j has it between `(v j).least` and `(v j).most`
abbrev pub Exact : Type 0
Exact = ℕ → Bracket

-- "The exact value is at least c when no order's upper end is below c", of the orders that count
pub record AtLeast (v : Exact) (c : Ratio) : Type 0 where
  pub none_below : (j : ℕ) → least_order ≤ j → (v j).most </ c → ⊥

-- "and at most c when no order's lower end is above c."
pub record AtMost (v : Exact) (c : Ratio) : Type 0 where
  pub none_above : (j : ℕ) → least_order ≤ j → c </ (v j).least → ⊥

-- the lower half-edge of n steps, each of `step` units: n − 1/2 steps, in halves of a unit. At n = 0 it lies below 0, and
-- the difference makes it 0: every value, being a fraction of at least 0, is at least both.
unfoldable pub lower_edge : Grid → ℕ → ℕ → Ratio
lower_edge g step n =
    record { num = (2 * n - 1) * step; den = 2 * g.unit; positive = mul-pos (lit< tt) g.positive }

-- the upper half-edge: n + 1/2 steps
unfoldable pub upper_edge : Grid → ℕ → ℕ → Ratio
upper_edge g step n =
    record { num = (2 * n + 1) * step; den = 2 * g.unit; positive = mul-pos (lit< tt) g.positive }

-- "It rounds to a step when it is at least the step's lower half-edge and some order lies wholly below its upper
-- half-edge": to n steps
pub record RoundsTo (g : Grid) (step n : ℕ) (v : Exact) : Type 0 where
  pub low : AtLeast v (lower_edge g step n)
  pub order : ℕ
  pub counts : least_order ≤ order
  pub high : (v order).most </ upper_edge g step n

-- both exact values round to one step
pub record OneStep (g : Grid) (step : ℕ) (v v' : Exact) : Type 0 where
  pub steps : ℕ
  pub first : RoundsTo g step steps v
  pub second : RoundsTo g step steps v'

-- "Brackets are shown to narrow past any whole fraction": from an order that counts on they are at most 1/M wide.
pub record Narrows (v : Exact) : Type 0 where
  pub order : ℕ → ℕ
  pub counts : (M : ℕ) → least_order ≤ order M
  pub narrow : (M : ℕ) (h : 0 < M) (j : ℕ) → order M ≤ j → (v j).most ≤/ (v j).least +/ quotient/ (whole/ 1) M h

-- Any two orders agree, of those that count: the lower end of the one is at most the upper end of the other, whichever is the
-- greater order, so that neither bracket lies wholly beyond the other.
pub record Agrees (v : Exact) : Type 0 where
  pub agree : (i j : ℕ) → least_order ≤ i → least_order ≤ j → (v i).least ≤/ (v j).most
