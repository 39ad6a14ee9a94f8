-- A log force m in range, negated: the ends of z = −m are natural numbers between the bounds of the range, negated, the
-- lower end of m gives the upper end of z, and z is as wide as m. They hold the exact log force, negated.
use Rattle.std.specs.Prelude.{◌≡◌, refl, ℕ, ◌+◌, ◌≤◌, ◌<◌, T, ℤ, pos, negsuc, neg_ℤ, ◌≤ℤ◌, ◌<ℤ◌}
use Rattle.std.proofs.Common.{arith}
use Rattle.std.specs.Float.Ieee.Fits.{and_l, and_r}
use Rattle.std.specs.Int.Signed.{le_z, le_z_yes}
use Rattle.number_whole.specs.Parts.{below}
use Rattle.number_whole.proofs.laws.Above.{above}
use Rattle.number_whole.proofs.laws.Split.{split, split-add, split-scale-left}
use Rattle.number_whole.specs.declared.SignedEnds.{SignedEnds}
use Rattle.number_fraction.specs.Fraction.{Fraction, ◌≤ℚ◌, wholeℚ}
use Rattle.number_fraction.proofs.laws.FractionTerms.{negℚ}
use Rattle.number_fraction.proofs.laws.FractionLaws.{negℚ-reverse, wholeℚ-negℚ}
use Rattle.number_exponential.specs.Grid.{Grid}
use Rattle.set_params.specs.declared.Params.{Params}
use Rattle.set_params.specs.declared.Age.{Age}
use Rattle.set_params.specs.Set.{ages}
use Rattle.set_params.specs.Limits.{last_years}
use Rattle.set_series.specs.Series.{in_grid}
use Rattle.set_limits.specs.InLimits.{in_limits}
use Rattle.number_whole.proofs.laws.EndLaws.{Wide}
use Rattle.number_fraction.proofs.laws.EndsHold.{Holds}
use Rattle.model_log_force.specs.LogForce.{cell_force, log_force, lowest_force, highest_force, in_range}
use Rattle.model_log_force.specs.code.Within.{CellLimits, log_force_width, Negated}
use Rattle.model_log_force.proofs.laws.WidthLaws.{cell_force-wide, log_force-wide}

-- lower end at least −30,000,000,000 in units of 10^-9, upper end at most −700,000,000
pub record InRange (g : Grid) (m : SignedEnds) : Type 0 where
  pub low : in_grid g lowest_force ≤ℤ m.lower
  pub high : m.upper ≤ℤ in_grid g highest_force

pub in-range : (g : Grid) (m : SignedEnds) → T (in_range g m) → InRange g m
unfolding in_range
in-range g m t =
    let l = le_z (in_grid g lowest_force) m.lower in
    let h = le_z m.upper (in_grid g highest_force) in
    record { low = le_z_yes (and_l l h t); high = le_z_yes (and_r l h t) }

-- a number below zero is its part below zero, negated
negative : (z : ℤ) → z <ℤ pos 0 → (neg_ℤ z ≡ pos (below z)) × (above z ≡ 0)
negative (pos n) h = absurd (omega split)
negative (negsuc n) h = (refl, refl)

-- a grid has some units in 10^-9
pub scale-some : (g : Grid) → 0 < g.scale
scale-some g = omega (arith, g.positive, g.scaled)

pub negated : (g : Grid) {m : SignedEnds} {w : ℕ} → InRange g m → Wide m.lower m.upper w → Negated g m w
unfolding in_grid
negated g {m} {w} r h =
    let k = scale-some g in
    let a = split-scale-left g.scale lowest_force in
    let b = split-scale-left g.scale highest_force in
    let l = negative m.lower (omega split) in
    let u = negative m.upper (omega split) in
    let s = split-add m.lower (pos w) in
    record {
      least = omega split;
      most = omega split;
      ordered = omega split;
      width = omega split;
      lower = l.0;
      upper = u.0;
    }

-- the negated ends hold −y where the ends hold y
pub negated-holds : {g : Grid} {m : SignedEnds} {w : ℕ} {y : Fraction} → Negated g m w → Holds m y
    → (wholeℚ (pos (below m.upper)) ≤ℚ negℚ y) × (negℚ y ≤ℚ wholeℚ (pos (below m.lower)))
negated-holds {m} n h = (
  rw (← n.upper, wholeℚ-negℚ m.upper) (negℚ-reverse h.high),
  rw (← n.lower, wholeℚ-negℚ m.lower) (negℚ-reverse h.low),
)

-- ---- of a log force

-- the ends of −m of a cell in its limits and in range, in a year of a quote
pub cell-negated : {g : Grid} {a : Age} {k : ℤ} {e : SignedEnds} → CellLimits g a k e → Wide e.lower e.upper last_years
    → T (in_range g (cell_force g a k e)) → Negated g (cell_force g a k e) log_force_width
cell-negated {g} {a} {k} {e} l w r =
    negated g (in-range g (cell_force g a k e) r) (cell_force-wide g a k log_force_width l.age.beta w (omega arith))

-- and for a set in its limits
pub log_force-negated : (g : Grid) (p : Params) → T (in_limits p) → {x n : ℕ} → x < ages → n ≤ last_years
    → T (in_range g (log_force g p x n)) → Negated g (log_force g p x n) log_force_width
log_force-negated g p t {x} {n} hx hn r = negated g (in-range g (log_force g p x n) r) (log_force-wide g p t hx hn)
