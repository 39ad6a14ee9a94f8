-- A step of a figure, counted in units of any grid: a value rounds to n of them on one grid exactly when it does on another.
use Rattle.std.specs.Prelude.{◌≡◌, ℕ, ◌+◌, ◌*◌, ◌-◌}
use Rattle.std.proofs.Common.{ap, arith}
use Rattle.number_fraction.specs.Ratio.{◌≤/◌}
use Rattle.number_fraction.proofs.laws.RatioLaws.{</-≤/-trans}
use Rattle.number_exponential.specs.Grid.{Grid}
use Rattle.number_exact.specs.Value.{Exact, lower_edge, upper_edge, RoundsTo}
use Rattle.number_exact.proofs.laws.ValueLaws.{at-least-weaken}

-- k·(s·a) over 2·u and k·(s·b) over 2·v, where u is a and v is b times one number
same-part : (k s a b u v m : ℕ) → u ≡ a * m → v ≡ b * m → k * (s * a) * (2 * v) ≡ k * (s * b) * (2 * u)
same-part k s a b u v m e f =
    omega (arith, ap (λ (t : ℕ). k * (s * a) * t) f, ap (λ (t : ℕ). k * (s * b) * t) e)

-- an edge of n steps, each of s units of 10^-9, on two grids
lower-edges : (g h : Grid) (s n : ℕ) → lower_edge g (s * g.scale) n ≤/ lower_edge h (s * h.scale) n
unfolding lower_edge
lower-edges g h s n =
    record { cross = omega (arith, same-part (2 * n - 1) s g.scale h.scale g.unit h.unit 1000000000 g.scaled h.scaled) }

upper-edges : (g h : Grid) (s n : ℕ) → upper_edge g (s * g.scale) n ≤/ upper_edge h (s * h.scale) n
unfolding upper_edge
upper-edges g h s n =
    record { cross = omega (arith, same-part (2 * n + 1) s g.scale h.scale g.unit h.unit 1000000000 g.scaled h.scaled) }

-- a step of s units of 10^-9
pub rounds-on : (g h : Grid) (s : ℕ) {n : ℕ} {v : Exact} → RoundsTo g (s * g.scale) n v → RoundsTo h (s * h.scale) n v
rounds-on g h s {n} r =
    record {
      low = at-least-weaken (lower-edges h g s n) r.low;
      order = r.order;
      counts = r.counts;
      high = </-≤/-trans r.high (upper-edges g h s n);
    }
