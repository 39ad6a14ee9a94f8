-- `ends_in` meets its contract: each end by how many of the unit make one of its own.
use mathlib.Core.Path.{◌≡◌}
use Prim.Native.Nat.{ℕ, ◌*◌, ◌/◌, ◌≤◌}
use native.Mathlib.Omega.{arith}
use Rattle.number_exponential.specs.declared.GridUnit.{GridUnit}
use Rattle.number_exponential.specs.Units.{ten_trillionths, grid_of}
use Rattle.quote_along.specs.declared.Quote.{Quote}
use Rattle.quote_compare.specs.Compare.{ends_in}
use Rattle.quote_compare.proofs.laws.SmallLaws.{most-in}
use Rattle.quote_compare.proofs.ends_in.Goals as goal

-- by the scales that the code has
module _ (u : GridUnit) (q : Quote) {a b : ℕ} (e : a ≡ (grid_of u).scale) (f : b ≡ (grid_of q.unit).scale) where
  fits : {n : ℕ} → n ≤ 172 * (grid_of q.unit).unit → n * (a / b) ≤ 172 * ten_trillionths.unit
  fits h = rw (e, f) (most-in u q.unit _ h)

  ends : record { lower = q.lower * (a / b); upper = q.upper * (a / b) } ≡ ends_in u q
  unfolding ends_in
  ends = rw (e, f)

pub nonzero_div-times : goal.nonzero_div-times
nonzero_div-times c =
    let g = grid_of c.before.before.args.quote.unit in
    omega (arith, c.scale_of.ensures, g.positive, g.scaled)

pub overflow_mul-lower : goal.overflow_mul-lower
overflow_mul-lower c =
    let t = c.before in
    let s = t.before.before in
    omega (arith, fits s.args.unit s.args.quote t.before.scale_of-scale.ensures t.scale_of.ensures s.requires.lower)

pub overflow_mul-upper : goal.overflow_mul-upper
overflow_mul-upper c =
    let t = c.before.before in
    let s = t.before.before in
    omega (arith, fits s.args.unit s.args.quote t.before.scale_of-scale.ensures t.scale_of.ensures s.requires.upper)

pub returns : goal.returns
returns c =
    let t = c.before.before in
    let s = t.before.before.args in
    ends s.unit s.quote t.before.scale_of-scale.ensures t.scale_of.ensures
