-- `kappa_step` meets its contract: of each product the end is chosen by the sign of a, it is divided outward, and takes c.
use borrow.Author.Rules.{rules}
use mathlib.Core.Path.{◌≡◌, refl, ap, ◌∙◌}
use mathlib.Core.Bool.{Bool, true, false}
use Prim.Native.Nat.{◌+◌, ◌*◌, ◌≤◌}
use native.Mathlib.Nat.{mul-le-mul_right}
use native.Mathlib.Omega.{arith}
use lib.IntN.{ℤ, pos, ◌+ℤ◌}
use mir.Syntax.{w64}
use mir.Val.{SFits, to_z, of_z}
use Rattle.number_whole.specs.Division.{floor_div, ceil_div}
use Rattle.number_whole.specs.code.Sizes.{Under, Within}
use Rattle.number_whole.proofs.laws.Bound.{bits, fits, back, under-weaken}
use Rattle.number_whole.specs.declared.SignedEnds.{SignedEnds}
use Rattle.number_whole.specs.SignedEnds.{least_product, greatest_product, outward}
use Rattle.number_whole.proofs.Signed.{read, sum, both_ends}
use Rattle.number_exponential.specs.declared.GridUnit.{GridUnit}
use Rattle.number_exponential.proofs.laws.Scales.{scale-most, under-scaled}
use Rattle.number_exponential.specs.Units.{grid_of}
use Rattle.set_params.specs.declared.Dynamics.{Dynamics}
use Rattle.set_params.specs.Limits.{kappa_limit, constant_limit}
use Rattle.set_params.specs.code.Within.{DynamicsWithin}
use Rattle.set_series.specs.Series.{coefficient_unit, in_grid, kappa_step}
use Rattle.set_series.proofs.laws.BoundLaws.{in_grid-under, product-under, kappa_step-under}
use Rattle.set_series.proofs.laws.Mixed.{end_by, least-over, greatest-over, none-added}
use Rattle.set_series.specs.code.Within.{number_limit, mixed_over, MixedWithin}
use Rattle.set_series.proofs.Chosen.{chosen-under, chosen-read}
use Rattle.set_series.proofs.kappa_step.Goals as goal
use Rattle.set_series.proofs.kappa_step.Tie as tie
use Rattle.set_series.proofs.kappa_step.Lts as lts
use Rattle.set_series.proofs.kappa_step.Reads as reads

-- c, as the code reads it (written as the facts write it), in the grid's units
added-read : (grid : GridUnit) {c r : ℤ} → Under c constant_limit → r ≡ in_grid (grid_of grid) (to_z w64 (of_z w64 c))
    → bits r ≡ in_grid (grid_of grid) c
added-read grid {c} u h =
    let g = grid in
    read (rw (back u tt) at h) (fits (under-scaled g constant_limit (in_grid-under (grid_of g) u)) tt)

-- each step fits and is read as the number that the definition has
module _ (u : GridUnit) {d : Dynamics} {e : SignedEnds} (l : DynamicsWithin d) (w : Within ((grid_of u).scale * kappa_limit) e) where
  within : {z : ℤ} → Under z ((grid_of u).scale * kappa_limit) → MixedWithin (grid_of u) (pos 0) d.a z
  within h =
      record { factor = l.a; total = omega (arith, mul-le-mul_right kappa_limit l.a.under); end = h }

  -- the two quotients
  least : mixed_over (grid_of u) (pos 0) d.a (end_by d.a e.lower e.upper) false ≡ floor_div (least_product d.a e) coefficient_unit
  least = least-over (grid_of u) (pos 0) d.a e ∙ ap (λ (z : ℤ). floor_div z coefficient_unit) (none-added (grid_of u) _)

  greatest : mixed_over (grid_of u) (pos 0) d.a (end_by d.a e.upper e.lower) true ≡ ceil_div (greatest_product d.a e) coefficient_unit
  greatest = greatest-over (grid_of u) (pos 0) d.a e ∙ ap (λ (z : ℤ). ceil_div z coefficient_unit) (none-added (grid_of u) _)

  both_under : Within (10000 * constant_limit + 10000 * kappa_limit) (kappa_step (grid_of u) d e)
  both_under =
      let k = kappa_step-under (grid_of u) l w in
      let m : (grid_of u).scale * constant_limit + (grid_of u).scale * kappa_limit ≤ 10000 * constant_limit + 10000 * kappa_limit =
      omega (arith, mul-le-mul_right constant_limit (scale-most u), mul-le-mul_right kappa_limit (scale-most u)) in
      record { low = under-weaken k.low m; high = under-weaken k.high m }

  -- each quotient, as it is read
  quotients-under : Within (10000 * kappa_limit) (outward (least_product d.a e) (greatest_product d.a e) coefficient_unit)
  quotients-under =
      let k = product-under l.a w in
      record { low = under-scaled u kappa_limit k.low; high = under-scaled u kappa_limit k.high }

  lower-end : {t q : ℤ} → t ≡ in_grid (grid_of u) d.c → q ≡ mixed_over (grid_of u) (pos 0) d.a (end_by d.a e.lower e.upper) false
      → SFits w64 (t +ℤ bits q) × (bits (t +ℤ bits q) ≡ (kappa_step (grid_of u) d e).lower)
  unfolding kappa_step outward
  lower-end h k = sum h (read (k ∙ least) (fits quotients-under.low tt)) refl (fits both_under.low tt)

  upper-end : {t q : ℤ} → t ≡ in_grid (grid_of u) d.c → q ≡ mixed_over (grid_of u) (pos 0) d.a (end_by d.a e.upper e.lower) true
      → SFits w64 (t +ℤ bits q) × (bits (t +ℤ bits q) ≡ (kappa_step (grid_of u) d e).upper)
  unfolding kappa_step outward
  upper-end h k = sum h (read (k ∙ greatest) (fits quotients-under.high tt)) refl (fits both_under.high tt)

-- ---- the function's needs

-- a number with c's limit, as the code reads it, is one that `in_grid` takes
number-under : {z : ℤ} → Under z constant_limit → Under (bits z) number_limit
number-under u = rw (back u tt) (under-weaken u (omega arith))

pub in_grid-added-requires : goal.in_grid-added-requires
in_grid-added-requires c = search (rules, number-under)

-- the places after both choices: the first choice, c in the grid's units, and the function's start
abbrev first : goal.After-end_by-high → lts.After-end_by tie.the-claims reads.Pre reads.Post
first c = c.before.before.before

abbrev grid : goal.After-end_by-high → lts.After-in_grid tie.the-claims reads.Pre reads.Post
grid c = (first c).before.before.before.before

abbrev start : goal.After-end_by-high → lts.Start tie.the-claims reads.Pre reads.Post
start c = (grid c).before.before

-- c, and the two chosen ends, as they are read
module _ (c : goal.After-end_by-high) where
  added : bits c.in_grid-added.result ≡ in_grid (grid_of c.args.grid) c.args.d.c
  added = added-read c.args.grid c.requires.0.c c.in_grid-added.ensures

  low : bits (first c).end_by-low.result ≡ end_by (start c).args.d.a (start c).args.e.lower (start c).args.e.upper
  low = let s = start c in chosen-read s.args.grid s.requires.0.a s.requires.1.low s.requires.1.high (first c).end_by-low.ensures

  high : bits c.end_by-high.result ≡ end_by (start c).args.d.a (start c).args.e.upper (start c).args.e.lower
  high = let s = start c in chosen-read s.args.grid s.requires.0.a s.requires.1.high s.requires.1.low c.end_by-high.ensures

pub mixed_over-requires : goal.mixed_over-requires
mixed_over-requires c =
    let s = start c in
    let l = s.requires.0 in
    let w = s.requires.1 in
    rw (back l.a tt, low c) (within s.args.grid l w (chosen-under s.args.grid l.a w.low w.high))

pub mixed_over-requires-2 : goal.mixed_over-requires-2
mixed_over-requires-2 m =
    let c = m.before in
    let s = start c in
    let l = s.requires.0 in
    let w = s.requires.1 in
    rw (back l.a tt, high c) (within s.args.grid l w (chosen-under s.args.grid l.a w.high w.low))

-- the two ends
module _ (m : goal.After-mixed_over) where
  abbrev both : goal.After-end_by-high
  both = m.before

  lower : let r = bits (grid both).in_grid-added.result +ℤ bits m.mixed_over.result in
      SFits w64 r × (bits r ≡ (kappa_step (grid_of (start both).args.grid) (start both).args.d (start both).args.e).lower)
  lower =
      let s = start both in
      lower-end s.args.grid s.requires.0 s.requires.1 (added both) (rw (back s.requires.0.a tt, low both) at m.mixed_over.ensures)

module _ (n : goal.After-mixed_over-2) where
  abbrev both₂ : goal.After-end_by-high
  both₂ = n.before.before

  upper : let r = bits (grid both₂).in_grid-added.result +ℤ bits n.mixed_over-2.result in
      SFits w64 r × (bits r ≡ (kappa_step (grid_of (start both₂).args.grid) (start both₂).args.d (start both₂).args.e).upper)
  upper =
      let s = start both₂ in
      upper-end s.args.grid s.requires.0 s.requires.1 (added both₂) (rw (back s.requires.0.a tt, high both₂) at n.mixed_over-2.ensures)

pub overflow_add-lower : goal.overflow_add-lower
overflow_add-lower c = (lower c).0

pub overflow_add-upper : goal.overflow_add-upper
overflow_add-upper c = (upper c).0

pub returns : goal.returns
returns c = both_ends (lower c.before).1 (upper c).1
