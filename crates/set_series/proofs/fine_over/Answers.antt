-- `fine_over` meets its contract: what is cut off is a multiple of the divisor, and each number fits.
use mathlib.Core.Path.{◌≡◌, refl, sym, ap, ◌∙◌}
use mathlib.Core.Bool.{Bool, true, false, cond}
use Prim.Native.Nat.{ℕ, ◌*◌, ◌<◌, ◌^◌}
use native.Mathlib.Omega.{arith}
use lib.Dec.{T, ltb, lit<, lit≤}
use lib.IntN.{ℤ, pos, ◌+ℤ◌, ◌-ℤ◌, ◌*ℤ◌}
use mir.Syntax.{w64}
use mir.Val.{SFits}
use mir.Facts.{to_z-of_z}
use Rattle.number_whole.specs.Division.{floor_div, ceil_div}
use Rattle.number_whole.specs.code.Sizes.{Under, Divides}
use Rattle.number_whole.proofs.laws.Bound.{bits, fits, under-lit, under-add, under-mul, under-cond, under-floor, under-ceil, under-floor-to, under-weaken, divides}
use Rattle.number_whole.proofs.laws.Difference.{difference, difference-pos, difference-neg, difference-add, difference-mul, difference-eq}
use Rattle.number_whole.proofs.laws.Shift.{floor-shift, ceil-shift, rest_over, rest_under}
use Rattle.number_whole.proofs.Signed.{read, read-floor, sum, product, minus}
use Rattle.number_exponential.specs.Units.{ten_trillionths}
use Rattle.set_series.specs.Series.{coefficient_unit, in_grid}
use Rattle.set_series.specs.code.Within.{mixed_over, mixed_limit, MixedWithin}
use Rattle.set_series.proofs.fine_over.Goals as goal

-- ---- a number cut by m: the multiple, and what is left

module _ {z : ℤ} {j : ℕ} (m : ℕ) (some : 0 < m) (f : SFits w64 z) (u : Under (floor_div z m) j) (t : T (ltb (j * m) (2 ^ 63)))
    (t' : T (ltb m (2 ^ 63))) {q : ℤ} (e : q ≡ floor_div (bits z) m) where
  quotient-read : bits q ≡ floor_div z m
  quotient-read = read-floor m (to_z-of_z f) f e

  multiple : SFits w64 (bits q *ℤ pos m) × (bits (bits q *ℤ pos m) ≡ floor_div z m *ℤ pos m)
  multiple = product quotient-read refl refl (fits (under-mul {b = pos m} u (record { under = omega arith })) t)

  rest : SFits w64 (bits z -ℤ bits (bits q *ℤ pos m)) × (bits (bits z -ℤ bits (bits q *ℤ pos m)) ≡ rest_over z m)
  rest = minus (to_z-of_z f) multiple.1 (fits (rest_under z some) t')

-- ---- the parts together

whole-parts : (p c z h w : ℤ)
    → (h +ℤ c *ℤ w) *ℤ pos 100000000 +ℤ ((p -ℤ h *ℤ pos 10000) *ℤ pos 10000 +ℤ c *ℤ (z -ℤ w *ℤ pos 100000000))
    ≡ pos 10000 *ℤ p +ℤ c *ℤ z
whole-parts p c z h w =
    let a = difference p in
    let b = difference c in
    let d = difference z in
    let e = difference h in
    let f = difference w in
    let s = difference-pos 10000 in
    let u = difference-pos 100000000 in
    difference-eq
    (difference-add (difference-mul (difference-add e (difference-mul b f)) u)
    (difference-add (difference-mul (difference-add a (difference-neg (difference-mul e s))) s)
    (difference-mul b (difference-add d (difference-neg (difference-mul f u))))))
    (difference-add (difference-mul s a) (difference-mul b d)) (omega arith)

-- each step fits and is read as the number that the definition has
module _ {p c z : ℤ} (w : MixedWithin ten_trillionths p c z) (fp : SFits w64 p) (fc : SFits w64 c) (fz : SFits w64 z) where
  high-under : Under (floor_div p 10000) 550000000000000
  high-under = under-floor-to 550000000000000 {z = p} {k = mixed_limit} (lit< tt) (lit≤ tt) (record { under = omega (arith, w.total) })

  wide-under : Under (floor_div z coefficient_unit) 5000000
  wide-under = under-floor-to 5000000 {z = z} (lit< tt) (lit≤ tt) w.end

  -- what is divided lies within the multiples that are added
  high-asked : Divides (bits p) 10000 600000000000000
  high-asked = divides tt (rw (to_z-of_z fp) (record { under = omega (arith, w.total) })) tt

  wide-asked : Divides (bits z) coefficient_unit 60000000000
  wide-asked = divides tt (rw (to_z-of_z fz) (under-weaken w.end (lit≤ tt))) tt

  module _ {h : ℤ} (eh : h ≡ floor_div (bits p) 10000) where
    high : bits h ≡ floor_div p 10000
    high = quotient-read 10000 (lit< tt) fp high-under tt tt eh

    low-multiple : SFits w64 (bits h *ℤ pos 10000) × (bits (bits h *ℤ pos 10000) ≡ floor_div p 10000 *ℤ pos 10000)
    low-multiple = multiple 10000 (lit< tt) fp high-under tt tt eh

    low : SFits w64 (bits p -ℤ bits (bits h *ℤ pos 10000)) × (bits (bits p -ℤ bits (bits h *ℤ pos 10000)) ≡ rest_over p 10000)
    low = rest 10000 (lit< tt) fp high-under tt tt eh

    module _ {v : ℤ} (ev : v ≡ floor_div (bits z) coefficient_unit) where
      wide : bits v ≡ floor_div z coefficient_unit
      wide = quotient-read coefficient_unit (lit< tt) fz wide-under tt tt ev

      rest-multiple : SFits w64 (bits v *ℤ pos coefficient_unit)
          × (bits (bits v *ℤ pos coefficient_unit) ≡ floor_div z coefficient_unit *ℤ pos coefficient_unit)
      rest-multiple = multiple coefficient_unit (lit< tt) fz wide-under tt tt ev

      left-rest : SFits w64 (bits z -ℤ bits (bits v *ℤ pos coefficient_unit))
          × (bits (bits z -ℤ bits (bits v *ℤ pos coefficient_unit)) ≡ rest_over z coefficient_unit)
      left-rest = rest coefficient_unit (lit< tt) fz wide-under tt tt ev

      -- what is left of both
      abbrev left : ℤ
      left = rest_over p 10000 *ℤ pos 10000 +ℤ c *ℤ rest_over z coefficient_unit

      low-under : Under (rest_over p 10000 *ℤ pos 10000) 100000000
      low-under = under-mul (rest_under p (lit< tt)) (under-lit {z = pos 10000} {k = 10000} tt)

      rest-product : Under (c *ℤ rest_over z coefficient_unit) 10000000000000000
      rest-product = under-mul w.factor (rest_under z {m = coefficient_unit} (lit< tt))

      left-under : Under left 10000000100000000
      left-under = under-add low-under rest-product

      mul_low : let x = bits (bits p -ℤ bits (bits h *ℤ pos 10000)) in
          SFits w64 (x *ℤ pos 10000) × (bits (x *ℤ pos 10000) ≡ rest_over p 10000 *ℤ pos 10000)
      mul_low = product low.1 refl refl (fits low-under tt)

      mul-rest : let y = bits (bits z -ℤ bits (bits v *ℤ pos coefficient_unit)) in
          SFits w64 (bits c *ℤ y) × (bits (bits c *ℤ y) ≡ c *ℤ rest_over z coefficient_unit)
      mul-rest = product (to_z-of_z fc) left-rest.1 refl (fits rest-product tt)

      add_left : let x = bits (bits p -ℤ bits (bits h *ℤ pos 10000)) in
          let y = bits (bits z -ℤ bits (bits v *ℤ pos coefficient_unit)) in
          let r = bits (x *ℤ pos 10000) +ℤ bits (bits c *ℤ y) in
          SFits w64 r × (bits r ≡ left)
      add_left = sum mul_low.1 mul-rest.1 refl (fits left-under tt)

      left-asked : {y : ℤ} → y ≡ left → Divides y coefficient_unit 60000000000
      left-asked e = rw e (divides tt (under-weaken left-under (lit≤ tt)) tt)

      wide-product : SFits w64 (bits c *ℤ bits v) × (bits (bits c *ℤ bits v) ≡ c *ℤ floor_div z coefficient_unit)
      wide-product = product (to_z-of_z fc) wide refl (fits (under-mul w.factor wide-under) tt)

      -- the multiples
      abbrev exact : ℤ
      exact = floor_div p 10000 +ℤ c *ℤ floor_div z coefficient_unit

      exact-under : Under exact 1050000000000000
      exact-under = under-add high-under (under-mul w.factor wide-under)

      add-exact : let r = bits h +ℤ bits (bits c *ℤ bits v) in SFits w64 r × (bits r ≡ exact)
      add-exact = sum high wide-product.1 refl (fits exact-under tt)

      -- the quotient of what is left, rounded
      rounded : Bool → ℤ
      rounded upper = cond upper (ceil_div left coefficient_unit) (floor_div left coefficient_unit)

      rounded-under : (upper : Bool) → Under (rounded upper) 10000000100000000
      unfolding rounded
      rounded-under upper = under-cond upper (under-ceil coefficient_unit left-under) (under-floor coefficient_unit left-under)

      -- both together
      over : (upper : Bool) → exact +ℤ rounded upper ≡ mixed_over ten_trillionths p c z upper
      unfolding rounded mixed_over in_grid
      over true =
          sym (ceil-shift exact left {m = coefficient_unit} (lit< tt))
          ∙ ap (λ (x : ℤ). ceil_div x coefficient_unit) (whole-parts p c z (floor_div p 10000) (floor_div z coefficient_unit))
      over false =
          sym (floor-shift exact left {m = coefficient_unit} (lit< tt))
          ∙ ap (λ (x : ℤ). floor_div x coefficient_unit) (whole-parts p c z (floor_div p 10000) (floor_div z coefficient_unit))

      result : {r : ℤ} (upper : Bool) {y : ℤ} → y ≡ left
          → r ≡ cond upper (ceil_div y coefficient_unit) (floor_div y coefficient_unit)
          → let x = bits (bits h +ℤ bits (bits c *ℤ bits v)) +ℤ bits r in SFits w64 x × (bits x ≡ mixed_over ten_trillionths p c z upper)
      unfolding rounded
      result upper g e =
          rw (← over upper)
          (sum add-exact.1 (read (rw g at e) (fits (rounded-under upper) tt)) refl (fits (under-add exact-under (rounded-under upper)) tt))

-- ---- the function's needs

abbrev start : goal.After-floor_div-wide → goal.Start
start c = c.before.before

pub floor_div-high-requires : goal.floor_div-high-requires
floor_div-high-requires c = high-asked c.requires c.ranges.p c.ranges.c c.ranges.z

pub floor_div-wide-requires : goal.floor_div-wide-requires
floor_div-wide-requires c = let s = c.before in wide-asked s.requires s.ranges.p s.ranges.c s.ranges.z

pub overflow_mul-low : goal.overflow_mul-low
overflow_mul-low c =
    let s = c.before in
    (low-multiple s.requires s.ranges.p s.ranges.c s.ranges.z c.floor_div-high.ensures).0

pub overflow_sub-low : goal.overflow_sub-low
overflow_sub-low c =
    let s = c.before in
    (low s.requires s.ranges.p s.ranges.c s.ranges.z c.floor_div-high.ensures).0

-- what holds after both cuts
module _ (c : goal.After-floor_div-wide) where
  abbrev s : goal.Start
  s = c.before.before

  first : c.before.floor_div-high.result ≡ floor_div (bits s.args.p) 10000
  first = c.before.floor_div-high.ensures

  second : c.floor_div-wide.result ≡ floor_div (bits s.args.z) coefficient_unit
  second = c.floor_div-wide.ensures

pub overflow_mul-rest : goal.overflow_mul-rest
overflow_mul-rest c = let s = start c in (rest-multiple s.requires s.ranges.p s.ranges.c s.ranges.z (first c) (second c)).0

pub overflow_sub-rest : goal.overflow_sub-rest
overflow_sub-rest c = let s = start c in (left-rest s.requires s.ranges.p s.ranges.c s.ranges.z (first c) (second c)).0

pub overflow_mul-left : goal.overflow_mul-left
overflow_mul-left c = let s = start c in (mul_low s.requires s.ranges.p s.ranges.c s.ranges.z (first c) (second c)).0

pub overflow_mul-left-2 : goal.overflow_mul-left-2
overflow_mul-left-2 c = let s = start c in (mul-rest s.requires s.ranges.p s.ranges.c s.ranges.z (first c) (second c)).0

pub overflow_add-left : goal.overflow_add-left
overflow_add-left c = let s = start c in (add_left s.requires s.ranges.p s.ranges.c s.ranges.z (first c) (second c)).0

pub overflow_mul-result : goal.overflow_mul-result
overflow_mul-result c = let s = start c in (wide-product s.requires s.ranges.p s.ranges.c s.ranges.z (first c) (second c)).0

pub overflow_add-result : goal.overflow_add-result
overflow_add-result c = let s = start c in (add-exact s.requires s.ranges.p s.ranges.c s.ranges.z (first c) (second c)).0

pub outward_div-requires : goal.outward_div-requires
outward_div-requires c =
    let s = start c in
    left-asked s.requires s.ranges.p s.ranges.c s.ranges.z (first c) (second c)
    (add_left s.requires s.ranges.p s.ranges.c s.ranges.z (first c) (second c)).1

pub overflow_add-result-2 : goal.overflow_add-result-2
overflow_add-result-2 o =
    let c = o.before in
    let s = start c in
    (result s.requires s.ranges.p s.ranges.c s.ranges.z (first c) (second c) s.args.upper
    (add_left s.requires s.ranges.p s.ranges.c s.ranges.z (first c) (second c)).1 o.outward_div.ensures).0

pub returns : goal.returns
returns o =
    let c = o.before in
    let s = start c in
    (result s.requires s.ranges.p s.ranges.c s.ranges.z (first c) (second c) s.args.upper
    (add_left s.requires s.ranges.p s.ranges.c s.ranges.z (first c) (second c)).1 o.outward_div.ensures).1
