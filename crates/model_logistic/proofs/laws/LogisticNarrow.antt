-- An order's interval of the force: where that of G is at most d wide, it is at most d and 1/M wide, from an order on
-- that depends on M and a bound of |G| only. By the signs of the two ends: 1/(1 + E) and E/(1 + E) change by no more
-- than E does, and with one end of each sign both are compared with 1/2.
use Rattle.std.specs.Prelude.{ℕ, ◌+◌, ◌*◌, ◌≤◌, ◌<◌, ℤ, pos, negsuc}
use Rattle.std.proofs.Common.{mul-le-mul_right, arith, lit<}
use Rattle.number_whole.specs.Parts.{below}
use Rattle.number_whole.proofs.laws.Above.{above}
use Rattle.number_whole.proofs.laws.Difference.{difference, difference-pos, difference-add, difference-scale}
use Rattle.number_fraction.specs.Ratio.{Ratio, ◌≤/◌, whole/, ◌+/◌, quotient/}
use Rattle.number_fraction.proofs.laws.RatioLaws.{≤/-refl, ≤/-trans, </→≤/, ≤/-+/, +/-mono, +/-comm, +/-assoc}
use Rattle.number_fraction.specs.Fraction.{Fraction, ◌≤ℚ◌, ◌+ℚ◌, signed, absolute}
use Rattle.number_fraction.proofs.laws.FractionLaws.{≤ℚ-difference}
use Rattle.number_taylor.specs.Order.{order_lower, order_upper}
use Rattle.number_taylor.proofs.laws.OrderLaws.{upper-below-one, narrow_below}
use Rattle.number_taylor.proofs.laws.Narrowing.{narrow_order}
use Rattle.model_logistic.specs.Units.{Interval}
use Rattle.model_logistic.proofs.laws.SignedUnits.{over}
use Rattle.model_logistic.specs.Exact.{over_one, share, order_logistic_lower, order_logistic_upper}
use Rattle.model_logistic.proofs.laws.ExpNarrow.{one-slope, exp-narrow-below}

-- ---- the two quotients

-- where e lies at most c above f, 1/(1 + f) lies at most c above 1/(1 + e), and e/(1 + e) above f/(1 + f)
over-narrow : (e f c : Ratio) → e ≤/ f +/ c → over_one f ≤/ over_one e +/ c
unfolding over_one ◌+/◌
over-narrow e f c h = record { cross = omega (arith, h.cross) }

share-narrow : (e f c : Ratio) → e ≤/ f +/ c → share e ≤/ share f +/ c
unfolding share ◌+/◌
share-narrow e f c h = record { cross = omega (arith, h.cross) }

-- both against 1/2
half : Ratio
half = quotient/ (whole/ 1) 2 (lit< tt)

over-half : (e c : Ratio) → whole/ 1 ≤/ e +/ c → over_one e ≤/ half +/ quotient/ c 2 (lit< tt)
unfolding over_one ◌+/◌ half quotient/ whole/
over-half e c h = record { cross = omega (arith, h.cross) }

share-half : (e c : Ratio) → whole/ 1 ≤/ e +/ c → half ≤/ share e +/ quotient/ c 2 (lit< tt)
unfolding share ◌+/◌ half quotient/ whole/
share-half e c h = record { cross = omega (arith, h.cross) }

share-below-half : (e : Ratio) → e ≤/ whole/ 1 → share e ≤/ half
unfolding share half quotient/ whole/
share-below-half e h = record { cross = omega (arith, h.cross) }

over-above-half : (e : Ratio) → e ≤/ whole/ 1 → half ≤/ over_one e
unfolding over_one half quotient/ whole/
over-above-half e h = record { cross = omega (arith, h.cross) }

-- (a + c)/2 + (b + c)/2 ≤ d + c for a + b ≤ d
halves-algebra : (a₁ a₂ b₁ b₂ d₁ d₂ x y : ℕ) → (a₁ * b₂ + b₁ * a₂) * d₂ ≤ d₁ * (a₂ * b₂)
    → ((a₁ * y + x * a₂) * (b₂ * y * 2) + (b₁ * y + x * b₂) * (a₂ * y * 2)) * (d₂ * y)
    ≤ (d₁ * y + x * d₂) * (a₂ * y * 2 * (b₂ * y * 2))
halves-algebra a₁ a₂ b₁ b₂ d₁ d₂ x y h = omega (arith, mul-le-mul_right (4 * (y * y * y)) h)

halves : (a b c d : Ratio) → a +/ b ≤/ d → quotient/ (a +/ c) 2 (lit< tt) +/ quotient/ (b +/ c) 2 (lit< tt) ≤/ d +/ c
unfolding ◌+/◌ quotient/
halves a b c d h =
    record { cross = halves-algebra a.num a.den b.num b.den d.num d.den c.num c.den h.cross }

-- ---- the distances from 0 of two fractions, of which y is at most d above x

parts : (x y : Fraction) (d : Ratio) → y ≤ℚ x +ℚ signed d
    → above y.num * (x.den * d.den) + (below x.num * d.den + 0 * x.den) * y.den
    ≤ (above x.num * d.den + d.num * x.den) * y.den + below y.num * (x.den * d.den)
unfolding ◌+ℚ◌ signed
parts x y d h =
    (≤ℚ-difference (difference y.num)
    (difference-add (difference-scale (difference x.num) d.den)
    (difference-scale (difference-pos d.num) x.den))).1 h

module _ (Z M : ℕ) (h : 0 < M) (j : ℕ) (k : narrow_order Z M ≤ j) (d : Ratio) where
  -- 1/M
  ε : Ratio
  ε = quotient/ (whole/ 1) M h

  -- 1 ≤ e + z + 1/M for an order's lower end e at z
  lower-slope : (z : Ratio) → z ≤/ whole/ Z → whole/ 1 ≤/ order_lower z j +/ (z +/ ε)
  unfolding ε
  lower-slope z l =
      ≤/-trans (one-slope z j)
      (≤/-trans (+/-mono (</→≤/ (narrow_below Z M h z j l k)) (≤/-refl z))
      (≤/-trans (+/-assoc (order_lower z j) ε z).below (+/-mono (≤/-refl (order_lower z j)) (+/-comm ε z).below)))

  -- the upper end at z is at most the lower end at z' ≤ z + d, and d and 1/M
  upper-slope : (z z' : Ratio) → z' ≤/ z +/ d → z' ≤/ whole/ Z → order_upper z j ≤/ order_lower z' j +/ (d +/ ε)
  unfolding ε
  upper-slope z z' l m = ≤/-trans (exp-narrow-below Z M h z z' d j l m k) (+/-assoc (order_lower z' j) d ε).below

  -- with one end of each sign, through 1/2
  through-half : (z z' : Ratio) → z +/ z' ≤/ d → z ≤/ whole/ Z → z' ≤/ whole/ Z
      → over_one (order_lower z' j) ≤/ share (order_lower z j) +/ (d +/ ε)
  through-half z z' l m m' =
      let e = order_lower z j in
      let f = order_lower z' j in
      let c = quotient/ (z +/ ε) 2 (lit< tt) in
      let c' = quotient/ (z' +/ ε) 2 (lit< tt) in
      ≤/-trans (over-half f (z' +/ ε) (lower-slope z' m'))
      (≤/-trans (+/-mono (share-half e (z +/ ε) (lower-slope z m)) (≤/-refl c'))
      (≤/-trans (+/-assoc (share e) c c').below (+/-mono (≤/-refl (share e)) (halves z z' ε d l))))

  -- the least end a/p and the most b/q
  narrow-cases : (p q : ℕ) (u : 0 < p) (v : 0 < q) (a b : ℤ) → over q v b ≤ℚ over p u a +ℚ signed d
      → absolute (over p u a) ≤/ whole/ Z → absolute (over q v b) ≤/ whole/ Z
      → order_logistic_upper (over q v b) j ≤/ order_logistic_lower (over p u a) j +/ (d +/ ε)
  unfolding order_logistic_upper order_logistic_lower absolute ◌+/◌
  narrow-cases p q u v (pos a) (pos b) l m n =
      let x = absolute (over p u (pos a)) in
      let y = absolute (over q v (pos b)) in
      over-narrow (order_upper x j) (order_lower y j) (d +/ ε)
      (upper-slope x y (record { cross = omega (arith, parts (over p u (pos a)) (over q v (pos b)) d l) }) n)
  narrow-cases p q u v (negsuc a) (negsuc b) l m n =
      let x = absolute (over p u (negsuc a)) in
      let y = absolute (over q v (negsuc b)) in
      share-narrow (order_upper y j) (order_lower x j) (d +/ ε)
      (upper-slope y x (record { cross = omega (arith, parts (over p u (negsuc a)) (over q v (negsuc b)) d l) }) m)
  narrow-cases p q u v (negsuc a) (pos b) l m n =
      let x = absolute (over p u (negsuc a)) in
      let y = absolute (over q v (pos b)) in
      through-half x y (record { cross = omega (arith, parts (over p u (negsuc a)) (over q v (pos b)) d l) }) m n
  narrow-cases p q u v (pos a) (negsuc b) l m n =
      let x = absolute (over p u (pos a)) in
      let y = absolute (over q v (negsuc b)) in
      ≤/-trans (share-below-half (order_upper y j) (upper-below-one y j))
      (≤/-trans (over-above-half (order_upper x j) (upper-below-one x j)) (≤/-+/ (over_one (order_upper x j)) (d +/ ε)))

-- where G's interval is at most d wide and |G| at most Z, the force's is at most d and 1/M wide from the order
-- narrow_order Z M on
pub logistic-narrow : (Z M : ℕ) (h : 0 < M) (I : Interval) (d : Ratio) (j : ℕ) → I.most ≤ℚ I.least +ℚ signed d
    → absolute I.least ≤/ whole/ Z → absolute I.most ≤/ whole/ Z → narrow_order Z M ≤ j
    → order_logistic_upper I.most j ≤/ order_logistic_lower I.least j +/ d +/ quotient/ (whole/ 1) M h
unfolding ε
logistic-narrow Z M h I d j l m n k =
    ≤/-trans
    (narrow-cases Z M h j k d I.least.den I.most.den I.least.positive I.most.positive I.least.num
    I.most.num l m n)
    (+/-assoc (order_logistic_lower I.least j) d (quotient/ (whole/ 1) M h)).above
