-- The force's ends on a grid: they lie in order, and they lie at most d/4 and a constant
-- of the grid apart where the ends of G lie at most d apart. For with E ≥ E' at the two ends 1/(1 + E') − 1/(1 + E)
-- is (E − E')/((1 + E)·(1 + E')), which is E/(1 + E) − E'/(1 + E'), and 4·E ≤ (1 + E)².
use Prim.Native.Nat.{ℕ, suc, ◌+◌, ◌-◌, ◌*◌, ◌/◌, ◌≤◌, ◌<◌}
use Rattle.std.proofs.Common.{mul-le-mul, mul-le-mul_left, mul-le-mul_right, le_of_mul-le-mul_right, mul-pos, add-sub_of_le, le_trans, arith}
use Rattle.std.specs.Prelude.{◌≡◌, ℤ, pos, negsuc, ◌+ℤ◌, ◌≤ℤ◌}
use Rattle.number_whole.proofs.laws.Split.{split, split-add}
use Rattle.number_whole.specs.declared.SignedEnds.{SignedEnds}
use Rattle.number_whole.proofs.laws.DivisionLaws.{floorℕ-encloses, ceilℕ-encloses}
use Rattle.number_exponential.specs.Grid.{Grid}
use Rattle.number_exponential.specs.Exponential.{exp_lower, exp_upper}
use Rattle.number_exponential.proofs.laws.Facts.{Sound}
use Rattle.number_exponential.proofs.laws.WidthFacts.{Narrow, slack_upper, slack_lower, exp_width}
use Rattle.model_logistic.specs.Logistic.{over_one_lower, over_one_upper, share_lower, share_upper, logistic_lower}
use Rattle.model_logistic.specs.Logistic.{logistic_upper, logistic}
use Rattle.model_logistic.proofs.laws.WidthFacts.{spread, Fine}
use Rattle.number_exponential.proofs.laws.AtMostOne.{exp-lower-one, exp-upper-one}
use Rattle.model_logistic.proofs.laws.LogisticHolds.{quotient-below, unit-sum-positive}
use Rattle.model_logistic.proofs.laws.RelativeWidth.{exp-ordered, exp-upper-zero, exp-relative-below}

-- ---- the four quotients as they round: multiplied by 1 + E, in units

module _ (g : Grid) (s : Sound g) (E : ℕ) where
  over-lower-near : g.unit * g.unit ≤ suc (over_one_lower g E) * (g.unit + E)
  unfolding over_one_lower
  over-lower-near = omega (arith, (floorℕ-encloses (g.unit * g.unit) (unit-sum-positive g s E)).1)

  over-upper-near : over_one_upper g E * (g.unit + E) ≤ g.unit * g.unit + (g.unit + E)
  unfolding over_one_upper
  over-upper-near = omega (arith, (ceilℕ-encloses (g.unit * g.unit) (unit-sum-positive g s E)).1)

  share-lower-near : E * g.unit ≤ suc (share_lower g E) * (g.unit + E)
  unfolding share_lower
  share-lower-near = omega (arith, (floorℕ-encloses (E * g.unit) (unit-sum-positive g s E)).1)

  share-upper-near : share_upper g E * (g.unit + E) ≤ E * g.unit + (g.unit + E)
  unfolding share_upper
  share-upper-near = omega (arith, (ceilℕ-encloses (E * g.unit) (unit-sum-positive g s E)).1)

-- ---- the algebra of a width: E at the end where e^−z is greater, F at the other, U the unit, K the slack in thirds

square : (U E k : ℕ) → E + k ≡ U → 4 * (U * E) ≤ (U + E) * (U + E)
square U E k e = rw (← e) (omega arith)

near-algebra : (U E F d K : ℕ) → 0 < U → E ≤ U → 3 * (U * E) ≤ 3 * (U * F) + 3 * (d * E) + U * K
    → 3 * E ≤ 3 * F + (3 * d + K)
near-algebra U E F d K p l h = le_of_mul-le-mul_right {k = U} (omega (arith, mul-le-mul_left d l)) p

-- 4·X ≤ P², P not far above Q, and U ≤ Q
out_of_range : (d D P Q U X : ℕ) → 4 * X ≤ P * P → 3 * P ≤ 3 * Q + D → d * D ≤ 6 * U → U ≤ Q
    → 12 * (d * X) ≤ (3 * d + 6) * (P * Q)
out_of_range d D P Q U X h k l m =
    omega (arith, mul-le-mul_left (3 * d) h, mul-le-mul_left (d * P) k, mul-le-mul_left P l, mul-le-mul_left (6 * P) m)

fine-first : (d K U : ℕ) → (3 * d + K) * suc (3 * d + K) ≤ 6 * U → d * (3 * d + K) ≤ 6 * U
fine-first d K U k = omega arith

-- U²·(E − F) against (U + E)·(U + F), times 12
core : (U E F d K : ℕ) → 0 < U → E ≤ U → 3 * (U * E) ≤ 3 * (U * F) + 3 * (d * E) + U * K
    → (3 * d + K) * suc (3 * d + K) ≤ 6 * U
    → 12 * (U * U * E) ≤ 12 * (U * U * F) + (3 * d + 4 * K + 6) * ((U + E) * (U + F))
core U E F d K p l h k =
    let n = near-algebra U E F d K p l h in
    let r : 12 * (d * (U * E)) ≤ (3 * d + 6) * ((U + E) * (U + F)) =
    out_of_range d (3 * d + K) (U + E) (U + F) U (U * E) (square U E (U - E) (add-sub_of_le l)) (omega arith)
    (fine-first d K U k) (omega arith) in
    omega (arith, mul-le-mul_left (4 * U) h, r)

-- both ends by e^−G: lo = U²/(U + E), hi = U²/(U + F), the one rounded down and the other up
over-algebra : (U E F lo hi C : ℕ) → 0 < (U + E) * (U + F) → U * U ≤ suc lo * (U + E) → hi * (U + F) ≤ U * U + (U + F)
    → 12 * (U * U * E) ≤ 12 * (U * U * F) + C * ((U + E) * (U + F)) → 12 * hi ≤ 12 * lo + C + 24
over-algebra U E F lo hi C p h k l =
    le_of_mul-le-mul_right {k = (U + E) * (U + F)}
    (omega (arith, mul-le-mul_right (12 * (U + F)) h, mul-le-mul_right (12 * (U + E)) k)) p

-- both ends by E = e^G: lo = U·F/(U + F), hi = U·E/(U + E)
share-algebra : (U E F lo hi C : ℕ) → 0 < (U + E) * (U + F) → F * U ≤ suc lo * (U + F) → hi * (U + E) ≤ E * U + (U + E)
    → 12 * (U * U * E) ≤ 12 * (U * U * F) + C * ((U + E) * (U + F)) → 12 * hi ≤ 12 * lo + C + 24
share-algebra U E F lo hi C p h k l =
    le_of_mul-le-mul_right {k = (U + E) * (U + F)}
    (omega (arith, mul-le-mul_right (12 * (U + E)) h, mul-le-mul_right (12 * (U + F)) k)) p

-- one end of each sign, through 0, where E is the unit: 2·U² ≤ (U + D/6 + 1/6)·(U + F) for U ≤ F + D/3
half-algebra : (U F D : ℕ) → 3 * U ≤ 3 * F + D → D * suc D ≤ 6 * U → 12 * (U * U) ≤ (6 * U + D + 1) * (U + F)
half-algebra U F D h k =
    le_of_mul-le-mul_right {k = 3} (omega (arith, mul-le-mul_left (6 * U + D + 1) h)) (omega arith)

over-half : (U P hi D : ℕ) → 0 < P → hi * P ≤ U * U + P → 12 * (U * U) ≤ (6 * U + D + 1) * P → 12 * hi ≤ 6 * U + D + 13
over-half U P hi D p h k = le_of_mul-le-mul_right {k = P} (omega arith) p

share-half : (U F lo D : ℕ) → 0 < U + F → F * U ≤ suc lo * (U + F) → 12 * (U * U) ≤ (6 * U + D + 1) * (U + F)
    → 6 * U ≤ 12 * lo + D + 13
share-half U F lo D p h k = le_of_mul-le-mul_right {k = U + F} (omega arith) p

-- the lower end at least 0 and the upper one below it: U·E/(U + E) ≤ U/2 ≤ U²/(U + E)
share-at-most-half : (U E hi : ℕ) → 0 < U + E → E ≤ U → hi * (U + E) ≤ E * U + (U + E) → 2 * hi ≤ U + 2
share-at-most-half U E hi p l h = le_of_mul-le-mul_right {k = U + E} (omega (arith, mul-le-mul_right U l)) p

over-at-least-half : (U E lo : ℕ) → 0 < U → E ≤ U → U * U ≤ suc lo * (U + E) → U ≤ 2 * suc lo
over-at-least-half U E lo p l h = le_of_mul-le-mul_right {k = U} (omega (arith, mul-le-mul_left (suc lo) l)) p

-- twelfths of a unit to units
twelfths : (lo hi d K : ℕ) → 12 * hi ≤ 12 * lo + (3 * d + 4 * K + 30) → hi ≤ lo + d / 4 + K / 3 + 3
twelfths lo hi d K h = omega arith

-- what is fine for d is fine for less
pub fine-below : {g : Grid} {c d : ℕ} → c ≤ d → Fine g d → Fine g c
unfolding spread
fine-below {g} {c} {d} l f =
    record { small = le_trans (mul-le-mul (omega arith) (omega arith)) f.small }

module _ (g : Grid) (s : Sound g) (w : Narrow g s) where
  -- an end at distance d of 0
  from-zero : (d : ℕ) → 3 * g.unit ≤ 3 * exp_lower g d + (3 * d + (slack_upper g + slack_lower g))
  from-zero d =
      near-algebra g.unit g.unit (exp_lower g d) d _ g.positive (omega arith)
      (rw (exp-upper-zero g s) at (exp-relative-below g s w 0 d d (omega arith)))

  width-cases : (a b : ℤ) (d : ℕ) → b ≤ℤ (a +ℤ pos d) → Fine g d
      → 12 * logistic_upper g b ≤ 12 * logistic_lower g a + (3 * d + 4 * (slack_upper g + slack_lower g) + 30)
  unfolding logistic_upper logistic_lower spread
  width-cases (pos a) (pos b) d h f =
      let E = exp_upper g a in
      let F = exp_lower g b in
      let c = core g.unit E F d _ g.positive (exp-upper-one g s a)
      (exp-relative-below g s w a b d (omega split)) f.small in
      let r = over-algebra g.unit E F _ _ _ (mul-pos (unit-sum-positive g s E) (unit-sum-positive g s F))
      (over-lower-near g s E) (over-upper-near g s F) c in
      omega (arith, r)
  width-cases (negsuc a) (negsuc b) d h f =
      let E = exp_upper g (suc b) in
      let F = exp_lower g (suc a) in
      let c = core g.unit E F d _ g.positive (exp-upper-one g s (suc b))
      (exp-relative-below g s w (suc b) (suc a) d (omega (split, split-add (negsuc a) (pos d)))) f.small in
      let r = share-algebra g.unit E F _ _ _ (mul-pos (unit-sum-positive g s E) (unit-sum-positive g s F))
      (share-lower-near g s F) (share-upper-near g s E) c in
      omega (arith, r)
  width-cases (negsuc a) (pos b) d h f =
      let E = exp_lower g b in
      let F = exp_lower g (suc a) in
      let l : b + suc a ≤ d = omega (split, split-add (negsuc a) (pos d)) in
      let fb : Fine g b = fine-below (omega arith) f in
      let fa : Fine g (suc a) = fine-below (omega arith) f in
      let x = over-half g.unit (g.unit + E) _ _ (unit-sum-positive g s E) (over-upper-near g s E)
      (half-algebra g.unit E _ (from-zero b) fb.small) in
      let y = share-half g.unit F _ _ (unit-sum-positive g s F) (share-lower-near g s F)
      (half-algebra g.unit F _ (from-zero (suc a)) fa.small) in
      omega (arith, x, y)
  width-cases (pos a) (negsuc b) d h f =
      let E = exp_upper g a in
      let F = exp_upper g (suc b) in
      let x = share-at-most-half g.unit F _ (unit-sum-positive g s F) (exp-upper-one g s (suc b))
      (share-upper-near g s F) in
      let y = over-at-least-half g.unit E _ g.positive (exp-upper-one g s a) (over-lower-near g s E) in
      omega (arith, x, y)

  -- the force's ends lie at most d/4 and the grid's constant apart, where G's lie at most d apart
  pub logistic-width : (G : SignedEnds) (d : ℕ) → G.upper ≤ℤ (G.lower +ℤ pos d) → Fine g d
      → (logistic g G).upper ≤ (logistic g G).lower + d / 4 + exp_width g + 3
  unfolding logistic exp_width
  logistic-width G d h f = twelfths _ _ d (slack_upper g + slack_lower g) (width-cases G.lower G.upper d h f)

-- ---- the order of the ends, and their bound

-- q ≤ r for quotients of numbers that are in order, rounded down and up
quotients-ordered : (q r A B P Q : ℕ) → 0 < P → 0 < Q → q * P ≤ A → B ≤ r * Q → A * Q ≤ B * P → q ≤ r
quotients-ordered q r A B P Q p p' h k l =
    le_of_mul-le-mul_right {k = Q} (le_trans (quotient-below q P A Q B p h l) k) p'

ordered-cases : (g : Grid) → Sound g → (a b : ℤ) → a ≤ℤ b → logistic_lower g a ≤ logistic_upper g b
unfolding logistic_lower logistic_upper over_one_lower over_one_upper share_lower share_upper
ordered-cases g s (pos a) (pos b) h =
    let E = exp_upper g a in
    let F = exp_lower g b in
    quotients-ordered _ _ (g.unit * g.unit) (g.unit * g.unit) (g.unit + E) (g.unit + F)
    (unit-sum-positive g s E) (unit-sum-positive g s F)
    (floorℕ-encloses _ (unit-sum-positive g s E)).0 (ceilℕ-encloses _ (unit-sum-positive g s F)).0
    (mul-le-mul_left (g.unit * g.unit) (omega (arith, exp-ordered g s a b (omega split))))
ordered-cases g s (negsuc a) (negsuc b) h =
    let E = exp_lower g (suc a) in
    let F = exp_upper g (suc b) in
    quotients-ordered _ _ (E * g.unit) (F * g.unit) (g.unit + E) (g.unit + F) (unit-sum-positive g s E)
    (unit-sum-positive g s F)
    (floorℕ-encloses _ (unit-sum-positive g s E)).0 (ceilℕ-encloses _ (unit-sum-positive g s F)).0
    (omega (arith, mul-le-mul_left (g.unit * g.unit) (exp-ordered g s (suc b) (suc a) (omega split))))
ordered-cases g s (negsuc a) (pos b) h =
    let E = exp_lower g (suc a) in
    let F = exp_lower g b in
    quotients-ordered _ _ (E * g.unit) (g.unit * g.unit) (g.unit + E) (g.unit + F) (unit-sum-positive g s E)
    (unit-sum-positive g s F)
    (floorℕ-encloses _ (unit-sum-positive g s E)).0 (ceilℕ-encloses _ (unit-sum-positive g s F)).0
    (omega (
      arith,
      mul-le-mul_left (E * g.unit) (exp-lower-one g s b),
      mul-le-mul_left (g.unit * g.unit)
          (exp-lower-one g s (suc a)),
    ))
ordered-cases g s (pos a) (negsuc b) h = absurd h.le

-- the lower end is at most the upper one, where G's are in order
pub logistic-ordered : (g : Grid) → Sound g → (G : SignedEnds) → G.lower ≤ℤ G.upper
    → (logistic g G).lower ≤ (logistic g G).upper
unfolding logistic
logistic-ordered g s G h = ordered-cases g s G.lower G.upper h
