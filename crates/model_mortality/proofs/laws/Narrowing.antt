-- The orders of a cell narrow: for every whole M there is an order from which on q's bracket is at most 1/M wide.
use Rattle.std.specs.Prelude.{◌≡◌, refl, Bool, true, false, cond, ℕ, suc, ◌+◌, ◌-◌, ◌*◌, ◌^◌, ◌≤◌, ◌<◌, max}
use Rattle.std.proofs.Common.{ap, ◌∙◌, zero-le, pow-suc, one-mul, lt-ltb, le-ltb}
use Rattle.std.proofs.Math.Nat.{pow-zero}
use Rattle.std.proofs.Math.Decide.{dec_lt}
use native.Mathlib.Omega.{arith}
use Rattle.std.specs.Int.Signed.{non_neg}
use Rattle.number_whole.specs.Parts.{below}
use Rattle.number_fraction.specs.Ratio.{Ratio, ◌≤/◌, ◌</◌, whole/, quotient/, complement, ◌+/◌, ◌*/◌}
use Rattle.number_fraction.proofs.laws.RatioLaws.{≤/-refl, ≤/-trans, +/-mono, +/-comm, +/-assoc, +/-cancel, </→≤/, +/-complement, */-mono, */-comm, */-one, */-+/, whole/-+/, whole/-*/}
use Rattle.number_fraction.proofs.laws.Multiples.{times, times-one, times-suc, times-times, times-grows}
use Rattle.number_fraction.specs.Fraction.{Fraction, ◌≤ℚ◌, ◌+ℚ◌, signed, absolute}
use Rattle.number_fraction.proofs.laws.FractionLaws.{≤ℚ-refl, ≤ℚ-trans, +ℚ-mono, +ℚ-assoc, signed-≤ℚ, signed-+ℚ}
use Rattle.number_taylor.specs.Order.{least_order, order_lower, order_upper}
use Rattle.number_taylor.proofs.laws.Narrowing.{narrow_order}
use Rattle.number_taylor.proofs.laws.OrderLaws.{narrow_below, upper-below-one, brackets-agree}
use Rattle.number_exponential.specs.Units.{billionths, grid_of}
use Rattle.number_exponential.specs.declared.GridUnit.TheVariants.{Coarse}
use Rattle.number_exponential.proofs.laws.BillionthsFacts.{billionths-sound}
use Rattle.number_exponential.specs.Grid.{in_units}
use Rattle.set_params.specs.declared.Params.{Params}
use Rattle.model_log_force.specs.LogForce.{log_force, highest_force}
use Rattle.model_log_force.specs.code.Within.{log_force_width, Negated}
use Rattle.model_logarithm.specs.Exact.{log_sum, log_remainder, order_log_lower, order_log_upper}
use Rattle.model_logarithm.proofs.laws.Brackets.{log-upper-falls, log-brackets-agree}
use Rattle.model_logarithm.proofs.laws.Half.{half, log_order}
use Rattle.model_logarithm.proofs.laws.Narrowing.{log-narrow}
use Rattle.model_logarithm.proofs.laws.Force.{order-force-half}
use Rattle.model_closure.specs.Weights.{first_fitted, first_closed}
use Rattle.model_logistic.proofs.laws.SignedUnits.{Bounded}
use Rattle.model_logistic.specs.Exact.{over_one, share, order_logistic_lower, order_logistic_upper}
use Rattle.model_logistic.proofs.laws.LogisticNarrow.{logistic-narrow}
use Rattle.model_logistic.proofs.laws.ExpNarrow.{exp-narrow-below}
use Rattle.model_logistic.proofs.laws.LogisticHolds.{order-lower-one}
use Rattle.model_closure.proofs.laws.SumBound.{absolute-sum, closed_sum-bounded}
use Rattle.model_closure.specs.Exact.{exact_closed_sum}
use Rattle.model_closure.proofs.laws.SumNarrow.{closed_sum-narrow}
use Rattle.model_mortality.specs.Exact.{exact_m, exact_z, order_young_force, order_fitted, order_fitted_list, order_old_force, order_force, order_force_over, order_survival}
use Rattle.model_mortality.proofs.laws.OrderDeath.{order_death}
use Rattle.model_force.specs.Force.{negated}
use Rattle.model_mortality.specs.Cell.{whole_year}
use Rattle.model_mortality.proofs.laws.Answered.{Answered}
use Rattle.model_mortality.proofs.laws.Needed.{young-needed, old-needed}
use Rattle.model_mortality.proofs.laws.Holds.{z-overlap, order-fitted-at}
use Rattle.model_mortality.proofs.laws.Facts.{Fit}
use Rattle.model_mortality.proofs.laws.GridFacts.{unit-fit}

-- ---- parts of 1/M

-- forty times 1/(40·M) is 1/M
forty-positive : (M : ℕ) → 0 < M → 0 < 40 * M
forty-positive M h = omega arith

abbrev part : (M : ℕ) → 0 < M → Ratio
part M h = quotient/ (whole/ 1) (40 * M) (forty-positive M h)

times-part : (M : ℕ) (h : 0 < M) → times 40 (part M h) ≤/ quotient/ (whole/ 1) M h
unfolding times whole/ quotient/ ◌*/◌
times-part M h = record { cross = omega arith }

-- ---- complements

-- b ≤ a + d gives 1 − a ≤ (1 − b) + d
pub complement-narrow : (a b d : Ratio) → a ≤/ whole/ 1 → b ≤/ whole/ 1 → b ≤/ a +/ d → complement a ≤/ complement b +/ d
complement-narrow a b d ha hb h =
    +/-cancel a
    (≤/-trans (+/-comm (complement a) a).below
    (≤/-trans (+/-complement ha).below
    (≤/-trans (+/-complement hb).above
    (≤/-trans (+/-mono h (≤/-refl (complement b)))
    (≤/-trans (+/-comm (a +/ d) (complement b)).below
    (≤/-trans (+/-mono (≤/-refl (complement b)) (+/-comm a d).below) (+/-assoc (complement b) d a).above))))))

-- one more part after n of them
more : {x : Ratio} (y : Ratio) (n : ℕ) (e : Ratio) → x ≤/ y +/ times n e +/ e → x ≤/ y +/ times (suc n) e
more y n e h = ≤/-trans h (≤/-trans (+/-assoc y (times n e) e).below (+/-mono (≤/-refl y) (times-suc n e)))

-- u ≤ l + e gives m + u ≤ (m + l) + e
added : (m : Fraction) (l u e : Ratio) → u ≤/ l +/ e → m +ℚ signed u ≤ℚ (m +ℚ signed l) +ℚ signed e
added m l u e h =
    let k : signed u ≤ℚ signed l +ℚ signed e = rw (signed-+ℚ l e) at ((signed-≤ℚ {x = u} {y = l +/ e}).0 h) in
    ≤ℚ-trans (+ℚ-mono (≤ℚ-refl m) k) (+ℚ-assoc m (signed l) (signed e)).above

-- ---- p and q from a narrow force

-- times a fraction of at most 1 a number is no greater
scaled-less : (x y : Ratio) → y ≤/ whole/ 1 → x */ y ≤/ x
scaled-less x y h = ≤/-trans (*/-mono (≤/-refl x) h) (*/-one x).below

-- u ≤ v + e gives u·y ≤ v·y + e
scaled-narrow : (v e y : Ratio) {u : Ratio} → y ≤/ whole/ 1 → u ≤/ v +/ e → u */ y ≤/ v */ y +/ e
scaled-narrow v e y {u} h k =
    ≤/-trans (*/-mono k (≤/-refl y))
    (≤/-trans (*/-comm (v +/ e) y).below
    (≤/-trans (*/-+/ y v e).below
    (+/-mono (*/-comm y v).below (≤/-trans (*/-comm y e).below (scaled-less e y h)))))

module _ (p : Params) (x n j M : ℕ) (h : 0 < M) (l : narrow_order 1 (40 * M) ≤ j) where
  -- a force that is k parts wide gives a p that is k + 1 parts wide, also over a part d of the year
  survival-parts : {d : Ratio} → d ≤/ whole_year → (k : ℕ) → suc k ≤ 40
      → (order_force p x n j).most ≤/ (order_force p x n j).least +/ times k (part M h) → (order_force p x n j).most ≤/ whole/ 1
      → (order_survival p x n d j).most ≤/ (order_survival p x n d j).least +/ quotient/ (whole/ 1) M h
  unfolding order_survival order_force_over
  survival-parts {d} within k c f o =
      let a = (order_force p x n j).least */ d in
      let b = (order_force p x n j).most */ d in
      let s = exp-narrow-below 1 (40 * M) (forty-positive M h) a b (times k (part M h)) j
      (scaled-narrow (order_force p x n j).least (times k (part M h)) d within f)
      (≤/-trans (scaled-less (order_force p x n j).most d within) o) l in
      ≤/-trans (more (order_lower b j) k (part M h) s)
      (+/-mono (≤/-refl _) (≤/-trans (times-grows (suc k) 40 (part M h) c) (times-part M h)))

-- both ends of an order's p are at most 1
pub survival-least-one : (p : Params) (x n : ℕ) (d : Ratio) (j : ℕ) → (order_survival p x n d j).least ≤/ whole/ 1
unfolding order_survival
survival-least-one p x n d j = order-lower-one (order_force_over d (order_force p x n j)).most j

pub survival-most-one : (p : Params) (x n : ℕ) (d : Ratio) (j : ℕ) → (order_survival p x n d j).most ≤/ whole/ 1
unfolding order_survival
survival-most-one p x n d j = upper-below-one (order_force_over d (order_force p x n j)).least j

-- ---- the logarithm of a force of at most one half is at most 1

rest-algebra : (p q P Q : ℕ) → P ≡ p → Q ≡ 1 → p * 2 ≤ 1 * q → P * 1 ≤ 1 * (Q * (1 * max 1 (q - p)))
rest-algebra p q P Q a b h = rw (a, b) (omega arith)

pub half-one : {u : Ratio} → u ≤/ half → u </ whole/ 1
unfolding half whole/
half-one {u} h = record { cross = omega (arith, h.cross, u.positive) }

rest-one : (u : Ratio) → u ≤/ half → log_remainder u 0 ≤/ whole/ 1
unfolding log_remainder half whole/
rest-one u h =
    let a : u.num ^ 1 ≡ u.num = pow-suc u.num 0 ∙ ap (λ (t : ℕ). t * u.num) (pow-zero u.num) ∙ one-mul u.num in
    let b : u.den ^ 0 ≡ 1 = pow-zero u.den in
    record { cross = rest-algebra u.num u.den (u.num ^ 1) (u.den ^ 0) a b h.cross }

log-one : (u : Ratio) (j : ℕ) → u ≤/ half → order_log_upper u j ≤/ whole/ 1
unfolding order_log_upper log_sum
log-one u j h =
    ≤/-trans (log-upper-falls u 0 j (half-one h) (zero-le))
    (≤/-trans (+/-mono (≤/-refl (whole/ 0)) (rest-one u h)) (whole/-+/ 0 1).above)

absolute-signed : (L : Ratio) → absolute (signed L) ≡ L
unfolding absolute signed
absolute-signed L = refl

-- ---- the force to 90

billionths-fit : Fit billionths
unfolding grid_of
billionths-fit = unit-fit Coarse

-- −m is at most 30, and at least the least log force
module _ (p : Params) (x n : ℕ) (r : Negated billionths (log_force billionths p x n) log_force_width) where
  z-small : exact_z p x n ≤/ whole/ 30
  unfolding in_units whole/ negated
  z-small =
      ≤/-trans (z-overlap billionths billionths-sound billionths-fit p x n r).above
      (record { cross = omega (arith, r.most) })

  z-large : in_units billionths (below highest_force) ≤/ exact_z p x n
  unfolding in_units negated
  z-large =
      ≤/-trans (record { cross = omega (arith, r.least) })
      (z-overlap billionths billionths-sound billionths-fit p x n r).below

  pub young-half : (j : ℕ) → least_order ≤ j → (order_young_force p x n j).most ≤/ half
  unfolding order_young_force
  young-half j l = order-force-half billionths billionths-sound (below highest_force) billionths-fit.half j z-large l

  young-parts : (j M : ℕ) (h : 0 < M) → narrow_order 30 (40 * M) ≤ j
      → (order_young_force p x n j).most ≤/ (order_young_force p x n j).least +/ times 1 (part M h)
  unfolding order_young_force
  young-parts j M h l =
      ≤/-trans (</→≤/ (narrow_below 30 (40 * M) (forty-positive M h) (exact_z p x n) j z-small l))
      (+/-mono (≤/-refl (order_lower (exact_z p x n) j)) (times-one (part M h)))

  -- ---- H

  fitted-parts : (j M : ℕ) (h : 0 < M) → least_order ≤ j → narrow_order 30 (40 * M) ≤ j → log_order (40 * M) ≤ j
      → (order_fitted p n j x).most ≤ℚ (order_fitted p n j x).least +ℚ signed (times 3 (part M h))
  unfolding order_fitted
  fitted-parts j M h l k o =
      let u = order_young_force p x n j in
      let e = part M h in
      let a : order_log_upper u.most j ≤/ order_log_lower u.least j +/ (whole/ 2 */ times 1 e) +/ e =
      log-narrow (40 * M) (forty-positive M h) u.least (times 1 e) j (young-half j l) (young-parts j M h k) o in
      let b : order_log_upper u.most j ≤/ order_log_lower u.least j +/ times 2 e +/ e =
      ≤/-trans a (+/-mono (+/-mono (≤/-refl (order_log_lower u.least j)) (times-times 2 1 e)) (≤/-refl e)) in
      added (exact_m p x n) (order_log_lower u.least j) (order_log_upper u.most j) (times 3 e) (more (order_log_lower u.least j) 2 e b)

  -- any two orders agree
  pub young-agrees : (i j : ℕ) → (order_young_force p x n i).least ≤/ (order_young_force p x n j).most
  unfolding order_young_force
  young-agrees i j = brackets-agree (exact_z p x n) i j

  size-bound : (L : Ratio) → L ≤/ whole/ 1 → absolute (exact_m p x n +ℚ signed L) ≤/ whole/ 31
  unfolding exact_z
  size-bound L h =
      ≤/-trans (absolute-sum (exact_m p x n) (signed L))
      (≤/-trans (+/-mono z-small (rw (absolute-signed L) h)) (whole/-+/ 30 1).above)

  fitted-bounded : (j : ℕ) → least_order ≤ j → Bounded (whole/ 31) (order_fitted p n j x)
  unfolding order_fitted
  fitted-bounded j l =
      let u = order_young_force p x n j in
      let m = young-half j l in
      let k = ≤/-trans (young-agrees j j) m in
      record {
        low = size-bound (order_log_lower u.least j) (≤/-trans (log-brackets-agree u.least j j (half-one k)) (log-one u.least j k));
        high = size-bound (order_log_upper u.most j) (log-one u.most j m);
      }

-- ---- the force above 90

-- the orders from which each part is narrow enough
unfoldable pub death_order : ℕ → ℕ
death_order M =
    least_order + narrow_order 1 (40 * M) + narrow_order 30 (40 * M) + narrow_order 310 (40 * M) + log_order (40 * M)

over-one : (e : Ratio) → over_one e ≤/ whole/ 1
unfolding over_one whole/
over-one e = record { cross = omega arith }

share-one : (e : Ratio) → share e ≤/ whole/ 1
unfolding share whole/
share-one e = record { cross = omega arith }

logistic-one : (G : Fraction) (j : ℕ) → order_logistic_upper G j ≤/ whole/ 1
unfolding order_logistic_upper
logistic-one G j = sign (non_neg G.num)
  where
    sign : (b : Bool) → cond b (over_one (order_lower (absolute G) j)) (share (order_upper (absolute G) j)) ≤/ whole/ 1
    sign true = over-one (order_lower (absolute G) j)
    sign false = share-one (order_upper (absolute G) j)

upper-one : (p : Params) (x n j : ℕ) → (order_young_force p x n j).most ≤/ whole/ 1
unfolding order_young_force
upper-one p x n j = upper-below-one (exact_z p x n) j

old-one : (p : Params) (x n j : ℕ) → (order_old_force p x n j).most ≤/ whole/ 1
unfolding order_old_force
old-one p x n j = logistic-one (exact_closed_sum x (order_fitted_list p n j)).most j

module _ {p : Params} {x n : ℕ} (a : Answered p x n) (M : ℕ) (h : 0 < M) (j : ℕ) (l : death_order M ≤ j) where
  old-parts : first_closed ≤ x → (order_old_force p x n j).most ≤/ (order_old_force p x n j).least +/ times 31 (part M h)
  unfolding order_old_force death_order
  old-parts c =
      let es = order_fitted_list p n j in
      let I = exact_closed_sum x es in
      let e = part M h in
      let w : I.most ≤ℚ I.least +ℚ signed (whole/ 10 */ times 3 e) =
      closed_sum-narrow x es (times 3 e) c a.age (λ i k. rw (order-fitted-at p n j i k)
      (fitted-parts p (first_fitted + i) n (old-needed billionths a c i k) j M h (omega arith) (omega arith) (omega arith))) in
      let w' : I.most ≤ℚ I.least +ℚ signed (times 30 e) =
      ≤ℚ-trans w (+ℚ-mono (≤ℚ-refl I.least) (signed-≤ℚ.0 (times-times 10 3 e))) in
      let b = closed_sum-bounded x es (whole/ 31) c a.age (λ i k. rw (order-fitted-at p n j i k)
      (fitted-bounded p (first_fitted + i) n (old-needed billionths a c i k) j (omega arith))) in
      more (order_logistic_lower I.least j) 30 e
      (logistic-narrow 310 (40 * M) (forty-positive M h) I (times 30 e) j w' (≤/-trans b.low (whole/-*/ 10 31).above)
      (≤/-trans b.high (whole/-*/ 10 31).above) (omega arith))

  -- the bracket of p over a part of the year is at most 1/M wide, and so is q's
  pub p-narrow : {d : Ratio} → d ≤/ whole_year
      → (order_survival p x n d j).most ≤/ (order_survival p x n d j).least +/ quotient/ (whole/ 1) M h
  unfolding order_force death_order
  p-narrow w =
      elim (dec_lt x first_closed) [
        | yes k ↦
            let f = young-parts p x n (young-needed billionths a k) j M h (omega arith) in
            survival-parts p x n j M h (omega arith) w 1 (omega arith) (rw (lt-ltb x first_closed k) f)
            (rw (lt-ltb x first_closed k) (upper-one p x n j))
        | no k ↦
            let c : first_closed ≤ x = omega arith in
            survival-parts p x n j M h (omega arith) w 31 (omega arith) (rw (le-ltb x first_closed c) (old-parts c))
            (rw (le-ltb x first_closed c) (old-one p x n j))
      ]

  pub q-narrow : (order_death p x n j).most ≤/ (order_death p x n j).least +/ quotient/ (whole/ 1) M h
  unfolding order_death
  q-narrow =
      complement-narrow (order_survival p x n whole_year j).least (order_survival p x n whole_year j).most (quotient/ (whole/ 1) M h)
      (survival-least-one p x n whole_year j) (survival-most-one p x n whole_year j) (p-narrow (≤/-refl whole_year))

-- the orders that count are from 400 up
pub death_order-counts : (M : ℕ) → least_order ≤ death_order M
unfolding death_order
death_order-counts M = omega arith
