-- `series_in_limits` meets its contract: the five tests in their order, up to the first that fails. K and theta have
-- passed theirs where K + 171·theta is formed, so that it does not overflow.
use borrow.Author.Rules.{rules}
use Rattle.std.proofs.Common.{◌≡◌, refl, ap, ◌∙◌, Bool, true, ◌&&◌, ◌*◌, ℤ, pos, ◌+ℤ◌, ◌*ℤ◌}
use mir.Syntax.{w64}
use mir.Val.{SFits, to_z, of_z}
use Rattle.number_whole.specs.code.Sizes.{Under}
use Rattle.number_whole.proofs.laws.Bound.{under-lit, under-add, under-mul, fits, back}
use Rattle.set_params.specs.declared.Params.{Params}
use Rattle.set_params.specs.Limits.{a_limit, theta_limit, period_limit, kappa_limit, last_years, within}
use Rattle.set_limits.specs.InLimits.{series_in_limits}
use Rattle.set_limits.proofs.Sizes.{tested, passed, then-both, else-both, regrouped, last-two}
use Rattle.set_limits.proofs.series_in_limits.Goals as goal
use Rattle.set_limits.proofs.series_in_limits.Goals.{then-within, else-within, then-within-2, else-within-2, then-within-3, else-within-3}
use Rattle.set_limits.proofs.series_in_limits.Goals.{Start, Joined-within-2, Joined-within-3}

-- ---- K + 171·theta in 64 bits

module _ {t k : ℤ} (u : Under t theta_limit) (v : Under k period_limit) where
  years-under : Under (pos last_years *ℤ t) (last_years * theta_limit)
  years-under = under-mul (under-lit {z = pos last_years} {k = last_years} tt) u

  years-fit : SFits w64 (pos last_years *ℤ to_z w64 (of_z w64 t))
  years-fit = rw (back u tt) (fits years-under tt)

  years-back : to_z w64 (of_z w64 (pos last_years *ℤ to_z w64 (of_z w64 t))) ≡ pos last_years *ℤ t
  years-back = rw (back u tt) (back years-under tt)

  last_fits : SFits w64 (to_z w64 (of_z w64 k) +ℤ to_z w64 (of_z w64 (pos last_years *ℤ to_z w64 (of_z w64 t))))
  last_fits = rw (years-back, back v tt) (fits (under-add v years-under) tt)

  last-back : to_z w64 (of_z w64 (to_z w64 (of_z w64 k) +ℤ to_z w64 (of_z w64 (pos last_years *ℤ to_z w64 (of_z w64 t)))))
      ≡ k +ℤ pos last_years *ℤ t
  last-back = rw (years-back, back v tt) (back (under-add v years-under) tt)

-- ---- the tests

record Fields (p : Params) : Type 0 where
  a : SFits w64 p.a
  theta : SFits w64 p.theta
  period : SFits w64 p.period
  kappa : SFits w64 p.kappa

fields : (s : Start) → Fields s.args.p
fields s = record { a = search rules; theta = search rules; period = search rules; kappa = search rules }

-- the first three tests, and the first four
abbrev three : Params → Bool
three p = (within a_limit p.a && within theta_limit p.theta) && within period_limit p.period

abbrev four : Params → Bool
four p = three p && within period_limit (p.period +ℤ pos last_years *ℤ p.theta)

-- with the last one they are the set's
all : (p : Params) → (four p && within kappa_limit p.kappa) ≡ series_in_limits p
unfolding series_in_limits
all p =
    regrouped (within a_limit p.a) (within theta_limit p.theta) (within period_limit p.period)
    (within period_limit (p.period +ℤ pos last_years *ℤ p.theta)) (within kappa_limit p.kappa)

-- theta and K are within their limits where three pass
small : (p : Params) {v : Bool} → v ≡ three p → v ≡ true → Under p.theta theta_limit × Under p.period period_limit
small p e h =
    let t = last-two (within a_limit p.a) (within theta_limit p.theta) (within period_limit p.period) (rw e at h) in
    (passed theta_limit p.theta t.0, passed period_limit p.period t.1)

first-three : (c : Joined-within-2) → Fields c.args.p → c.if-within-2.value ≡ three c.args.p
first-three c f =
    let both : c.if-within.value ≡ (within a_limit c.args.p.a && within theta_limit c.args.p.theta) =
    elim c.if-within.branch [
      | then-within w ↦ then-both w.if-within.true (tested a_limit c.within.ensures f.a) (tested theta_limit w.within-then-within.ensures f.theta) w.value-is
      | else-within w ↦ else-both _ w.if-within.false (tested a_limit c.within.ensures f.a) w.value-is
    ] in
    elim c.if-within-2.branch [
      | then-within-2 w ↦ then-both w.if-within-2.true both (tested period_limit w.within-then-within-2.ensures f.period) w.value-is
      | else-within-2 w ↦ else-both _ w.if-within-2.false both w.value-is
    ]

first-four : (c : Joined-within-3) → c.if-within-2.value ≡ three c.args.p → c.if-within-3.value ≡ four c.args.p
first-four c e =
    elim c.if-within-3.branch [
      | then-within-3 w ↦
          let u = small c.args.p e w.if-within-3.true in
          then-both w.if-within-3.true e (w.within-then-within-3.ensures ∙ ap (within period_limit) (last-back u.0 u.1)) w.value-is
      | else-within-3 w ↦ else-both _ w.if-within-3.false e w.value-is
    ]

pub overflow_add-p : goal.overflow_add-p
overflow_add-p c =
    let w = goal.at.overflow_add-p c in
    let u = small c.args.p (first-three w.Joined-within-2 (fields w.Start)) c.if-within-3.true in last_fits u.0 u.1

pub returns-then-within-4 : goal.returns-then-within-4
returns-then-within-4 c =
    let w = goal.at.returns-then-within-4 c in
    let f = fields w.Start in
    then-both c.if-within-4.true (first-four w.Joined-within-3 (first-three w.Joined-within-2 f))
    (tested kappa_limit c.within-then-within-4.ensures f.kappa) refl
    ∙ all c.args.p

pub returns-else-within-4 : goal.returns-else-within-4
returns-else-within-4 c =
    let w = goal.at.returns-else-within-4 c in
    else-both (within kappa_limit c.args.p.kappa) c.if-within-4.false (first-four w.Joined-within-3 (first-three w.Joined-within-2 (fields w.Start))) refl
    ∙ all c.args.p
