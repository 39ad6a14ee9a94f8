-- How great the values of two lives can be: a chance is at most 1, and an expectancy at most one half and 1 for each factor.
use Rattle.std.specs.Prelude.{List, ℕ, suc, ◌+◌, ◌*◌, ◌/◌, ◌≤◌, length}
use native.Mathlib.Omega.{arith}
use Rattle.number_exponential.specs.Grid.{Grid}
use Rattle.number_exponential.specs.declared.Ends.{Ends}
use Rattle.number_folds.specs.Folds.{half, plus}
use Rattle.number_folds.specs.laws.Each.{Each, each_take}
use Rattle.number_folds.proofs.laws.Bounds.{sum-at-most, with-factor-at-most, survival-at-most, years-at-most}
use Rattle.number_folds.specs.code.Code.{AtMost}
use Rattle.model_force.specs.Force.{death_of}
use Rattle.quote_couple_kinds.specs.declared.Status.{Status}
use Rattle.quote_couple_kinds.specs.declared.Status.TheVariants.{JointLife, LastSurvivor}
use Rattle.quote_couple_kinds.specs.declared.CoupleKind.{CoupleKind}
use Rattle.quote_couple_kinds.specs.declared.CoupleKind.TheVariants as kind
use Rattle.quote_two_lives.specs.TwoLives.{status_chance, status_over, statuses_over, status_expectancy_over, couple_over}

module _ (g : Grid) where
  pub death-at-most : (e : Ends) → AtMost g.unit (death_of g e)
  unfolding death_of
  death-at-most e = record { lower = omega arith; upper = omega arith }

  pub status-at-most : (status : Status) {s s' : Ends} → AtMost g.unit s → AtMost g.unit s'
      → AtMost g.unit (status_chance status g s s')
  unfolding status_chance
  status-at-most JointLife h h' = with-factor-at-most g g.positive h h'
  status-at-most LastSurvivor h h' = death-at-most _

  module _ (status : Status) {ps ps' : List Ends} where
    over-at-most : Each (AtMost g.unit) ps → Each (AtMost g.unit) ps' → AtMost g.unit (status_over status g ps ps')
    unfolding status_over
    over-at-most h h' = status-at-most status (survival-at-most g g.positive h) (survival-at-most g g.positive h')

  pub expectancy-at-most : (status : Status) {ps ps' : List Ends} → Each (AtMost g.unit) ps → Each (AtMost g.unit) ps'
      → AtMost (g.unit / 2 + length ps * g.unit) (status_expectancy_over status g ps ps')
  unfolding status_expectancy_over half plus
  expectancy-at-most status {ps} {ps'} h h' =
      let a = sum-at-most g.unit (statuses_over status g ps ps') (length ps)
      (λ k l. over-at-most status (each_take (suc k) h) (each_take (suc k) h')) in
      record { lower = omega (arith, a.lower); upper = omega (arith, a.upper) }

  -- a chance, as such a sum of at most m of them, is at most m + 1
  chance : (m : ℕ) {e : Ends} → AtMost g.unit e → AtMost (suc m * g.unit) e
  chance m h = record { lower = omega (arith, h.lower); upper = omega (arith, h.upper) }

  pub couple-at-most : (k : CoupleKind) {ps ps' : List Ends} (m : ℕ) → length ps ≤ m → Each (AtMost g.unit) ps
      → Each (AtMost g.unit) ps' → AtMost (suc m * g.unit) (couple_over k g ps ps')
  unfolding couple_over
  couple-at-most kind.JointLife m l h h' = chance m (over-at-most JointLife h h')
  couple-at-most kind.LastSurvivor m l h h' = chance m (over-at-most LastSurvivor h h')
  couple-at-most kind.JointExpectancy m l h h' = years-at-most g g.positive m l (expectancy-at-most JointLife h h')
  couple-at-most kind.LastExpectancy m l h h' = years-at-most g g.positive m l (expectancy-at-most LastSurvivor h h')
