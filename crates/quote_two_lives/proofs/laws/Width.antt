-- How far apart the ends of the values of two lives lie: a status's chance at most as far as those of the two survivals together
-- and 2 units, and so each value at most twice as far as a single life's may.
use Rattle.std.specs.Prelude.{◌≡◌, true, length, take}
use Rattle.std.proofs.Math.Path.{refl}
use Rattle.std.proofs.Common.{sym, ◌∙◌}
use mathlib.Core.List.{List, Forall₂}
use Prim.Native.Nat.{ℕ, zero, suc, ◌+◌, ◌*◌, ◌≤◌}
use native.Mathlib.Omega.{arith}
use Rattle.std.proofs.lemmas.List.{length-map}
use Rattle.number_fraction.proofs.laws.Places.{places-length, places-take}
use Rattle.number_exponential.specs.Grid.{Grid}
use Rattle.number_exponential.specs.declared.Ends.{Ends}
use Rattle.number_exponential.specs.Exponential.{total}
use Rattle.set_params.specs.declared.Params.{Params}
use Rattle.model_closure.specs.Weights.{last_closed}
use Rattle.number_folds.specs.Folds.{half, plus}
use Rattle.number_folds.specs.code.Code.{most_factors}
use Rattle.number_folds.proofs.laws.Width.{Chance, spread, spreads, sum-width, with-factor-chance, survival-chance}
use Rattle.model_force.specs.Force.{death_of}
use Rattle.quote_paths.specs.Path.{Place, path_of, factors}
use Rattle.quote_paths.proofs.laws.Answers.{AnsweredPath}
use Rattle.quote_paths.proofs.laws.Facts.{Facts}
use Rattle.quote_paths.proofs.laws.Width.{survival_limit, expectancy_limit, path_limits, path-chances, path-spread, path-spreads}
use Rattle.quote_couple_kinds.specs.declared.Status.{Status}
use Rattle.quote_couple_kinds.specs.declared.Status.TheVariants.{JointLife, LastSurvivor}
use Rattle.quote_two_lives.specs.TwoLives.{status_chance, status_over, statuses_over, status_expectancy_over}

module _ (g : Grid) where
  -- 1 less a chance is as wide
  death-chance : {w : ℕ} {e : Ends} → Chance g w e → Chance g w (death_of g e)
  unfolding death_of
  death-chance h =
      record { ordered = omega (arith, h.ordered); most = omega arith; width = omega (arith, h.width, h.most) }

  status-chance : (status : Status) {w w' : ℕ} {s s' : Ends} → Chance g w s → Chance g w' s'
      → Chance g (w + (w' + 2)) (status_chance status g s s')
  unfolding status_chance
  status-chance JointLife h h' = with-factor-chance g g.positive h h'
  status-chance LastSurvivor h h' =
      death-chance (with-factor-chance g g.positive (death-chance h) (death-chance h'))

  module _ (status : Status) {ws ws' : List ℕ} {es es' : List Ends} where
    over-chance : Forall₂ (Chance g) ws es → Forall₂ (Chance g) ws' es'
        → Chance g (spread ws + (spread ws' + 2)) (status_over status g es es')
    unfolding status_over
    over-chance h h' =
        status-chance status (survival-chance g g.positive h) (survival-chance g g.positive h')

  -- the sum of such widths
  totals : (f h : ℕ → ℕ) (n : ℕ) → total (λ (k : ℕ). f k + (h k + 2)) n ≡ total f n + (total h n + 2 * n)
  unfolding total
  totals f h zero = refl
  totals f h (suc n) = omega (arith, totals f h n)

  expectancy-width : (status : Status) {ws ws' : List ℕ} {es es' : List Ends} → length ws ≡ length ws'
      → Forall₂ (Chance g) ws es → Forall₂ (Chance g) ws' es'
      → (status_expectancy_over status g es es').upper
      ≤ (status_expectancy_over status g es es').lower + (spreads ws + (spreads ws' + 2 * length ws))
  unfolding status_expectancy_over plus half spreads
  expectancy-width status {ws} {ws'} {es} {es'} same h h' =
      rw (← same, places-length h)
      (omega (
        arith,
        sum-width (statuses_over status g es es')
            (λ (k : ℕ). spread (take (suc k) ws) + (spread (take (suc k) ws') + 2)) (length es)
            (λ k l. (over-chance status (places-take (suc k) h) (places-take (suc k) h')).width),
        totals (λ (k : ℕ). spread (take (suc k) ws)) (λ (k : ℕ). spread (take (suc k) ws')) (length es),
      ))

-- ---- of two lives along answered paths

module _ {g : Grid} {t : ℕ} (f : Facts g t) (status : Status) {p p' : Params} where
  pub status-limit : (x x' n n' k : ℕ) → x + k ≤ suc last_closed → x' + k ≤ suc last_closed
      → AnsweredPath p (path_of true x n k) → AnsweredPath p' (path_of true x' n' k)
      → let e = status_over status g (factors g p (path_of true x n k)) (factors g p' (path_of true x' n' k)) in
      e.upper ≤ e.lower + t * (2 * survival_limit)
  status-limit x x' n n' k l l' a a' =
      let v = f.some in
      omega (
        arith,
        (over-chance g status (path-chances f a) (path-chances f a')).width,
        path-spread t v true x n k l,
        path-spread t v true x' n' k l',
      )

  pub status-expectancy-limit : {path path' : List Place} → length path ≡ length path' → length path ≤ most_factors
      → AnsweredPath p path → AnsweredPath p' path'
      → let e = status_expectancy_over status g (factors g p path) (factors g p' path') in
      e.upper ≤ e.lower + t * (2 * expectancy_limit)
  status-expectancy-limit {path} {path'} same l a a' =
      let v = f.some in
      let n : length (path_limits t path) ≡ length path = length-map path _ in
      let n' : length (path_limits t path') ≡ length path' = length-map path' _ in
      omega (
        arith,
        expectancy-width g status (n ∙ same ∙ sym n') (path-chances f a) (path-chances f a'),
        path-spreads t v path l,
        path-spreads t v path' (rw (← same) l),
      )
