-- What an answered cell's needed cells have: the ends of −m.
use Rattle.std.specs.Prelude.{◌≡◌, Bool, true, false, cond, ℕ, zero, suc, ◌+◌, ◌≤◌, ◌<◌, T, ltb}
use Rattle.std.proofs.Common.{not-suc-le-zero, arith, lt-ltb, le-ltb}
use Rattle.std.proofs.Math.Decide.{dec_lt}
use Rattle.std.specs.Float.Ieee.Bits.{is_true}
use Rattle.std.proofs.Math.Facts.{and_yes}
use Rattle.number_exponential.specs.Grid.{Grid}
use Rattle.number_exponential.specs.Units.{billionths}
use Rattle.set_params.specs.declared.Params.{Params}
use Rattle.model_log_force.specs.LogForce.{log_force, in_range}
use Rattle.model_log_force.specs.code.Within.{log_force_width, Negated}
use Rattle.model_log_force.proofs.laws.RangeLaws.{log_force-negated}
use Rattle.model_log_force.proofs.laws.Finer.{log_force-nested, in-range-finer}
use Rattle.model_closure.specs.Weights.{fitted, first_fitted, first_closed}
use Rattle.model_mortality.specs.Cell.{fitted_in_range, needed_in_range}
use Rattle.model_mortality.proofs.laws.Answered.{Answered}

pub fitted-range : (g : Grid) (p : Params) (n k i : ℕ) → i < k → T (fitted_in_range g p n k) → T (in_range g (log_force g p (first_fitted + i) n))
unfolding fitted_in_range
fitted-range g p n zero i h t = absurd (not-suc-le-zero h)
fitted-range g p n (suc k) i h t =
    let b = and_yes (fitted_in_range g p n k) (in_range g (log_force g p (first_fitted + k) n)) t in
    step (dec_lt i k) (λ l. fitted-range g p n k i l b.0) b.1
  where
    step : Dec (i < k) → (i < k → T (in_range g (log_force g p (first_fitted + i) n))) → T (in_range g (log_force g p (first_fitted + k) n))
        → T (in_range g (log_force g p (first_fitted + i) n))
    step (yes l) ih last = ih l
    step (no l) ih last = let e : k ≡ i = omega arith in rw e at last

-- a cell in range is so on every grid
finer : (g : Grid) (p : Params) (x n : ℕ) → T (in_range billionths (log_force billionths p x n)) → T (in_range g (log_force g p x n))
finer g p x n t = in-range-finer g (log_force-nested g p x n) t

pub fitted-finer : (g : Grid) (p : Params) (n k : ℕ) → T (fitted_in_range billionths p n k) → T (fitted_in_range g p n k)
unfolding fitted_in_range
fitted-finer g p n zero t = tt
fitted-finer g p n (suc k) t =
    let b = and_yes (fitted_in_range billionths p n k) (in_range billionths (log_force billionths p (first_fitted + k) n)) t in
    rw (is_true (fitted_in_range g p n k) (fitted-finer g p n k b.0), is_true (in_range g (log_force g p (first_fitted + k) n)) (finer g p (first_fitted + k) n b.1)) tt

pub needed-finer : (g : Grid) (p : Params) (x n : ℕ) → T (needed_in_range billionths p x n) → T (needed_in_range g p x n)
unfolding needed_in_range
needed-finer g p x n t = by (ltb x first_closed) t
  where
    by : (b : Bool) → T (cond b (in_range billionths (log_force billionths p x n)) (fitted_in_range billionths p n fitted))
        → T (cond b (in_range g (log_force g p x n)) (fitted_in_range g p n fitted))
    by true h = finer g p x n h
    by false h = fitted-finer g p n fitted h

module _ (g : Grid) {p : Params} {x n : ℕ} (a : Answered p x n) where
  pub young-needed : x < first_closed → Negated g (log_force g p x n) log_force_width
  unfolding needed_in_range
  young-needed l =
      log_force-negated g p a.limits l a.year (rw (lt-ltb x first_closed l, needed_in_range) at (needed-finer g p x n a.needed))

  pub old-needed : first_closed ≤ x → (i : ℕ) → i < fitted → Negated g (log_force g p (first_fitted + i) n) log_force_width
  unfolding needed_in_range
  old-needed l i h =
      log_force-negated g p a.limits (omega arith) a.year
      (fitted-range g p n fitted i h (rw (le-ltb x first_closed l, needed_in_range) at (needed-finer g p x n a.needed)))
