-- The ends of H as the loop fills them in, and what it has at the end.
use mathlib.Core.Path.{◌≡◌, refl, sym, ◌∙◌}
use mathlib.Core.Bool.{false, and-false}
use mathlib.Core.List.{List}
use mathlib.Core.Logic.{⊎_elim}
use Prim.Native.Nat.{ℕ, zero, suc, ◌+◌, ◌≤◌, ◌<◌}
use native.Mathlib.Nat.{eq-or-lt_of_le, le_of_suc-le-suc}
use native.Mathlib.Numerals.{add-one}
use native.Mathlib.Omega.{arith}
use lib.Dec.{T, lit≤}
use lib.ListN.{length, take, set, length-set}
use lib.Seq.{take-suc-set, take_all}
use lib.Ieee.Bits.{is_true}
use mir.Facts.{yes_and}
use Rattle.number_whole.proofs.laws.Bound.{under-weaken}
use Rattle.number_whole.specs.Listed.{listed}
use Rattle.number_whole.proofs.laws.Table.{listed_more}
use Rattle.number_exponential.specs.Grid.{Grid}
use Rattle.number_exponential.specs.declared.GridUnit.{GridUnit}
use Rattle.number_exponential.specs.Units.{grid_of}
use Rattle.number_exponential.specs.Exponential.{exp_between}
use Rattle.set_params.specs.declared.Params.{Params}
use Rattle.set_limits.specs.InLimits.{in_limits}
use Rattle.set_params.specs.Limits.{last_years}
use Rattle.number_whole.specs.declared.SignedEnds.{SignedEnds}
use Rattle.number_whole.specs.code.Sizes.{Within}
use Rattle.model_log_force.specs.LogForce.{log_force, in_range}
use Rattle.model_log_force.proofs.laws.RangeLaws.{log_force-negated}
use Rattle.model_log_force.specs.code.Within.{log_force_width, Negated}
use Rattle.model_logarithm.specs.Logarithm.{inverse_logistic}
use Rattle.model_closure.specs.Weights.{first_fitted, fitted}
use Rattle.model_closure.specs.code.Code.{end_limit}
use Rattle.model_force.specs.Force.{negated}
use Rattle.model_mortality.specs.Cell.{young_force, fitted_ends, fitted_list, fitted_in_range}
use Rattle.model_mortality.proofs.laws.Needed.{fitted-range}
use Rattle.model_mortality.proofs.laws.Holds.{fitted-at}
use Rattle.std.specs.Prelude.{Some, None}
use Rattle.model_cells.specs.code.Fitted.{FittedOf}
use Rattle.model_force.proofs.Ends.{under-lower, under-upper, exp-small, log-lower-small, log-upper-small, end-under}

-- the first i cells are in range, and the first i ends are those of H
pub record FittedTo (g : Grid) (p : Params) (n : ℕ) (es : List SignedEnds) (i : ℕ) : Type 0 where
  pub count : i ≤ fitted
  pub range : T (fitted_in_range g p n i)
  pub ends : take i es ≡ listed (fitted_ends g p n) first_fitted i
  pub size : length es ≡ fitted

pub fitted_none : (g : Grid) (p : Params) (n : ℕ) {es : List SignedEnds} → length es ≡ fitted → FittedTo g p n es 0
unfolding fitted_in_range listed
fitted_none g p n h = record { count = lit≤ tt; range = tt; ends = refl; size = h }

-- one end more
list-more : (g : Grid) (p : Params) (n i : ℕ) (es : List SignedEnds) (e : SignedEnds) → i < length es
    → take i es ≡ listed (fitted_ends g p n) first_fitted i → e ≡ fitted_ends g p n (first_fitted + i)
    → take (suc i) (set es i e) ≡ listed (fitted_ends g p n) first_fitted (suc i)
list-more g p n i es e l h k =
    rw (listed_more (fitted_ends g p n) first_fitted i, take-suc-set es i e l, h, k)

pub fitted-more : {g : Grid} {p : Params} {n i : ℕ} {es : List SignedEnds} {e : SignedEnds} → FittedTo g p n es i → i < fitted
    → T (in_range g (log_force g p (first_fitted + i) n)) → e ≡ fitted_ends g p n (first_fitted + i)
    → FittedTo g p n (set es i e) (i + 1)
unfolding fitted_in_range
fitted-more {g} {p} {n} {i} {es} {e} f l t k =
    rw (add-one i)
    (record {
      count = l;
      range = yes_and (fitted_in_range g p n i) (in_range g (log_force g p (first_fitted + i) n)) f.range t;
      ends = list-more g p n i es e (omega (arith, f.size)) f.ends k;
      size = length-set es i e ∙ f.size;
    })

-- one cell out of range decides
range-out : (g : Grid) (p : Params) (n i k : ℕ) → i < k → in_range g (log_force g p (first_fitted + i) n) ≡ false → fitted_in_range g p n k ≡ false
unfolding fitted_in_range
range-out g p n i zero h e = absurd (omega arith)
range-out g p n i (suc k) h e =
    ⊎_elim (λ q. rw (← q, e) (and-false (fitted_in_range g p n i))) (λ l. rw (range-out g p n i k l e))
    (eq-or-lt_of_le (le_of_suc-le-suc h))

pub fitted-out : (g : Grid) (p : Params) (n i : ℕ) → i < fitted → in_range g (log_force g p (first_fitted + i) n) ≡ false
    → FittedOf g p n None
fitted-out g p n i h e = record { ok = sym (range-out g p n i fitted h e); ends = tt; limit = tt }

-- the ends of H are within their limit
fitted-within : (u : GridUnit) (p : Params) (n y : ℕ) → Negated (grid_of u) (log_force (grid_of u) p y n) log_force_width
    → Within end_limit (fitted_ends (grid_of u) p n y)
unfolding fitted_ends inverse_logistic young_force
fitted-within u p n y r =
    let z = negated (log_force (grid_of u) p y n) in
    let e = exp_between (grid_of u) z in
    let s = exp-small u z {e = e} refl in
    record {
      low = under-weaken (end-under (under-lower u r) (log-lower-small u e.lower s.0)) (lit≤ tt);
      high = under-weaken (end-under (under-upper u r) (log-upper-small u e.upper s.1)) (lit≤ tt);
    }

pub fitted-all : (u : GridUnit) (p : Params) (n : ℕ) (es : List SignedEnds) → T (in_limits p) → n ≤ last_years
    → FittedTo (grid_of u) p n es fitted → FittedOf (grid_of u) p n (Some es)
unfolding fitted_list
fitted-all u p n es t l h =
    let g = grid_of u in
    let e : es ≡ fitted_list g p n = sym (take_all fitted es (omega (arith, h.size))) ∙ h.ends in
    record {
      ok = sym (is_true (fitted_in_range g p n fitted) h.range);
      ends = e;
      limit = λ i j. rw (e, fitted-at g p n i j) (fitted-within u p n (first_fitted + i)
          (log_force-negated g p t (omega arith) l (fitted-range g p n fitted i j h.range)));
    }
