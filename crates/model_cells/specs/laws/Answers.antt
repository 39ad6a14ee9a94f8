-- The answer at a cell, as the code gives it from an age's log force, or from a row of weights and the ends of H.
use Rattle.std.specs.Prelude.{◌≡◌, refl, Bool, true, false, List, ℕ, ◌≤◌, ◌<◌, T, Option, Some, None}
use Rattle.std.proofs.Common.{ap, sym, ◌∙◌, lt-ltb, le-ltb}
use Rattle.number_whole.proofs.laws.Clash.{clash}
use Rattle.number_whole.specs.declared.SignedEnds.{SignedEnds}
use Rattle.number_exponential.specs.declared.Ends.{Ends}
use Rattle.number_exponential.specs.Exponential.{exp_between}
use Rattle.number_exponential.specs.Grid.{Grid}
use Rattle.set_params.specs.declared.Params.{Params}
use Rattle.model_log_force.specs.LogForce.{log_force}
use Rattle.model_closure.specs.Weights.{first_closed}
use Rattle.model_closure.specs.code.Table.{weight_row}
use Rattle.model_closure.proofs.examples.Rows.{row-mean}
use Rattle.model_mortality.specs.Cell.{young_force, old_force, force, survival, needed_in_range}
use Rattle.model_mortality.proofs.laws.Whole.{force-whole}
use Rattle.model_cells.specs.code.Fitted.{FittedOf}
use Rattle.model_cells.specs.code.Code.{cell_if, young_force_cell, old_force_cell, force_cell, lived_cell, young_cell, old_cell, cell_of}

-- ---- a cell that is there, and one that is not

pub cell-there : (b : Bool) (f : Ends) {e : Ends} → cell_if b f ≡ Some e → T b × (e ≡ f)
unfolding cell_if
cell-there true f q = (tt, cc)
cell-there false f q = clash cc

pub cell-gone : (b : Bool) (f : Ends) → cell_if b f ≡ None → b ≡ false
unfolding cell_if
cell-gone true f q = clash cc
cell-gone false f q = refl

pub some-cell : {b : Bool} {e f : Ends} → b ≡ true → e ≡ f → Some e ≡ cell_if b f
unfolding cell_if
some-cell t q = rw (t, q) refl

pub none-cell : {b : Bool} (f : Ends) → b ≡ false → None ≡ cell_if b f
unfolding cell_if
none-cell f t = rw t refl

-- ---- the force

pub young-force : (g : Grid) (p : Params) {x : ℕ} (n : ℕ) → x < first_closed → young_force_cell g (log_force g p x n) ≡ force_cell g p x n
unfolding needed_in_range force young_force
young-force g p {x} n l = rw (lt-ltb x first_closed l)

by-range : (b : Bool) (d e : Ends) → (T b → d ≡ e) → cell_if b d ≡ cell_if b e
unfolding cell_if
by-range true d e h = ap Some (h tt)
by-range false d e h = refl

pub old-force : {g : Grid} {p : Params} {x n : ℕ} {f : Option (List SignedEnds)} → FittedOf g p n f → first_closed ≤ x → old_force_cell g (weight_row x) f ≡ force_cell g p x n
unfolding cell_if needed_in_range force old_force
old-force {x} {f = None} h l = rw (le-ltb x first_closed l, ← h.ok)
old-force {x} {f = Some es} h l = rw (le-ltb x first_closed l, ← h.ok, row-mean x es, h.ends)

-- ---- p

pub lived-if : (g : Grid) (b : Bool) (f : Ends) → lived_cell g (cell_if b f) ≡ cell_if b (exp_between g f)
unfolding cell_if
lived-if g true f = refl
lived-if g false f = refl

lived : (g : Grid) (b c : Bool) (d e : Ends) → cell_if b d ≡ cell_if c e → cell_if b (exp_between g d) ≡ cell_if c (exp_between g e)
lived g b c d e q = sym (lived-if g b d) ∙ ap (lived_cell g) q ∙ lived-if g c e

of-cell : (g : Grid) (p : Params) (x n : ℕ) → cell_if (needed_in_range g p x n) (exp_between g (force g p x n)) ≡ cell_of g p x n
unfolding survival
of-cell g p x n = rw (force-whole (force g p x n))

pub young-cell : (g : Grid) (p : Params) {x : ℕ} (n : ℕ) → x < first_closed → young_cell g (log_force g p x n) ≡ cell_of g p x n
young-cell g p {x} n l = lived g _ _ _ _ (young-force g p n l) ∙ of-cell g p x n

pub old-cell : {g : Grid} {p : Params} {x n : ℕ} {f : Option (List SignedEnds)} → FittedOf g p n f → first_closed ≤ x → old_cell g (weight_row x) f ≡ cell_of g p x n
old-cell {g} {p} {x} {n} h l = ap (lived_cell g) (old-force h l) ∙ lived-if g _ _ ∙ of-cell g p x n
