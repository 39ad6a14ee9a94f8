-- The value of a path: its factors are chances for which there is room, its ends fit, and the quote has them.
use Rattle.std.specs.Prelude.{Ok, Err}
use mathlib.Core.Path.{◌≡◌, refl, ap, sym, ◌∙◌}
use mathlib.Core.Bool.{Bool, true, false, cond}
use mathlib.Core.List.{List, [], ◌∷◌, ◌++◌}
use mathlib.Core.Logic.{inl, inr}
use Prim.Native.Nat.{ℕ, suc, ◌*◌, ◌^◌, ◌≤◌, ◌<◌}
use native.Mathlib.Nat.{add-zero, eq-zero-or-pos}
use native.Mathlib.Numerals.{add-one}
use native.Mathlib.Omega.{arith}
use lib.Dec.{eqb, lit<, lit≤}
use lib.ListN.{length, take, length-append, length-take}
use borrow.Author.Tests.{ne_eqb}
use Rattle.number_fraction.specs.Ratio.{Ratio}
use Rattle.number_exponential.specs.declared.Ends.{Ends}
use Rattle.number_exponential.specs.Grid.{Grid}
use Rattle.number_exponential.specs.declared.GridUnit.{GridUnit}
use Rattle.number_exponential.specs.declared.GridUnit.TheVariants.{Coarse, Fine}
use Rattle.number_exponential.specs.Units.{grid_of}
use Rattle.number_exponential.proofs.laws.GridFacts.{unit-sound, unit-most}
use Rattle.set_params.specs.declared.Params.{Params}
use Rattle.number_exact.specs.declared.Figure.{Figure}
use Rattle.number_exact.specs.Figure.{figure_of}
use Rattle.number_folds.specs.code.Code.{most_factors, Chances}
use Rattle.quote_paths.specs.Path.{Place, part_year, factors}
use Rattle.quote_paths.specs.Values.{grid_value}
use Rattle.quote_paths.proofs.laws.Answers.{path-length, factors-length}
use Rattle.quote_paths.proofs.laws.Width.{factors-chances, value-small}
use Rattle.quote_paths.specs.declared.Path.{Path}
use Rattle.quote_paths.specs.declared.Part.{Part}
use Rattle.quote_paths.specs.code.Code.{IsPart}
use Rattle.quote_walks.specs.code.Code.{PathWithin, path_is}
use Rattle.quote_factors.specs.code.Code.{all_places, PartWithin}
use Rattle.quote_along.specs.QuoteBy.{Answer, quote_on}
use Rattle.quote_along.specs.code.Code.{in_range_or, count_with}
use Rattle.quote_along.specs.declared.Quote.{Quote}
use Rattle.set_refusal.specs.declared.Refusal.TheVariants.{LogForceOutOfRange}
use Rattle.quote_paths.specs.declared.Fold.{Fold}
use Rattle.quote_paths.specs.declared.Fold.TheVariants.{Death, Survival, Expectancy, Annuity}
use Rattle.quote_kinds.specs.Kinds.{step_of}

-- as many cells as are counted
pub places_count : (w : Path) (part : Ratio) → length (all_places w part) ≡ count_with w.count part.num
unfolding part_year count_with
places_count w part = go (eqb part.num 0) _
  where
    go : (b : Bool) (c : Place) → length (path_is w ++ cond b [] (c ∷ [])) ≡ cond b w.count (suc w.count)
    go true c = length-append (path_is w) [] ∙ add-zero _ ∙ path-length w.cohort w.age w.year w.count
    go false c =
        length-append (path_is w) (c ∷ []) ∙ add-one _ ∙ ap suc (path-length w.cohort w.age w.year w.count)

-- for which there is room
pub places-room : {p : Params} {w : Path} {r : Part} {part : Ratio} → PathWithin p w → PartWithin w r → IsPart r part
    → length (all_places w part) ≤ most_factors
unfolding count_with
places-room {w = w} {r} {part} h k i =
    rw (places_count w part, ← i.days)
    (elim (eq-zero-or-pos r.days) [
      | inl z ↦ rw z h.room
      | inr z ↦ let some : r.days ≡ 0 → ⊥ = λ e. omega arith in rw (ne_eqb r.days 0 some) (k.room some)
    ])

-- their factors stand in a list
pub places-there : (g : Grid) (p : Params) (path : List Place) (es : List Ends) {k : ℕ} → length path ≡ k
    → take (length path) es ≡ factors g p path → k ≤ length es
places-there g p path es e f =
    let l = sym (length-take (length path) es) ∙ ap length f ∙ factors-length g p path in omega (arith, e, l)

-- the factors are chances
pub places-chances : (u : GridUnit) (p : Params) (path : List Place) (es : List Ends) {k : ℕ} → length path ≡ k → length path ≤ most_factors
    → take (length path) es ≡ factors (grid_of u) p path → Chances (grid_of u) (take k es)
places-chances u p path es {k} e l f =
    record { room = omega (arith, e, length-take k es); each = rw (← e, f) (factors-chances (grid_of u) (unit-sound u) p path) }

pub path-chances : (u : GridUnit) {p : Params} {w : Path} (es : List Ends) → PathWithin p w
    → take w.count es ≡ factors (grid_of u) p (path_is w) → Chances (grid_of u) (take w.count es)
path-chances u {p} {w} es h e =
    let l = path-length w.cohort w.age w.year w.count in places-chances u p (path_is w) es l (rw l h.room) (rw l e)

-- a path that is not in range is refused
pub out-of-range : {b : Bool} (q : Quote) → false ≡ b → Err LogForceOutOfRange ≡ in_range_or b q
unfolding in_range_or
out-of-range q e = rw (← e) refl

-- and the ends fit
pub value-fits : (u : GridUnit) (p : Params) (path : List Place) (fold : Fold) → length path ≤ most_factors
    → let e = grid_value fold (grid_of u) p path in (e.lower < 2 ^ 62) × (e.upper < 2 ^ 62)
value-fits u p path fold l =
    let v = value-small (grid_of u) (unit-sound u) p path l fold in
    (omega (arith, v.lower, unit-most u), omega (arith, v.upper, unit-most u))

-- a step fits
step_small : (f : Fold) → (0 < step_of f) × (step_of f ≤ 100000000)
unfolding step_of
step_small Death = (lit< tt, lit≤ tt)
step_small Survival = (lit< tt, lit≤ tt)
step_small Expectancy = (lit< tt, lit≤ tt)
step_small (Annuity rate) = (lit< tt, lit≤ tt)

pub step_fits : (u : GridUnit) (f : Fold) → (0 < step_of f * (grid_of u).scale) × (step_of f * (grid_of u).scale ≤ 2 ^ 40)
unfolding grid_of
step_fits Coarse f = let s = step_small f in (omega arith, omega arith)
step_fits Fine f = let s = step_small f in (omega arith, omega arith)

-- a quote of ends that are e, with their figure
pub quoted : (s : ℕ) {v u : GridUnit} {r e : Ends} {f : Figure} → v ≡ u → r ≡ e → f ≡ figure_of (s * (grid_of u).scale) r
    → ◌≡◌ {A = Answer} (Ok (record { unit = v; lower = r.lower; upper = r.upper; figure = f })) (Ok (quote_on s u e))
quoted s d e g = rw (g, d, ← e)
