-- The factors of a path with a part of a year after it.
use mathlib.Core.Path.{◌≡◌, refl, ap, sym, ◌∙◌}
use mathlib.Core.Bool.{Bool, false, ◌&&◌, and-true, and-false}
use mathlib.Core.List.{List, [], ◌∷◌, ◌++◌, append-nil}
use Prim.Native.Nat.{suc, ◌+◌, ◌<◌}
use native.Mathlib.Numerals.{add-one}
use lib.Ieee.Bits.{is_true}
use lib.ListN.{length, set, length-append}
use lib.Seq.{take-suc-set}
use borrow.Author.Tests.{ne_eqb}
use Rattle.number_fraction.specs.Ratio.{Ratio}
use Rattle.number_exponential.specs.declared.Ends.{Ends}
use Rattle.number_exponential.specs.Grid.{Grid}
use Rattle.set_params.specs.declared.Params.{Params}
use Rattle.model_mortality.specs.Cell.{force_over, survival, needed_in_range}
use Rattle.std.specs.Prelude.{Some, None}
use Rattle.model_cells.specs.laws.Answers.{cell-there, cell-gone}
use Rattle.model_part_year.specs.code.Code.{part_cell}
use Rattle.quote_paths.specs.Path.{Place, part_year, factors, path_in_range}
use Rattle.quote_paths.proofs.laws.Answers.{path-length, in-range-append, factors-append}
use Rattle.quote_paths.specs.declared.Path.{Path}
use Rattle.quote_paths.specs.declared.Part.{Part}
use Rattle.quote_paths.specs.code.Code.{IsPart}
use Rattle.quote_walks.specs.code.Code.{path_is}
use Rattle.quote_factors.specs.code.Code.{FactorsOf, all_places, AllFactorsOf}

module _ (g : Grid) (p : Params) (w : Path) (r : Part) where
  count-is : length (path_is w) ≡ w.count
  count-is = path-length w.cohort w.age w.year w.count

  -- ---- a cell of the path out of range

  pub path-out : path_in_range g p (path_is w) ≡ false → AllFactorsOf g p w r None
  path-out e part h =
      let q = in-range-append g p (path_is w) (part_year (w.age + w.count) (w.year + w.count) part) in
      record { ok = sym (q ∙ ap (λ (b : Bool). b && path_in_range g p (part_year (w.age + w.count) (w.year + w.count) part)) e); ends = tt }

  -- ---- no days

  none : (part : Ratio) → part.num ≡ 0 → all_places w part ≡ path_is w
  unfolding part_year
  none part e = rw e (append-nil (path_is w))

  pub no_part : {es : List Ends} → r.days ≡ 0 → FactorsOf g p w (Some es)
      → AllFactorsOf g p w r (Some es)
  no_part z f part h =
      let e = none part (sym h.days ∙ z) in
      record { ok = f.ok ∙ ap (path_in_range g p) (sym e); ends = rw (e, count-is) f.ends }

  -- ---- some days

  module _ (some : r.days ≡ 0 → ⊥) where
    -- the cell of the part
    abbrev last : Ratio → Place
    last part = record { age = w.age + w.count; year = w.year + w.count; part = part }

    one : (part : Ratio) → IsPart r part → all_places w part ≡ path_is w ++ (last part ∷ [])
    unfolding part_year
    one part h = rw (ne_eqb part.num 0 (λ z. some (h.days ∙ z)))

    abbrev needed : Bool
    needed = needed_in_range g p (w.age + w.count) (w.year + w.count)

    range : (part : Ratio) → IsPart r part → path_in_range g p (all_places w part) ≡ (path_in_range g p (path_is w) && needed)
    unfolding path_in_range
    range part h =
        ap (path_in_range g p) (one part h) ∙ in-range-append g p (path_is w) (last part ∷ [])
        ∙ ap (λ (b : Bool). path_in_range g p (path_is w) && b) (and-true needed)

    pub part_out : part_cell g p (w.age + w.count) (w.year + w.count) r.days r.whole ≡ None
        → AllFactorsOf g p w r None
    part_out q part h =
        let e = cell-gone needed _ q in
        record {
          ok = sym (range part h ∙ ap (λ (b : Bool). path_in_range g p (path_is w) && b) e ∙ and-false (path_in_range g p (path_is w)));
          ends = tt;
        }

    -- its factor
    factor : (part : Ratio) → IsPart r part → {e : Ends}
        → part_cell g p (w.age + w.count) (w.year + w.count) r.days r.whole ≡ Some e
        → e ≡ survival g p (w.age + w.count) (w.year + w.count) part
    unfolding survival force_over
    factor part h q = rw (← h.days, ← h.whole) (cell-there needed _ q).1

    pub with_part : {es : List Ends} {e : Ends} → w.count < length es → FactorsOf g p w (Some es)
        → part_cell g p (w.age + w.count) (w.year + w.count) r.days r.whole ≡ Some e
        → AllFactorsOf g p w r (Some (set es w.count e))
    unfolding factors
    with_part {es} {e} l f q part h =
        let t = is_true needed (cell-there needed _ q).0 in
        let k : length (path_is w ++ (last part ∷ [])) ≡ suc w.count = length-append (path_is w) (last part ∷ []) ∙ rw count-is (add-one w.count) in
        record {
          ok = sym (range part h ∙ rw (t, ← f.ok) refl);
          ends = rw (one part h, k, take-suc-set es w.count e l, f.ends, factors-append g p (path_is w) (last part ∷ []), factor part h q) refl;
        }
