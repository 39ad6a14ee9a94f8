-- One step along a path: the factor that is put, the cell that is out of range, and the year of the next cell.
use mathlib.Core.Path.{◌≡◌, refl, ap, sym, ◌∙◌}
use mathlib.Core.Bool.{Bool, true, false, cond, ◌&&◌, false≢true}
use mathlib.Core.List.{List, [], ◌∷◌, ◌++◌}
use Prim.Native.Nat.{ℕ, suc, ◌+◌, ◌≤◌, ◌<◌}
use native.Mathlib.Numerals.{add-one}
use native.Mathlib.Omega.{arith}
use lib.Dec.{T, ltb, ltb→lt}
use lib.Ieee.Bits.{is_true}
use borrow.Author.Tests.{lt-ltb}
use lib.ListN.{length, take, get_or, set, length-set}
use lib.Seq.{take-suc, take-suc-set, length-take-le, get_or_at}
use mir.Facts.{and_yes, yes_and}
use Rattle.number_whole.specs.Listed.{listed}
use Rattle.number_exponential.specs.declared.Ends.{Ends}
use Rattle.number_exponential.specs.Grid.{Grid}
use Rattle.set_params.specs.declared.Params.{Params}
use Rattle.set_params.specs.Set.{dynamics_of}
use Rattle.set_params.specs.Limits.{last_years}
use Rattle.std.specs.Prelude.{Option, Some, None}
use Rattle.model_log_force.specs.declared.Year.{Year}
use Rattle.model_mortality.specs.Cell.{whole_year, survival, needed_in_range}
use Rattle.model_log_force.specs.code.Year.{YearWithin}
use Rattle.model_cells.specs.code.Code.{cell_of}
use Rattle.model_cells.specs.laws.Answers.{cell-there, cell-gone}
use Rattle.model_log_force.proofs.laws.YearLaws.{year-within, year-next}
use Rattle.number_folds.specs.code.Code.{most_factors}
use Rattle.quote_paths.specs.Path.{place_at, path_of, factors, path_in_range}
use Rattle.quote_paths.proofs.laws.Answers.{path-length, factors-length, path-more, factors-append, in-range-more, range-out}
use Rattle.quote_paths.specs.declared.Path.{Path}
use Rattle.quote_walks.specs.code.Code.{place_of, path_to, path_is, PathWithin, Advanced, Worked, YearAt}

-- ---- the cell at a place

-- the answer at the cell at s
abbrev pub cell_at : Grid → Params → Path → ℕ → Option Ends
cell_at g p w s = cell_of g p (place_of w s).age (place_of w s).year

cell_in : (g : Grid) (p : Params) (x n : ℕ) {e : Ends} → cell_of g p x n ≡ Some e
    → T (needed_in_range g p x n) × (e ≡ survival g p x n whole_year)
cell_in g p x n q = cell-there (needed_in_range g p x n) (survival g p x n whole_year) q

cell_out : (g : Grid) (p : Params) (x n : ℕ) → cell_of g p x n ≡ None → needed_in_range g p x n ≡ false
cell_out g p x n q = cell-gone (needed_in_range g p x n) (survival g p x n whole_year) q

-- ---- the factors

pub worked-none : (g : Grid) (p : Params) (w : Path) {es : List Ends} → length es ≡ most_factors → Worked g p w es 0
unfolding listed path_of path_in_range factors
worked-none g p w h = record { some = omega arith; range = tt; ends = refl; size = h }

factors-more : (g : Grid) (p : Params) (w : Path) (s : ℕ)
    → factors g p (path_to w (suc s))
    ≡ factors g p (path_to w s) ++ (survival g p (place_of w s).age (place_of w s).year whole_year ∷ [])
unfolding factors place_at
factors-more g p w s =
    ap (factors g p) (path-more w.cohort w.age w.year s)
    ∙ factors-append g p (path_to w s) (place_of w s ∷ [])

pub worked-more : {g : Grid} {p : Params} {w : Path} {es : List Ends} {s : ℕ} {e : Ends} → Worked g p w es s
    → w.count ≤ most_factors → s < w.count → cell_at g p w s ≡ Some e → Worked g p w (set es s e) (s + 1)
worked-more {g} {p} {w} {es} {s} {e} h m l q =
    let r = cell_in g p (place_of w s).age (place_of w s).year q in
    rw (add-one s)
    (record {
      some = l;
      range =
          rw (in-range-more g p w.cohort w.age w.year s)
          (yes_and (path_in_range g p (path_to w s)) (needed_in_range g p (place_of w s).age (place_of w s).year) h.range r.0);
      ends = rw (factors-more g p w s, take-suc-set es s e (omega (arith, h.size)), h.ends, r.1);
      size = length-set es s e ∙ h.size;
    })

-- the last factor that was put
pub worked-last : {g : Grid} {p : Params} {w : Path} {es : List Ends} {s : ℕ} (d : Ends) → Worked g p w es (suc s)
    → w.count ≤ most_factors → get_or es s d ≡ survival g p (place_of w s).age (place_of w s).year whole_year
worked-last {g} {p} {w} {es} {s} d h m =
    let l : s < length es = omega (arith, h.some, h.size) in
    let e : take s es ++ (get_or es s d ∷ [])
    ≡ factors g p (path_to w s) ++ (survival g p (place_of w s).age (place_of w s).year whole_year ∷ []) =
    sym (take-suc es s d l) ∙ h.ends ∙ factors-more g p w s in
    sym (get_or_at (take s es) (get_or es s d) [] d s (length-take-le s es (omega arith)))
    ∙ ap (λ (l : List Ends). get_or l s d) e
    ∙ get_or_at (factors g p (path_to w s)) _ [] d s
    (factors-length g p (path_to w s) ∙ path-length w.cohort w.age w.year s)

pub worked-out : (g : Grid) (p : Params) (w : Path) {s : ℕ} → s < w.count → cell_at g p w s ≡ None → path_in_range g p (path_is w) ≡ false
worked-out g p w {s} l q =
    range-out g p w.cohort w.age w.year s w.count l (cell_out g p (place_of w s).age (place_of w s).year q)

-- ---- the year of the next cell

-- the next year where the path goes on along the cohort: it is in the table
next_place : (w : Path) (s : ℕ) → w.cohort ≡ true → (place_of w (suc s)).year ≡ suc (place_of w s).year
unfolding place_at
next_place w s c = rw c (omega arith)

same_place : (w : Path) (s : ℕ) → w.cohort ≡ false → (place_of w (suc s)).year ≡ (place_of w s).year
unfolding place_at
same_place w s c = rw c refl

-- the first cell's year
pub first-year : (c : Bool) (n : ℕ) → n ≡ cond c (n + 0) n
first-year true n = omega arith
first-year false n = refl

module _ {g : Grid} {p : Params} {w : Path} {y : Year} {s : ℕ} (k : PathWithin p w) (h : YearAt g p w s y) (l : s < w.count) where
  goes : {on : Bool} → on ≡ (w.cohort && ltb (s + 1) w.count) → T on → (w.cohort ≡ true) × (suc s < w.count)
  goes e t =
      let b = and_yes w.cohort (ltb (s + 1) w.count) (rw e at t) in
      (is_true w.cohort b.0, omega (arith, ltb→lt (s + 1) w.count b.1))

  room : (w.cohort ≡ true) × (suc s < w.count) → y.number < last_years
  room g = omega (arith, h.place l, next_place w s g.0, k.years (suc s) g.1)

  pub year-may : {on : Bool} → on ≡ (w.cohort && ltb (s + 1) w.count) → T on → YearWithin g (dynamics_of p) y
  year-may e t = year-within h.year (room (goes e t))

  -- where it stays in its year
  stays : (c : Bool) → w.cohort ≡ c → false ≡ (c && ltb (s + 1) w.count) → suc s < w.count → y.number ≡ (place_of w (suc s)).year
  stays true q e m = absurd (false≢true (e ∙ lt-ltb (s + 1) w.count (omega arith)))
  stays false q e m = h.place l ∙ sym (same_place w s q)

  pub year-step : (on : Bool) {r : Year} → on ≡ (w.cohort && ltb (s + 1) w.count) → Advanced g (dynamics_of p) y on r
      → YearAt g p w (s + 1) r
  year-step true e a =
      let g = goes e tt in
      let n = a.next tt in
      rw (add-one s)
      (record {
        year = year-next h.year (room g) n;
        place = λ m. n.number ∙ ap suc (h.place l) ∙ sym (next_place w s g.0);
      })
  year-step false e a =
      rw (add-one s, a.same tt) (record { year = h.year; place = λ m. stays w.cohort refl e m })
