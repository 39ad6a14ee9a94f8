-- `answer_along` meets its contract: a cell out of range is refused, and else the fold over the factors has its ends.
use Rattle.std.proofs.Common.{◌≡◌, refl, ap, sym, ◌∙◌, ℕ, length, length-take, take, ◌≤◌, arith}
use Rattle.number_fraction.specs.Ratio.{Ratio}
use Rattle.number_exponential.specs.declared.Ends.{Ends}
use Rattle.number_exponential.specs.Units.{grid_of}
use Rattle.quote_paths.specs.Values.{fold_over, grid_value}
use Rattle.quote_paths.specs.code.Code.{IsPart}
use Rattle.quote_factors.specs.code.Code.{all_places}
use Rattle.quote_kinds.specs.Kinds.{step_of}
use Rattle.quote_along.specs.code.Code.{in_range_or, path_answer, count_with}
use Rattle.quote_along.proofs.Value.{places_count, places-there, places-room, places-chances, out-of-range, value-fits, step_fits, quoted}
use Rattle.quote_along.proofs.answer_along.Goals as goal
use Rattle.quote_along.proofs.answer_along.Goals.{Start, After-count_with-count}
use Rattle.quote_along.proofs.answer_along.Tie as tie
use Rattle.quote_along.proofs.answer_along.Lts as lts
use Rattle.quote_along.proofs.answer_along.Reads as reads

pub returns-in_default : goal.returns-in_default
unfolding path_answer
returns-in_default c part h = out-of-range _ (c.in_default.ensures part h).ok

-- ---- the factors are there

-- the fraction that the part is
abbrev fraction : Start → Ratio
fraction s = record { num = s.args.part.days; den = s.args.part.whole; positive = s.requires.1.days.some }

fraction-is : (s : Start) → IsPart s.args.part (fraction s)
fraction-is s = record { days = refl; whole = refl }

-- as many as are counted
count-is : (c : After-count_with-count) (part : Ratio) → IsPart c.args.part part
    → length (all_places c.args.path part) ≡ c.count_with-count.result
count-is c part h =
    places_count c.args.path part ∙ ap (count_with c.args.path.count) (sym h.days) ∙ sym c.count_with-count.ensures

there : (c : After-count_with-count) → c.count_with-count.result ≤ length c.in-Some.ends
there c =
    let s = (goal.at.slice_bounds-ends-end c).Start in
    places-there (grid_of c.args.grid) c.args.p (all_places c.args.path (fraction s)) c.in-Some.ends (count-is c (fraction s) (fraction-is s)) (c.in-Some.ensures (fraction s) (fraction-is s)).ends

pub slice_bounds-ends-end : goal.slice_bounds-ends-end
slice_bounds-ends-end c = there c

pub slice_bounds-folded-end : goal.slice_bounds-folded-end
slice_bounds-folded-end c = omega (arith, there c.before, length-take c.count_with-count.result c.in-Some.ends)

pub folded-e-requires : goal.folded-e-requires
folded-e-requires c =
    let s = (goal.at.folded-e-requires c).Start in
    let q = fraction s in
    let i = fraction-is s in (
      places-chances c.args.grid c.args.p (all_places c.args.path q) c.in-Some.ends (count-is c.before q i) (places-room c.requires.0 c.requires.1 i) (c.in-Some.ensures q i).ends,
      c.requires.2,
    )

-- the fold's ends are the path's
ends_read : (c : lts.After-folded tie.the-claims reads.Pre reads.Post) (part : Ratio) → IsPart c.args.part part
    → c.folded-e.result ≡ grid_value c.args.fold (grid_of c.args.grid) c.args.p (all_places c.args.path part)
unfolding grid_value
ends_read c part h =
    c.folded-e.ensures
    ∙ ap (fold_over c.args.fold (grid_of c.args.grid))
    (ap (λ (k : ℕ). take k c.in-Some.ends) (sym (count-is c.before.before part h)) ∙ (c.in-Some.ensures part h).ends)

pub figure_of-figure-requires : goal.figure_of-figure-requires
figure_of-figure-requires c =
    let s = (goal.at.figure_of-figure-requires c).Start in
    let i = fraction-is s in
    let v = value-fits c.args.grid c.args.p (all_places c.args.path (fraction s)) c.args.fold (places-room c.requires.0 c.requires.1 i) in
    let e = ends_read c.before (fraction s) i in
    let l = ap (λ (k : Ends). k.lower) e in
    let u = ap (λ (k : Ends). k.upper) e in
    let g = step_fits c.args.grid c.args.fold in
    let h = c.step_on.ensures in
    (omega arith, omega arith, omega arith, omega arith)

pub returns : goal.returns
unfolding in_range_or path_answer
returns c part h =
    rw (← (c.in-Some.ensures part h).ok)
    (quoted (step_of c.args.fold) refl (ends_read c.before.before part h) (rw c.step_on.ensures at c.figure_of-figure.ensures))
