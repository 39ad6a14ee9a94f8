-- `verdict_on` meets its contract: the figure of each age is asked again where it is open.
use Rattle.std.proofs.Common.{◌≡◌, ap, sym, ◌∙◌, true, false, List, ℕ, ℤ, add-one, arith}
use mathlib.Core.Path.{ap₂}
use mir.Facts.{to_z-of_z}
use Rattle.number_whole.proofs.laws.Bound.{bits}
use Rattle.number_exponential.specs.declared.Ends.{Ends}
use Rattle.number_exact.specs.declared.Figure.{Figure}
use Rattle.number_exact.specs.Figure.{is_open}
use Rattle.number_folds.proofs.Running.{factor-small}
use Rattle.set_params.specs.declared.Params.{Params}
use Rattle.quote.specs.Demand.{shown_of}
use Rattle.quote_verdicts.specs.declared.Verdict.{Verdict}
use Rattle.quote_verdicts.specs.Verdict.{column_ages, figure_here, entry_at, verdict_to}
use Rattle.quote_verdicts.specs.code.Code.{age_verdict, joined, figure_in, figure_kept}
use Rattle.quote_verdicts.proofs.laws.VerdictLaws.{verdict-none, verdict-more}
use Rattle.quote_verdicts.proofs.verdict_on.Goals as goal
use Rattle.quote_verdicts.proofs.verdict_on.Goals.{then-is_open, else-is_open}

pub loop-x-init : goal.loop-x-init
loop-x-init c = sym (verdict-none _ _)

pub coarse_figure-figure-requires : goal.coarse_figure-figure-requires
coarse_figure-figure-requires c = factor-small c.requires.1 c.loop-x.x (omega arith)

-- ---- the figure of age x, asked again where it is open

module _ (p : Params) (year : ℤ) (es : List Ends) (x m : ℕ) {v : Verdict} where
  kept-open : is_open (figure_in es x) ≡ true → v ≡ age_verdict (figure_here p year x) m → v ≡ age_verdict (figure_kept p year es x) m
  unfolding figure_kept
  kept-open e h = rw e h

  kept-printed : is_open (figure_in es x) ≡ false → v ≡ age_verdict (shown_of (figure_in es x)) m → v ≡ age_verdict (figure_kept p year es x) m
  unfolding figure_kept
  kept-printed e h = rw e h

pub loop-x-preserved : goal.loop-x-preserved
unfolding entry_at
loop-x-preserved c =
    let p = c.args.p in
    let year = bits c.args.year in
    let es = c.args.factors.now in
    let x = c.loop-x.x in
    let m = entry_at c.args.column.now in
    let f = figure_kept p year es in
    let open-is = sym (ap is_open c.coarse_figure-figure.ensures) ∙ sym c.is_open.ensures in
    let more-is : c.if-is_open.more ≡ age_verdict (f x) (m x) =
    elim c.if-is_open.branch [
      | then-is_open w ↦ w.more-is ∙ kept-open p year es x (m x) (open-is ∙ w.if-is_open.true) w.verdict_again-more.ensures
      | else-is_open w ↦
          w.more-is
          ∙ kept-printed p year es x (m x) (open-is ∙ w.if-is_open.false)
          (w.age_verdict-more.ensures ∙ ap (λ (z : Figure). age_verdict (shown_of z) (m x)) c.coarse_figure-figure.ensures)
    ] in
    c.joined-verdict.ensures ∙ ap₂ joined c.loop-x.invariant more-is ∙ verdict-more f m x ∙ ap (verdict_to f m) (sym (add-one x))

pub returns : goal.returns
returns c =
    let x : c.loop-x.x ≡ column_ages = omega arith in
    rw (x, to_z-of_z c.ranges.year) at c.loop-x.invariant
