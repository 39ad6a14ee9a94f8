-- `verdict_again` meets its contract: the answer is the quote of q at that age, and the verdict that by its figure.
use Rattle.std.specs.Prelude.{Ok, Err}
use mathlib.Core.Path.{◌≡◌, sym, ◌∙◌}
use Prim.Native.Nat.{ℕ, ◌<◌}
use native.Mathlib.Omega.{arith}
use lib.IntN.{pos}
use mir.Syntax.{w64}
use mir.Val.{SFits}
use mir.Facts.{to_z-of_z}
use Rattle.number_whole.proofs.laws.Bound.{under-pos, fits}
use Rattle.set_refusal.specs.declared.Refusal.{Refusal}
use Rattle.quote_kinds.specs.declared.Kind.TheVariants.{Death}
use Rattle.quote_along.specs.declared.Quote.{Quote}
use Rattle.quote_along.specs.QuoteBy.{Answer}
use Rattle.quote.specs.Quote.{answer_of}
use Rattle.quote.specs.Demand.{shown_of, figure_shown}
use Rattle.quote.proofs.Steps.{for-again}
use Rattle.quote_verdicts.specs.declared.Verdict.{Verdict}
use Rattle.quote_verdicts.specs.declared.Verdict.TheVariants.{Right}
use Rattle.quote_verdicts.specs.Verdict.{column_ages, figure_here, differs, is_open}
use Rattle.quote_verdicts.specs.code.Code.{age_verdict}
use Rattle.quote_verdicts.proofs.verdict_again.Goals as goal
use Rattle.quote_verdicts.proofs.verdict_again.Tie as tie
use Rattle.quote_verdicts.proofs.verdict_again.Lts as lts
use Rattle.quote_verdicts.proofs.verdict_again.Reads as reads

-- ---- by the answer

none_here : (a : Answer) (m : ℕ) {r : Refusal} → a ≡ Err r → Right ≡ age_verdict (figure_shown a) m
unfolding age_verdict differs is_open figure_shown
none_here a m e = rw e

quoted-here : (a : Answer) (m : ℕ) {q : Quote} {v : Verdict} → a ≡ Ok q → v ≡ age_verdict (shown_of q.figure) m
    → v ≡ age_verdict (figure_shown a) m
unfolding figure_shown
quoted-here a m e f = rw e f

-- ---- the code

age-fits : (x : ℕ) → x < column_ages → SFits w64 (pos x)
age-fits x l = fits (under-pos {k = column_ages} (omega arith)) tt

asked : (c : lts.After-answer_within tie.the-claims reads.Pre reads.Post) → let a = c.before.args in
    c.answer_within-answer.result ≡ answer_of a.p Death (pos a.age) a.year (pos 0)
asked c =
    let s = c.before in
    rw (to_z-of_z (age-fits s.args.age s.requires.1), to_z-of_z s.ranges.year) at c.answer_within-answer.ensures
    ∙ for-again _ _ _ _ _

pub returns-in_default : goal.returns-in_default
unfolding figure_here
returns-in_default c = none_here _ _ (sym (asked c.before) ∙ c.in_default.is)

pub returns : goal.returns
unfolding figure_here
returns c = quoted-here _ _ (sym (asked c.before.before) ∙ c.in-Ok.is) c.age_verdict.ensures

pub overflow_cast-age : goal.overflow_cast-age
overflow_cast-age c = age-fits c.args.age c.requires.1
