-- `age_verdict` meets its contract: the figure is open, or it is printed and the entry or another.
use mathlib.Core.Path.{◌≡◌}
use Prim.Native.Nat.{ℕ}
use borrow.Author.Tests.{eq-eqb, ne_eqb}
use Rattle.number_exact.specs.declared.Figure.{Figure}
use Rattle.number_exact.specs.declared.Figure.TheVariants as figure
use Rattle.quote.specs.Demand.{shown_of}
use Rattle.quote_verdicts.specs.declared.Verdict.TheVariants.{Right, Wrong, Open}
use Rattle.quote_verdicts.specs.Verdict.{differs, is_open}
use Rattle.quote_verdicts.specs.code.Code.{age_verdict}
use Rattle.quote_verdicts.proofs.age_verdict.Goals as goal

-- ---- by the figure

open-here : (f : Figure) (m : ℕ) → f ≡ figure.Open → Open ≡ age_verdict (shown_of f) m
unfolding age_verdict differs is_open shown_of
open-here f m e = rw e

right-here : (f : Figure) (m : ℕ) {n : ℕ} → f ≡ figure.Printed n → n ≡ m → Right ≡ age_verdict (shown_of f) m
unfolding age_verdict differs is_open shown_of
right-here f m {n} e q = rw (e, eq-eqb n m q)

wrong-here : (f : Figure) (m : ℕ) {n : ℕ} → f ≡ figure.Printed n → (n ≡ m → ⊥) → Wrong ≡ age_verdict (shown_of f) m
unfolding age_verdict differs is_open shown_of
wrong-here f m {n} e q = rw (e, ne_eqb n m q)

-- ---- the code

pub returns-in_default : goal.returns-in_default
returns-in_default c = open-here _ _ c.in_default.is

pub returns-then-n-entry : goal.returns-then-n-entry
returns-then-n-entry c = right-here _ _ c.in-Printed.is c.if-n-entry.true

pub returns : goal.returns
returns c = wrong-here _ _ c.in-Printed.is c.if-n-entry.false
