-- `lower_refusal` meets its contract, test by test.
use borrow.Author.Rules.{rules}
use mathlib.Core.Path.{◌≡◌, sym, ◌∙◌}
use Prim.Native.Nat.{◌≤◌, ◌<◌}
use native.Mathlib.Omega.{arith}
use Rattle.set_refusal.specs.Refusals.{refusal_number}
use Rattle.set_refusal.specs.laws.RefusalLaws.{lower-second-none, lower-first-none, lower-first, lower-second}
use Rattle.set_refusal.proofs.lower_refusal.Goals as goal

pub returns-then-n-eq0 : goal.returns-then-n-eq0
returns-then-n-eq0 c = sym (lower-second-none _ _ (sym c.refusal_number-n.ensures ∙ c.if-n-eq0.true))

pub returns-then-m-eq0 : goal.returns-then-m-eq0
returns-then-m-eq0 c =
    sym (lower-first-none _ _ (sym c.refusal_number-m.ensures ∙ c.if-m-eq0.true) (λ e. c.if-n-eq0.false (c.refusal_number-n.ensures ∙ e)))

pub returns-then-m-n : goal.returns-then-m-n
returns-then-m-n c =
    sym (lower-first _ _ (λ e. c.if-m-eq0.false (c.refusal_number-m.ensures ∙ e)) (λ e. c.if-n-eq0.false (c.refusal_number-n.ensures ∙ e)) (omega (arith, c.refusal_number-n.ensures, c.refusal_number-m.ensures)))

pub returns : goal.returns
returns c =
    sym (lower-second _ _ (λ e. c.if-m-eq0.false (c.refusal_number-m.ensures ∙ e)) (λ e. c.if-n-eq0.false (c.refusal_number-n.ensures ∙ e)) (omega (arith, c.refusal_number-n.ensures, c.refusal_number-m.ensures)))
