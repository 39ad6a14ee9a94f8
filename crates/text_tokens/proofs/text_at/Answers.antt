-- `text_at` meets its contract. The loop's invariant: the test of the whole text is the test of what is left of it. The
-- measure is what is left of the text.
use mathlib.Core.Bool.{not}
use mathlib.Core.Path.{sym, ap, ◌∙◌}
use Prim.Native.Nat.{ℕ, ◌+◌, ◌-◌}
use native.Mathlib.Omega.{arith}
use mathlib.Core.List.{List}
use borrow.Author.Rules.{rules}
use borrow.Author.Tests.{not-true, not-false}
use lib.ListN.{length, drop, length-drop}
use lib.Seq.{take_all}
use Rattle.text_words.specs.code.Word.{word_bytes}
use Rattle.text_tokens.specs.code.Places.{text_at}
use Rattle.text_tokens.proofs.TextSteps.{text-start, text-short, text-run, text-other}
use Rattle.text_tokens.proofs.text_at.Goals as goal

pub returns-then-room-text : goal.returns-then-room-text
returns-then-room-text c = sym (text-short _ _ _ (omega arith))

pub loop-done-init : goal.loop-done-init
loop-done-init c = (search rules, text-start _ _ _)

pub returns-then-not-same_bytes : goal.returns-then-not-same_bytes
returns-then-not-same_bytes c =
    let compared = c.before in
    let there = compared.before in
    let here = there.before in
    let head = here.before.before in
    sym
    (head.loop-done.invariant.1
    ∙ text-other _ _ _ head.loop-done.done word_bytes (omega arith)
    (λ e.
    compared.same_bytes.ensures.no (not-true _ (ap not c.if-not-same_bytes.true))
    (here.word_at-here.ensures ∙ e ∙ sym there.word_at.ensures)))

pub loop-done-preserved : goal.loop-done-preserved
loop-done-preserved c =
    let compared = c.before in
    let there = compared.before in
    let here = there.before in
    let head = here.before.before in (
      search rules,
      head.loop-done.invariant.1
          ∙ text-run _ _ _ head.loop-done.done word_bytes (omega arith)
          (sym here.word_at-here.ensures ∙ compared.same_bytes.ensures.yes (not-false _ (ap not c.if-not-same_bytes.false))
          ∙ there.word_at.ensures),
    )

pub returns : goal.returns
returns c =
    let head = c.before.before.before in
    let start = head.before.before.before.before.before in
    let done = head.loop-done.done in
    let text = start.args.text.now in
    let l = length-drop done text in
    c.text_walk.ensures
    ∙ ap (λ (l : List ℕ). text_at start.args.bytes.now (start.args.at + done) l)
    (take_all (length text - done) (drop done text) (omega arith))
    ∙ sym head.loop-done.invariant.1
