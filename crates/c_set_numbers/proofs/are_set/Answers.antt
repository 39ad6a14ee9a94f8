-- `are_set` meets its contract: as many numbers as a set has, and the first two each 0 or 1.
use Rattle.std.proofs.Common.{◌≡◌, sym, ap, ◌∙◌, arith}
use borrow.Author.Rules.{rules}
use lib.IntN.{pos}
use lib.ListN.{get_or}
use mir.Syntax.{w64}
use mir.Val.{SFits}
use mir.Facts.{to_z-of_z}
use borrow.Author.Tests.{ne_eqb}
use Rattle.c_set_numbers.specs.SetNumbers.{is_label}
use Rattle.c_set_numbers.specs.laws.AnswerLaws.{not-as-many, labels-decide}
use Rattle.c_set_numbers.proofs.are_set.Goals as goal
use Rattle.c_set_numbers.proofs.are_set.Goals.{then-values-eq-SET_LENGTH, else-values-eq-SET_LENGTH}

-- as many and the first label 0 or 1: the second decides
pub returns-then-is_label : goal.returns-then-is_label
returns-then-is_label c =
    let ns = c.args.values.now in
    let e : SFits w64 (get_or ns 0 (pos 0)) = search rules in
    let f : SFits w64 (get_or ns 1 (pos 0)) = search rules in
    let second : c.is_label-then-is_label.result ≡ is_label (get_or ns 1 (pos 0)) = c.is_label-then-is_label.ensures ∙ ap is_label (to_z-of_z f) in
    elim c.if-values-eq-SET_LENGTH.branch [
      | then-values-eq-SET_LENGTH w ↦
          let first : w.is_label.result ≡ is_label (get_or ns 0 (pos 0)) = w.is_label.ensures ∙ ap is_label (to_z-of_z e) in
          sym (labels-decide _ (omega (arith, w.if-values-eq-SET_LENGTH.true)) ∙ rw (← first, sym w.value-is ∙ c.if-is_label.true) (sym second))
      | else-values-eq-SET_LENGTH w ↦ absurd (cc (c.if-is_label.true, w.value-is, ne_eqb _ _ w.if-values-eq-SET_LENGTH.false))
    ]

pub returns-else-is_label : goal.returns-else-is_label
returns-else-is_label c =
    let ns = c.args.values.now in
    elim c.if-values-eq-SET_LENGTH.branch [
      | then-values-eq-SET_LENGTH w ↦
          let e : SFits w64 (get_or ns 0 (pos 0)) = search rules in
          let first : w.is_label.result ≡ is_label (get_or ns 0 (pos 0)) = w.is_label.ensures ∙ ap is_label (to_z-of_z e) in
          c.if-is_label.false ∙ sym (labels-decide _ (omega (arith, w.if-values-eq-SET_LENGTH.true)) ∙ rw (← first, sym w.value-is ∙ c.if-is_label.false))
      | else-values-eq-SET_LENGTH w ↦ c.if-is_label.false ∙ sym (not-as-many _ (λ e. omega (arith, e, w.if-values-eq-SET_LENGTH.false)))
    ]
