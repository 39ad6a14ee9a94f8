-- `put_reply` meets its contract: the text of the answer.
use mathlib.Core.Path.{◌≡◌, sym, ap, ◌∙◌}
use mathlib.Core.Bool.{true}
use Rattle.text_printing.specs.laws.PutLaws.{put_as, room_as}
use Rattle.quote_kinds.specs.declared.Kind.{Kind}
use Rattle.run_answer_text.specs.AnswerText.{kind_decimals, answer_text}
use Rattle.run_answer_text.specs.code.Sizes.{SizedAnswer}
use Rattle.run_couple_line.specs.CoupleLine.{couple_reply}
use Rattle.run_couple_line.specs.laws.CoupleLineLaws.{couple-sized, reply-by}
use Rattle.run_couple_line.proofs.put_reply.Goals as goal

pub put_answer-requires : goal.put_answer-requires
put_answer-requires c =
    let s = c.args in
    let text : couple_reply s.first s.second s.query ≡ answer_text true c.decimals_for-decimals.result c.couple_to-answer.result
    = reply-by _ _ _ (c.decimals_for-decimals.ensures ∙ ap (λ (k : Kind). kind_decimals k) c.single_of-single.ensures) c.couple_to-answer.ensures in
    let sized : SizedAnswer c.couple_to-answer.result = rw c.couple_to-answer.ensures (couple-sized s.first s.second s.query) in
    (sized, room_as text c.requires.2)

pub returns : goal.returns
returns c =
    let s = c.args in
    let text : couple_reply s.first s.second s.query ≡ answer_text true c.decimals_for-decimals.result c.couple_to-answer.result
    = reply-by _ _ _ (c.decimals_for-decimals.ensures ∙ ap (λ (k : Kind). kind_decimals k) c.single_of-single.ensures) c.couple_to-answer.ensures in
    put_as (sym text) c.put_answer.ensures
