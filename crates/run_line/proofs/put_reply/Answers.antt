-- `put_reply` meets its contract: the text of the answer, or of two compared.
use mathlib.Core.Path.{sym}
use Rattle.text_printing.specs.laws.PutLaws.{put_as, room_as}
use Rattle.run_line.proofs.laws.ReplyLaws.{query-small, query-sized, reply-quotes, reply-compare}
use Rattle.run_line.proofs.put_reply.Goals as goal

-- ---- an answer

pub put_answer-requires : goal.put_answer-requires
put_answer-requires c =
    let s = c.args in (
      rw c.answer_to-answer.ensures (query-sized s.first s.query),
      room_as (reply-quotes _ _ _ _ c.decimals_for-decimals.ensures c.answer_to-answer.ensures c.in-Quote.is) c.requires.2,
    )

pub returns-in-Quote : goal.returns-in-Quote
returns-in-Quote c =
    put_as (sym (reply-quotes _ _ _ _ c.decimals_for-decimals.ensures c.answer_to-answer.ensures c.in-Quote.is)) c.put_answer.ensures

-- ---- two answers, compared

pub compare-comparison-requires : goal.compare-comparison-requires
compare-comparison-requires c =
    let s = c.args in (
      rw c.answer_to-answer.ensures (query-small s.first s.query),
      rw c.answer_to-other.ensures (query-small s.second s.query),
    )

pub put_comparison-requires : goal.put_comparison-requires
put_comparison-requires c =
    let t = reply-compare _ _ _ _ c.decimals_for-decimals.ensures c.answer_to-answer.ensures c.in-Compared.is
    c.answer_to-other.ensures c.compare-comparison.ensures in
    (t.1, room_as t.0 c.requires.2)

pub returns-in-Compared : goal.returns-in-Compared
returns-in-Compared c =
    let t = reply-compare _ _ _ _ c.decimals_for-decimals.ensures c.answer_to-answer.ensures c.in-Compared.is
    c.answer_to-other.ensures c.compare-comparison.ensures in
    put_as (sym t.0) c.put_comparison.ensures
