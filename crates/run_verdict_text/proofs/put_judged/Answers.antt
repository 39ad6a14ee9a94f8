-- `put_judged` meets its contract: a verdict's word, or the refusal.
use borrow.Author.Rules.{rules}
use mathlib.Core.Path.{sym, ap}
use Rattle.text_printing.specs.laws.PutLaws.{put_as, room_as}
use Rattle.run_verdict_text.specs.VerdictText.{judged_text}
use Rattle.run_verdict_text.proofs.put_judged.Goals as goal

pub put_word-requires : goal.put_word-requires
unfolding judged_text
put_word-requires c =
    room_as (ap judged_text c.in-Ok.is) c.requires

pub put_refused-requires : goal.put_refused-requires
unfolding judged_text
put_refused-requires c =
    room_as (ap judged_text c.in-Err.is) c.requires

pub returns-in-Ok : goal.returns-in-Ok
unfolding judged_text
returns-in-Ok c =
    put_as (sym (ap judged_text c.in-Ok.is))
    c.put_word.ensures

pub returns-in-Err : goal.returns-in-Err
unfolding judged_text
returns-in-Err c =
    put_as (sym (ap judged_text c.in-Err.is))
    c.put_refused.ensures
