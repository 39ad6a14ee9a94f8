-- `put_word` meets its contract: one text in each case.
use borrow.Author.Rules.{rules}
use mathlib.Core.Path.{sym, ap}
use Rattle.text_tokens.specs.Text.{bytes_of}
use Rattle.text_printing.specs.laws.PutLaws.{put_of, put_as, room_as}
use Rattle.quote_verdicts.specs.Verdict.{verdict_word}
use Rattle.run_verdict_text.specs.VerdictText.{word_text}
use Rattle.run_verdict_text.proofs.put_word.Goals as goal

pub put_text-requires : goal.put_text-requires
unfolding word_text verdict_word bytes_of
put_text-requires c =
    let w = c in
    (room_as (ap word_text w.in-Right.is) w.requires).fits

pub put_text-requires-in-Wrong : goal.put_text-requires-in-Wrong
unfolding word_text verdict_word bytes_of
put_text-requires-in-Wrong c =
    let w = c in
    (room_as (ap word_text w.in-Wrong.is) w.requires).fits

pub put_text-requires-in-Open : goal.put_text-requires-in-Open
unfolding word_text verdict_word bytes_of
put_text-requires-in-Open c =
    let w = c in
    (room_as (ap word_text w.in-Open.is) w.requires).fits

pub returns-in-Right : goal.returns-in-Right
unfolding word_text verdict_word bytes_of
returns-in-Right c =
    put_as (sym (ap word_text c.in-Right.is))
    (put_of c.put_text.ensures)

pub returns-in-Wrong : goal.returns-in-Wrong
unfolding word_text verdict_word bytes_of
returns-in-Wrong c =
    put_as (sym (ap word_text c.in-Wrong.is))
    (put_of c.put_text-in-Wrong.ensures)

pub returns-in-Open : goal.returns-in-Open
unfolding word_text verdict_word bytes_of
returns-in-Open c =
    put_as (sym (ap word_text c.in-Open.is))
    (put_of c.put_text-in-Open.ensures)
