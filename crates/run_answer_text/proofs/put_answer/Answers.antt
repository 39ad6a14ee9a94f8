-- `put_answer` meets its contract: what follows a query that is quoted, or the refusal.
use borrow.Author.Rules.{rules}
use mathlib.Core.Path.{◌≡◌, sym, ap, subst}
use Rattle.text_printing.specs.code.Put.{Room}
use Rattle.text_printing.specs.laws.PutLaws.{put_as, room_as}
use Rattle.quote_along.specs.QuoteBy.{Answer}
use Rattle.run_answer_text.specs.AnswerText.{answer_text}
use Rattle.run_answer_text.specs.code.Sizes.{SizedAnswer}
use Rattle.run_answer_text.proofs.put_answer.Goals as goal
use Rattle.run_answer_text.proofs.put_answer.Goals.{Start}

-- what is required, of the answer that was matched
required : (s : Start) {a : Answer} → s.args.answer ≡ a
    → SizedAnswer a × Room s.args.buffer.now s.args.at (answer_text s.args.ends s.args.decimals a)
required s e =
    (subst SizedAnswer e s.requires.0, room_as (ap (answer_text s.args.ends s.args.decimals) e) s.requires.1)

pub put_quote-requires : goal.put_quote-requires
unfolding SizedAnswer answer_text
put_quote-requires c = required c.before.before.before c.in-Ok.is

pub put_refused-requires : goal.put_refused-requires
unfolding answer_text
put_refused-requires c = (required c.before.before.before c.in-Err.is).1

pub returns-in-Ok : goal.returns-in-Ok
unfolding answer_text
returns-in-Ok c =
    let s = c.args in
    put_as (sym (ap (answer_text s.ends s.decimals) c.in-Ok.is))
    c.put_quote.ensures

pub returns-in-Err : goal.returns-in-Err
unfolding answer_text
returns-in-Err c =
    let s = c.args in
    put_as (sym (ap (answer_text s.ends s.decimals) c.in-Err.is))
    c.put_refused.ensures
