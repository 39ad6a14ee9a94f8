-- `ask` meets its contract, from that of the call that is made.
use borrow.Author.Rules.{rules}
use mir.Val.{SFits}
use mir.Syntax.{w64}
use mir.Facts.{to_z-of_z}
use Rattle.c_bytes_to_digits.specs.Calls.{kind_in}
use Rattle.c_bytes_to_digits.proofs.laws.CallLaws.{called}
use Rattle.c_bytes_to_digits.proofs.ask.Goals as goal

pub returns-in-Quote : goal.returns-in-Quote
unfolding kind_in
returns-in-Quote c =
    let f = c.ranges in
    called _ _ _ _ _ c.in-Quote.is _ (rw (to_z-of_z f.age, to_z-of_z f.year, to_z-of_z f.term) at c.kulfizan_quote.ensures.value, rw (to_z-of_z f.age, to_z-of_z f.year, to_z-of_z f.term) at c.kulfizan_quote.ensures.quote_after)

pub returns-in-Annuity : goal.returns-in-Annuity
unfolding kind_in
returns-in-Annuity c =
    let f = c.ranges in
    let g : SFits w64 c.in-Annuity.rate = search rules in
    called _ _ _ _ _ c.in-Annuity.is _ (rw (to_z-of_z f.age, to_z-of_z f.year, to_z-of_z f.term, to_z-of_z g) at c.kulfizan_annuity.ensures.value, rw (to_z-of_z f.age, to_z-of_z f.year, to_z-of_z f.term, to_z-of_z g) at c.kulfizan_annuity.ensures.quote_after)

pub returns-in-Day : goal.returns-in-Day
unfolding kind_in
returns-in-Day c =
    let f = c.ranges in
    called _ _ _ _ _ c.in-Day.is _ (rw (to_z-of_z f.age, to_z-of_z f.year, to_z-of_z f.term) at c.kulfizan_day.ensures.value, rw (to_z-of_z f.age, to_z-of_z f.year, to_z-of_z f.term) at c.kulfizan_day.ensures.quote_after)
