-- `put_comparison` meets its contract: what follows a query that is compared, or the refusal.
use borrow.Author.Rules.{rules}
use mathlib.Core.Path.{◌≡◌, sym, ap, subst}
use Rattle.text_printing.specs.code.Put.{Room}
use Rattle.text_printing.specs.laws.PutLaws.{put_as, room_as}
use Rattle.quote_compare.specs.Compare.{Comparison}
use Rattle.run_compare_text.specs.CompareText.{comparison_text}
use Rattle.run_compare_text.specs.code.Sizes.{SizedComparison}
use Rattle.run_compare_text.proofs.put_comparison.Goals as goal
use Rattle.run_compare_text.proofs.put_comparison.Goals.{Start}

-- what is required, of the comparison that was matched
required : (s : Start) {k : Comparison} → s.args.comparison ≡ k
    → SizedComparison k × Room s.args.buffer.now s.args.at (comparison_text s.args.decimals k)
required s e = (subst SizedComparison e s.requires.0, room_as (ap (comparison_text s.args.decimals) e) s.requires.1)

pub put_pair-requires : goal.put_pair-requires
unfolding SizedComparison comparison_text
put_pair-requires c = required c.before.before.before c.in-Ok.is

pub put_refused-requires : goal.put_refused-requires
unfolding comparison_text
put_refused-requires c = (required c.before.before.before c.in-Err.is).1

pub returns-in-Ok : goal.returns-in-Ok
unfolding comparison_text
returns-in-Ok c =
    let s = c.args in
    put_as (sym (ap (comparison_text s.decimals) c.in-Ok.is))
    c.put_pair.ensures

pub returns-in-Err : goal.returns-in-Err
unfolding comparison_text
returns-in-Err c =
    let s = c.args in
    put_as (sym (ap (comparison_text s.decimals) c.in-Err.is))
    c.put_refused.ensures
