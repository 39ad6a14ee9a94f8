-- `put_values` meets its contract: a word and an excess, or a text and right after it the units.
use borrow.Author.Rules.{rules}
use mathlib.Core.Path.{◌≡◌, sym, ap, subst}
use Rattle.text_tokens.specs.Text.{bytes_of}
use Rattle.text_printing.specs.code.Put.{Room}
use Rattle.text_printing.specs.laws.PutLaws.{put_as, room_as}
use Rattle.quote_compare.specs.declared.Values.{Values}
use Rattle.run_compare_text.specs.CompareText.{values_text}
use Rattle.run_compare_text.specs.code.Sizes.{SizedValues}
use Rattle.run_compare_text.proofs.put_values.Goals as goal
use Rattle.run_compare_text.proofs.put_values.Goals.{Start}

-- what is required, of the values that were matched
required : (s : Start) {v : Values} → s.args.values ≡ v
    → SizedValues v × Room s.args.buffer.now s.args.at (values_text v)
required s e = (subst SizedValues e s.requires.0, room_as (ap values_text e) s.requires.1)

pub put_excess-requires : goal.put_excess-requires
unfolding SizedValues values_text bytes_of
put_excess-requires c =
    let w = c.before.before.before in
    required w.before.before w.in-Below.is

pub put_excess-requires-in-Above : goal.put_excess-requires-in-Above
unfolding SizedValues values_text bytes_of
put_excess-requires-in-Above c =
    let w = c.before.before.before in
    required w.before.before w.in-Above.is

pub put_units-requires : goal.put_units-requires
unfolding SizedValues values_text bytes_of
put_units-requires c =
    let w = c.before.before.before in
    required w.before.before w.in-Near.is

pub returns-in-Below : goal.returns-in-Below
unfolding values_text bytes_of
returns-in-Below c =
    put_as (sym (ap values_text c.in-Below.is))
    c.put_excess.ensures

pub returns-in-Above : goal.returns-in-Above
unfolding values_text bytes_of
returns-in-Above c =
    put_as (sym (ap values_text c.in-Above.is))
    c.put_excess-in-Above.ensures

pub returns-in-Near : goal.returns-in-Near
unfolding values_text bytes_of
returns-in-Near c =
    put_as (sym (ap values_text c.in-Near.is))
    c.put_units.ensures
