-- `put_told` meets its contract: one text in each case.
use borrow.Author.Rules.{rules}
use mir.Facts.{to_z-of_z}
use mir.Val.{SFits}
use mir.Syntax.{w64}
use mathlib.Core.Path.{◌≡◌, sym, ap, subst}
use mathlib.Core.List.{List}
use Prim.Native.Nat.{ℕ}
use Rattle.text_tokens.specs.Text.{bytes_of}
use Rattle.text_tokens.specs.laws.ReadLaws.{held}
use Rattle.text_printing.specs.code.Put.{Room}
use Rattle.text_printing.specs.laws.PutLaws.{put_of, put_as, room_as}
use Rattle.quote_target.specs.declared.TargetYear.{TargetYear}
use Rattle.run_target_line.specs.TargetLine.{told_text}
use Rattle.run_target_line.specs.code.Code.{SizedTold}
use Rattle.run_target_line.proofs.put_told.Goals as goal

-- what is required, of the case that was matched
required : {told r : TargetYear} {bytes : List ℕ} {at : ℕ} → told ≡ r
    → SizedTold told × Room bytes at (told_text told) → SizedTold r × Room bytes at (told_text r)
required e h = (subst SizedTold e h.0, room_as (ap told_text e) h.1)

pub put_year-requires : goal.put_year-requires
unfolding SizedTold told_text
put_year-requires c =
    let f : SFits w64 c.in-Reached.year = search rules in
    rw (to_z-of_z f) (required c.in-Reached.is c.requires)

pub put_text-requires : goal.put_text-requires
unfolding told_text bytes_of
put_text-requires c =
    (required c.in-Open.is c.requires).1.fits

pub put_text-requires-in-Never : goal.put_text-requires-in-Never
unfolding told_text bytes_of
put_text-requires-in-Never c =
    (required c.in-Never.is c.requires).1.fits

pub returns-in-Reached : goal.returns-in-Reached
unfolding told_text
returns-in-Reached c =
    let f : SFits w64 c.in-Reached.year = search rules in
    put_as (sym (ap told_text c.in-Reached.is))
    (rw (to_z-of_z f) at c.put_year.ensures)

pub returns-in-Open : goal.returns-in-Open
unfolding told_text bytes_of
returns-in-Open c =
    put_as (sym (ap told_text c.in-Open.is))
    (put_of c.put_text.ensures)

pub returns-in-Never : goal.returns-in-Never
unfolding told_text bytes_of
returns-in-Never c =
    put_as (sym (ap told_text c.in-Never.is))
    (put_of c.put_text-in-Never.ensures)
