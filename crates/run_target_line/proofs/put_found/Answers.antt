-- `put_found` meets its contract: what a year tells, or a refusal.
use mathlib.Core.Path.{◌≡◌, sym, ap, subst}
use mathlib.Core.List.{List}
use Prim.Native.Nat.{ℕ}
use Rattle.text_printing.specs.code.Put.{Room}
use Rattle.text_printing.specs.laws.PutLaws.{put_as, room_as}
use Rattle.quote_target.specs.Target.{TargetAnswer}
use Rattle.run_target_line.specs.TargetLine.{found_text}
use Rattle.run_target_line.specs.code.Code.{SizedFound}
use Rattle.run_target_line.proofs.put_found.Goals as goal

-- what is required, of the case that was matched
required : {found r : TargetAnswer} {bytes : List ℕ} {at : ℕ} → found ≡ r
    → SizedFound found × Room bytes at (found_text found) → SizedFound r × Room bytes at (found_text r)
required e h = (subst SizedFound e h.0, room_as (ap found_text e) h.1)

pub put_told-requires : goal.put_told-requires
unfolding SizedFound found_text
put_told-requires c = required c.in-Ok.is c.requires

pub put_refused-requires : goal.put_refused-requires
unfolding found_text
put_refused-requires c = (required c.in-Err.is c.requires).1

pub returns-in-Ok : goal.returns-in-Ok
unfolding found_text
returns-in-Ok c = put_as (sym (ap found_text c.in-Ok.is)) c.put_told.ensures

pub returns-in-Err : goal.returns-in-Err
unfolding found_text
returns-in-Err c = put_as (sym (ap found_text c.in-Err.is)) c.put_refused.ensures
