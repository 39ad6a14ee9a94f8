-- `put_refused` meets its contract: the refusal alone, or the sheet's number and right after it the refusal.
use borrow.Author.Rules.{rules}
use mathlib.Core.Path.{sym}
use mathlib.Core.List.{List, ◌++◌}
use Prim.Native.Nat.{ℕ, ◌<◌, ◌≤◌}
use lib.ListN.{length}
use Rattle.set_refusal.specs.declared.Refusal.{Refusal}
use native.Mathlib.Omega.{arith}
use Rattle.text_tokens.specs.Text.{bytes_of}
use Rattle.text_tokens.specs.Number.{unsigned_text}
use Rattle.text_printing.specs.code.Put.{Room, Put}
use Rattle.text_printing.specs.laws.PutLaws.{put_as, room_as, room-first, room-rest, put-join}
use Rattle.run_answer_text.specs.AnswerText.{refused_text}
use Rattle.run.specs.Run.{refused_run}
use Rattle.run.proofs.laws.RunLaws.{not_named, by_name, line-length}
use Rattle.run.proofs.put_refused.Goals as goal

room : (out : List ℕ) (named : ℕ) (refusal : Refusal) → (named < 10) × (14 ≤ length out) → Room out 0 (refused_run named refusal)
room out named refusal h = record { fits = omega (arith, h.1, line-length named refusal h.0) }

-- ---- the needs

pub put_refusal-requires : goal.put_refusal-requires
put_refusal-requires c = room_as (not_named _ _ c.if-named-eq0.true) (room c.args.out.now c.args.named c.args.refusal c.requires)

pub returns-then-named-eq0 : goal.returns-then-named-eq0
returns-then-named-eq0 c =
    put_as (sym (not_named _ _ c.if-named-eq0.true)) c.put_refusal.ensures

-- ---- behind the sheet's number

pub put_field-end-requires : goal.put_field-end-requires
unfolding bytes_of
put_field-end-requires c =
    (omega (arith, c.requires.0), room-first _ (room_as (by_name c.args.named c.args.refusal c.if-named-eq0.false) (room c.args.out.now c.args.named c.args.refusal c.requires)))

pub put_refused-requires : goal.put_refused-requires
unfolding bytes_of
put_refused-requires c =
    room-rest c.put_field-end.ensures (room_as (by_name c.args.named c.args.refusal c.if-named-eq0.false) (room c.args.out.now c.args.named c.args.refusal c.requires))

pub returns : goal.returns
unfolding bytes_of
returns c =
    put_as (sym (by_name c.args.named c.args.refusal c.if-named-eq0.false))
    (put-join c.put_field-end.ensures c.put_refused.ensures (room_as (by_name c.args.named c.args.refusal c.if-named-eq0.false) (room c.args.out.now c.args.named c.args.refusal c.requires)))
