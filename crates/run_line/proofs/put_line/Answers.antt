-- `put_line` meets its contract: the answer by the mode.
use mathlib.Core.Path.{◌≡◌, sym, ap, subst}
use mathlib.Core.List.{List}
use Prim.Native.Nat.{ℕ, ◌+◌, ◌≤◌}
use lib.ListN.{length}
use Rattle.text_printing.specs.laws.PutLaws.{put_as}
use Rattle.set_params.specs.declared.Params.{Params}
use Rattle.run_line.specs.declared.Mode.{Mode}
use Rattle.run_line.specs.Line.{line_answer, longest_line}
use Rattle.run_line.proofs.put_line.Goals as goal

-- ---- of the mode that was matched

room : {mode m : Mode} (at size : ℕ) → mode ≡ m → at + longest_line mode ≤ size → at + longest_line m ≤ size
room at size e h = subst (λ (k : Mode). at + longest_line k ≤ size) e h

matched : {mode m : Mode} (first second : Params) (line : List ℕ) → mode ≡ m
    → line_answer m first second line ≡ line_answer mode first second line
matched first second line e = sym (ap (λ (k : Mode). line_answer k first second line) e)

-- ---- the needs

pub put_query-requires : goal.put_query-requires
unfolding longest_line
put_query-requires c =
    let s = c in
    (s.requires.0, s.requires.1, room s.args.at (length s.args.buffer.now) c.in-Quotes.is s.requires.2)

pub put_query-requires-in-Compare : goal.put_query-requires-in-Compare
unfolding longest_line
put_query-requires-in-Compare c =
    let s = c in
    (s.requires.0, s.requires.1, room s.args.at (length s.args.buffer.now) c.in-Compare.is s.requires.2)

pub put_couple-requires : goal.put_couple-requires
unfolding longest_line
put_couple-requires c =
    let s = c in
    (s.requires.0, s.requires.1, room s.args.at (length s.args.buffer.now) c.in-Couples.is s.requires.2)

pub put_target-requires : goal.put_target-requires
unfolding longest_line
put_target-requires c =
    let s = c in
    (s.requires.0, room s.args.at (length s.args.buffer.now) c.in-Targets.is s.requires.2)

pub returns-in-Quotes : goal.returns-in-Quotes
unfolding line_answer
returns-in-Quotes c =
    put_as (matched c.args.first c.args.second c.args.line.now c.in-Quotes.is) c.put_query.ensures

pub returns-in-Compare : goal.returns-in-Compare
unfolding line_answer
returns-in-Compare c =
    put_as (matched c.args.first c.args.second c.args.line.now c.in-Compare.is) c.put_query-in-Compare.ensures

pub returns-in-Couples : goal.returns-in-Couples
unfolding line_answer
returns-in-Couples c =
    put_as (matched c.args.first c.args.second c.args.line.now c.in-Couples.is) c.put_couple.ensures

pub returns-in-Targets : goal.returns-in-Targets
unfolding line_answer
returns-in-Targets c =
    put_as (matched c.args.first c.args.second c.args.line.now c.in-Targets.is) c.put_target.ensures
