-- `put_ends` meets its contract: nothing, or the lower end, right after it the upper one, and then the unit.
use mathlib.Core.Path.{ap}
use borrow.Author.Rules.{rules}
use mathlib.Core.Path.{◌≡◌, sym}
use mathlib.Core.Bool.{Bool, true, false, not}
use mathlib.Core.List.{List, [], ◌++◌}
use Prim.Native.Nat.{ℕ}
use borrow.Author.Tests.{not-true, not-false}
use Rattle.text_tokens.specs.Text.{bytes_of}
use Rattle.text_printing.specs.code.Put.{Put}
use Rattle.text_printing.specs.laws.PutLaws.{put-none, put_as, room_as, Three, three-first, three-second, three_third, three-put}
use Rattle.number_exponential.specs.declared.GridUnit.{GridUnit}
use Rattle.run_answer_text.specs.AnswerText.{end_text, unit_text, ends_text}
use Rattle.run_answer_text.proofs.put_ends.Goals as goal
use Rattle.run_answer_text.proofs.put_ends.Goals.{After-put_units-arg-3-1, After-put_units-place, After-put_units-end}

-- ---- the text, where the ends are not asked for and where they are

abbrev low : ℕ → List ℕ
low n = bytes_of " lo=" ++ end_text n

abbrev high : ℕ → List ℕ
high n = bytes_of " hi=" ++ end_text n

module _ (b : Bool) (u : GridUnit) (lower upper : ℕ) where
  none : not b ≡ true → ends_text b u lower upper ≡ []
  unfolding ends_text
  none e = rw (not-true b e)

  both : not b ≡ false → ends_text b u lower upper ≡ low lower ++ (high upper ++ unit_text u)
  unfolding ends_text
  both e = rw (not-false b e)

-- ---- where they are

texts : (c : After-put_units-arg-3-1) → let s = c.args in
    Three s.buffer.now s.at (low s.lower) (high s.upper) (unit_text s.unit)
texts c =
    let s = c in
    record { room = room_as (both s.args.ends s.args.unit s.args.lower s.args.upper (ap not c.if-not-ends.false)) s.requires.2 }

abbrev asked : After-put_units-place → After-put_units-arg-3-1
asked c = c.before

first : (c : After-put_units-place) → let s = (asked c).args in
    Put s.buffer.now s.at (low s.lower) c.put_units-place.new.buffer c.put_units-place.result
unfolding bytes_of
first c = c.put_units-place.ensures

abbrev one : After-put_units-end → After-put_units-place
one c = c.before.before.before.before.before.before

second : (c : After-put_units-end) → let p = (one c).put_units-place in let s = (asked (one c)).args in
    Put p.new.buffer p.result (high s.upper) c.put_units-end.new.buffer c.put_units-end.result
unfolding bytes_of
second c = c.put_units-end.ensures

-- ---- the needs

pub returns-then-not-ends : goal.returns-then-not-ends
returns-then-not-ends c =
    let s = c.args in
    put_as (sym (none s.ends s.unit s.lower s.upper (ap not c.if-not-ends.true))) (put-none s.buffer.now s.at)

pub put_units-place-requires : goal.put_units-place-requires
unfolding bytes_of
put_units-place-requires c = let t = c in (t.requires.0, three-first (texts t))

pub put_units-end-requires : goal.put_units-end-requires
unfolding bytes_of
put_units-end-requires c =
    let c₁ = c.before.before.before.before in
    let t = asked c₁.before in
    (t.requires.1, three-second (texts t) (first c₁.before))

pub put_unit-requires : goal.put_unit-requires
put_unit-requires c =
    let c₂ = c.before.before.before in
    three_third (texts (asked (one c₂))) (first (one c₂)) (second c₂)

pub returns : goal.returns
returns c =
    let c₂ = c.before.before.before.before.before.before in
    let t = asked (one c₂.before) in
    let s = t.args in
    put_as (sym (both s.ends s.unit s.lower s.upper (ap not t.if-not-ends.false)))
    (three-put (texts t) (first (one c₂.before)) (second c₂.before) c.put_unit.ensures)
