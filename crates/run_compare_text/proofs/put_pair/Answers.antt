-- `put_pair` meets its contract: the two figures, the values, their unit and the line feed, one right after the other.
use borrow.Author.Rules.{rules}
use mathlib.Core.List.{List, ◌++◌}
use Prim.Native.Nat.{ℕ}
use Rattle.text_tokens.specs.Text.{bytes_of}
use Rattle.text_printing.specs.laws.PutLaws.{put_of, Three, three-first, three-second, three_third, three-put}
use Rattle.run_figure_text.specs.FigureText.{shown_text}
use Rattle.run_figure_text.proofs.laws.FigureTextLaws.{short-printable}
use Rattle.run_answer_text.specs.AnswerText.{unit_text}
use Rattle.run_compare_text.specs.CompareText.{values_text, pair_text}
use Rattle.run_compare_text.proofs.put_pair.Goals as goal
use Rattle.run_compare_text.proofs.put_pair.Goals.{After-put_shown-place, Start, After-put_shown-told, After-put_values-valued, After-put_unit-end}

-- ---- the place before, seen from each text

abbrev start : After-put_shown-place → Start
start c = c.before.before.before

abbrev one : After-put_shown-told → After-put_shown-place
one c = c.before.before.before.before

abbrev two : After-put_values-valued → After-put_shown-told
two c = c.before.before.before.before

abbrev three : After-put_unit-end → After-put_values-valued
three c = c.before.before.before.before

-- ---- the texts have room

abbrev values : Start → List ℕ
values s = values_text s.args.pair.values

abbrev unit : Start → List ℕ
unit s = unit_text s.args.pair.unit

texts : (s : Start) → let a = s.args in
    Three a.buffer.now a.at (shown_text a.decimals a.pair.first) (shown_text a.decimals a.pair.second)
    (values s ++ (unit s ++ bytes_of "\n"))
unfolding pair_text
texts s = record { room = s.requires.1 }

ended : (c : After-put_shown-told) → let s = start (one c) in
    Three c.put_shown-told.new.buffer c.put_shown-told.result (values s) (unit s) (bytes_of "\n")
ended c = record { room = three_third (texts (start (one c))) (one c).put_shown-place.ensures c.put_shown-told.ensures }

-- ---- the needs

pub put_shown-place-requires : goal.put_shown-place-requires
put_shown-place-requires c = let s = c.before.before in (short-printable _ s.requires.0.first, three-first (texts s))

pub put_shown-told-requires : goal.put_shown-told-requires
put_shown-told-requires c =
    let c₁ = c.before.before.before in
    (short-printable _ (start c₁).requires.0.second, three-second (texts (start c₁)) c₁.put_shown-place.ensures)

pub put_values-valued-requires : goal.put_values-valued-requires
put_values-valued-requires c =
    let c₂ = c.before.before.before in
    ((start (one c₂)).requires.0.values, three-first (ended c₂))

pub put_unit-end-requires : goal.put_unit-end-requires
put_unit-end-requires c =
    let c₃ = c.before.before.before in
    three-second (ended (two c₃)) c₃.put_values-valued.ensures

pub put_text-requires : goal.put_text-requires
unfolding bytes_of
put_text-requires c =
    let c₄ = c.before.before.before.before in
    let c₃ = three c₄.before in
    (three_third (ended (two c₃)) c₃.put_values-valued.ensures c₄.put_unit-end.ensures).fits

pub returns : goal.returns
unfolding pair_text bytes_of
returns c =
    let c₄ = c.before.before.before.before.before.before.before in
    let c₃ = three c₄.before.before in
    let c₂ = two c₃ in
    let last = three-put (ended c₂) c₃.put_values-valued.ensures c₄.put_unit-end.ensures (put_of c.put_text.ensures) in
    three-put (texts (start (one c₂))) (one c₂).put_shown-place.ensures c₂.put_shown-told.ensures last
