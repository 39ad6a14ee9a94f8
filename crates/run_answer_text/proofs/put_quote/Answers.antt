-- `put_quote` meets its contract: the ends, the figure and the line feed, one right after the other.
use borrow.Author.Rules.{rules}
use Rattle.text_tokens.specs.Text.{bytes_of}
use Rattle.text_printing.specs.code.Put.{Put}
use Rattle.text_printing.specs.laws.PutLaws.{put_of, Three, three-first, three-second, three_third, three-put}
use Rattle.run_figure_text.specs.FigureText.{shown_text}
use Rattle.run_figure_text.proofs.laws.FigureTextLaws.{short-printable}
use Rattle.run_answer_text.specs.AnswerText.{ends_text, quote_text}
use Rattle.run_answer_text.proofs.put_quote.Goals as goal
use Rattle.run_answer_text.proofs.put_quote.Goals.{After-put_ends-place, Start, After-put_shown-end}

-- ---- the place before, seen from each text

abbrev start : After-put_ends-place → Start
start c = c.before.before.before

abbrev first : After-put_shown-end → After-put_ends-place
first c = c.before.before.before.before

-- ---- the three texts have room, and the first is written

texts : (s : Start) → let a = s.args in
    Three a.buffer.now a.at (ends_text a.ends a.quote.unit a.quote.lower a.quote.upper)
    (shown_text a.decimals a.quote.figure) (bytes_of "\n")
unfolding quote_text
texts s = record { room = s.requires.1 }

ends : (c : After-put_ends-place) → let s = (start c).args in
    Put s.buffer.now s.at (ends_text s.ends s.quote.unit s.quote.lower s.quote.upper) c.put_ends-place.new.buffer
    c.put_ends-place.result
ends c = c.put_ends-place.ensures

-- ---- the needs

pub put_ends-place-requires : goal.put_ends-place-requires
put_ends-place-requires c = let s = c.before.before in (s.requires.0.lower, s.requires.0.upper, three-first (texts s))

pub put_shown-end-requires : goal.put_shown-end-requires
put_shown-end-requires c =
    let c₁ = c.before.before.before in
    (short-printable _ (start c₁).requires.0.figure, three-second (texts (start c₁)) (ends c₁))

pub put_text-requires : goal.put_text-requires
unfolding bytes_of
put_text-requires c =
    let c₂ = c.before.before.before.before in
    let c₁ = first c₂.before in
    (three_third (texts (start c₁)) (ends c₁) c₂.put_shown-end.ensures).fits

pub returns : goal.returns
unfolding quote_text bytes_of
returns c =
    let c₂ = c.before.before.before.before.before.before.before in
    let c₁ = first c₂.before.before in
    let last = put_of c.put_text.ensures in
    three-put (texts (start c₁)) (ends c₁) c₂.put_shown-end.ensures last
