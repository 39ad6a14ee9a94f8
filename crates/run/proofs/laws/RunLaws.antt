-- What is printed of an input, by whether its front is refused; and the room for it.
use Rattle.std.specs.Prelude.{◌≡◌, List, ◌++◌, ℕ, ◌+◌, ◌*◌, ◌≤◌, ◌<◌, length}
use Rattle.std.proofs.Common.{◌∙◌, arith, eq-eqb, ne_eqb}
use Rattle.std.proofs.Math.Decide.{dec_lt}
use Rattle.text_tokens.specs.Text.{bytes_of}
use Rattle.text_tokens.specs.Number.{unsigned_text}
use Rattle.text_tokens.specs.laws.DecimalLaws.{text-small}
use Rattle.set_refusal.specs.declared.Refusal.{Refusal}
use Rattle.set_refusal.specs.Refusals.{refusal_number}
use Rattle.run_answer_text.specs.AnswerText.{refusal_line, refused_text}
use Rattle.run_answer_text.proofs.laws.Lengths.{refusal-length, refused-length}
use Rattle.run_sheets.specs.declared.Front.{Front}
use Rattle.run_sheets.specs.Front.{front_of}
use Rattle.run_line.specs.declared.Mode.{Mode}
use Rattle.run_line.specs.Line.{line_answer}
use Rattle.run_line.specs.code.Sizes.{most_line}
use Rattle.run_line.proofs.laws.ReplyLaws.{longest-between}
use Rattle.run.specs.declared.Program.{Program}
use Rattle.run.specs.declared.Program.TheVariants.{Lines, Verdict}
use Rattle.run.specs.Run.{answers_from}
use Rattle.run.specs.Run.{sheets_by, refused_run, output_of, lines_run, run_room}

-- ---- a refused front

module _ (named : ℕ) (r : Refusal) where
  pub not_named : named ≡ 0 → refused_run named r ≡ refusal_line r
  unfolding refused_run
  not_named e = rw (eq-eqb named 0 e)

  pub by_name : (named ≡ 0 → ⊥) → refused_run named r ≡ (bytes_of "sheet=" ++ unsigned_text named) ++ refused_text r
  unfolding refused_run
  by_name n = rw (ne_eqb named 0 n)

-- no longer than `sheet=1 no=` with two digits and the line feed
pub line-length : (named : ℕ) (r : Refusal) → named < 10 → length (refused_run named r) ≤ 14
unfolding bytes_of
line-length named r h =
    elim (dec_lt 0 named) [
      | yes l ↦ rw (by_name named r (λ q. absurd (omega arith)), text-small named h) (omega (arith, refused-length r))
      | no l ↦ rw (not_named named r (omega arith)) (omega (arith, refusal-length r))
    ]

-- ---- a program of lines

module _ (mode : Mode) (input : List ℕ) {f : Front} (e : f ≡ front_of (sheets_by mode) input) where
  lines-by : lines_run mode input ≡ output_of mode f input
  unfolding lines_run
  lines-by = rw e

  pub lines-refused : (refusal_number f.refusal ≡ 0 → ⊥) → lines_run mode input ≡ refused_run f.named f.refusal
  unfolding output_of
  lines-refused n = lines-by ∙ rw (ne_eqb (refusal_number f.refusal) 0 n)

  -- accepted, the lines from where it ends are answered
  pub lines-answered : refusal_number f.refusal ≡ 0
      → lines_run mode input ≡ answers_from (line_answer mode f.first f.second) input f.next
  unfolding output_of
  lines-answered n = lines-by ∙ rw (eq-eqb (refusal_number f.refusal) 0 n)

-- ---- room that serves every program

pub room_most : (program : Program) (n : ℕ) → run_room program n ≤ 5 * n + most_line
unfolding run_room
room_most (Lines mode) n = omega (arith, longest-between mode)
room_most Verdict n = omega arith
