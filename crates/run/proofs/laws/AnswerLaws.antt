-- The answers to the lines of an input, written one after the other from the front of a buffer: none yet, one more, and all.
use Rattle.std.specs.Prelude.{◌≡◌, refl, ℕ, suc, ◌+◌, ◌-◌, ◌*◌, ◌≤◌, ◌<◌, get_or, take}
use Rattle.std.proofs.Common.{sym, ◌∙◌, arith, length-append}
use Rattle.std.proofs.Math.Path.{ap}
use mathlib.Core.List.{List, [], ◌∷◌, ◌++◌, append_assoc, append-nil}
use Rattle.std.proofs.Math.ListN.{length, drop}
use Rattle.std.proofs.Math.Seq.{drop-cons, drop-drop, drop-length}
use Rattle.text_printing.specs.code.Put.{Room, Put}
use Rattle.text_printing.specs.laws.PutLaws.{put-none, put_as, put-join, put-length}
use Rattle.text_lines.specs.Lines.{first_line, after_line, lines}
use Rattle.text_lines.proofs.laws.LineLaws.{after-drop, line-some, line-take, lines_none, lines-first, place-within}
use Rattle.run_answer_text.proofs.laws.LineLaws.{Bounded}
use Rattle.run.specs.Run.{answers_to, answers_from}

-- ---- definitions

-- the line at a place
abbrev pub line_at : List ℕ → ℕ → List ℕ
line_at input at = first_line (drop at input)

-- the answers to the lines from `at` to `next` stand at the front of the buffer
pub record Going (answer : List ℕ → List ℕ) (input : List ℕ) (at : ℕ) (before after : List ℕ) (next len : ℕ) : Type 0 where
  pub text : List ℕ
  pub put : Put before 0 text after len
  pub kept : length after ≡ length before
  pub whole : text ++ answers_from answer input next ≡ answers_from answer input at
  pub within : next ≤ length input
  pub fivefold : len ≤ 5 * next

-- ---- the answers from a place on

module _ (input : List ℕ) (at : ℕ) (h : at < length input) where
  pub line-here : 0 < length (line_at input at)
  line-here = rw (drop-cons input at 0 h) (line-some (get_or input at 0) (drop (suc at) input))

  -- the answer to the line there, and those to the lines after it
  answers_next : (answer : List ℕ → List ℕ) → answers_from answer input at
      ≡ answer (line_at input at) ++ answers_from answer input (at + length (line_at input at))
  unfolding answers_to
  answers_next answer =
      let e = drop-cons input at 0 h in
      let l = line_at input at in
      let f : after_line (drop at input) ≡ drop (at + length l) input =
      after-drop (drop at input) ∙ drop-drop (length l) at input in
      let g : lines (drop at input) ≡ l ∷ lines (after_line (drop at input)) =
      rw e (lines-first (get_or input at 0) (drop (suc at) input)) in
      ap (answers_to answer) g ∙ ap (λ (bs : List ℕ). answer l ++ answers_to answer (lines bs)) f

-- at the end there are none
answers-end : (answer : List ℕ → List ℕ) (input : List ℕ) → answers_from answer input (length input) ≡ []
unfolding answers_to
answers-end answer input = rw (drop-length input, lines_none)

-- ---- as they are written

-- none yet
pub going-none : (answer : List ℕ → List ℕ) (input : List ℕ) (at : ℕ) (before : List ℕ) → at ≤ length input
    → Going answer input at before before at 0
going-none answer input at before h =
    record { text = []; put = put-none before 0; kept = refl; whole = refl; within = h; fivefold = omega arith }

module _ {longest : ℕ} {answer : List ℕ → List ℕ} (b : Bounded longest answer) {input : List ℕ} {at : ℕ} {before out : List ℕ}
    {next len : ℕ} (room : 5 * length input + longest ≤ length before) (h : next < length input)
    (g : Going answer input at before out next len) where
  -- the next answer has room
  pub going-room : len + longest ≤ length out
  going-room = omega (arith, g.fivefold, g.kept)

  -- one more
  pub going_more : {end : ℕ} → end ≡ next + length (line_at input next) → {after : List ℕ} {place : ℕ}
      → Put out len (answer (take (end - next) (drop next input))) after place → Going answer input at before after end place
  going_more {end} e {after} {place} put =
      let l = line_at input next in
      let a = answer l in
      let n : end - next ≡ length l = omega (arith, e) in
      let line : take (end - next) (drop next input) ≡ l = rw n (line-take (drop next input)) in
      let added : Put out len a after place = put_as (ap answer line) put in
      let fits : Room before 0 (g.text ++ a) =
      record { fits = omega (arith, length-append g.text a, g.put.place, b.most l, going-room, g.kept) } in
      let joined = put-join g.put added fits in
      rw e record {
        text = g.text ++ a;
        put = joined;
        kept = put-length joined fits;
        whole =
            append_assoc g.text a (answers_from answer input (next + length l))
            ∙ ap (λ (t : List ℕ). g.text ++ t) (sym (answers_next input next h answer)) ∙ g.whole;
        within = place-within input next g.within;
        fivefold = omega (arith, added.place, g.fivefold, b.fivefold l (line-here input next h));
      }

-- all, where no line is left
pub going-all : {answer : List ℕ → List ℕ} {input : List ℕ} {at : ℕ} {before after : List ℕ} {next len : ℕ}
    → Going answer input at before after next len → length input ≤ next → Put before 0 (answers_from answer input at) after len
going-all {answer} {input} {next} g l =
    let last : next ≡ length input = omega (arith, g.within) in
    let none : answers_from answer input next ≡ [] = rw last (answers-end answer input) in
    put_as (sym (append-nil g.text) ∙ ap (λ (t : List ℕ). g.text ++ t) (sym none) ∙ g.whole) g.put
