-- What the call of the run gives and leaves.
use Rattle.std.specs.Prelude.{◌≡◌, refl, ℕ, Bool, true, false, cond, List, eqb, leb, length}
use Rattle.std.proofs.Common.{ap, ◌∙◌}
use Rattle.set_refusal.specs.declared.Refusal.TheVariants.{Accepted, BufferTooShort}
use Rattle.set_refusal.specs.Refusals.{refusal_number}
use Rattle.sheet.specs.declared.Written.{Written}
use Rattle.run_line.specs.Line.{longest_line}
use Rattle.run.specs.declared.Program.{Program}
use Rattle.run.specs.Run.{text_answer}
use Rattle.run.proofs.laws.IntoLaws.{Into}
use Rattle.run.specs.Run.{run_of, run_room}
use Rattle.c_set_numbers.specs.code.Code.{told_length}
use Rattle.c_set_numbers.specs.laws.AnswerLaws.{Told}
use Rattle.kulfizan.specs.Run.{program_of, room_for, run_no, run_buffer, run_length}

-- the number, the buffer and the length after a run
abbrev pub Ran : List ℕ → ℕ → List ℕ → ℕ → ℕ → List ℕ → ℕ → Type 0
Ran input ends buffer len answer after told =
    (answer ≡ run_no input (length buffer))
    × ((after ≡ run_buffer input ends buffer) × (told ≡ run_length input ends (length buffer) len))

-- the run's length is told where there is room
told-length : (need : ℕ) (text : List ℕ) (room before : ℕ)
    → told_length (text_answer need text room) before ≡ cond (leb need room) (length text) before
unfolding told_length text_answer refusal_number
told-length need text room before = go (leb need room)
  where
    go : (b : Bool) → cond (eqb (refusal_number (cond b Accepted BufferTooShort)) 0) (cond b (length text) 0) before
        ≡ cond b (length text) before
    go true = refl
    go false = refl

-- the room does not depend on the ends
room-same : (ends n : ℕ) → run_room (program_of ends) n ≡ room_for n
unfolding program_of run_room room_for longest_line
room-same ends n = refl

pub run-told : (input : List ℕ) (ends : ℕ) (buffer : List ℕ) (len : ℕ) {program : Program} → program ≡ program_of ends
    → {got : Written} {after : List ℕ} → Into (run_room program (length input)) (run_of program input) buffer got after
    → {number told : ℕ} → Told got len number told → Ran input ends buffer len number after told
unfolding run_no run_buffer run_length text_answer
run-told input ends buffer len f {got} {after} w n =
    let v : Into (room_for (length input)) (run_of (program_of ends) input) buffer got after =
    rw (← room-same ends (length input), ← f) w in
    let t = told-length _ (run_of (program_of ends) input) (length buffer) len in
    let k = n.1 ∙ ap (λ (g : Written). told_length g len) v.0 ∙ t in
    (n.0 ∙ ap (λ (g : Written). refusal_number g.refusal) v.0, (v.1, k))
