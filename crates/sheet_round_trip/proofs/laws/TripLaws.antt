-- The two trips by cases, from the laws of a set and its sheet.
use Rattle.std.specs.Prelude.{◌≡◌, refl, Bool, true, false, cond, List, [], ◌++◌, ℕ, ◌≤◌, leb, eqb, length, take, drop}
use Rattle.std.proofs.Common.{sym, ◌∙◌, arith, ne_eqb, length-append}
use Rattle.std.specs.Float.Ieee.Bits.{is_true}
use Rattle.std.proofs.Math.Seq.{take-append_seam}
use Rattle.text_tokens.specs.Text.{bytes_of, take_text}
use Rattle.set_params.specs.declared.Params.{Params}
use Rattle.set_refusal.specs.declared.Refusal.TheVariants.{Accepted, Malformed, OutOfLimits, BufferTooShort}
use Rattle.sheet.specs.declared.Reading.{Reading}
use Rattle.sheet.specs.declared.Written.{Written}
use Rattle.set_refusal.specs.Refusals.{refusal_number}
use Rattle.set_refusal.specs.laws.RefusalLaws.{accepted as is-accepted}
use Rattle.set_params.specs.code.Runs.{Whole}
use Rattle.set_limits.specs.InLimits.{in_limits}
use Rattle.sheet.specs.Sheet.{table_text, sheet_text, read_either, read_table, read_front, nothing_after, read_set, refused, reading_of}
use Rattle.sheet.specs.Sheet.{read_sheet, write_refusal, written_length, write_answer, written_buffer}
use Rattle.sheet_writer.specs.laws.Answers.{Answers}
use Rattle.sheet.proofs.laws.SheetTrip.{written-reads-back, read-writes-back}
use Rattle.sheet_round_trip.specs.Trips.{accepted, read_back, copies, copied, copy_refusal, copy_answer}

-- ---- a set

-- an empty input is malformed
empty-malformed : read_sheet [] ≡ refused Malformed
unfolding read_sheet read_set nothing_after read_front read_table read_either table_text bytes_of take_text reading_of
empty-malformed = refl

-- what was written is within the buffer
pub written-within : (p : Params) (buffer : List ℕ) {answer : Written} {after : List ℕ}
    → Answers p buffer answer after → answer.len ≤ length after
unfolding write_answer written_length written_buffer
written-within p buffer (e, f) = rw (e, f) (go (in_limits p) (leb (length (sheet_text p)) (length buffer)))
  where
    go : (c d : Bool)
        → cond c (cond d (length (sheet_text p)) 0) 0
        ≤ length (cond c (cond d (sheet_text p ++ drop (length (sheet_text p)) buffer) buffer) buffer)
    go true true = rw (length-append (sheet_text p) (drop (length (sheet_text p)) buffer)) (omega arith)
    go true false = omega arith
    go false d = omega arith

-- reading what was written
pub read-back : (p : Params) → Whole p → (buffer : List ℕ) {answer : Written} {after : List ℕ}
    → Answers p buffer answer after → read_sheet (take answer.len after) ≡ read_back p (length buffer)
unfolding write_answer written_length written_buffer write_refusal read_back accepted refusal_number
read-back p w buffer (e, f) = rw (e, f) (go (in_limits p) refl (leb (length (sheet_text p)) (length buffer)))
  where
    go : (c : Bool) → in_limits p ≡ c → (d : Bool)
        → read_sheet (take (cond c (cond d (length (sheet_text p)) 0) 0)
        (cond c (cond d (sheet_text p ++ drop (length (sheet_text p)) buffer) buffer) buffer))
        ≡ cond (eqb (refusal_number (cond c (cond d Accepted BufferTooShort) OutOfLimits)) 0)
        (record { refusal = Accepted; set = p }) (refused Malformed)
    go true q true =
        rw (take-append_seam (sheet_text p) (drop (length (sheet_text p)) buffer)) (written-reads-back p w (rw q tt))
    go true q false = empty-malformed
    go false q d = empty-malformed

-- ---- a sheet

-- what is answered for a sheet, and the buffer after
abbrev pub Copies : List ℕ → List ℕ → Written → List ℕ → Type 0
Copies bs buffer answer after = (answer ≡ copy_answer bs (length buffer)) × (after ≡ copied bs buffer)

-- a refused sheet: its refusal, and the buffer as it was
pub not-copied : (bs buffer : List ℕ) {r : Reading} → r ≡ read_sheet bs → (refusal_number r.refusal ≡ 0 → ⊥)
    → Copies bs buffer (record { refusal = r.refusal; len = 0 }) buffer
unfolding copy_answer copy_refusal copied copies accepted
not-copied bs buffer e h =
    let q = ne_eqb (refusal_number (read_sheet bs).refusal) 0 (rw e at h) in
    (rw (e, q), rw q)

-- an accepted sheet: what the writer makes of its set is the sheet
pub copy : (bs buffer : List ℕ) {r : Reading} → r ≡ read_sheet bs → refusal_number r.refusal ≡ 0
    → {answer : Written} {after : List ℕ} → Answers r.set buffer answer after → Copies bs buffer answer after
unfolding copy_answer copy_refusal copied copies accepted write_answer write_refusal written_length written_buffer
copy bs buffer {r} e h (f, g) =
    let n : refusal_number (read_sheet bs).refusal ≡ 0 = rw (← e) h in
    let a = is-accepted r.refusal h in
    let x : read_sheet bs ≡ record { refusal = Accepted; set = r.set } = sym e ∙ rw (← a) in
    let (same, fits, whole) = read-writes-back bs r.set x in
    let l = is_true (in_limits r.set) fits in
    (rw (f, l, same, n), rw (g, l, same, n))
