-- What the writer answers, and what it leaves in the buffer, in each of its three cases.
use Rattle.std.specs.Prelude.{◌≡◌, true, false, List, ℕ, ◌≤◌, ◌<◌}
use Rattle.std.proofs.Common.{◌∙◌, arith}
use borrow.Author.Tests.{le-leb, lt-leb}
use Rattle.std.proofs.Math.ListN.{length}
use Rattle.text_printing.specs.laws.OverwrittenLaws.{overwritten-front}
use Rattle.set_params.specs.declared.Params.{Params}
use Rattle.sheet.specs.declared.Written.{Written}
use Rattle.set_refusal.specs.declared.Refusal.TheVariants.{Accepted, OutOfLimits, BufferTooShort}
use Rattle.set_limits.specs.InLimits.{in_limits}
use Rattle.sheet.specs.Sheet.{sheet_text, write_refusal, written_length, write_answer, written_buffer}
use Rattle.text_printing.specs.code.Put.{Put}

-- the answer, and the buffer after
abbrev pub Answers : Params → List ℕ → Written → List ℕ → Type 0
Answers p buffer answer after = (answer ≡ write_answer p (length buffer)) × (after ≡ written_buffer p buffer)

module _ (p : Params) (buffer : List ℕ) where
  pub out-of-limits : in_limits p ≡ false → Answers p buffer (record { refusal = OutOfLimits; len = 0 }) buffer
  unfolding write_refusal written_length write_answer written_buffer
  out-of-limits e = (rw e, rw e)

  pub short : in_limits p ≡ true → length buffer < length (sheet_text p)
      → Answers p buffer (record { refusal = BufferTooShort; len = 0 }) buffer
  unfolding write_refusal written_length write_answer written_buffer
  short e h = let q = lt-leb (length (sheet_text p)) (length buffer) h in (rw (e, q), rw (e, q))

  pub accepted : in_limits p ≡ true → length (sheet_text p) ≤ length buffer → {after : List ℕ} {end : ℕ}
      → Put buffer 0 (sheet_text p) after end → Answers p buffer (record { refusal = Accepted; len = end }) after
  unfolding write_refusal written_length write_answer written_buffer
  accepted e h {end} put =
      let q = le-leb (length (sheet_text p)) (length buffer) h in
      let n : end ≡ length (sheet_text p) = omega (arith, put.place) in
      (rw (e, q, n), put.whole ∙ (rw (e, q) (overwritten-front buffer (sheet_text p))))
