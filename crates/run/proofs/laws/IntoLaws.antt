-- A text into a buffer: refused as short, and written at its front.
use Rattle.std.specs.Prelude.{◌≡◌, List, ℕ, ◌≤◌, ◌<◌, drop}
use Rattle.std.proofs.Common.{ap, ◌∙◌, arith, length-append}
use borrow.Author.Tests.{le-leb, lt-leb}
use Rattle.std.proofs.Math.ListN.{length}
use Rattle.text_printing.specs.code.Put.{Put}
use Rattle.text_printing.specs.laws.OverwrittenLaws.{overwritten-front}
use Rattle.set_refusal.specs.declared.Refusal.TheVariants.{Accepted, BufferTooShort}
use Rattle.sheet.specs.declared.Written.{Written}
use Rattle.run.specs.Run.{text_answer, text_buffer}

-- the answer, and the buffer after
abbrev pub Into : ℕ → List ℕ → List ℕ → Written → List ℕ → Type 0
Into need text buffer answer after =
    (answer ≡ text_answer need text (length buffer)) × (after ≡ text_buffer need text buffer)

module _ (need : ℕ) (text buffer : List ℕ) where
  pub into-short : length buffer < need → Into need text buffer (record { refusal = BufferTooShort; len = 0 }) buffer
  unfolding text_answer text_buffer
  into-short h = let q = lt-leb need (length buffer) h in (rw q, rw q)

  pub into-put : need ≤ length buffer → {after : List ℕ} {end : ℕ} → Put buffer 0 text after end
      → Into need text buffer (record { refusal = Accepted; len = end }) after
  unfolding text_answer text_buffer
  into-put h {end} put =
      let q = le-leb need (length buffer) h in
      let n : end ≡ length text = omega (arith, put.place) in
      (rw (q, n), put.whole ∙ rw q (overwritten-front buffer text))

-- a text at the front of a buffer ends within it
pub front-within : {before text after : List ℕ} {len : ℕ} → Put before 0 text after len → len ≤ length after
front-within {before} {text} put =
    let e = ap length (put.whole ∙ overwritten-front before text) in
    omega (arith, put.place, e, length-append text (drop (length text) before))
