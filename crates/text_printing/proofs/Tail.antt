-- A number's digits written from the last one backward: what holds after each digit.
use mathlib.Core.Path.{◌≡◌, refl, sym, ap, ◌∙◌}
use mathlib.Core.List.{List, [], ◌∷◌, ◌++◌, append_assoc, append-nil}
use Prim.Native.Nat.{ℕ, suc, ◌+◌, ◌-◌, ◌/◌, ◌%◌, ◌^◌, ◌≤◌, ◌<◌}
use native.Mathlib.Omega.{arith}
use lib.ListN.{length, set, length-append, length-set}
use Rattle.text_tokens.specs.Number.{zero_digit, most_digits, unsigned_text}
use Rattle.text_printing.specs.laws.NumberLengths.{text-small, text-step, unsigned-length}
use Rattle.text_printing.specs.code.Overwritten.{overwritten}
use Rattle.text_printing.specs.laws.OverwrittenLaws.{overwritten-none, overwritten-previous}

-- the last digits of n are written after the place, and those of the rest are still to come, the last of them at the
-- place
pub record Tail (buffer₀ : List ℕ) (at n : ℕ) (buffer : List ℕ) (place rest : ℕ) : Type 0 where
  pub small : rest < 10 ^ most_digits
  pub here : suc place ≡ at + length (unsigned_text rest)
  pub size : length buffer ≡ length buffer₀
  pub digits : List ℕ
  pub whole : unsigned_text n ≡ unsigned_text rest ++ digits
  pub done : buffer ≡ overwritten buffer₀ (suc place) digits

-- before the first digit
pub tail_none : (buffer : List ℕ) (at n place : ℕ) → n < 10 ^ most_digits → suc place ≡ at + length (unsigned_text n)
    → Tail buffer at n buffer place n
tail_none buffer at n place h e =
    record {
      small = h;
      here = e;
      size = refl;
      digits = [];
      whole = sym (append-nil (unsigned_text n));
      done = sym (overwritten-none buffer (suc place));
    }

module _ {buffer₀ : List ℕ} {at n : ℕ} {buffer : List ℕ} {place rest : ℕ}
    (t : Tail buffer₀ at n buffer place rest) (room : at + length (unsigned_text n) ≤ length buffer₀) where
  -- the written digits have room after the place
  tail-room : suc place + length t.digits ≤ length buffer₀
  tail-room = omega (arith, t.here, simp length-append at (ap length t.whole))

  -- one digit more
  stored : (b : ℕ) → set buffer place b ≡ overwritten buffer₀ place (b ∷ t.digits)
  stored b = rw t.done (overwritten-previous buffer₀ place t.digits b tail-room)

  -- the place is within the buffer
  pub tail_within : place < length buffer
  tail_within = omega (arith, tail-room, t.size)

  -- a rest that has more digits leaves a place before this one
  pub tail-further : 10 ≤ rest → 1 ≤ place
  tail-further h =
      let e = simp length-append at (ap length (text-step rest h t.small)) in
      omega (arith, t.here, unsigned-length (rest / 10))

  -- the last digit of a rest that has more
  pub tail_more : 10 ≤ rest → Tail buffer₀ at n (set buffer place (zero_digit + rest % 10)) (place - 1) (rest / 10)
  tail_more h =
      let d = zero_digit + rest % 10 in
      let e = text-step rest h t.small in
      let k = simp length-append at (ap length e) in
      let p : suc (place - 1) ≡ place = omega (arith, tail-further h) in
      record {
        small = omega (arith, t.small);
        here = omega (arith, t.here);
        size = simp length-set t.size;
        digits = d ∷ t.digits;
        whole = t.whole ∙ rw (e, append_assoc);
        done = rw p (stored d);
      }

  -- the first digit
  pub tail-last : rest < 10 → set buffer place (zero_digit + rest) ≡ overwritten buffer₀ at (unsigned_text n)
  tail-last h =
      let e = text-small rest h in
      let p : place ≡ at = omega (arith, t.here, ap length e) in
      rw (t.whole, e, ← p) (stored (zero_digit + rest))
