-- A number's last digits written from the last one backward: what holds after each digit.
use mathlib.Core.Path.{◌≡◌, refl, sym, ap, ◌∙◌}
use mathlib.Core.List.{List, [], ◌∷◌, ◌++◌, append_assoc, append-nil}
use Prim.Native.Nat.{ℕ, suc, ◌+◌, ◌-◌, ◌/◌, ◌%◌, ◌≤◌, ◌<◌}
use native.Mathlib.Omega.{arith}
use lib.ListN.{length, set, length-append, length-set}
use Rattle.text_tokens.specs.Number.{zero_digit}
use Rattle.text_printing.specs.code.Overwritten.{overwritten}
use Rattle.text_printing.specs.laws.OverwrittenLaws.{overwritten-none, overwritten-previous}
use Rattle.text_printing.specs.code.Put.{Room, Put}
use Rattle.run_figure_text.specs.FigureText.{last_digits}
use Rattle.run_figure_text.proofs.laws.FigureTextLaws.{last-length}

-- the last digits of n are written from the place at + left on, and so many of the rest are still to come
pub record Tail (buffer₀ : List ℕ) (at d n : ℕ) (buffer : List ℕ) (rest left : ℕ) : Type 0 where
  pub size : length buffer ≡ length buffer₀
  pub digits : List ℕ
  pub whole : last_digits d n ≡ last_digits left rest ++ digits
  pub done : buffer ≡ overwritten buffer₀ (at + left) digits

-- before the first digit
pub tail_none : (buffer : List ℕ) (at d n : ℕ) → Tail buffer at d n buffer n d
tail_none buffer at d n =
    record {
      size = refl;
      digits = [];
      whole = sym (append-nil (last_digits d n));
      done = sym (overwritten-none buffer (at + d));
    }

module _ {buffer₀ : List ℕ} {at d n : ℕ} {buffer : List ℕ} {rest left : ℕ}
    (t : Tail buffer₀ at d n buffer rest left) (room : Room buffer₀ at (last_digits d n)) where
  -- the written digits have room after those that are to come
  pub tail-room : at + left + length t.digits ≤ length buffer₀
  tail-room =
      omega (arith, room.fits, last-length left rest, simp length-append at (ap length t.whole))

  -- no digit is left
  pub tail-put : left ≡ 0 → Put buffer₀ at (last_digits d n) buffer (at + d)
  unfolding last_digits
  tail-put e =
      let w : last_digits d n ≡ t.digits = t.whole ∙ ap (λ (k : ℕ). last_digits k rest ++ t.digits) e in
      let p : at + left ≡ at = omega arith in
      record {
        place = omega (arith, last-length d n);
        whole = rw (w, ← p) t.done;
      }

  -- the last digit of the rest
  pub tail_more : 0 < left → Tail buffer₀ at d n (set buffer (at + (left - 1)) (zero_digit + rest % 10)) (rest / 10) (left - 1)
  unfolding last_digits
  tail_more h =
      let b = zero_digit + rest % 10 in
      let k = left - 1 in
      let e : left ≡ suc k = omega arith in
      let w = ap (λ (j : ℕ). last_digits j rest ++ t.digits) e in
      let p : at + left ≡ suc (at + k) = omega arith in
      let r : suc (at + k) + length t.digits ≤ length buffer₀ = omega (arith, tail-room) in
      record {
        size = simp length-set t.size;
        digits = b ∷ t.digits;
        whole = t.whole ∙ w ∙ append_assoc (last_digits k (rest / 10)) (b ∷ []) t.digits;
        done = rw (t.done, p) (overwritten-previous buffer₀ (at + k) t.digits b r);
      }
