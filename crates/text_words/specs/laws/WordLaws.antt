-- The eight bytes at a place of a list, and the word that they make up.
use Rattle.std.specs.Prelude.{◌≡◌, drop}
use Rattle.std.proofs.Math.Path.{refl, sym}
use Rattle.std.proofs.Common.{ap, ◌∙◌, add-zero, drop-cons, take-take}
use Prim.Native.Nat.{ℕ, zero, suc, ◌+◌, ◌≤◌, ◌<◌}
use Rattle.std.proofs.Math.Nat.{add-suc}
use native.Mathlib.Omega.{arith}
use mathlib.Core.List.{List, [], ◌∷◌}
use Rattle.std.proofs.Math.ListN.{length, get_or, take}
use Rattle.number_whole.specs.Listed.{listed}
use Rattle.text_words.specs.code.Word.{byte_bits, word_bytes, word_of, bytes_in, none, more}
use Rattle.text_words.specs.laws.LaneLaws.{lanes-of-sum, lanes-take}

-- n bytes from a place on, one by one
module _ (bytes : List ℕ) (at : ℕ) where
  run-from : (i n : ℕ) → at + i + n ≤ length bytes
      → take n (drop (at + i) bytes) ≡ listed (λ (j : ℕ). get_or bytes (at + j) 0) i n
  unfolding listed
  run-from i zero h = refl
  run-from i (suc n) h =
      let l : at + i < length bytes = omega arith in
      let e : suc (at + i) ≡ at + suc i = sym (add-suc at i) in
      rw (drop-cons bytes (at + i) 0 l)
      (ap (λ (r : List ℕ). get_or bytes (at + i) 0 ∷ r)
      (ap (λ (m : ℕ). take n (drop m bytes)) e ∙ run-from (suc i) n (omega (arith, add-suc at i))))

  abbrev eight : List ℕ
  eight =
      get_or bytes at 0 ∷ get_or bytes (at + 1) 0 ∷ get_or bytes (at + 2) 0 ∷ get_or bytes (at + 3) 0 ∷ get_or bytes (at + 4) 0
      ∷ get_or bytes (at + 5) 0 ∷ get_or bytes (at + 6) 0 ∷ get_or bytes (at + 7) 0 ∷ []

  pub eight-at : at + word_bytes ≤ length bytes → take word_bytes (drop at bytes) ≡ eight
  unfolding listed
  eight-at h = rw (add-zero at) at (run-from 0 8 (omega arith))

  -- their word has these bytes
  pub eight-in : at + word_bytes ≤ length bytes → ((i : ℕ) → get_or bytes i 0 < 256) → (w : ℕ) → w ≡ word_of eight
      → bytes_in word_bytes w ≡ take word_bytes (drop at bytes)
  eight-in h b w e =
      ap (bytes_in word_bytes) e
      ∙ lanes-of-sum byte_bits word_bytes
      (more (b at) (more (b (at + 1)) (more (b (at + 2)) (more (b (at + 3)) (more (b (at + 4)) (more (b (at + 5))
      (more (b (at + 6)) (more (b (at + 7)) none))))))))
      (omega arith)
      ∙ sym (eight-at h)

-- the first n bytes of a word that was read
pub word-front : (bs : List ℕ) (w n : ℕ) → bytes_in word_bytes w ≡ take word_bytes bs → n ≤ word_bytes → bytes_in n w ≡ take n bs
word-front bs w n e h =
    sym (lanes-take byte_bits n word_bytes w h) ∙ ap (take n) e ∙ take-take n word_bytes bs h
