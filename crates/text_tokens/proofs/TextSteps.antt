-- The test of a text, byte by byte: after i bytes that agree it is the test of what is left of the text, i places on.
use mathlib.Core.Path.{◌≡◌, refl, sym, ap, ap₂, ◌∙◌}
use Prim.Native.Nat.{ℕ, suc, ◌+◌, ◌-◌, ◌≤◌, ◌<◌}
use native.Mathlib.Nat.{add-zero, add-suc}
use native.Mathlib.Numerals.{add-one}
use native.Mathlib.Omega.{arith}
use mathlib.Core.Bool.{Bool, true, false}
use mathlib.Core.List.{List, [], ◌∷◌, ◌++◌}
use borrow.Author.Tests.{eqb-true, eqb-false}
use lib.Dec.{eqb}
use lib.ListN.{length, get_or, take, drop, length-drop, take-append-drop}
use lib.Seq.{drop-cons, drop-drop, drop-length, take_all, take-append-le}
use Rattle.text_words.specs.code.Word.{word_bytes, bytes_in}
use Rattle.text_words.specs.code.ShortText.{Tells}
use Rattle.text_words.specs.laws.WordLaws.{word-front}
use Rattle.text_tokens.specs.Text.{take_text, is_taken}
use Rattle.text_tokens.specs.laws.TextLaws.{take_text-match, take_text-clash, take_text-whole, take_text-behind, text-found, take_text-room}
use Rattle.text_tokens.specs.code.Places.{text_at}

-- no byte of the text is compared yet
pub text-start : (bytes : List ℕ) (at : ℕ) (text : List ℕ) → text_at bytes at text ≡ text_at bytes (at + 0) (drop 0 text)
text-start bytes at text = rw (add-zero at)

module _ (bytes : List ℕ) (at : ℕ) (text : List ℕ) where
  -- there are fewer bytes than the text has
  pub text-short : length bytes - at < length text → text_at bytes at text ≡ false
  text-short h = go (text_at bytes at text) refl
    where
      go : (b : Bool) → text_at bytes at text ≡ b → b ≡ false
      go false e = refl
      go true e =
          absurd
          (omega (arith, take_text-room text (drop at bytes) (text-found bytes at text e), length-drop at bytes))

  module _ (i n : ℕ) (k : i + n ≤ length text) where
    -- the next n bytes agree, or they do not
    pub text-run : take n (drop (at + i) bytes) ≡ take n (drop i text)
        → text_at bytes (at + i) (drop i text) ≡ text_at bytes (at + (i + n)) (drop (i + n) text)
    unfolding text_at
    text-run e =
        let t = sym (take-append-drop n (drop i text)) in
        let b = sym (take-append-drop n (drop (at + i) bytes)) in
        let q : at + i + n ≡ at + (i + n) = omega arith in
        ap is_taken
        (ap (λ (l : List ℕ). take_text l (drop (at + i) bytes)) t
        ∙ ap (take_text (take n (drop i text) ++ drop n (drop i text))) (b ∙ ap (λ (l : List ℕ). l ++ drop n (drop (at + i) bytes)) e)
        ∙ take_text-behind (take n (drop i text)) (drop n (drop i text)) (drop n (drop (at + i) bytes))
        ∙ ap₂ take_text (drop-drop n i text) (drop-drop n (at + i) bytes ∙ ap (λ (m : ℕ). drop m bytes) q))

    pub text-other : (take n (drop (at + i) bytes) ≡ take n (drop i text) → ⊥)
        → text_at bytes (at + i) (drop i text) ≡ false
    text-other d = go (text_at bytes (at + i) (drop i text)) refl
      where
        go : (b : Bool) → text_at bytes (at + i) (drop i text) ≡ b → b ≡ false
        go false e = refl
        go true e =
            let w = take_text-whole (drop i text) (drop (at + i) bytes) (text-found bytes (at + i) (drop i text) e) in
            absurd (d (ap (take n) w ∙ take-append-le n (drop i text) _ (omega (arith, length-drop i text))))

  -- every byte is compared
  pub text-end : (i : ℕ) → length text ≤ i → i ≤ length text → text_at bytes (at + i) (drop i text) ≡ true
  unfolding text_at take_text
  text-end i h k = let e : i ≡ length text = omega arith in rw (e, drop-length text)

  module _ (i : ℕ) (h : at + i < length bytes) (k : i < length text) where
    -- the next byte agrees, or it does not
    pub text-next : get_or bytes (at + i) 0 ≡ get_or text i 0
        → text_at bytes (at + i) (drop i text) ≡ text_at bytes (at + (i + 1)) (drop (i + 1) text)
    unfolding text_at
    text-next e =
        rw (add-one i, add-suc at i, drop-cons text i 0, drop-cons bytes (at + i) 0)
        (ap is_taken (take_text-match (drop (suc i) text) (drop (suc (at + i)) bytes) e))

    pub text-differs : (get_or bytes (at + i) 0 ≡ get_or text i 0 → ⊥) → text_at bytes (at + i) (drop i text) ≡ false
    unfolding text_at
    text-differs e =
        rw (drop-cons text i 0, drop-cons bytes (at + i) 0)
        (ap is_taken (take_text-clash (drop (suc i) text) (drop (suc (at + i)) bytes) e))

-- one byte
pub byte-there : (bytes : List ℕ) (at b : ℕ) → at < length bytes → eqb (get_or bytes at 0) b ≡ text_at bytes at (b ∷ [])
unfolding text_at take_text
byte-there bytes at b h = go (eqb (get_or bytes at 0) b) refl
  where
    go : (x : Bool) → eqb (get_or bytes at 0) b ≡ x → x ≡ text_at bytes at (b ∷ [])
    go true e =
        rw (drop-cons bytes at 0 h)
        (sym (ap is_taken (take_text-match [] (drop (suc at) bytes) (eqb-true (get_or bytes at 0) b e))))
    go false e =
        rw (drop-cons bytes at 0 h)
        (sym (ap is_taken (take_text-clash [] (drop (suc at) bytes) (eqb-false (get_or bytes at 0) b e))))

-- what a comparison with the word at the place says of a text of n bytes
pub word-says : (bytes : List ℕ) (at : ℕ) (text : List ℕ) (w n : ℕ) {r : Bool}
    → bytes_in word_bytes w ≡ take word_bytes (drop at bytes) → length text ≡ n → n ≤ word_bytes
    → Tells r (bytes_in n w ≡ text) → r ≡ text_at bytes at text
word-says bytes at text w n {r} e l h t = go r refl
  where
    front : bytes_in n w ≡ take n (drop (at + 0) bytes)
    front = word-front (drop at bytes) w n e h ∙ ap (λ (i : ℕ). take n (drop i bytes)) (sym (add-zero at))

    whole : take n (drop 0 text) ≡ text
    whole = take_all n text (omega arith)

    go : (b : Bool) → r ≡ b → b ≡ text_at bytes at text
    go true q =
        sym
        (text-start bytes at text ∙ text-run bytes at text 0 n (omega arith) (sym front ∙ t.yes q ∙ sym whole)
        ∙ text-end bytes at text (0 + n) (omega arith) (omega arith))
    go false q =
        sym
        (text-start bytes at text
        ∙ text-other bytes at text 0 n (omega arith) (λ d. t.no q (front ∙ d ∙ whole)))
