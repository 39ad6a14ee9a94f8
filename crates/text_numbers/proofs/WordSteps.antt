-- The digits from a place on by words: they stop in the first word, or fill it and go on in the second; then the last eight
-- stand in the word that begins as many bytes on as the second has digits.
use mathlib.Core.Path.{◌≡◌, sym, ap, ap₂, ◌∙◌}
use Prim.Native.Nat.{ℕ, zero, suc, ◌+◌, ◌-◌, ◌*◌, ◌^◌, ◌≤◌, ◌<◌}
use native.Mathlib.Nat.{zero-add, suc-add, add_comm, le_trans, le_of_eq}
use native.Mathlib.Omega.{arith}
use mathlib.Core.List.{List, [], ◌∷◌, ◌++◌}
use lib.ListN.{length, take, drop, length-take, length-drop}
use lib.Seq.{take-nil, take_all, take-take, drop-drop, length-take-le}
use Rattle.text_words.specs.code.Word.{byte_bits, word_bytes, bytes_in}
use Rattle.text_words.specs.laws.LaneLaws.{lanes-length}
use Rattle.text_tokens.specs.Number.{digits, value, leading}
use Rattle.text_tokens.specs.code.Unsigned.{DigitsRead}
use Rattle.text_tokens.specs.laws.DigitLaws.{digits-length}
use Rattle.text_tokens.specs.laws.RunLaws.{digits-front, digits-take, digits-stop, digits-on, digits-second, value-parts}

-- two parts of the front of a list
take-parts : (n m : ℕ) (bs : List ℕ) → take (n + m) bs ≡ take n bs ++ take m (drop n bs)
take-parts zero m bs = rw (zero-add m)
take-parts (suc n) m [] = rw (suc-add n m) (sym (take-nil m))
take-parts (suc n) m (b ∷ bs) = rw (suc-add n m) (ap (λ (l : List ℕ). b ∷ l) (take-parts n m bs))

-- as many digits as bytes at the most
digits-most : (bs : List ℕ) → length (digits bs) ≤ length bs
digits-most bs = omega (arith, digits-length bs)

-- digits of a word
pub count_most : (w : ℕ) → length (digits (bytes_in word_bytes w)) ≤ word_bytes
count_most w = omega (arith, digits-most (bytes_in word_bytes w), lanes-length byte_bits word_bytes w)

-- the bytes from a place on, with two words of room
module _ (bs : List ℕ) (l : word_bytes + word_bytes ≤ length bs) where
  first : List ℕ
  first = take word_bytes bs

  second : List ℕ
  second = take word_bytes (drop word_bytes bs)

  first-length : length first ≡ word_bytes
  unfolding first
  first-length = length-take-le word_bytes bs (omega arith)

  two-words : leading (word_bytes + word_bytes) bs ≡ digits (first ++ second)
  unfolding leading first second
  two-words = digits-take (word_bytes + word_bytes) bs ∙ ap digits (take-parts word_bytes word_bytes bs)

  -- they stop in the first word
  few-run : length (digits first) < word_bytes → leading (word_bytes + word_bytes) bs ≡ digits first
  few-run h = two-words ∙ digits-stop second first (omega (arith, first-length))

  -- they fill the first, and the second has m
  module _ (m : ℕ) (h : word_bytes ≤ length (digits first)) (e : m ≡ length (digits second)) where
    small : m ≤ word_bytes
    unfolding second
    small = omega (arith, digits-most second, length-take word_bytes (drop word_bytes bs))

    last : List ℕ
    last = take word_bytes (drop m bs)

    last-length : length last ≡ word_bytes
    unfolding last
    last-length = length-take-le word_bytes (drop m bs) (omega (arith, small, length-drop m bs))

    run_is : leading (word_bytes + word_bytes) bs ≡ take (word_bytes + m) bs
    unfolding first second
    run_is =
        two-words ∙ digits-on second first (omega (arith, first-length))
        ∙ ap (λ (l : List ℕ). first ++ l)
        (digits-front second ∙ ap (λ (n : ℕ). take n second) (sym e) ∙ take-take m word_bytes (drop word_bytes bs) small)
        ∙ sym (take-parts word_bytes m bs)

    all-run : leading (word_bytes + word_bytes) bs ≡ take m bs ++ last
    unfolding last
    all-run =
        run_is ∙ ap (λ (n : ℕ). take n bs) (add_comm word_bytes m) ∙ take-parts m word_bytes bs

    counted : length (leading (word_bytes + word_bytes) bs) ≡ word_bytes + m
    counted = ap length run_is ∙ length-take-le (word_bytes + m) bs (omega (arith, small))

    -- the last eight are digits
    last-digits : word_bytes ≤ length (digits last)
    unfolding leading
    last-digits =
        let q : take m bs ++ last ≡ take (word_bytes + m) bs = sym all-run ∙ run_is in
        let d = sym (digits-take (word_bytes + m) bs) in
        le_trans (le_of_eq (sym last-length))
        (digits-second last (take m bs)
        (rw q
        (omega (
          arith,
          ap length d,
          small,
          counted,
          length-take (word_bytes + m) bs,
          length-take (word_bytes + m) (digits bs),
          length-take (word_bytes + word_bytes) (digits bs),
        ))))

module _ (bytes : List ℕ) (at w : ℕ) (e : bytes_in word_bytes w ≡ take word_bytes (drop at bytes))
    (l : word_bytes + word_bytes ≤ length bytes - at) where
  room : word_bytes + word_bytes ≤ length (drop at bytes)
  room = omega (arith, length-drop at bytes)

  -- the first word has n digits, not all
  pub words-few : {n v : ℕ} → n ≡ length (digits (bytes_in word_bytes w)) → n < word_bytes
      → v ≡ value (take n (bytes_in word_bytes w)) → DigitsRead bytes at (record { count = n; value = v })
  unfolding first
  words-few {n} {v} c h f =
      let k : n ≡ length (digits (take word_bytes (drop at bytes))) = c ∙ ap (λ (l : List ℕ). length (digits l)) e in
      let r = few-run (drop at bytes) room (omega arith) in
      record {
        counted = k ∙ ap length (sym r);
        valued = f
            ∙ ap (λ (l : List ℕ). value (take n l)) e
            ∙ ap (λ (i : ℕ). value (take i (take word_bytes (drop at bytes)))) k
            ∙ ap value (sym (digits-front (take word_bytes (drop at bytes))) ∙ sym r);
      }

  -- all eight bytes of the first word are digits, and m of the second
  module _ (u m : ℕ) (h : word_bytes ≤ length (digits (bytes_in word_bytes w)))
      (f : bytes_in word_bytes u ≡ take word_bytes (drop (at + word_bytes) bytes))
      (c : m ≡ length (digits (bytes_in word_bytes u))) where
    full : word_bytes ≤ length (digits (take word_bytes (drop at bytes)))
    full = omega (arith, ap (λ (l : List ℕ). length (digits l)) e)

    after : m ≡ length (digits (take word_bytes (drop word_bytes (drop at bytes))))
    after = c ∙ ap (λ (l : List ℕ). length (digits l)) f ∙ rw (drop-drop word_bytes at bytes)

    module _ (t : ℕ) (g : bytes_in word_bytes t ≡ take word_bytes (drop (at + m) bytes)) where
      last-is : bytes_in word_bytes t ≡ take word_bytes (drop m (drop at bytes))
      last-is = g ∙ ap (take word_bytes) (sym (drop-drop m at bytes))

      -- so are those of the last word
      pub last-full : word_bytes ≤ length (digits (bytes_in word_bytes t))
      unfolding first second last
      last-full = rw last-is (last-digits (drop at bytes) room m full after)

      pub words-all : {x y v : ℕ} → x ≡ value (take m (bytes_in word_bytes w))
          → y ≡ value (take word_bytes (bytes_in word_bytes t)) → v ≡ x * 10 ^ word_bytes + y
          → DigitsRead bytes at (record { count = word_bytes + m; value = v })
      unfolding first second last
      words-all {x} {y} {v} p q r =
          let bs = drop at bytes in
          let all = take word_bytes (drop m bs) in
          let x-is : x ≡ value (take m bs) =
          p ∙ ap (λ (l : List ℕ). value (take m l)) e
          ∙ ap value (take-take m word_bytes bs (small bs room m full after)) in
          let y-is : y ≡ value all =
          q ∙ ap value (take_all word_bytes (bytes_in word_bytes t) (le_of_eq (lanes-length byte_bits word_bytes t)) ∙ last-is) in
          record {
            counted = sym (counted bs room m full after);
            valued = r
                ∙ ap₂ (λ (a b : ℕ). a * 10 ^ word_bytes + b) x-is y-is
                ∙ sym
                (ap value (all-run bs room m full after) ∙ value-parts (take m bs) all
                ∙ ap (λ (n : ℕ). value (take m bs) * 10 ^ n + value all) (last-length bs room m full after));
          }
