-- A line at a place, in the steps of the code: its key with the `=`, its number and the line feed, each of which is found at
-- its place or leaves the line malformed.
use Rattle.std.specs.Prelude.{Some, None}
use mathlib.Core.Path.{◌≡◌, sym, ap, ◌∙◌}
use Prim.Native.Nat.{ℕ, ◌+◌}
use mathlib.Core.Bool.{true, false}
use mathlib.Core.List.{List, ◌++◌}
use lib.IntN.{ℤ}
use lib.ListN.{length, drop}
use Rattle.text_words.specs.declared.Short.{Short}
use Rattle.text_words.specs.code.Word.{byte_bits}
use Rattle.text_words.specs.laws.LaneLaws.{lanes-length}
use Rattle.text_words.specs.code.ShortText.{text_of}
use Rattle.text_tokens.specs.Text.{bytes_of, malformed, taken, take_text}
use Rattle.text_tokens.specs.Number.{read_number}
use Rattle.text_tokens.specs.code.Places.{text_at, number_at}
use Rattle.text_tokens.specs.laws.TextLaws.{text-found, text-missing}
use Rattle.text_tokens.specs.laws.NumberLaws.{number-found, number-malformed}
use Rattle.sheet.specs.Sheet.{read_line}
use Rattle.text_tokens.specs.laws.Steps.{goes, stops}
use Rattle.sheet.specs.code.Lines.{Heads}

module _ (bytes : List ℕ) (at : ℕ) (head : Short) {key : List ℕ} (k : Heads head key) where
  pub key-malformed : text_at bytes at (text_of head) ≡ false → read_line key (drop at bytes) ≡ malformed
  unfolding read_line
  key-malformed h = stops _ (text-missing bytes at (key ++ bytes_of "=") (rw k.text at h))

  module _ (h : text_at bytes at (text_of head) ≡ true) where
    headed : take_text (key ++ bytes_of "=") (drop at bytes) ≡ taken tt (drop (at + head.len) bytes)
    headed =
        text-found bytes at (key ++ bytes_of "=") (rw k.text at h)
        ∙ ap (λ (n : ℕ). taken tt (drop (at + n) bytes))
        (ap length (sym k.text) ∙ lanes-length byte_bits head.len head.word)

    pub no_number : number_at bytes (at + head.len) ≡ None → read_line key (drop at bytes) ≡ malformed
    unfolding read_line
    no_number n = goes _ headed ∙ stops _ (number-malformed bytes (at + head.len) n)

    module _ {v : ℤ} {next : ℕ} (n : number_at bytes (at + head.len) ≡ Some (v, next)) where
      number : read_number (drop (at + head.len) bytes) ≡ taken v (drop next bytes)
      number = number-found bytes (at + head.len) n

      pub feed-malformed : text_at bytes next (bytes_of "\n") ≡ false → read_line key (drop at bytes) ≡ malformed
      unfolding read_line
      feed-malformed f = goes _ headed ∙ goes _ number ∙ stops _ (text-missing bytes next (bytes_of "\n") f)

      pub line_taken : text_at bytes next (bytes_of "\n") ≡ true
          → read_line key (drop at bytes) ≡ taken v (drop (next + 1) bytes)
      unfolding read_line bytes_of
      line_taken f = goes _ headed ∙ goes _ number ∙ goes _ (text-found bytes next (bytes_of "\n") f)
