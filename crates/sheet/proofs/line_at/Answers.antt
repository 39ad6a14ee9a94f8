-- `line_at` meets its contract: the key with its `=`, the number and the line feed, each found at its place or malformed.
use mathlib.Core.Path.{◌≡◌, sym, ◌∙◌, ap}
use mir.Val.{of_z, to_z}
use Rattle.std.specs.Int.{w64}
use native.Mathlib.Omega.{arith}
use borrow.Author.Rules.{rules}
use Rattle.text_words.specs.code.Word.{byte_bits}
use Rattle.text_words.specs.laws.LaneLaws.{lanes-length}
use Rattle.text_words.specs.code.ShortText.{text_of}
use Rattle.text_tokens.specs.Text.{bytes_of}
use Rattle.text_tokens.specs.code.Places.{number_read}
use Rattle.text_tokens.specs.laws.TextLaws.{text-room}
use Rattle.sheet.proofs.LineSteps.{key-malformed, no_number, feed-malformed, line_taken}
use Rattle.sheet.proofs.line_at.Goals as goal

pub returns-then-not-short_at : goal.returns-then-not-short_at
returns-then-not-short_at c key e = sym (key-malformed _ _ _ e (sym c.if-not-short_at.ensures))

pub overflow_add-at : goal.overflow_add-at
overflow_add-at c =
    let head = c.args.head in
    omega (arith, lanes-length byte_bits head.len head.word, text-room _ _ (text_of head) (sym c.if-not-short_at.ensures))

pub returns-in_err-v : goal.returns-in_err-v
returns-in_err-v c key e =
    ap (number_read c.args.bytes.now) c.from_residual.ensures
    ∙ sym (no_number _ _ _ e (sym c.if-not-short_at.ensures) (sym c.number_at.ensures ∙ c.in_err-v.was))

pub returns-then-not-byte_at : goal.returns-then-not-byte_at
unfolding bytes_of
returns-then-not-byte_at c key e =
    sym
    (feed-malformed _ _ _ e (sym c.if-not-short_at.ensures) (sym c.number_at.ensures ∙ c.in_ok-v.was)
    (sym c.if-not-byte_at.ensures))

pub overflow_add-result : goal.overflow_add-result
overflow_add-result c = omega (arith, text-room _ _ _ (sym c.if-not-byte_at.ensures))

pub returns : goal.returns
unfolding bytes_of
returns c key e =
    let held : to_z w64 (of_z w64 c.in_ok-v.v) ≡ c.in_ok-v.v = search rules in
    rw held
    (sym
    (line_taken _ _ _ e (sym c.if-not-short_at.ensures) (sym c.number_at.ensures ∙ c.in_ok-v.was)
    (sym c.if-not-byte_at.ensures)))
