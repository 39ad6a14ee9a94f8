-- `short_at` meets its contract: at the end of the bytes the short text is taken apart and walked byte by byte, elsewhere the
-- word at the place tells.
use mathlib.Core.Path.{sym, ap, ◌∙◌}
use Prim.Native.Nat.{ℕ}
use native.Mathlib.Omega.{arith}
use mathlib.Core.List.{List}
use lib.ListN.{length, take}
use lib.Seq.{length-take-le}
use Rattle.text_words.specs.code.Word.{byte_bits, word_bytes}
use Rattle.text_words.specs.laws.LaneLaws.{lanes-length, lanes-take}
use Rattle.text_tokens.specs.code.Places.{text_at}
use Rattle.text_tokens.proofs.TextSteps.{word-says}
use Rattle.text_tokens.proofs.short_at.Goals as goal

pub slice_bounds-text_walk-end : goal.slice_bounds-text_walk-end
slice_bounds-text_walk-end c =
    let start = c.before.before.before.before.before in
    let apart = c.before.bytes_of-apart in
    let l = lanes-length byte_bits word_bytes start.args.text.word in
    sym (length-take-le _ apart.result (omega (arith, ap length apart.ensures)))

pub returns-then-room-lt-BYTES : goal.returns-then-room-lt-BYTES
returns-then-room-lt-BYTES c =
    let start = c.before.before.before.before.before.before in
    let text = start.args.text in
    c.text_walk.ensures
    ∙ ap (λ (l : List ℕ). text_at start.args.bytes.now start.args.at l)
    (ap (λ (l : List ℕ). take text.len l) c.before.before.bytes_of-apart.ensures
    ∙ lanes-take byte_bits text.len word_bytes text.word start.requires.short)

pub returns : goal.returns
returns c =
    let start = c.before.before.before.before.before in
    let text = start.args.text in
    word-says _ _ _ c.before.word_at.result text.len c.before.word_at.ensures
    (lanes-length byte_bits text.len text.word) start.requires.short c.same_bytes.ensures
