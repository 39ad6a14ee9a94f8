-- `age_text` meets its contract: one digit or two, and `=`.
use mathlib.Core.Path.{◌≡◌}
use Prim.Native.Nat.{◌%◌}
use native.Mathlib.Omega.{arith}
use Rattle.text_tokens.specs.Text.{bytes_of}
use Rattle.text_tokens.specs.laws.DecimalLaws.{text-small, text-two}
use Rattle.sheet_set.proofs.age_text.Goals as goal

pub returns-then-x-lt10 : goal.returns-then-x-lt10
unfolding bytes_of
returns-then-x-lt10 c =
    let x = c.before.before.args.x in
    let m : x % 10 ≡ x = omega arith in
    rw (text-small x (omega arith)) (rw m at c.two.ensures)

pub returns : goal.returns
unfolding bytes_of
returns c =
    let x = c.before.before.args.x in
    rw (text-two x (omega arith) (omega arith)) c.three.ensures
