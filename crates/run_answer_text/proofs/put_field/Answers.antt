-- `put_field` meets its contract: the number is one at or above 0.
use borrow.Author.Rules.{rules}
use mathlib.Core.Path.{◌≡◌}
use Prim.Native.Nat.{ℕ, ◌^◌, ◌<◌}
use native.Mathlib.Omega.{arith}
use lib.IntN.{pos}
use mir.Syntax.{w64}
use mir.Val.{to_z}
use Rattle.text_tokens.specs.Number.{most_digits, number_text}
use Rattle.text_tokens.specs.laws.ReadLaws.{held}
use Rattle.run_answer_text.proofs.put_field.Goals as goal

as-signed : (n : ℕ) → n < 10 ^ most_digits → to_z w64 n ≡ pos n
as-signed n h = held (pos n) (omega arith)

pub put_signed-requires : goal.put_signed-requires
unfolding number_text
put_signed-requires c = let s = c in rw (as-signed s.args.n s.requires.0) s.requires

pub returns : goal.returns
unfolding number_text
returns c =
    let s = c in
    rw (as-signed s.args.n s.requires.0) at c.put_signed.ensures

pub overflow_cast-n : goal.overflow_cast-n
overflow_cast-n c = omega (arith, c.requires.0)
