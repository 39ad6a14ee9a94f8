-- `joined` meets its contract: the second text is shifted past the first, and nothing runs over.
use mathlib.Core.Path.{refl, ap}
use Prim.Native.Nat.{ℕ, ◌+◌}
use native.Mathlib.Omega.{arith}
use Rattle.text_words.specs.laws.ShortTextLaws.{shift-exact, side-fits, side-holds}
use Rattle.text_words.proofs.joined.Goals as goal

pub overflow_add-result : goal.overflow_add-result
overflow_add-result c =
    let start = c.before.before.before in
    let s = start.args.s in
    let t = start.args.t in
    record { fits = omega (arith, shift-exact s t start.requires, side-fits s t start.requires) }

pub returns : goal.returns
returns c =
    let start = c.before.before.before.before.before in
    side-holds start.args.s start.args.t start.requires _ refl
    (ap (λ (i : ℕ). i + start.args.s.word) (shift-exact start.args.s start.args.t start.requires))
