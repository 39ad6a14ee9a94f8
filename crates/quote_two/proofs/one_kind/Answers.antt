-- `one_kind` meets its contract: the two kinds' numbers are compared.
use mathlib.Core.Path.{ap, ◌∙◌}
use Prim.Native.Nat.{ℕ}
use lib.Dec.{eqb}
use Rattle.quote_two.specs.code.Code.{kind_number, one_kind}
use Rattle.quote_two.proofs.one_kind.Goals as goal

pub returns : goal.returns
unfolding one_kind
returns c =
    let s = c.before.before.args in
    ap (λ (n : ℕ). eqb n c.kind_number-2.result) c.before.kind_number.ensures
    ∙ ap (eqb (kind_number s.kind)) c.kind_number-2.ensures
