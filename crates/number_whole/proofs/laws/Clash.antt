-- Two different constructors are not equal. From a hypothesis that equates them `cc` gives 0 ≡ 1, and anything follows.
use Rattle.std.specs.Prelude.{◌≡◌, ℕ}
use Rattle.std.proofs.Common.{arith}

pub clash : {X : Type 0} → ◌≡◌ {A = ℕ} 0 1 → X
clash e = absurd (omega (arith, e))
