-- `age_of_runs` meets its contract: the elements at x of the four runs.
use borrow.Author.Rules.{rules}
use mathlib.Core.Path.{◌≡◌}
use lib.IntN.{ℤ}
use mir.Facts.{to_z-of_z}
use mir.Syntax.{w64}
use mir.Val.{SFits, to_z, of_z}
use Rattle.set_params.specs.declared.Age.{Age}
use Rattle.set_params.proofs.age_of_runs.Goals as goal

-- the bits of four numbers stand for them
held : {l s a b : ℤ} → SFits w64 l → SFits w64 s → SFits w64 a → SFits w64 b
    → ◌≡◌ {A = Age}
    (record {
      level = to_z w64 (of_z w64 l);
      slope = to_z w64 (of_z w64 s);
      alpha = to_z w64 (of_z w64 a);
      beta = to_z w64 (of_z w64 b);
    })
    (record { level = l; slope = s; alpha = a; beta = b })
held l s a b = rw (to_z-of_z l, to_z-of_z s, to_z-of_z a, to_z-of_z b)

pub returns : goal.returns
returns c =
    held (record { sfits = c.before.before.before.result-1.given }) (record { sfits = c.before.before.result-2-1.given })
    (record { sfits = c.before.result-3-1.given }) (record { sfits = c.result-4-1.given })
