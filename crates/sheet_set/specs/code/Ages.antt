-- What the code's result says was read: a set, with the bytes from a place on, or malformed. And the reading of the ages' lines
-- in the steps of the code.
use Rattle.std.specs.Prelude.{ℕ, ◌+◌, ◌*◌, Option, Some, None, List, [], ◌∷◌, ℤ, pos, get_or, drop}
use Rattle.text_tokens.specs.Text.{Parse, malformed, taken}
use Rattle.set_params.specs.declared.Params.{Params}
use Rattle.set_params.specs.Set.{ages}
use Rattle.sheet.specs.Sheet.{for_ages, age_keys, read_lines}
use Rattle.sheet_set.specs.declared.SetRead.{SetRead}

abbrev pub set_read : List ℕ → Option SetRead → Parse Params
set_read bytes None = malformed
set_read bytes (Some r) = taken r.set (drop r.next bytes)

-- and where the set is lent to be filled in
abbrev pub ages_read : List ℕ → Params → Option ℕ → Parse Params
ages_read bytes set None = malformed
ages_read bytes set (Some next) = taken set (drop next bytes)

-- of the values of the first n ages, those in place i of an age
unfoldable pub run : ℕ → List ℤ → ℕ → List ℤ
run i vs n = for_ages (λ (x : ℕ). get_or vs (i + 4 * x) (pos 0) ∷ []) n

-- the set with the ages' values for its runs
unfoldable pub with_runs : Params → List ℤ → Params
with_runs p vs =
    record {
      table = p.table;
      sex = p.sex;
      start = p.start;
      a = p.a;
      theta = p.theta;
      c = p.c;
      period = p.period;
      kappa = p.kappa;
      level = run 0 vs ages;
      slope = run 1 vs ages;
      alpha = run 2 vs ages;
      beta = run 3 vs ages;
    }

-- the ages' lines, into the set's runs
unfoldable pub from_ages : Params → List ℕ → Parse Params
from_ages p bs = elim (read_lines (for_ages age_keys ages) bs) [ malformed ↦ malformed | taken vs rest ↦ taken (with_runs p vs) rest ]
