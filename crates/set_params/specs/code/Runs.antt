-- A set's four runs: what they hold at a place, and that they are whole.
use Rattle.std.specs.Prelude.{ℕ, ℤ, pos, get_or, length, ◌≡◌, List}
use Rattle.set_params.specs.declared.Params.{Params}
use Rattle.set_params.specs.declared.Age.{Age}
use Rattle.set_params.specs.Set.{ages}

-- the numbers at place x of four runs
abbrev pub four_at : List ℤ → List ℤ → List ℤ → List ℤ → ℕ → Age
four_at level slope alpha beta x =
    record {
      level = get_or level x (pos 0);
      slope = get_or slope x (pos 0);
      alpha = get_or alpha x (pos 0);
      beta = get_or beta x (pos 0);
    }

-- each run has one number for each age, as in every set that a program holds
pub record Whole (p : Params) : Type 0 where
  pub level : length p.level ≡ ages
  pub slope : length p.slope ≡ ages
  pub alpha : length p.alpha ≡ ages
  pub beta : length p.beta ≡ ages
