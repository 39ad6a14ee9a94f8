-- The parameter set as the definitions read it: through A, B, alpha and beta at an age, whatever its layout.
use Rattle.std.specs.Prelude.{ℕ, ℤ, pos, nat_abs, ◌-ℤ◌, get_or, replicate}
use Rattle.set_params.specs.declared.Params.{Params}
use Rattle.set_params.specs.declared.Age.{Age}
use Rattle.set_params.specs.declared.Dynamics.{Dynamics}
use Rattle.set_params.specs.declared.Table.TheVariants.{Ag2014}
use Rattle.set_params.specs.declared.Sex.TheVariants.{M}

-- ages 0 to 90 have parameters
abbrev pub ages : ℕ
ages = 91

-- A, B, alpha and beta at age x
unfoldable pub A : Params → ℕ → ℤ
A p x = get_or p.level x (pos 0)

unfoldable pub B : Params → ℕ → ℤ
B p x = get_or p.slope x (pos 0)

unfoldable pub alpha : Params → ℕ → ℤ
alpha p x = get_or p.alpha x (pos 0)

unfoldable pub beta : Params → ℕ → ℤ
beta p x = get_or p.beta x (pos 0)

-- the four together
abbrev pub age_of : Params → ℕ → Age
age_of p x = record { level = A p x; slope = B p x; alpha = alpha p x; beta = beta p x }

-- a, theta and c
abbrev pub dynamics_of : Params → Dynamics
dynamics_of p = record { a = p.a; theta = p.theta; c = p.c }

-- a year, counted from the start: "The years 2013, 2014, 2064 and 2184 in 01, E2 and E6 move with the start"
unfoldable pub year_number : ℤ → ℤ → ℕ
year_number start year = nat_abs (year -ℤ start)

-- "marked AG2014, with start 2013 and c 0", sex M and every number 0
unfoldable pub blank : Params
blank =
    record {
      table = Ag2014;
      sex = M;
      start = pos 2013;
      a = pos 0;
      theta = pos 0;
      c = pos 0;
      period = pos 0;
      kappa = pos 0;
      level = replicate ages (pos 0);
      slope = replicate ages (pos 0);
      alpha = replicate ages (pos 0);
      beta = replicate ages (pos 0);
    }
