-- What a set's four runs hold at an age.
use Rattle.std.specs.Prelude.{◌≡◌, refl, ℕ}
use Rattle.set_params.specs.declared.Params.{Params}
use Rattle.set_params.specs.Set.{A, B, alpha, beta, age_of}
use Rattle.set_params.specs.code.Runs.{four_at}

-- of a set's runs, the age's parameters
pub four-age : (p : Params) (x : ℕ) → four_at p.level p.slope p.alpha p.beta x ≡ age_of p x
unfolding A B alpha beta
four-age p x = refl
