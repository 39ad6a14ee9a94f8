-- Over the whole year the exponent is the force itself.
use Rattle.std.specs.Prelude.{◌≡◌, ◌*◌, ◌/◌}
use Rattle.std.proofs.Common.{mul-div_cancel, lit<}
use Rattle.number_whole.specs.Division.{ceil_div_ℕ}
use Rattle.number_whole.proofs.laws.DivisionLaws.{ceilℕ-exact}
use Rattle.number_fraction.specs.Ratio.{whole/}
use Rattle.number_exponential.specs.declared.Ends.{Ends}
use Rattle.number_exponential.specs.Outward.{outward_over}
use Rattle.model_mortality.specs.Cell.{whole_year, force_over}

pub force-whole : (f : Ends) → force_over whole_year f ≡ f
unfolding force_over outward_over whole/
force-whole f =
    let l : f.lower * 1 / 1 ≡ f.lower = mul-div_cancel f.lower (lit< tt) in
    let u : ceil_div_ℕ (f.upper * 1) 1 ≡ f.upper = ceilℕ-exact f.upper (lit< tt) in
    rw (l, u)
