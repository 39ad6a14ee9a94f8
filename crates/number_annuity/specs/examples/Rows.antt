-- Rows that are proved by computing.
use Rattle.std.specs.Prelude.{◌≡◌, refl, List, [], ◌∷◌}
use Rattle.number_whole.specs.Division.{ceil_div_ℕ}
use Rattle.number_exponential.specs.declared.Ends.{Ends}
use Rattle.number_exponential.specs.Units.{billionths}
use Rattle.number_exponential.specs.Outward.{outward_over}
use Rattle.number_folds.specs.Folds.{one, with_factor, survival_from, survival_over, plus, sum_over}
use Rattle.number_annuity.specs.Annuity.{most_rate, discounted, discount_over, payment_after, annuity_over}

-- two factors with ends about e^(−1/e), as those of the flat sheet
factors : List Ends
factors =
    (record { lower = 692200612; upper = 692200644 }) ∷ (record { lower = 692200612; upper = 692200644 }) ∷ []

-- two years at 3 per cent: 1/1.0609
two-years : discount_over billionths 30000 2 ≡ record { lower = 942595908; upper = 942595910 }
unfolding discounted outward_over discount_over one ceil_div_ℕ
two-years = refl

-- the price at 3 per cent, at the highest rate, and without interest: 1 and the two survivals
at-3-per-cent : annuity_over billionths 30000 factors ≡ record { lower = 2123676421; upper = 2123676498 }
unfolding factors with_factor outward_over survival_from survival_over one ceil_div_ℕ plus sum_over discounted discount_over payment_after annuity_over
at-3-per-cent = refl

at-most-rate : annuity_over billionths most_rate factors ≡ record { lower = 1909571125; upper = 1909571186 }
unfolding factors with_factor outward_over survival_from survival_over one ceil_div_ℕ plus sum_over discounted discount_over payment_after annuity_over
at-most-rate = refl

without-interest : annuity_over billionths 0 factors ≡ record { lower = 2171342299; upper = 2171342376 }
unfolding factors with_factor outward_over survival_from survival_over one ceil_div_ℕ plus sum_over discounted discount_over payment_after annuity_over
without-interest = refl
