-- Rows that are proved by computing.
use Rattle.std.specs.Prelude.{◌≡◌, refl, List, [], ◌∷◌, ◌++◌, replicate}
use Rattle.number_whole.specs.Division.{ceil_div_ℕ}
use Rattle.number_exponential.specs.declared.Ends.{Ends}
use Rattle.number_exponential.specs.Exponential.{total}
use Rattle.number_exponential.specs.Units.{billionths}
use Rattle.number_exponential.specs.Outward.{outward_over}
use Rattle.number_folds.specs.Folds.{one, half, with_factor, survival_from, survival_over, plus, sum_over, expectancy_over}
use Rattle.number_folds.proofs.laws.Width.{spread, spreads}

-- two factors with ends about e^(−1/e), as those of the flat sheet: 0.47914 over both years, and 1.67134 years
factors : List Ends
factors =
    (record { lower = 692200612; upper = 692200644 }) ∷ (record { lower = 692200612; upper = 692200644 }) ∷ []

two-years : survival_over billionths factors ≡ record { lower = 479141687; upper = 479141732 }
unfolding factors with_factor outward_over survival_from survival_over one ceil_div_ℕ
two-years = refl

two-years-on-average : expectancy_over billionths factors ≡ record { lower = 1671342299; upper = 1671342376 }
unfolding factors with_factor outward_over survival_from survival_over one ceil_div_ℕ half plus sum_over expectancy_over
two-years-on-average = refl

-- the longest survival: 91 factors at most 100 units wide and 30 at most 600
longest-survival : spread (replicate 91 100 ++ replicate 30 600) ≡ 27342
unfolding spread
longest-survival = refl

-- the longest expectancy: 171 factors at most 600 units wide
longest-expectancy : spreads (replicate 171 600) ≡ 8853012
unfolding spread spreads total
longest-expectancy = refl
