-- Comparisons of some ends and refusals, by computing the definition.
use Rattle.std.specs.Prelude.{◌≡◌, refl, ℕ, Ok, Err}
use Rattle.number_exponential.specs.declared.GridUnit.TheVariants.{Coarse, Fine}
use Rattle.number_exponential.specs.Units.{grid_of}
use Rattle.set_refusal.specs.declared.Refusal.TheVariants.{NoSuchAge, LogForceOutOfRange}
use Rattle.number_exact.specs.declared.Figure.TheVariants.{Printed, Open}
use Rattle.quote_along.specs.QuoteBy.{Answer}
use Rattle.quote_compare.specs.declared.Values.{Values}
use Rattle.quote_compare.specs.declared.Values.TheVariants.{Below, Above, Near}
use Rattle.quote_compare.specs.Compare.{excess, most_apart, values_of, finer, ends_in, pair_of, comparison_of}

-- the ends l and u, and the ends l' and u', have the values r
abbrev pub Row : ℕ → ℕ → ℕ → ℕ → Values → Type 0
Row l u l' u' r = values_of (record { lower = l; upper = u }) (record { lower = l'; upper = u' }) ≡ r

-- a unit between them, either way round; far apart; ends that touch; the same ends twice; ends within others; one value
pub rows : Row 10 20 21 30 (Below (record { least = 1; most = 20 }))
    × Row 21 30 10 20 (Above (record { least = 1; most = 20 }))
    × Row 10 20 1000 1003 (Below (record { least = 980; most = 993 }))
    × Row 10 20 20 30 (Near 20)
    × Row 20 30 10 20 (Near 20)
    × Row 10 20 10 20 (Near 10)
    × Row 10 20 12 15 (Near 8)
    × Row 15 15 15 15 (Near 0)
unfolding excess most_apart values_of
rows = (refl, refl, refl, refl, refl, refl, refl, refl)

-- two quotes in units of 10^-9, and one in units of 10^-13
abbrev quoted : Answer
quoted = Ok (record { unit = Coarse; lower = 10; upper = 20; figure = Printed 3 })

abbrev higher : Answer
higher = Ok (record { unit = Coarse; lower = 21; upper = 30; figure = Open })

abbrev closer : Answer
closer = Ok (record { unit = Fine; lower = 200001; upper = 200007; figure = Printed 3 })

-- both quoted; the second in the finer unit, which the first is taken to; the first refused, and both; the second refused
pub answers : (comparison_of quoted higher
    ≡ Ok (record { first = Printed 3; second = Open; values = Below (record { least = 1; most = 20 }); unit = Coarse }))
    × (comparison_of quoted closer
    ≡ Ok (record { first = Printed 3; second = Printed 3; values = Below (record { least = 1; most = 100007 }); unit = Fine }))
    × (comparison_of (Err LogForceOutOfRange) quoted ≡ Err LogForceOutOfRange)
    × (comparison_of (Err LogForceOutOfRange) (Err NoSuchAge) ≡ Err LogForceOutOfRange)
    × (comparison_of quoted (Err NoSuchAge) ≡ Err NoSuchAge)
unfolding grid_of excess most_apart values_of finer ends_in pair_of comparison_of
answers = (refl, refl, refl, refl, refl)
