-- How great the numbers of a quote are: its ends have at most 16 digits and its figure at most 8.
use Rattle.std.specs.Prelude.{Bool, true, false, cond, ℕ, ◌*◌, ◌^◌, ◌≤◌, ◌<◌, eqb, ℤ}
use Rattle.std.proofs.Common.{arith}
use Rattle.number_exponential.specs.declared.Ends.{Ends}
use Rattle.number_exponential.specs.declared.GridUnit.{GridUnit}
use Rattle.number_exponential.specs.declared.GridUnit.TheVariants.{Coarse, Fine}
use Rattle.number_exponential.specs.Units.{grid_of}
use Rattle.number_exponential.proofs.laws.GridFacts.{unit-most}
use Rattle.set_params.specs.declared.Params.{Params}
use Rattle.number_exact.specs.declared.Figure.TheVariants.{Printed, Open}
use Rattle.number_exact.specs.Figure.{half_up, figure_of}
use Rattle.quote_kinds.specs.declared.Kind.{Kind}
use Rattle.quote_paths.specs.declared.Fold.{Fold}
use Rattle.quote_paths.specs.declared.Fold.TheVariants.{Death, Survival, Expectancy, Annuity}
use Rattle.quote_kinds.specs.Kinds.{rule_of, step_of}
use Rattle.quote_along.specs.declared.Quote.{Quote}
use Rattle.quote.specs.Quote.{answer_of}
use Rattle.quote_compare.proofs.laws.SmallLaws.{Small, of-answer}
use Rattle.run_figure_text.specs.code.Sizes.{few_digits, Short}
use Rattle.run_answer_text.specs.code.Sizes.{Sized, SizedAnswer}

-- ---- the figure of an end of at most 172

half-small : (u : GridUnit) (f : Fold) (e : ℕ) → e ≤ 172 * (grid_of u).unit → half_up (step_of f * (grid_of u).scale) e < 10 ^ few_digits
unfolding grid_of half_up step_of
half-small Coarse Death e h = omega arith
half-small Coarse Survival e h = omega arith
half-small Coarse Expectancy e h = omega arith
half-small Coarse (Annuity rate) e h = omega arith
half-small Fine Death e h = omega arith
half-small Fine Survival e h = omega arith
half-small Fine Expectancy e h = omega arith
half-small Fine (Annuity rate) e h = omega arith

figure-small : (s : ℕ) (e : Ends) → half_up s e.lower < 10 ^ few_digits → Short (figure_of s e)
unfolding figure_of Short
figure-small s e h = go (eqb (half_up s e.lower) (half_up s e.upper))
  where
    go : (b : Bool) → Short (cond b (Printed (half_up s e.lower)) Open)
    go true = h
    go false = tt

-- ---- every answer

-- a quote whose ends are at most 172 and whose figure is theirs
pub small-sized : (f : Fold) (a : Quote) → Small (step_of f) a → Sized a
small-sized f a s =
    record {
      lower = omega (arith, s.ends.lower, unit-most a.unit);
      upper = omega (arith, s.ends.upper, unit-most a.unit);
      figure = rw s.figure (figure-small _ _ (half-small a.unit f a.lower s.ends.lower));
    }

pub answer-sized : (p : Params) (k : Kind) (age year term : ℤ) → SizedAnswer (answer_of p k age year term)
unfolding SizedAnswer
answer-sized p k age year term =
    of-answer SizedAnswer p k age year term (λ q s. small-sized (rule_of k).fold q s) (λ r. tt)
