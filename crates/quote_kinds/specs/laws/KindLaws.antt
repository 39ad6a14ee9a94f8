-- Kinds that differ in their rate alone have one step.
use Rattle.std.specs.Prelude.{◌≡◌, refl}
use Rattle.std.proofs.Common.{ap, sym, ◌∙◌}
use Rattle.quote_kinds.specs.declared.Kind.{Kind}
use Rattle.quote_kinds.specs.declared.Kind.TheVariants.{
  Death,
  CohortSurvival,
  PeriodSurvival,
  CohortExpectancy,
  PeriodExpectancy,
  CohortAnnuity,
  PeriodAnnuity,
  Day,
}
use Rattle.quote_kinds.specs.Kinds.{rule_of, with_rate, rate_aside, OneKind, step_of}

-- a kind's step is that of the kind with its rate aside
step-aside : (k : Kind) → step_of (rule_of k).fold ≡ step_of (rule_of (rate_aside k)).fold
unfolding rule_of with_rate rate_aside step_of
step-aside Death = refl
step-aside CohortSurvival = refl
step-aside PeriodSurvival = refl
step-aside CohortExpectancy = refl
step-aside PeriodExpectancy = refl
step-aside (CohortAnnuity rate) = refl
step-aside (PeriodAnnuity rate) = refl
step-aside Day = refl

pub one-step-of : (k k' : Kind) → OneKind k k' → step_of (rule_of k).fold ≡ step_of (rule_of k').fold
one-step-of k k' e = step-aside k ∙ ap (λ (c : Kind). step_of (rule_of c).fold) e ∙ sym (step-aside k')
