-- What two figures of one kind say of their exact values (paper 01, "Demand 3 is one claim over any two accepted quotes of
-- one kind").
use Rattle.std.specs.Prelude.{◌≡◌, ◌↔◌, ℕ, ℤ}
use Rattle.number_exponential.specs.Units.{billionths}
use Rattle.set_params.specs.declared.Params.{Params}
use Rattle.number_exact.specs.Value.{OneStep}
use Rattle.quote_kinds.specs.declared.Kind.{Kind}
use Rattle.quote_kinds.specs.Kinds.{OneKind}
use Rattle.quote.specs.Quote.{exact_query, answer_of}
use Rattle.quote.specs.Demand.{printed, figure_shown, step}
use Rattle.quote_two.specs.declared.Same.{Same}
use Rattle.quote_two.specs.declared.Same.TheVariants.{OtherKind, NotPrinted, Equal, Different}

-- the exact values of the two queries round to one same step of the kind's figures
abbrev pub OneStepOf : Params → Kind → ℤ → ℤ → ℤ → Params → Kind → ℤ → ℤ → ℤ → Type 0
OneStepOf p kind age year term p' kind' age' year' term' =
    OneStep billionths (step kind) (exact_query p kind age year term) (exact_query p' kind' age' year' term')

-- other kinds are told exactly where the two are not one kind, rates aside; of one kind, equal figures have exact values that
-- round to one step, and different figures have not; and where none of these is said, one of the two is not printed
pub record Settled (p : Params) (kind : Kind) (age year term : ℤ) (p' : Params) (kind' : Kind) (age' year' term' : ℤ) (r : Same)
    : Type 0 where
  pub other-kind : (r ≡ OtherKind) ↔ (OneKind kind kind' → ⊥)
  pub equal : r ≡ Equal → OneStepOf p kind age year term p' kind' age' year' term'
  pub different : r ≡ Different → OneStepOf p kind age year term p' kind' age' year' term' → ⊥
  pub not-printed : r ≡ NotPrinted → (n n' : ℕ) → figure_shown (answer_of p kind age year term) ≡ printed n
      → figure_shown (answer_of p' kind' age' year' term') ≡ printed n' → ⊥
