-- The four answers: two kinds that are not one and, of one kind, three from what `quote_of` ensures of two answers.
use Rattle.std.specs.Prelude.{◌≡◌, refl, ◌↔◌, None, Some, true, false, [], ◌∷◌, ℕ, ℤ, pos, get_or}
use Rattle.std.proofs.Common.{ap, sym, ◌∙◌, eqb-true}
use Rattle.std.proofs.lemmas.Bool.{eqb-false}
use Rattle.number_whole.proofs.laws.Clash.{clash}
use Rattle.set_params.specs.declared.Params.{Params}
use Rattle.quote_kinds.specs.declared.Kind.{Kind}
use Rattle.quote_kinds.specs.declared.Kind.TheVariants as kind
use Rattle.quote_kinds.specs.Kinds.{with_rate, rate_aside, OneKind}
use Rattle.quote_along.specs.QuoteBy.{Answer}
use Rattle.quote.specs.Quote.{answer_of}
use Rattle.quote.specs.Demand.{Shown, printed, marked_open, no_figure, figure_shown, Demand3}
use Rattle.quote_two.specs.declared.Same.TheVariants.{OtherKind, NotPrinted, Equal, Different}
use Rattle.quote_two.specs.Claim.{OneStepOf, Settled}
use Rattle.quote_two.specs.code.Code.{kind_number, one_kind, steps_shown}

-- ---- one kind

-- a kind's number tells the kind, its rate aside
kind_of : ℕ → Kind
kind_of n =
    get_or
    (kind.Death ∷ kind.CohortSurvival ∷ kind.PeriodSurvival ∷ kind.CohortExpectancy ∷ kind.PeriodExpectancy
    ∷ kind.CohortAnnuity (pos 0) ∷ kind.PeriodAnnuity (pos 0) ∷ kind.Day ∷ [])
    n kind.Death

number-kind : (k : Kind) → kind_of (kind_number k) ≡ rate_aside k
unfolding kind_of kind_number rate_aside with_rate
number-kind kind.Death = refl
number-kind kind.CohortSurvival = refl
number-kind kind.PeriodSurvival = refl
number-kind kind.CohortExpectancy = refl
number-kind kind.PeriodExpectancy = refl
number-kind (kind.CohortAnnuity rate) = refl
number-kind (kind.PeriodAnnuity rate) = refl
number-kind kind.Day = refl

aside-number : (k : Kind) → kind_number (rate_aside k) ≡ kind_number k
unfolding kind_number rate_aside with_rate
aside-number kind.Death = refl
aside-number kind.CohortSurvival = refl
aside-number kind.PeriodSurvival = refl
aside-number kind.CohortExpectancy = refl
aside-number kind.PeriodExpectancy = refl
aside-number (kind.CohortAnnuity rate) = refl
aside-number (kind.PeriodAnnuity rate) = refl
aside-number kind.Day = refl

pub kinds-one : (k k' : Kind) → one_kind k k' ≡ true → OneKind k k'
unfolding one_kind
kinds-one k k' e =
    sym (number-kind k) ∙ ap kind_of (eqb-true (kind_number k) (kind_number k') e) ∙ number-kind k'

kinds-other : (k k' : Kind) → one_kind k k' ≡ false → OneKind k k' → ⊥
unfolding one_kind
kinds-other k k' e one =
    eqb-false (kind_number k) (kind_number k') e (sym (aside-number k) ∙ ap kind_number one ∙ aside-number k')

pub not-one-kind : {p : Params} {kind : Kind} {age year term : ℤ} {p' : Params} {kind' : Kind} {age' year' term' : ℤ}
    → one_kind kind kind' ≡ false → Settled p kind age year term p' kind' age' year' term' OtherKind
not-one-kind {kind = k} {kind' = k'} e =
    record {
      other-kind = (λ q. kinds-other k k' e, λ n. refl);
      equal = λ q. clash cc;
      different = λ q. clash cc;
      not-printed = λ q. clash cc;
    }

-- ---- the steps of a figure

shown-at : (s : Shown) {n : ℕ} → steps_shown s ≡ Some n → s ≡ printed n
unfolding steps_shown
shown-at (printed m) e = cc
shown-at marked_open e = clash cc
shown-at no_figure e = clash cc

shown-none : (s : Shown) {n : ℕ} → steps_shown s ≡ None → s ≡ printed n → ⊥
unfolding steps_shown
shown-none (printed m) e q = clash cc
shown-none marked_open e q = clash cc
shown-none no_figure e q = clash cc

-- ---- two answers

-- what `quote_of` ensures of its answer
abbrev pub Promised : Params → Kind → ℤ → ℤ → ℤ → Answer → Type 0
Promised p kind age year term a = (a ≡ answer_of p kind age year term) × Demand3 p kind age year term a

module _ {kind : Kind} {p : Params} {age year term : ℤ} {a : Answer} (h : Promised p kind age year term a)
    {p' : Params} {kind' : Kind} {age' year' term' : ℤ} {a' : Answer} (h' : Promised p' kind' age' year' term' a')
    (one : OneKind kind kind') where
  -- one has no printed figure
  pub first-not-printed : steps_shown (figure_shown a) ≡ None → Settled p kind age year term p' kind' age' year' term' NotPrinted
  first-not-printed e =
      record {
        other-kind = (λ q. clash cc, λ n. absurd (n one));
        equal = λ q. clash cc;
        different = λ q. clash cc;
        not-printed = λ q n n' f f'. shown-none (figure_shown a) e (ap figure_shown h.0 ∙ f);
      }

  pub second-not-printed : steps_shown (figure_shown a') ≡ None → Settled p kind age year term p' kind' age' year' term' NotPrinted
  second-not-printed e =
      record {
        other-kind = (λ q. clash cc, λ n. absurd (n one));
        equal = λ q. clash cc;
        different = λ q. clash cc;
        not-printed = λ q n n' f f'. shown-none (figure_shown a') e (ap figure_shown h'.0 ∙ f');
      }

  -- both have: the first answer's promise, of the second query
  same : {n n' : ℕ} → steps_shown (figure_shown a) ≡ Some n → steps_shown (figure_shown a') ≡ Some n'
      → (n ≡ n') ↔ OneStepOf p kind age year term p' kind' age' year' term'
  same {n} {n'} e e' =
      h.1.one-step n (shown-at (figure_shown a) e) p' kind' age' year' term' n' one
      (ap figure_shown (sym h'.0) ∙ shown-at (figure_shown a') e')

  pub equal-printed : {n n' : ℕ} → steps_shown (figure_shown a) ≡ Some n → steps_shown (figure_shown a') ≡ Some n' → n ≡ n'
      → Settled p kind age year term p' kind' age' year' term' Equal
  equal-printed e e' s =
      record {
        other-kind = (λ q. clash cc, λ n. absurd (n one));
        equal = λ q. (same e e').0 s;
        different = λ q. clash cc;
        not-printed = λ q. clash cc;
      }

  pub different-printed : {n n' : ℕ} → steps_shown (figure_shown a) ≡ Some n → steps_shown (figure_shown a') ≡ Some n' → (n ≡ n' → ⊥)
      → Settled p kind age year term p' kind' age' year' term' Different
  different-printed e e' d =
      record {
        other-kind = (λ q. clash cc, λ n. absurd (n one));
        equal = λ q. clash cc;
        different = λ q o. d ((same e e').1 o);
        not-printed = λ q. clash cc;
      }
