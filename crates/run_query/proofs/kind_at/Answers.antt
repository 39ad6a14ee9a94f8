-- `kind_at` meets its contract: the first word that is found gives its kind, and a word that is missing leaves those
-- behind it.
use mathlib.Core.Path.{◌≡◌, sym, ◌∙◌}
use Prim.Native.Nat.{ℕ}
use native.Mathlib.Omega.{arith}
use lib.IntN.{pos}
use mathlib.Core.List.{List}
use lib.ListN.{drop}
use Rattle.text_tokens.specs.Text.{bytes_of, malformed}
use Rattle.text_tokens.specs.laws.TextLaws.{text-room}
use Rattle.quote_kinds.specs.declared.Kind.TheVariants.{Death, CohortSurvival, PeriodSurvival, CohortExpectancy, PeriodExpectancy}
use Rattle.quote_kinds.specs.declared.Kind.TheVariants.{CohortAnnuity, PeriodAnnuity, Day}
use Rattle.run_query.specs.Query.{word_of, on_offer, read_word}
use Rattle.run_query.proofs.WordSteps.{word-found, word-missing}
use Rattle.run_query.proofs.kind_at.Goals as goal

-- ---- the words that are left after the first n

abbrev Left : ℕ → List ℕ → Type 0
Left n here = read_word word_of on_offer here ≡ read_word word_of (drop n on_offer) here

-- none is left
none : (here : List ℕ) → Left 8 here → read_word word_of on_offer here ≡ malformed
unfolding on_offer read_word
none here h = h

-- ---- the needs

pub overflow_add-result : goal.overflow_add-result
overflow_add-result c = omega (arith, text-room _ _ _ (sym c.text_at.ensures ∙ c.if-text_at.true))

pub returns-then-text_at : goal.returns-then-text_at
unfolding on_offer word_of bytes_of
returns-then-text_at c = sym (word-found _ _ word_of Death _ c.text_at.ensures c.if-text_at.true)

pub overflow_add-result-then-text_at-2 : goal.overflow_add-result-then-text_at-2
overflow_add-result-then-text_at-2 c = omega (arith, text-room _ _ _ (sym c.text_at-2.ensures ∙ c.if-text_at-2.true))

pub returns-then-text_at-2 : goal.returns-then-text_at-2
unfolding on_offer word_of bytes_of
returns-then-text_at-2 c =
    let left₁ : Left 1 (drop c.args.at c.args.bytes.now) = word-missing _ _ word_of Death _ c.text_at.ensures c.if-text_at.false in
    sym
    (left₁
    ∙ word-found _ _ word_of CohortSurvival _ c.text_at-2.ensures c.if-text_at-2.true)

pub overflow_add-result-then-text_at-3 : goal.overflow_add-result-then-text_at-3
overflow_add-result-then-text_at-3 c = omega (arith, text-room _ _ _ (sym c.text_at-3.ensures ∙ c.if-text_at-3.true))

pub returns-then-text_at-3 : goal.returns-then-text_at-3
unfolding on_offer word_of bytes_of
returns-then-text_at-3 c =
    let left₁ : Left 1 (drop c.args.at c.args.bytes.now) = word-missing _ _ word_of Death _ c.text_at.ensures c.if-text_at.false in
    let left₂ : Left 2 (drop c.args.at c.args.bytes.now) =
    left₁
    ∙ word-missing _ _ word_of CohortSurvival _ c.text_at-2.ensures c.if-text_at-2.false in
    sym
    (left₂
    ∙ word-found _ _ word_of PeriodSurvival _ c.text_at-3.ensures c.if-text_at-3.true)

pub overflow_add-result-then-text_at-4 : goal.overflow_add-result-then-text_at-4
overflow_add-result-then-text_at-4 c = omega (arith, text-room _ _ _ (sym c.text_at-4.ensures ∙ c.if-text_at-4.true))

pub returns-then-text_at-4 : goal.returns-then-text_at-4
unfolding on_offer word_of bytes_of
returns-then-text_at-4 c =
    let left₁ : Left 1 (drop c.args.at c.args.bytes.now) = word-missing _ _ word_of Death _ c.text_at.ensures c.if-text_at.false in
    let left₂ : Left 2 (drop c.args.at c.args.bytes.now) =
    left₁
    ∙ word-missing _ _ word_of CohortSurvival _ c.text_at-2.ensures c.if-text_at-2.false in
    let left₃ : Left 3 (drop c.args.at c.args.bytes.now) =
    left₂
    ∙ word-missing _ _ word_of PeriodSurvival _ c.text_at-3.ensures c.if-text_at-3.false in
    sym
    (left₃
    ∙ word-found _ _ word_of CohortExpectancy _ c.text_at-4.ensures c.if-text_at-4.true)

pub overflow_add-result-then-text_at-5 : goal.overflow_add-result-then-text_at-5
overflow_add-result-then-text_at-5 c = omega (arith, text-room _ _ _ (sym c.text_at-5.ensures ∙ c.if-text_at-5.true))

pub returns-then-text_at-5 : goal.returns-then-text_at-5
unfolding on_offer word_of bytes_of
returns-then-text_at-5 c =
    let left₁ : Left 1 (drop c.args.at c.args.bytes.now) = word-missing _ _ word_of Death _ c.text_at.ensures c.if-text_at.false in
    let left₂ : Left 2 (drop c.args.at c.args.bytes.now) =
    left₁
    ∙ word-missing _ _ word_of CohortSurvival _ c.text_at-2.ensures c.if-text_at-2.false in
    let left₃ : Left 3 (drop c.args.at c.args.bytes.now) =
    left₂
    ∙ word-missing _ _ word_of PeriodSurvival _ c.text_at-3.ensures c.if-text_at-3.false in
    let left₄ : Left 4 (drop c.args.at c.args.bytes.now) =
    left₃
    ∙ word-missing _ _ word_of CohortExpectancy _ c.text_at-4.ensures c.if-text_at-4.false in
    sym
    (left₄
    ∙ word-found _ _ word_of PeriodExpectancy _ c.text_at-5.ensures c.if-text_at-5.true)

pub overflow_add-result-then-text_at-6 : goal.overflow_add-result-then-text_at-6
overflow_add-result-then-text_at-6 c = omega (arith, text-room _ _ _ (sym c.text_at-6.ensures ∙ c.if-text_at-6.true))

pub returns-then-text_at-6 : goal.returns-then-text_at-6
unfolding on_offer word_of bytes_of
returns-then-text_at-6 c =
    let left₁ : Left 1 (drop c.args.at c.args.bytes.now) = word-missing _ _ word_of Death _ c.text_at.ensures c.if-text_at.false in
    let left₂ : Left 2 (drop c.args.at c.args.bytes.now) =
    left₁
    ∙ word-missing _ _ word_of CohortSurvival _ c.text_at-2.ensures c.if-text_at-2.false in
    let left₃ : Left 3 (drop c.args.at c.args.bytes.now) =
    left₂
    ∙ word-missing _ _ word_of PeriodSurvival _ c.text_at-3.ensures c.if-text_at-3.false in
    let left₄ : Left 4 (drop c.args.at c.args.bytes.now) =
    left₃
    ∙ word-missing _ _ word_of CohortExpectancy _ c.text_at-4.ensures c.if-text_at-4.false in
    let left₅ : Left 5 (drop c.args.at c.args.bytes.now) =
    left₄
    ∙ word-missing _ _ word_of PeriodExpectancy _ c.text_at-5.ensures c.if-text_at-5.false in
    sym
    (left₅
    ∙ word-found _ _ word_of (CohortAnnuity (pos 0)) _ c.text_at-6.ensures c.if-text_at-6.true)

pub overflow_add-result-then-text_at-7 : goal.overflow_add-result-then-text_at-7
overflow_add-result-then-text_at-7 c = omega (arith, text-room _ _ _ (sym c.text_at-7.ensures ∙ c.if-text_at-7.true))

pub returns-then-text_at-7 : goal.returns-then-text_at-7
unfolding on_offer word_of bytes_of
returns-then-text_at-7 c =
    let left₁ : Left 1 (drop c.args.at c.args.bytes.now) = word-missing _ _ word_of Death _ c.text_at.ensures c.if-text_at.false in
    let left₂ : Left 2 (drop c.args.at c.args.bytes.now) =
    left₁
    ∙ word-missing _ _ word_of CohortSurvival _ c.text_at-2.ensures c.if-text_at-2.false in
    let left₃ : Left 3 (drop c.args.at c.args.bytes.now) =
    left₂
    ∙ word-missing _ _ word_of PeriodSurvival _ c.text_at-3.ensures c.if-text_at-3.false in
    let left₄ : Left 4 (drop c.args.at c.args.bytes.now) =
    left₃
    ∙ word-missing _ _ word_of CohortExpectancy _ c.text_at-4.ensures c.if-text_at-4.false in
    let left₅ : Left 5 (drop c.args.at c.args.bytes.now) =
    left₄
    ∙ word-missing _ _ word_of PeriodExpectancy _ c.text_at-5.ensures c.if-text_at-5.false in
    let left₆ : Left 6 (drop c.args.at c.args.bytes.now) =
    left₅
    ∙ word-missing _ _ word_of (CohortAnnuity (pos 0)) _ c.text_at-6.ensures c.if-text_at-6.false in
    sym
    (left₆
    ∙ word-found _ _ word_of (PeriodAnnuity (pos 0)) _ c.text_at-7.ensures c.if-text_at-7.true)

pub overflow_add-result-then-text_at-8 : goal.overflow_add-result-then-text_at-8
overflow_add-result-then-text_at-8 c =
    omega (arith, c.well_formed.0, text-room _ _ _ (sym c.text_at-8.ensures ∙ c.if-text_at-8.true))

pub returns-then-text_at-8 : goal.returns-then-text_at-8
unfolding on_offer word_of bytes_of
returns-then-text_at-8 c =
    let left₁ : Left 1 (drop c.args.at c.args.bytes.now) = word-missing _ _ word_of Death _ c.text_at.ensures c.if-text_at.false in
    let left₂ : Left 2 (drop c.args.at c.args.bytes.now) =
    left₁
    ∙ word-missing _ _ word_of CohortSurvival _ c.text_at-2.ensures c.if-text_at-2.false in
    let left₃ : Left 3 (drop c.args.at c.args.bytes.now) =
    left₂
    ∙ word-missing _ _ word_of PeriodSurvival _ c.text_at-3.ensures c.if-text_at-3.false in
    let left₄ : Left 4 (drop c.args.at c.args.bytes.now) =
    left₃
    ∙ word-missing _ _ word_of CohortExpectancy _ c.text_at-4.ensures c.if-text_at-4.false in
    let left₅ : Left 5 (drop c.args.at c.args.bytes.now) =
    left₄
    ∙ word-missing _ _ word_of PeriodExpectancy _ c.text_at-5.ensures c.if-text_at-5.false in
    let left₆ : Left 6 (drop c.args.at c.args.bytes.now) =
    left₅
    ∙ word-missing _ _ word_of (CohortAnnuity (pos 0)) _ c.text_at-6.ensures c.if-text_at-6.false in
    let left₇ : Left 7 (drop c.args.at c.args.bytes.now) =
    left₆
    ∙ word-missing _ _ word_of (PeriodAnnuity (pos 0)) _ c.text_at-7.ensures c.if-text_at-7.false in
    sym (left₇ ∙ word-found _ _ word_of Day _ c.text_at-8.ensures c.if-text_at-8.true)

pub returns : goal.returns
unfolding on_offer word_of bytes_of
returns c =
    let left₁ : Left 1 (drop c.args.at c.args.bytes.now) = word-missing _ _ word_of Death _ c.text_at.ensures c.if-text_at.false in
    let left₂ : Left 2 (drop c.args.at c.args.bytes.now) =
    left₁
    ∙ word-missing _ _ word_of CohortSurvival _ c.text_at-2.ensures c.if-text_at-2.false in
    let left₃ : Left 3 (drop c.args.at c.args.bytes.now) =
    left₂
    ∙ word-missing _ _ word_of PeriodSurvival _ c.text_at-3.ensures c.if-text_at-3.false in
    let left₄ : Left 4 (drop c.args.at c.args.bytes.now) =
    left₃
    ∙ word-missing _ _ word_of CohortExpectancy _ c.text_at-4.ensures c.if-text_at-4.false in
    let left₅ : Left 5 (drop c.args.at c.args.bytes.now) =
    left₄
    ∙ word-missing _ _ word_of PeriodExpectancy _ c.text_at-5.ensures c.if-text_at-5.false in
    let left₆ : Left 6 (drop c.args.at c.args.bytes.now) =
    left₅
    ∙ word-missing _ _ word_of (CohortAnnuity (pos 0)) _ c.text_at-6.ensures c.if-text_at-6.false in
    let left₇ : Left 7 (drop c.args.at c.args.bytes.now) =
    left₆
    ∙ word-missing _ _ word_of (PeriodAnnuity (pos 0)) _ c.text_at-7.ensures c.if-text_at-7.false in
    let left₈ : Left 8 (drop c.args.at c.args.bytes.now) =
    left₇
    ∙ word-missing _ _ word_of Day _ c.text_at-8.ensures c.if-text_at-8.false in
    sym (none _ left₈)
