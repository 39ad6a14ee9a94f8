-- `couple_kind_at` meets its contract: the first word that is found gives its kind, and a word that is missing leaves those
-- behind it.
use mathlib.Core.Path.{◌≡◌, sym, ◌∙◌}
use Prim.Native.Nat.{ℕ}
use native.Mathlib.Omega.{arith}
use mathlib.Core.List.{List}
use lib.ListN.{drop}
use Rattle.text_tokens.specs.Text.{bytes_of, malformed}
use Rattle.text_tokens.specs.laws.TextLaws.{text-room}
use Rattle.quote_couple_kinds.specs.declared.CoupleKind.TheVariants.{JointLife, LastSurvivor, JointExpectancy, LastExpectancy}
use Rattle.run_query.specs.Query.{read_word}
use Rattle.run_query.proofs.WordSteps.{word-found, word-missing}
use Rattle.run_couple_query.specs.CoupleQuery.{couple_word, couples_on_offer}
use Rattle.run_couple_query.proofs.couple_kind_at.Goals as goal

-- ---- the words that are left after the first n

abbrev Left : ℕ → List ℕ → Type 0
Left n here = read_word couple_word couples_on_offer here ≡ read_word couple_word (drop n couples_on_offer) here

-- none is left
none : (here : List ℕ) → Left 4 here → read_word couple_word couples_on_offer here ≡ malformed
unfolding couples_on_offer read_word
none here h = h

-- ---- the needs

pub overflow_add-result : goal.overflow_add-result
overflow_add-result c = omega (arith, text-room _ _ _ (sym c.text_at.ensures ∙ c.if-text_at.true))

pub returns-then-text_at : goal.returns-then-text_at
unfolding couples_on_offer couple_word bytes_of
returns-then-text_at c = sym (word-found _ _ couple_word JointLife _ c.text_at.ensures c.if-text_at.true)

pub overflow_add-result-then-text_at-2 : goal.overflow_add-result-then-text_at-2
overflow_add-result-then-text_at-2 c = omega (arith, text-room _ _ _ (sym c.text_at-2.ensures ∙ c.if-text_at-2.true))

pub returns-then-text_at-2 : goal.returns-then-text_at-2
unfolding couples_on_offer couple_word bytes_of
returns-then-text_at-2 c =
    let left₁ : Left 1 (drop c.args.at c.args.bytes.now) = word-missing _ _ couple_word JointLife _ c.text_at.ensures c.if-text_at.false in
    sym
    (left₁
    ∙ word-found _ _ couple_word LastSurvivor _ c.text_at-2.ensures c.if-text_at-2.true)

pub overflow_add-result-then-text_at-3 : goal.overflow_add-result-then-text_at-3
overflow_add-result-then-text_at-3 c = omega (arith, text-room _ _ _ (sym c.text_at-3.ensures ∙ c.if-text_at-3.true))

pub returns-then-text_at-3 : goal.returns-then-text_at-3
unfolding couples_on_offer couple_word bytes_of
returns-then-text_at-3 c =
    let left₁ : Left 1 (drop c.args.at c.args.bytes.now) = word-missing _ _ couple_word JointLife _ c.text_at.ensures c.if-text_at.false in
    let left₂ : Left 2 (drop c.args.at c.args.bytes.now) =
    left₁
    ∙ word-missing _ _ couple_word LastSurvivor _ c.text_at-2.ensures c.if-text_at-2.false in
    sym
    (left₂
    ∙ word-found _ _ couple_word JointExpectancy _ c.text_at-3.ensures c.if-text_at-3.true)

pub overflow_add-result-then-text_at-4 : goal.overflow_add-result-then-text_at-4
overflow_add-result-then-text_at-4 c = omega (arith, c.well_formed.0, text-room _ _ _ (sym c.text_at-4.ensures ∙ c.if-text_at-4.true))

pub returns-then-text_at-4 : goal.returns-then-text_at-4
unfolding couples_on_offer couple_word bytes_of
returns-then-text_at-4 c =
    let left₁ : Left 1 (drop c.args.at c.args.bytes.now) = word-missing _ _ couple_word JointLife _ c.text_at.ensures c.if-text_at.false in
    let left₂ : Left 2 (drop c.args.at c.args.bytes.now) =
    left₁
    ∙ word-missing _ _ couple_word LastSurvivor _ c.text_at-2.ensures c.if-text_at-2.false in
    let left₃ : Left 3 (drop c.args.at c.args.bytes.now) =
    left₂
    ∙ word-missing _ _ couple_word JointExpectancy _ c.text_at-3.ensures c.if-text_at-3.false in
    sym
    (left₃
    ∙ word-found _ _ couple_word LastExpectancy _ c.text_at-4.ensures c.if-text_at-4.true)

pub returns : goal.returns
unfolding couples_on_offer couple_word bytes_of
returns c =
    let left₁ : Left 1 (drop c.args.at c.args.bytes.now) = word-missing _ _ couple_word JointLife _ c.text_at.ensures c.if-text_at.false in
    let left₂ : Left 2 (drop c.args.at c.args.bytes.now) =
    left₁
    ∙ word-missing _ _ couple_word LastSurvivor _ c.text_at-2.ensures c.if-text_at-2.false in
    let left₃ : Left 3 (drop c.args.at c.args.bytes.now) =
    left₂
    ∙ word-missing _ _ couple_word JointExpectancy _ c.text_at-3.ensures c.if-text_at-3.false in
    let left₄ : Left 4 (drop c.args.at c.args.bytes.now) =
    left₃
    ∙ word-missing _ _ couple_word LastExpectancy _ c.text_at-4.ensures c.if-text_at-4.false in
    sym (none _ left₄)
