-- From bytes to digits: of any two calls of the C interface of one kind, whichever sheets' bytes, ages, years, spans, dates and
-- rates they are given, that give 0 and print their figures, the numbers of steps are equal exactly when the exact values of the
-- two sets that the bytes are read as round half up to one step. Calls with one kind's word are of one kind. It is had from the
-- calls' contracts alone.
use Rattle.std.specs.Prelude.{◌≡◌, refl, ◌↔◌, Bool, ◌||◌, ℕ, zero, suc, T, eqb, ℤ, length, Err}
use Rattle.std.proofs.Math.Path.{ap}
use Rattle.std.proofs.Common.{sym, ◌∙◌, arith, ne_eqb}
use Rattle.std.proofs.Math.Bool.{true, false, cond}
use mathlib.Core.List.{List}
use Rattle.std.proofs.Math.ListN.{get_or}
use Rattle.text_tokens.specs.Text.{Parse, malformed, taken}
use Rattle.text_tokens.specs.laws.NumberTrip.{malformed-not-taken}
use Rattle.sheet.proofs.laws.SheetTrip.{then-taken}
use Rattle.set_refusal.specs.Refusals.{refusal_number}
use Rattle.sheet.specs.declared.Reading.{Reading}
use Rattle.sheet.specs.Sheet.{read_sheet, by_sheet}
use Rattle.number_exact.specs.declared.Figure.{Figure}
use Rattle.number_exact.specs.declared.Figure.TheVariants.{Printed, Open}
use Rattle.quote_kinds.specs.declared.Kind.{Kind}
use Rattle.quote_kinds.specs.declared.Kind.TheVariants as kind
use Rattle.quote_kinds.specs.Kinds.{rule_of, takes_rate, with_rate, rate_aside, OneKind}
use Rattle.quote_along.specs.QuoteBy.{Answer}
use Rattle.quote.specs.Quote.{answer_of}
use Rattle.quote.specs.Demand.{printed, shown_of, number_of, figure_shown}
use Rattle.quote.proofs.laws.Theorem.{same-figure}
use Rattle.c_sheet_quote.specs.SheetQuote.{word_kind, kind_of, rated_kind_of, answer_to, sheet_answer, printed_number, steps_number}
use Rattle.c_sheet_quote.specs.SheetQuote.{quote_numbers, quote_over, quote_no, quote_after}
use Rattle.c_sheet_quote.specs.laws.Kept.{IsQuote, accepted-quotes, quote-stands}
use Rattle.c_bytes_to_digits.specs.declared.Call.{Call}
use Rattle.c_bytes_to_digits.specs.declared.Call.TheVariants.{Quote, Annuity, Day}
use Rattle.c_bytes_to_digits.specs.Calls.{Asked, takes_word, kind_in, answer_in, Called, Prints, steps_in, set_read}
use Rattle.c_bytes_to_digits.specs.Calls.{kind_taken, kind_asked, RoundAlike}

-- ---- the kind of a word, rates aside, is the word's alone

aside-rated : (k : Kind) (rate : ℤ) → rate_aside (with_rate k rate) ≡ rate_aside k
unfolding rate_aside with_rate
aside-rated kind.Death rate = refl
aside-rated kind.CohortSurvival rate = refl
aside-rated kind.PeriodSurvival rate = refl
aside-rated kind.CohortExpectancy rate = refl
aside-rated kind.PeriodExpectancy rate = refl
aside-rated (kind.CohortAnnuity old) rate = refl
aside-rated (kind.PeriodAnnuity old) rate = refl
aside-rated kind.Day rate = refl

word_aside : List ℕ → Kind
word_aside word = rate_aside (kind_taken (word_kind word))

module _ (word : List ℕ) where
  unrated : {k : Kind} {rest : List ℕ} → kind_of word ≡ taken k rest → rate_aside k ≡ word_aside word
  unfolding kind_of word_aside kind_taken
  unrated {k} {rest} e =
      then-taken (word_kind word) _ e λ kind₀ rest₀ e₀ f₀. rw e₀ (go kind₀ rest₀ (takes_rate kind₀ || (rule_of kind₀).dated) f₀)
    where
      go : (kind₀ : Kind) (rest₀ : List ℕ) (b : Bool) → cond b malformed (taken kind₀ rest₀) ≡ taken k rest
          → rate_aside k ≡ rate_aside kind₀
      go kind₀ rest₀ true f = malformed-not-taken f
      go kind₀ rest₀ false f = let q : kind₀ ≡ k = cc in ap rate_aside (sym q)

  rated : (rate : ℤ) {k : Kind} {rest : List ℕ} → rated_kind_of word rate ≡ taken k rest → rate_aside k ≡ word_aside word
  unfolding rated_kind_of word_aside kind_taken
  rated rate {k} {rest} e = then-taken (word_kind word) _ e λ kind₀ rest₀ e₀ f₀. rw e₀ (go kind₀ rest₀ (takes_rate kind₀) f₀)
    where
      go : (kind₀ : Kind) (rest₀ : List ℕ) (b : Bool) → cond b (taken (with_rate kind₀ rate) rest₀) malformed ≡ taken k rest
          → rate_aside k ≡ rate_aside kind₀
      go kind₀ rest₀ true f =
          let q : with_rate kind₀ rate ≡ k = cc in ap rate_aside (sym q) ∙ aside-rated kind₀ rate
      go kind₀ rest₀ false f = malformed-not-taken f

  kind-aside : (call : Call) → T (takes_word call) → {k : Kind} {rest : List ℕ} → kind_in word call ≡ taken k rest
      → rate_aside k ≡ word_aside word
  unfolding takes_word kind_in
  kind-aside Quote t e = unrated e
  kind-aside (Annuity rate) t e = rated rate e
  kind-aside Day t e = absurd t

-- ---- a call that gives 0

-- a kind was read, and the answer is that of the set that the bytes are read as
record Accepted (k : Parse Kind) (got : Reading) (age year term : ℤ) : Type 0 where
  rest : List ℕ
  reads : k ≡ taken (kind_taken k) rest
  answered : answer_to k got age year term ≡ answer_of got.set (kind_taken k) age year term

accepted-by : (k : Parse Kind) (got : Reading) (age year term : ℤ) → number_of (answer_to k got age year term) ≡ 0
    → Accepted k got age year term
unfolding answer_to by_sheet number_of refusal_number kind_taken
accepted-by malformed got age year term e = absurd (omega arith)
accepted-by (taken kind rest) got age year term e = go (refusal_number got.refusal) refl e
  where
    go : (n : ℕ) → refusal_number got.refusal ≡ n
        → number_of (cond (eqb n 0) (answer_of got.set kind age year term) (Err got.refusal)) ≡ 0
        → Accepted (taken kind rest) got age year term
    go zero r z = record { rest = rest; reads = refl; answered = rw r }
    go (suc n) r z = absurd (omega (arith, r, rw (ne_eqb (suc n) 0 (λ q. omega arith)) at z))

-- the third number tells a printed figure, and the fourth its steps
figure-told : (f : Figure) → printed_number f ≡ 1 → shown_of f ≡ printed (steps_number f)
unfolding printed_number steps_number shown_of
figure-told (Printed n) e = refl
figure-told Open e = absurd (omega arith)

module _ {q : Asked} {before : List ℕ} {number : ℕ} {after : List ℕ} (c : Called q before number after) (p : Prints number after)
  where
    abbrev read : Parse Kind
    read = kind_in q.word q.call

    gave : quote_no (answer_in q) (length before) ≡ 0
    gave = sym c.gives ∙ p.accepted

    is-quote : IsQuote (answer_in q)
    unfolding answer_in
    is-quote = accepted-quotes q.sheet read q.age q.year q.term (length before) gave

    stands : after ≡ quote_over is-quote.quote before
    stands =
        c.leaves ∙ ap (λ (a : Answer). quote_after a before) is-quote.is
        ∙ quote-stands is-quote.quote before (ap (λ (a : Answer). quote_no a (length before)) (sym is-quote.is) ∙ gave)

    third : get_or after 2 0 ≡ printed_number is-quote.quote.figure
    unfolding quote_over quote_numbers
    third = ap (λ (l : List ℕ). get_or l 2 0) stands

    fourth : steps_in after ≡ steps_number is-quote.quote.figure
    unfolding quote_over quote_numbers
    fourth = ap (λ (l : List ℕ). get_or l 3 0) stands

    accepted : Accepted read (read_sheet q.sheet) q.age q.year q.term
    unfolding answer_in sheet_answer number_of
    accepted = accepted-by read (read_sheet q.sheet) q.age q.year q.term (ap number_of is-quote.is)

    -- the figure of the set's query is the steps that were told
    shows : figure_shown (answer_of (set_read q) (kind_asked q) q.age q.year q.term) ≡ printed (steps_in after)
    unfolding answer_in sheet_answer figure_shown
    shows =
        ap figure_shown (sym accepted.answered ∙ is-quote.is)
        ∙ figure-told is-quote.quote.figure (sym third ∙ p.printed)
        ∙ ap printed (sym fourth)

    of_word : T (takes_word q.call) → rate_aside (kind_asked q) ≡ word_aside q.word
    of_word t = kind-aside q.word q.call t accepted.reads

-- ---- the theorem

module _ (q q' : Asked) {before before' : List ℕ} {number number' : ℕ} {after after' : List ℕ}
    (c : Called q before number after) (c' : Called q' before' number' after')
    (p : Prints number after) (p' : Prints number' after') where
  pub from-bytes-to-digits : OneKind (kind_asked q) (kind_asked q') → (steps_in after ≡ steps_in after') ↔ RoundAlike q q'
  from-bytes-to-digits one =
      same-figure (kind_asked q) (kind_asked q') one (set_read q) (set_read q') q.age q.year q.term q'.age q'.year
      q'.term (shows c p) (shows c' p')

  -- two calls with one word
  pub one_word : T (takes_word q.call) → T (takes_word q'.call) → q.word ≡ q'.word → OneKind (kind_asked q) (kind_asked q')
  one_word t t' e = of_word c p t ∙ ap word_aside e ∙ sym (of_word c' p' t')
