-- A query and its line: the line of a query reads as the query, and what reads as a query is its line. So each query has
-- one line, and each line one query. And how long a query's text is.
use Rattle.std.specs.Prelude.{Bool, true, false, cond, ◌≡◌, refl, ℕ, ◌+◌, ◌^◌, ◌≤◌, ◌<◌, List, [], ◌∷◌, ◌++◌, T, ℤ, nat_abs, length}
use Rattle.std.proofs.Common.{ap, ◌∙◌, arith, append_assoc, append-nil, length-append}
use Rattle.number_whole.proofs.laws.Clash.{clash}
use Rattle.text_tokens.specs.Text.{bytes_of, Parse, malformed, taken, take_text, and_then}
use Rattle.text_tokens.specs.Number.{most_digits, is_digit, number_text}
use Rattle.text_tokens.specs.laws.TextLaws.{take_text-split, take_text-whole}
use Rattle.text_tokens.specs.laws.DecimalLaws.{number-length}
use Rattle.text_tokens.specs.laws.Steps.{goes}
use Rattle.text_tokens.specs.laws.NumberTrip.{no_digit_first, malformed-not-taken, number-reads, number-read}
use Rattle.sheet.proofs.laws.SheetTrip.{then-taken}
use Rattle.quote_kinds.specs.declared.Kind.{Kind}
use Rattle.quote_kinds.specs.declared.Kind.TheVariants.{Death, CohortSurvival, PeriodSurvival, CohortExpectancy, PeriodExpectancy}
use Rattle.quote_kinds.specs.declared.Kind.TheVariants.{CohortAnnuity, PeriodAnnuity, Day}
use Rattle.quote_kinds.specs.Kinds.{rule_of, takes_rate, with_rate, rate_aside, rate_of}
use Rattle.run_query.specs.declared.Query.{Query}
use Rattle.run_query.specs.Query.{word_of, on_offer, term_name}
use Rattle.run_query.specs.Query.{read_word, read_field, read_rate, alone, ended, read_query}

-- ---- a query's text

-- the rate of a kind that takes one
abbrev pub kind_rate : Kind → ℤ
kind_rate k = rate_of (rule_of k).fold

unfoldable pub rate_text : Kind → List ℕ
rate_text k = cond (takes_rate k) (bytes_of " rate=" ++ number_text (kind_rate k)) []

unfoldable pub query_text : Query → List ℕ
query_text q =
    bytes_of "kind=" ++ (word_of q.kind ++ (bytes_of " age=" ++ (number_text q.age
    ++ (bytes_of " year=" ++ (number_text q.year ++ (term_name q.kind ++ (number_text q.term ++ rate_text q.kind)))))))

-- ---- a word

word-reads : (k : Kind) (rest : List ℕ) → read_word word_of on_offer (word_of k ++ rest) ≡ taken (rate_aside k) rest
unfolding read_word on_offer word_of bytes_of take_text with_rate rate_aside
word-reads Death rest = refl
word-reads CohortSurvival rest = refl
word-reads PeriodSurvival rest = refl
word-reads CohortExpectancy rest = refl
word-reads PeriodExpectancy rest = refl
word-reads (CohortAnnuity rate) rest = refl
word-reads (PeriodAnnuity rate) rest = refl
word-reads Day rest = refl

pub word_read : {X : Type 0} (word : X → List ℕ) (xs : List X) (bs : List ℕ) {x : X} {rest : List ℕ}
    → read_word word xs bs ≡ taken x rest → bs ≡ word x ++ rest
unfolding read_word
word_read word [] bs e = malformed-not-taken e
word_read {X} word (x' ∷ xs) bs {x} {rest} e = go (λ q. word_read word xs bs q) (take_text (word x') bs) refl e
  where
    go : (read_word word xs bs ≡ taken x rest → bs ≡ word x ++ rest) → (p : Parse Unit) → take_text (word x') bs ≡ p
        → ◌≡◌ {A = Parse X} (elim p [ malformed ↦ read_word word xs bs | taken u after ↦ taken x' after ]) (taken x rest)
        → bs ≡ word x ++ rest
    go ih malformed t q = ih q
    go ih (taken u after) t q =
        let y : x' ≡ x = cc in
        let z : after ≡ rest = cc in
        rw (← y, ← z) (take_text-whole (word x') bs t)

word-length : (k : Kind) → (1 ≤ length (word_of k)) × (length (word_of k) ≤ 4)
unfolding word_of bytes_of
word-length Death = omega arith
word-length CohortSurvival = omega arith
word-length PeriodSurvival = omega arith
word-length CohortExpectancy = omega arith
word-length PeriodExpectancy = omega arith
word-length (CohortAnnuity rate) = omega arith
word-length (PeriodAnnuity rate) = omega arith
word-length Day = omega arith

-- ---- a field

pub field-reads : (name : List ℕ) (v : ℤ) (rest : List ℕ) → nat_abs v < 10 ^ most_digits → T (no_digit_first rest)
    → read_field name (name ++ (number_text v ++ rest)) ≡ taken v rest
unfolding read_field
field-reads name v rest h t = goes _ (take_text-split name (number_text v ++ rest)) ∙ number-reads v rest h t

-- the bytes are the name, the number's text and the rest
pub field-read : (name bs : List ℕ) {v : ℤ} {rest : List ℕ} → read_field name bs ≡ taken v rest
    → bs ≡ name ++ (number_text v ++ rest)
unfolding read_field
field-read name bs {v} {rest} e =
    then-taken (take_text name bs) _ e λ u after q r. rw (take_text-whole name bs q, (number-read after v rest r).is)

-- ---- the name of a term

-- it is the same whatever the rate
term-aside : (k : Kind) → term_name (rate_aside k) ≡ term_name k
unfolding term_name rule_of rate_aside with_rate
term-aside Death = refl
term-aside CohortSurvival = refl
term-aside PeriodSurvival = refl
term-aside CohortExpectancy = refl
term-aside PeriodExpectancy = refl
term-aside (CohortAnnuity rate) = refl
term-aside (PeriodAnnuity rate) = refl
term-aside Day = refl

-- six bytes, of which the first is no digit
term-length : (k : Kind) → length (term_name k) ≡ 6
unfolding term_name bytes_of
term-length k = go (rule_of k).dated
  where
    go : (dated : Bool) → length (cond dated (bytes_of " date=") (bytes_of " span=")) ≡ 6
    go true = refl
    go false = refl

term-ends : (k : Kind) (rest : List ℕ) → T (no_digit_first (term_name k ++ rest))
unfolding term_name bytes_of is_digit
term-ends k rest = go (rule_of k).dated
  where
    go : (dated : Bool) → T (no_digit_first (cond dated (bytes_of " date=") (bytes_of " span=") ++ rest))
    go true = tt
    go false = tt

-- ---- a rate

rate-reads : (k : Kind) (rest : List ℕ) → nat_abs (kind_rate k) < 10 ^ most_digits → T (no_digit_first rest)
    → read_rate (rate_aside k) (rate_text k ++ rest) ≡ taken k rest
unfolding read_rate rate_text rate_aside takes_rate with_rate rule_of rate_of
rate-reads Death rest h t = refl
rate-reads CohortSurvival rest h t = refl
rate-reads PeriodSurvival rest h t = refl
rate-reads CohortExpectancy rest h t = refl
rate-reads PeriodExpectancy rest h t = refl
rate-reads (CohortAnnuity rate) rest h t =
    rw (append_assoc (bytes_of " rate=") (number_text rate) rest) (goes _ (field-reads (bytes_of " rate=") rate rest h t))
rate-reads (PeriodAnnuity rate) rest h t =
    rw (append_assoc (bytes_of " rate=") (number_text rate) rest) (goes _ (field-reads (bytes_of " rate=") rate rest h t))
rate-reads Day rest h t = refl

-- the bytes are the text of the kind's rate and the rest; the kind's word and the name of its term are those of the word that
-- was read
record RateOf (word k : Kind) (bs rest : List ℕ) : Type 0 where
  is : bs ≡ rate_text k ++ rest
  same : word_of word ≡ word_of k
  term : term_name word ≡ term_name k

rated : (word : Kind) (rate : ℤ) (bs rest : List ℕ) → takes_rate word ≡ true
    → bs ≡ bytes_of " rate=" ++ (number_text rate ++ rest)
    → RateOf word (with_rate word rate) bs rest
unfolding rate_text takes_rate with_rate rule_of rate_of word_of term_name
rated Death rate bs rest e f = clash cc
rated CohortSurvival rate bs rest e f = clash cc
rated PeriodSurvival rate bs rest e f = clash cc
rated CohortExpectancy rate bs rest e f = clash cc
rated PeriodExpectancy rate bs rest e f = clash cc
rated (CohortAnnuity old) rate bs rest e f =
    record { is = f ∙ rw (append_assoc (bytes_of " rate=") (number_text rate) rest); same = refl; term = refl }
rated (PeriodAnnuity old) rate bs rest e f =
    record { is = f ∙ rw (append_assoc (bytes_of " rate=") (number_text rate) rest); same = refl; term = refl }
rated Day rate bs rest e f = clash cc

unrated : (k : Kind) (bs : List ℕ) → takes_rate k ≡ false → RateOf k k bs bs
unfolding rate_text takes_rate rule_of rate_of
unrated Death bs e = record { is = refl; same = refl; term = refl }
unrated CohortSurvival bs e = record { is = refl; same = refl; term = refl }
unrated PeriodSurvival bs e = record { is = refl; same = refl; term = refl }
unrated CohortExpectancy bs e = record { is = refl; same = refl; term = refl }
unrated PeriodExpectancy bs e = record { is = refl; same = refl; term = refl }
unrated (CohortAnnuity rate) bs e = clash cc
unrated (PeriodAnnuity rate) bs e = clash cc
unrated Day bs e = record { is = refl; same = refl; term = refl }

rate-read : (word : Kind) (bs : List ℕ) {k : Kind} {rest : List ℕ} → read_rate word bs ≡ taken k rest → RateOf word k bs rest
unfolding read_rate
rate-read word bs {k} {rest} e = go (takes_rate word) refl e
  where
    go : (b : Bool) → takes_rate word ≡ b
        → cond b (and_then (read_field (bytes_of " rate=") bs) (λ rate after. taken (with_rate word rate) after)) (taken word bs)
        ≡ taken k rest
        → RateOf word k bs rest
    go true t q =
        then-taken (read_field (bytes_of " rate=") bs) _ q λ rate after f g.
        let x : with_rate word rate ≡ k = cc in
        let y : after ≡ rest = cc in
        rw (← x, ← y) (rated word rate bs after t (field-read (bytes_of " rate=") bs f))
    go false t q =
        let x : word ≡ k = cc in
        let y : bs ≡ rest = cc in
        rw (← x, ← y) (unrated word bs t)

-- no digit stands where a number before it ends
rate-ends : (k : Kind) → T (no_digit_first (rate_text k ++ bytes_of "\n"))
unfolding rate_text takes_rate bytes_of is_digit
rate-ends Death = tt
rate-ends CohortSurvival = tt
rate-ends PeriodSurvival = tt
rate-ends CohortExpectancy = tt
rate-ends PeriodExpectancy = tt
rate-ends (CohortAnnuity rate) = tt
rate-ends (PeriodAnnuity rate) = tt
rate-ends Day = tt

rate-length : (k : Kind) → length (rate_text k) ≤ 22
unfolding rate_text takes_rate rule_of rate_of bytes_of
rate-length Death = omega arith
rate-length CohortSurvival = omega arith
rate-length PeriodSurvival = omega arith
rate-length CohortExpectancy = omega arith
rate-length PeriodExpectancy = omega arith
rate-length (CohortAnnuity rate) = omega (arith, number-length rate)
rate-length (PeriodAnnuity rate) = omega (arith, number-length rate)
rate-length Day = omega arith

-- ---- a query

-- the query's numbers have at most 15 digits
pub record Small (q : Query) : Type 0 where
  pub age : nat_abs q.age < 10 ^ most_digits
  pub year : nat_abs q.year < 10 ^ most_digits
  pub term : nat_abs q.term < 10 ^ most_digits
  pub rate : nat_abs (kind_rate q.kind) < 10 ^ most_digits

-- the text, part by part, with what follows it
query-apart : (q : Query) (rest : List ℕ)
    → query_text q ++ rest
    ≡ bytes_of "kind=" ++ (word_of q.kind ++ (bytes_of " age=" ++ (number_text q.age
    ++ (bytes_of " year=" ++ (number_text q.year ++ (term_name q.kind ++ (number_text q.term
    ++ (rate_text q.kind ++ rest))))))))
unfolding query_text
query-apart q rest = simp append_assoc

alone-taken : {A : Type 0} (a : A) (bs : List ℕ) {b : A} {rest : List ℕ} → alone a bs ≡ taken b rest → (bs ≡ []) × (a ≡ b)
unfolding alone
alone-taken a [] e = (refl, cc)
alone-taken a (c ∷ bs) e = malformed-not-taken e

-- ---- the end of a line

-- a value whose line ended was followed by a line feed alone, and such a line ends
pub ended-taken : {A : Type 0} (a : A) (bs : List ℕ) {b : A} {rest : List ℕ} → ended a bs ≡ taken b rest
    → (bs ≡ bytes_of "\n") × (a ≡ b)
unfolding ended
ended-taken a bs e =
    then-taken (take_text (bytes_of "\n") bs) _ e λ u after f g.
    let (none, same) = alone-taken a after g in
    (take_text-whole (bytes_of "\n") bs f ∙ rw (none, append-nil), same)

pub ended-reads : {A : Type 0} (a : A) → ended a (bytes_of "\n") ≡ taken a []
unfolding ended alone take_text bytes_of
ended-reads a = refl

-- ---- a query's line

-- what reads as a query is its text and a line feed
pub query-text : (line : List ℕ) {q : Query} {rest : List ℕ} → read_query line ≡ taken q rest
    → line ≡ query_text q ++ bytes_of "\n"
unfolding read_query
query-text line {q} e =
    then-taken (take_text (bytes_of "kind=") line) _ e λ u b₀ e₀ f₀.
    then-taken (read_word word_of on_offer b₀) _ f₀ λ word b₁ e₁ f₁.
    then-taken (read_field (bytes_of " age=") b₁) _ f₁ λ age b₂ e₂ f₂.
    then-taken (read_field (bytes_of " year=") b₂) _ f₂ λ year b₃ e₃ f₃.
    then-taken (read_field (term_name word) b₃) _ f₃ λ term b₄ e₄ f₄.
    then-taken (read_rate word b₄) _ f₄ λ kind b₅ e₅ f₅.
    let r : Query = record { kind = kind; age = age; year = year; term = term } in
    let (l, same) = ended-taken r b₅ f₅ in
    let a = field-read (bytes_of " age=") b₁ e₂ in
    let y = field-read (bytes_of " year=") b₂ e₃ in
    let s = field-read (term_name word) b₃ e₄ in
    let k = rate-read word b₄ e₅ in
    rw (← same)
    (take_text-whole (bytes_of "kind=") line e₀
    ∙ rw (word_read word_of on_offer b₀ e₁, k.same, a, y, s, k.term, k.is, l, query-apart r (bytes_of "\n")))

-- the line of a query whose numbers have so few digits reads as the query
pub query-reads : (q : Query) → Small q → read_query (query_text q ++ bytes_of "\n") ≡ taken q []
unfolding read_query bytes_of is_digit
query-reads q h =
    let r = rate_text q.kind ++ bytes_of "\n" in
    let s = term_name q.kind ++ (number_text q.term ++ r) in
    let y = bytes_of " year=" ++ (number_text q.year ++ s) in
    let a = bytes_of " age=" ++ (number_text q.age ++ y) in
    rw (query-apart q (bytes_of "\n"))
    (goes _ (take_text-split (bytes_of "kind=") (word_of q.kind ++ a))
    ∙ goes _ (word-reads q.kind a)
    ∙ goes _ (field-reads (bytes_of " age=") q.age y h.age tt)
    ∙ goes _ (field-reads (bytes_of " year=") q.year s h.year (term-ends q.kind _))
    ∙ goes _
    (ap (λ (name : List ℕ). read_field name s) (term-aside q.kind)
    ∙ field-reads (term_name q.kind) q.term r h.term (rate-ends q.kind))
    ∙ goes _ (rate-reads q.kind (bytes_of "\n") h.rate tt)
    ∙ ended-reads q)

-- ---- lengths

-- 22 bytes besides the word, the numbers and the rate's text
query-length : (q : Query)
    → length (query_text q)
    ≡ 22 + length (word_of q.kind) + length (number_text q.age) + length (number_text q.year)
    + length (number_text q.term) + length (rate_text q.kind)
unfolding query_text bytes_of
query-length q = simp length-append (omega (arith, term-length q.kind))

query-between : (q : Query) → (26 ≤ length (query_text q)) × (length (query_text q) ≤ 96)
query-between q =
    omega (
      arith,
      query-length q,
      word-length q.kind,
      number-length q.age,
      number-length q.year,
      number-length q.term,
      rate-length q.kind,
    )

-- at least 26 bytes, and at most 96
pub query-least : (q : Query) → 26 ≤ length (query_text q)
query-least q = (query-between q).0

pub query-most : (q : Query) → length (query_text q) ≤ 96
query-most q = (query-between q).1
