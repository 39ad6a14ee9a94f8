-- "A query line has the form shown below without its `fig=` part, numbers formed as in a sheet, and ends in a line feed":
-- `kind=q age=65 year=2020 span=0`; the line of an annuity (paper 02, E1) "for these two kinds only, ends with `rate=`":
-- `kind=acoh age=65 year=2020 span=0 rate=30000`; "Kind `day` carries age, year (2014 to 2064) and, in place of a span,
-- `date=` as YYYYMMDD" (E6): `kind=day age=65 year=2020 date=20410315`. What a line asks.
use Rattle.std.specs.Prelude.{ℕ, cond, List, [], ◌∷◌, ℤ, pos}
use Rattle.text_tokens.specs.Text.{bytes_of, Parse, malformed, taken, take_text, and_then}
use Rattle.text_tokens.specs.Number.{read_number}
use Rattle.quote_kinds.specs.declared.Kind.{Kind}
use Rattle.quote_kinds.specs.declared.Kind.TheVariants.{Death, CohortSurvival, PeriodSurvival, CohortExpectancy, PeriodExpectancy}
use Rattle.quote_kinds.specs.declared.Kind.TheVariants.{CohortAnnuity, PeriodAnnuity, Day}
use Rattle.quote_kinds.specs.Kinds.{rule_of, takes_rate, with_rate}
use Rattle.run_query.specs.declared.Query.{Query}

-- each kind's word, whatever the rate
unfoldable pub word_of : Kind → List ℕ
word_of Death = bytes_of "q"
word_of CohortSurvival = bytes_of "coh"
word_of PeriodSurvival = bytes_of "per"
word_of CohortExpectancy = bytes_of "ecoh"
word_of PeriodExpectancy = bytes_of "eper"
word_of (CohortAnnuity rate) = bytes_of "acoh"
word_of (PeriodAnnuity rate) = bytes_of "aper"
word_of Day = bytes_of "day"

-- every kind, rates aside: no kind's word begins with another's, so the order decides nothing
unfoldable pub on_offer : List Kind
on_offer =
    Death ∷ CohortSurvival ∷ PeriodSurvival ∷ CohortExpectancy ∷ PeriodExpectancy
    ∷ CohortAnnuity (pos 0) ∷ PeriodAnnuity (pos 0) ∷ Day ∷ []

-- "in place of a span, `date=` as YYYYMMDD": the name of a kind's last number
unfoldable pub term_name : Kind → List ℕ
term_name k = cond (rule_of k).dated (bytes_of " date=") (bytes_of " span=")

-- the first of those on offer whose word, by a table of words, stands at the front
unfoldable pub read_word : {X : Type 0} → (X → List ℕ) → List X → List ℕ → Parse X
read_word word [] bs = malformed
read_word word (x ∷ xs) bs = elim (take_text (word x) bs) [ malformed ↦ read_word word xs bs | taken u rest ↦ taken x rest ]

-- a name, and the number behind it
unfoldable pub read_field : List ℕ → List ℕ → Parse ℤ
read_field name bs = and_then (take_text name bs) (λ u rest. read_number rest)

-- a line of these kinds without ` rate=`, or of another kind with it, is malformed: the kind with the rate that stands at the
-- front; of a kind that takes none nothing is read
unfoldable pub read_rate : Kind → List ℕ → Parse Kind
read_rate k bs =
    cond (takes_rate k) (and_then (read_field (bytes_of " rate=") bs) (λ rate rest. taken (with_rate k rate) rest))
    (taken k bs)

-- a value that nothing follows
unfoldable pub alone : {A : Type 0} → A → List ℕ → Parse A
alone a [] = taken a []
alone a (b ∷ bs) = malformed

-- a value whose line ends: a line feed, and nothing behind it
unfoldable pub ended : {A : Type 0} → A → List ℕ → Parse A
ended a bs = and_then (take_text (bytes_of "\n") bs) (λ u rest. alone a rest)

-- such a word that nothing follows
unfoldable pub whole_word : {X : Type 0} → (X → List ℕ) → List X → List ℕ → Parse X
whole_word word xs bs = and_then (read_word word xs bs) (λ x rest. alone x rest)

-- the query of a whole line; a line of the kind `day` with ` span=`, or of another kind with ` date=`, is malformed
unfoldable pub read_query : List ℕ → Parse Query
read_query line =
    and_then (take_text (bytes_of "kind=") line) (λ u after₀.
    and_then (read_word word_of on_offer after₀) (λ word after₁.
    and_then (read_field (bytes_of " age=") after₁) (λ age after₂.
    and_then (read_field (bytes_of " year=") after₂) (λ year after₃.
    and_then (read_field (term_name word) after₃) (λ term after₄.
    and_then (read_rate word after₄) (λ kind after₅.
    ended (record { kind = kind; age = age; year = year; term = term }) after₅))))))
