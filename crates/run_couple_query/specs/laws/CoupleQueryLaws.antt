-- A couple's query and its line: the line of a query reads as the query, and what reads as a query is its line. And how long a
-- query's text is.
use Rattle.std.specs.Prelude.{◌≡◌, refl, ℕ, ◌+◌, ◌^◌, ◌≤◌, ◌<◌, List, [], ◌++◌, nat_abs, length}
use Rattle.std.proofs.Common.{◌∙◌, arith, append_assoc, length-append}
use Rattle.text_tokens.specs.Text.{bytes_of, taken, take_text}
use Rattle.text_tokens.specs.Number.{most_digits, is_digit, number_text}
use Rattle.text_tokens.specs.laws.TextLaws.{take_text-split, take_text-whole}
use Rattle.text_tokens.specs.laws.DecimalLaws.{number-length}
use Rattle.text_tokens.specs.laws.Steps.{goes}
use Rattle.sheet.proofs.laws.SheetTrip.{then-taken}
use Rattle.quote_couple_kinds.specs.declared.CoupleKind.{CoupleKind}
use Rattle.quote_couple_kinds.specs.declared.CoupleKind.TheVariants.{JointLife, LastSurvivor, JointExpectancy, LastExpectancy}
use Rattle.run_query.specs.Query.{read_word, read_field}
use Rattle.run_query.specs.laws.QueryLaws.{word_read, field-reads, field-read, ended-taken, ended-reads}
use Rattle.run_couple_query.specs.declared.CoupleQuery.{CoupleQuery}
use Rattle.run_couple_query.specs.CoupleQuery.{couple_word, couples_on_offer, read_couple}

-- ---- a query's text

unfoldable pub couple_text : CoupleQuery → List ℕ
couple_text q =
    bytes_of "kind=" ++ (couple_word q.kind ++ (bytes_of " age=" ++ (number_text q.age
    ++ (bytes_of " age2=" ++ (number_text q.other ++ (bytes_of " year=" ++ (number_text q.year
    ++ (bytes_of " span=" ++ number_text q.span))))))))

-- ---- a word

word-reads : (k : CoupleKind) (rest : List ℕ) → read_word couple_word couples_on_offer (couple_word k ++ rest) ≡ taken k rest
unfolding read_word couples_on_offer couple_word bytes_of take_text
word-reads JointLife rest = refl
word-reads LastSurvivor rest = refl
word-reads JointExpectancy rest = refl
word-reads LastExpectancy rest = refl

word-length : (k : CoupleKind) → (4 ≤ length (couple_word k)) × (length (couple_word k) ≤ 6)
unfolding couple_word bytes_of
word-length JointLife = omega arith
word-length LastSurvivor = omega arith
word-length JointExpectancy = omega arith
word-length LastExpectancy = omega arith

-- ---- a query

-- the query's numbers have at most 15 digits
pub record Small (q : CoupleQuery) : Type 0 where
  pub age : nat_abs q.age < 10 ^ most_digits
  pub other : nat_abs q.other < 10 ^ most_digits
  pub year : nat_abs q.year < 10 ^ most_digits
  pub span : nat_abs q.span < 10 ^ most_digits

-- the text, part by part, with what follows it
couple-apart : (q : CoupleQuery) (rest : List ℕ)
    → couple_text q ++ rest
    ≡ bytes_of "kind=" ++ (couple_word q.kind ++ (bytes_of " age=" ++ (number_text q.age
    ++ (bytes_of " age2=" ++ (number_text q.other ++ (bytes_of " year=" ++ (number_text q.year
    ++ (bytes_of " span=" ++ (number_text q.span ++ rest)))))))))
unfolding couple_text
couple-apart q rest = simp append_assoc

-- what reads as a query is its text and a line feed
pub couple-text : (line : List ℕ) {q : CoupleQuery} {rest : List ℕ} → read_couple line ≡ taken q rest
    → line ≡ couple_text q ++ bytes_of "\n"
unfolding read_couple
couple-text line {q} e =
    then-taken (take_text (bytes_of "kind=") line) _ e λ u b₀ e₀ f₀.
    then-taken (read_word couple_word couples_on_offer b₀) _ f₀ λ kind b₁ e₁ f₁.
    then-taken (read_field (bytes_of " age=") b₁) _ f₁ λ age b₂ e₂ f₂.
    then-taken (read_field (bytes_of " age2=") b₂) _ f₂ λ other b₃ e₃ f₃.
    then-taken (read_field (bytes_of " year=") b₃) _ f₃ λ year b₄ e₄ f₄.
    then-taken (read_field (bytes_of " span=") b₄) _ f₄ λ span b₅ e₅ f₅.
    let r : CoupleQuery = record { kind = kind; age = age; other = other; year = year; span = span } in
    let (l, same) = ended-taken r b₅ f₅ in
    let a = field-read (bytes_of " age=") b₁ e₂ in
    let o = field-read (bytes_of " age2=") b₂ e₃ in
    let y = field-read (bytes_of " year=") b₃ e₄ in
    let s = field-read (bytes_of " span=") b₄ e₅ in
    rw (← same)
    (take_text-whole (bytes_of "kind=") line e₀
    ∙ rw (word_read couple_word couples_on_offer b₀ e₁, a, o, y, s, l, couple-apart r (bytes_of "\n")))

-- the line of a query whose numbers have so few digits reads as the query
pub couple-reads : (q : CoupleQuery) → Small q → read_couple (couple_text q ++ bytes_of "\n") ≡ taken q []
unfolding read_couple bytes_of is_digit
couple-reads q h =
    let s = bytes_of " span=" ++ (number_text q.span ++ bytes_of "\n") in
    let y = bytes_of " year=" ++ (number_text q.year ++ s) in
    let o = bytes_of " age2=" ++ (number_text q.other ++ y) in
    let a = bytes_of " age=" ++ (number_text q.age ++ o) in
    rw (couple-apart q (bytes_of "\n"))
    (goes _ (take_text-split (bytes_of "kind=") (couple_word q.kind ++ a))
    ∙ goes _ (word-reads q.kind a)
    ∙ goes _ (field-reads (bytes_of " age=") q.age o h.age tt)
    ∙ goes _ (field-reads (bytes_of " age2=") q.other y h.other tt)
    ∙ goes _ (field-reads (bytes_of " year=") q.year s h.year tt)
    ∙ goes _ (field-reads (bytes_of " span=") q.span (bytes_of "\n") h.span tt)
    ∙ ended-reads q)

-- ---- lengths

-- 28 bytes besides the word and the numbers
couple-length : (q : CoupleQuery)
    → length (couple_text q)
    ≡ 28 + length (couple_word q.kind) + length (number_text q.age) + length (number_text q.other)
    + length (number_text q.year) + length (number_text q.span)
unfolding couple_text bytes_of
couple-length q = simp length-append (omega arith)

couple-between : (q : CoupleQuery) → (36 ≤ length (couple_text q)) × (length (couple_text q) ≤ 98)
couple-between q =
    omega (
      arith,
      couple-length q,
      word-length q.kind,
      number-length q.age,
      number-length q.other,
      number-length q.year,
      number-length q.span,
    )

-- at least 36 bytes, and at most 98
pub couple-least : (q : CoupleQuery) → 36 ≤ length (couple_text q)
couple-least q = (couple-between q).0

pub couple-most : (q : CoupleQuery) → length (couple_text q) ≤ 98
couple-most q = (couple-between q).1
