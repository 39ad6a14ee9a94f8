-- A couple's query line (paper 02, E8), "two lives, each with its own sheet, age and one common quote year", in the form of a
-- single life's with the second life's age behind the first's: `kind=joint age=65 age2=62 year=2020 span=20`.
use Rattle.std.specs.Prelude.{ℕ, List, [], ◌∷◌}
use Rattle.text_tokens.specs.Text.{bytes_of, Parse, take_text, and_then}
use Rattle.quote_couple_kinds.specs.declared.CoupleKind.{CoupleKind}
use Rattle.quote_couple_kinds.specs.declared.CoupleKind.TheVariants.{JointLife, LastSurvivor, JointExpectancy, LastExpectancy}
use Rattle.run_query.specs.Query.{read_word, read_field, ended}
use Rattle.run_couple_query.specs.declared.CoupleQuery.{CoupleQuery}

unfoldable pub couple_word : CoupleKind → List ℕ
couple_word JointLife = bytes_of "joint"
couple_word LastSurvivor = bytes_of "last"
couple_word JointExpectancy = bytes_of "ejoint"
couple_word LastExpectancy = bytes_of "elast"

-- every kind: no kind's word begins with another's, so the order decides nothing
unfoldable pub couples_on_offer : List CoupleKind
couples_on_offer = JointLife ∷ LastSurvivor ∷ JointExpectancy ∷ LastExpectancy ∷ []

-- the query of a whole line
unfoldable pub read_couple : List ℕ → Parse CoupleQuery
read_couple line =
    and_then (take_text (bytes_of "kind=") line) (λ u after₀.
    and_then (read_word couple_word couples_on_offer after₀) (λ kind after₁.
    and_then (read_field (bytes_of " age=") after₁) (λ age after₂.
    and_then (read_field (bytes_of " age2=") after₂) (λ other after₃.
    and_then (read_field (bytes_of " year=") after₃) (λ year after₄.
    and_then (read_field (bytes_of " span=") after₄) (λ span after₅.
    ended (record { kind = kind; age = age; other = other; year = year; span = span }) after₅))))))
