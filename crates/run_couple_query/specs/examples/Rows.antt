-- Couples' query lines that are read and lines that are malformed, by computation.
use Rattle.std.specs.Prelude.{◌≡◌, refl, ℕ, List, [], pos, negsuc}
use Rattle.text_tokens.specs.Text.{bytes_of, malformed, taken, take_text}
use Rattle.text_tokens.specs.Number.{is_digit, digits, after_digits, value_from, no_leading_zero, well_formed}
use Rattle.text_tokens.specs.Number.{read_unsigned, negated, positive, read_number}
use Rattle.quote_couple_kinds.specs.declared.CoupleKind.TheVariants.{JointLife, LastSurvivor, JointExpectancy, LastExpectancy}
use Rattle.run_query.specs.Query.{read_word, read_field, alone, ended}
use Rattle.run_couple_query.specs.CoupleQuery.{couple_word, couples_on_offer, read_couple}

-- ---- read

read-rows :
    (read_couple (bytes_of "kind=joint age=65 age2=62 year=2020 span=20\n")
    ≡ taken (record { kind = JointLife; age = pos 65; other = pos 62; year = pos 2020; span = pos 20 }) [])
    × (read_couple (bytes_of "kind=last age=65 age2=62 year=2020 span=20\n")
    ≡ taken (record { kind = LastSurvivor; age = pos 65; other = pos 62; year = pos 2020; span = pos 20 }) [])
    × (read_couple (bytes_of "kind=ejoint age=65 age2=62 year=2020 span=0\n")
    ≡ taken (record { kind = JointExpectancy; age = pos 65; other = pos 62; year = pos 2020; span = pos 0 }) [])
    -- an age below 0: whether a life has it is not asked here
    × (read_couple (bytes_of "kind=elast age=65 age2=-1 year=2020 span=0\n")
    ≡ taken (record { kind = LastExpectancy; age = pos 65; other = negsuc 0; year = pos 2020; span = pos 0 }) [])
unfolding bytes_of take_text couple_word couples_on_offer read_word read_field alone ended read_couple
    is_digit digits after_digits value_from no_leading_zero well_formed read_unsigned negated positive read_number
read-rows = (refl, refl, refl, refl)

-- ---- malformed

abbrev Malformed : List ℕ → Type 0
Malformed line = read_couple line ≡ malformed

malformed-rows :
    -- no line feed, and a byte after it
    Malformed (bytes_of "kind=joint age=65 age2=62 year=2020 span=20")
    × Malformed (bytes_of "kind=joint age=65 age2=62 year=2020 span=20\n\n")
    -- one age, and the second life's ahead of the first's
    × Malformed (bytes_of "kind=joint age=65 year=2020 span=20\n")
    × Malformed (bytes_of "kind=joint age2=62 age=65 year=2020 span=20\n")
    -- a word of a single life, and a couple's word with a byte after it
    × Malformed (bytes_of "kind=coh age=65 age2=62 year=2020 span=20\n")
    × Malformed (bytes_of "kind=jointly age=65 age2=62 year=2020 span=20\n")
    -- leading zeros, and a rate
    × Malformed (bytes_of "kind=joint age=65 age2=062 year=2020 span=20\n")
    × Malformed (bytes_of "kind=joint age=65 age2=62 year=2020 span=20 rate=30000\n")
unfolding bytes_of take_text couple_word couples_on_offer read_word read_field alone ended read_couple
    is_digit digits after_digits value_from no_leading_zero well_formed read_unsigned negated positive read_number
malformed-rows = (refl, refl, refl, refl, refl, refl, refl, refl)
