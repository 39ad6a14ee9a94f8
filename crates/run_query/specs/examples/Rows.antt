-- Query lines that are read and query lines that are malformed, by computation.
use Rattle.std.specs.Prelude.{◌≡◌, refl, ℕ, List, [], pos, negsuc}
use Rattle.text_tokens.specs.Text.{bytes_of, malformed, taken, take_text}
use Rattle.text_tokens.specs.Number.{is_digit, digits, after_digits, value_from, no_leading_zero, well_formed}
use Rattle.text_tokens.specs.Number.{read_unsigned, negated, positive, read_number}
use Rattle.quote_kinds.specs.declared.Kind.TheVariants.{Death, CohortExpectancy, CohortAnnuity, PeriodAnnuity, Day}
use Rattle.quote_kinds.specs.Kinds.{rule_of, takes_rate, with_rate}
use Rattle.run_query.specs.Query.{word_of, on_offer, term_name, read_word, read_field, read_rate, alone, ended, read_query}

-- ---- read

death : read_query (bytes_of "kind=q age=65 year=2020 span=0\n")
    ≡ taken (record { kind = Death; age = pos 65; year = pos 2020; term = pos 0 }) []
unfolding bytes_of take_text word_of on_offer rule_of term_name takes_rate with_rate read_word read_field read_rate alone ended read_query
    is_digit digits after_digits value_from no_leading_zero well_formed read_unsigned negated positive read_number
death = refl

-- an age below 0: whether a life has it is not asked here
below-zero : read_query (bytes_of "kind=ecoh age=-5 year=2020 span=0\n")
    ≡ taken (record { kind = CohortExpectancy; age = negsuc 4; year = pos 2020; term = pos 0 }) []
unfolding bytes_of take_text word_of on_offer rule_of term_name takes_rate with_rate read_word read_field read_rate alone ended read_query
    is_digit digits after_digits value_from no_leading_zero well_formed read_unsigned negated positive read_number
below-zero = refl

-- an annuity, with its rate; whether there is such a rate is not asked here
annuity : read_query (bytes_of "kind=acoh age=65 year=2020 span=0 rate=30000\n")
    ≡ taken (record { kind = CohortAnnuity (pos 30000); age = pos 65; year = pos 2020; term = pos 0 }) []
unfolding bytes_of take_text word_of on_offer rule_of term_name takes_rate with_rate read_word read_field read_rate alone ended read_query
    is_digit digits after_digits value_from no_leading_zero well_formed read_unsigned negated positive read_number
annuity = refl

rate-below-zero : read_query (bytes_of "kind=aper age=65 year=2020 span=0 rate=-1\n")
    ≡ taken (record { kind = PeriodAnnuity (negsuc 0); age = pos 65; year = pos 2020; term = pos 0 }) []
unfolding bytes_of take_text word_of on_offer rule_of term_name takes_rate with_rate read_word read_field read_rate alone ended read_query
    is_digit digits after_digits value_from no_leading_zero well_formed read_unsigned negated positive read_number
rate-below-zero = refl

-- a survival to a day, with its date; whether there is such a date is not asked here
day : read_query (bytes_of "kind=day age=65 year=2020 date=20410315\n")
    ≡ taken (record { kind = Day; age = pos 65; year = pos 2020; term = pos 20410315 }) []
unfolding bytes_of take_text word_of on_offer rule_of term_name takes_rate with_rate read_word read_field read_rate alone ended read_query
    is_digit digits after_digits value_from no_leading_zero well_formed read_unsigned negated positive read_number
day = refl

-- ---- malformed

abbrev Malformed : List ℕ → Type 0
Malformed line = read_query line ≡ malformed

malformed-rows :
    -- no line feed, and a byte after it
    Malformed (bytes_of "kind=q age=65 year=2020 span=0")
    × Malformed (bytes_of "kind=q age=65 year=2020 span=0\n\n")
    -- leading zeros
    × Malformed (bytes_of "kind=q age=007 year=2020 span=0\n")
    -- two blanks
    × Malformed (bytes_of "kind=q  age=65 year=2020 span=0\n")
    -- a word that is no kind's, and a kind's word with a byte after it
    × Malformed (bytes_of "kind=Q age=65 year=2020 span=0\n")
    × Malformed (bytes_of "kind=qx age=65 year=2020 span=0\n")
    -- an annuity without ` rate=`, and another kind with it
    × Malformed (bytes_of "kind=acoh age=65 year=2020 span=0\n")
    × Malformed (bytes_of "kind=q age=65 year=2020 span=0 rate=30000\n")
    × Malformed (bytes_of "kind=aper age=65 year=2020 span=0 rate=30000 rate=30000\n")
    -- a survival to a day with ` span=`, and another kind with ` date=`
    × Malformed (bytes_of "kind=day age=65 year=2020 span=20410315\n")
    × Malformed (bytes_of "kind=coh age=65 year=2020 date=20410315\n")
unfolding bytes_of take_text word_of on_offer rule_of term_name takes_rate with_rate read_word read_field read_rate alone ended read_query
    is_digit digits after_digits value_from no_leading_zero well_formed read_unsigned negated positive read_number
malformed-rows = (refl, refl, refl, refl, refl, refl, refl, refl, refl, refl, refl)
