-- Targets' lines that are read and lines that are malformed, by computation.
use Rattle.std.specs.Prelude.{◌≡◌, refl, ℕ, List, [], pos, negsuc}
use Rattle.text_tokens.specs.Text.{bytes_of, malformed, taken, take_text}
use Rattle.text_tokens.specs.Number.{is_digit, digits, after_digits, value_from, no_leading_zero, well_formed}
use Rattle.text_tokens.specs.Number.{read_unsigned, negated, positive, read_number}
use Rattle.run_query.specs.Query.{read_field, alone, ended}
use Rattle.run_target_line.specs.TargetLine.{read_target}

read-rows :
    (read_target (bytes_of "age=65 target=21000000000\n") ≡ taken (record { age = pos 65; target = pos 21000000000 }) [])
    -- below 0: whether there is such an age is not asked here
    × (read_target (bytes_of "age=-1 target=-1\n") ≡ taken (record { age = negsuc 0; target = negsuc 0 }) [])
unfolding bytes_of take_text read_field alone ended read_target
    is_digit digits after_digits value_from no_leading_zero well_formed read_unsigned negated positive read_number
read-rows = (refl, refl)

abbrev Malformed : List ℕ → Type 0
Malformed line = read_target line ≡ malformed

malformed-rows :
    -- no line feed, and a byte after it
    Malformed (bytes_of "age=65 target=21000000000")
    × Malformed (bytes_of "age=65 target=21000000000\n\n")
    -- the target ahead of the age, and none
    × Malformed (bytes_of "target=21000000000 age=65\n")
    × Malformed (bytes_of "age=65\n")
    -- a leading zero, a target in years, and 16 digits
    × Malformed (bytes_of "age=065 target=21000000000\n")
    × Malformed (bytes_of "age=65 target=21.0\n")
    × Malformed (bytes_of "age=65 target=1000000000000000\n")
    -- a query of a figure
    × Malformed (bytes_of "kind=eper age=65 year=2020 span=0\n")
unfolding bytes_of take_text read_field alone ended read_target
    is_digit digits after_digits value_from no_leading_zero well_formed read_unsigned negated positive read_number
malformed-rows = (refl, refl, refl, refl, refl, refl, refl, refl)
