-- Lines of a column that are read and lines that are malformed, by computation.
use Rattle.std.specs.Prelude.{◌≡◌, refl, [], pos, negsuc}
use Rattle.text_tokens.specs.Text.{bytes_of, malformed, taken, take_text}
use Rattle.text_tokens.specs.Number.{is_digit, digits, after_digits, value_from, no_leading_zero, well_formed, leading, read_digits}
use Rattle.text_tokens.specs.Number.{read_unsigned, negated, positive, read_number}
use Rattle.run_query.specs.Query.{read_field, alone, ended}
use Rattle.run_column_text.specs.Column.{read_q, read_entry}

-- ---- read

paper : read_entry (bytes_of "age=0 q=0.00312\n") ≡ taken (record { age = pos 0; steps = 312 }) []
unfolding bytes_of take_text read_field alone ended is_digit digits after_digits value_from no_leading_zero well_formed read_unsigned
    negated positive read_number leading read_digits read_q read_entry
paper = refl

certain : read_entry (bytes_of "age=120 q=1.00000\n") ≡ taken (record { age = pos 120; steps = 100000 }) []
unfolding bytes_of take_text read_field alone ended is_digit digits after_digits value_from no_leading_zero well_formed read_unsigned
    negated positive read_number leading read_digits read_q read_entry
certain = refl

-- an age below 0: whether the table has it is not asked here
below-zero : read_entry (bytes_of "age=-5 q=0.00312\n") ≡ taken (record { age = negsuc 4; steps = 312 }) []
unfolding bytes_of take_text read_field alone ended is_digit digits after_digits value_from no_leading_zero well_formed read_unsigned
    negated positive read_number leading read_digits read_q read_entry
below-zero = refl

-- ---- malformed

-- four decimals, and six
four-decimals : read_entry (bytes_of "age=0 q=0.0031\n") ≡ malformed
unfolding bytes_of take_text read_field alone ended is_digit digits after_digits value_from no_leading_zero well_formed read_unsigned
    negated positive read_number leading read_digits read_q read_entry
four-decimals = refl

six-decimals : read_entry (bytes_of "age=0 q=0.003120\n") ≡ malformed
unfolding bytes_of take_text read_field alone ended is_digit digits after_digits value_from no_leading_zero well_formed read_unsigned
    negated positive read_number leading read_digits read_q read_entry
six-decimals = refl

-- two digits before the point, none, and a minus
two_digits : read_entry (bytes_of "age=0 q=00.00312\n") ≡ malformed
unfolding bytes_of take_text read_field alone ended is_digit digits after_digits value_from no_leading_zero well_formed read_unsigned
    negated positive read_number leading read_digits read_q read_entry
two_digits = refl

no_digit : read_entry (bytes_of "age=0 q=.00312\n") ≡ malformed
unfolding bytes_of take_text read_field alone ended is_digit digits after_digits value_from no_leading_zero well_formed read_unsigned
    negated positive read_number leading read_digits read_q read_entry
no_digit = refl

minus : read_entry (bytes_of "age=0 q=-0.00312\n") ≡ malformed
unfolding bytes_of take_text read_field alone ended is_digit digits after_digits value_from no_leading_zero well_formed read_unsigned
    negated positive read_number leading read_digits read_q read_entry
minus = refl

-- a comma
comma : read_entry (bytes_of "age=0 q=0,00312\n") ≡ malformed
unfolding bytes_of take_text read_field alone ended is_digit digits after_digits value_from no_leading_zero well_formed read_unsigned
    negated positive read_number leading read_digits read_q read_entry
comma = refl

-- an age with a leading zero
leading-zero : read_entry (bytes_of "age=07 q=0.00312\n") ≡ malformed
unfolding bytes_of take_text read_field alone ended is_digit digits after_digits value_from no_leading_zero well_formed read_unsigned
    negated positive read_number leading read_digits read_q read_entry
leading-zero = refl

-- a carriage return, no line feed, and an empty line
carriage-return : read_entry (bytes_of "age=0 q=0.00312\r\n") ≡ malformed
unfolding bytes_of take_text read_field alone ended is_digit digits after_digits value_from no_leading_zero well_formed read_unsigned
    negated positive read_number leading read_digits read_q read_entry
carriage-return = refl

no-line-feed : read_entry (bytes_of "age=0 q=0.00312") ≡ malformed
unfolding bytes_of take_text read_field alone ended is_digit digits after_digits value_from no_leading_zero well_formed read_unsigned
    negated positive read_number leading read_digits read_q read_entry
no-line-feed = refl

empty-line : read_entry (bytes_of "\n") ≡ malformed
unfolding bytes_of take_text read_field alone ended is_digit digits after_digits value_from no_leading_zero well_formed read_unsigned
    negated positive read_number leading read_digits read_q read_entry
empty-line = refl
