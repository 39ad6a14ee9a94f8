-- Numbers that are read and numbers that are malformed, by computation.
use Rattle.std.specs.Prelude.{◌≡◌, refl, [], pos, negsuc}
use Rattle.text_tokens.specs.Text.{bytes_of, malformed, taken}
use Rattle.text_tokens.specs.Number.{is_digit, digits, after_digits, value_from, no_leading_zero, well_formed}
use Rattle.text_tokens.specs.Number.{read_unsigned, negated, positive, read_number}

-- −12, and what follows it
minus-twelve : read_number (bytes_of "-12\n") ≡ taken (negsuc 11) (bytes_of "\n")
unfolding bytes_of is_digit digits after_digits value_from no_leading_zero well_formed read_unsigned negated positive read_number
minus-twelve = refl

-- 0 alone, and no other leading zero
zero-alone : read_number (bytes_of "0") ≡ taken (pos 0) []
unfolding bytes_of is_digit digits after_digits value_from no_leading_zero well_formed read_unsigned negated positive read_number
zero-alone = refl

leading_zeros : read_number (bytes_of "007") ≡ malformed
unfolding bytes_of is_digit digits after_digits value_from no_leading_zero well_formed read_unsigned negated positive read_number
leading_zeros = refl

minus-zero : read_number (bytes_of "-0") ≡ malformed
unfolding bytes_of is_digit digits after_digits value_from no_leading_zero well_formed read_unsigned negated positive read_number
minus-zero = refl

-- 15 digits, and one more
fifteen : read_number (bytes_of "999999999999999,") ≡ taken (pos 999999999999999) (bytes_of ",")
unfolding bytes_of is_digit digits after_digits value_from no_leading_zero well_formed read_unsigned negated positive read_number
fifteen = refl

sixteen : read_number (bytes_of "1000000000000000") ≡ malformed
unfolding bytes_of is_digit digits after_digits value_from no_leading_zero well_formed read_unsigned negated positive read_number
sixteen = refl

-- no digit
nothing : read_number (bytes_of "") ≡ malformed
unfolding bytes_of read_number
nothing = refl

minus-alone : read_number (bytes_of "-") ≡ malformed
unfolding bytes_of is_digit digits after_digits value_from no_leading_zero well_formed read_unsigned negated positive read_number
minus-alone = refl

two-minuses : read_number (bytes_of "--5") ≡ malformed
unfolding bytes_of is_digit digits after_digits value_from no_leading_zero well_formed read_unsigned negated positive read_number
two-minuses = refl
