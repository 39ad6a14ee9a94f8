-- So many digits and no more, read one after the other.
use Rattle.std.specs.Prelude.{◌≡◌, refl, true, false, List, [], ◌∷◌, ◌++◌, ℕ, suc, ◌+◌, ◌-◌, ◌*◌, length}
use Rattle.std.proofs.Common.{◌∙◌}
use Rattle.std.proofs.Math.Dec.{eqb-zero-suc, eqb-suc-suc}
use Rattle.std.proofs.Math.Seq.{take-nil}
use Rattle.text_tokens.specs.Text.{malformed, taken}
use Rattle.text_tokens.specs.Number.{zero_digit, is_digit, digits, value_from, leading, read_digits}
use Rattle.text_tokens.specs.laws.DigitLaws.{digits_more, digits-end}
use Rattle.text_tokens.specs.laws.NumberTrip.{AllDigits}

pub read_all : (v : ℕ) (bs : List ℕ) → read_digits v 0 bs ≡ taken v bs
unfolding read_digits leading value_from
read_all v bs = refl

-- a digit is missing: at the end, and at another byte
pub read_past : (v n : ℕ) → read_digits v (suc n) [] ≡ malformed
unfolding read_digits leading digits
read_past v n = rw (take-nil (suc n), eqb-zero-suc n)

pub read-other : (v n b : ℕ) (bs : List ℕ) → is_digit b ≡ false → read_digits v (suc n) (b ∷ bs) ≡ malformed
unfolding read_digits leading
read-other v n b bs e = rw (digits-end b bs e, take-nil (suc n), eqb-zero-suc n)

-- one digit, and n more
pub read-digit : (v n b : ℕ) (bs : List ℕ) → is_digit b ≡ true
    → read_digits v (suc n) (b ∷ bs) ≡ read_digits (v * 10 + (b - zero_digit)) n bs
unfolding read_digits leading value_from
read-digit v n b bs e = rw (digits_more b bs e, eqb-suc-suc (length (leading n bs)) n)

-- as many digits as are asked for are read, whatever follows them
pub fixed_reads : (v : ℕ) (ds rest : List ℕ) → AllDigits ds → read_digits v (length ds) (ds ++ rest) ≡ taken (value_from v ds) rest
unfolding value_from
fixed_reads v [] rest a = read_all v rest
fixed_reads v (d ∷ ds) rest a =
    read-digit v (length ds) d (ds ++ rest) a.0 ∙ fixed_reads (v * 10 + (d - zero_digit)) ds rest a.1
