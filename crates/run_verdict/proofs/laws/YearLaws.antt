-- The year's line: a name and a number, and then a line feed; and how large a year is.
use Rattle.std.specs.Prelude.{◌≡◌, refl, List, ℕ, ◌^◌, ◌<◌, ℤ, nat_abs}
use Rattle.text_tokens.specs.Text.{bytes_of, Parse, malformed, taken, take_text, and_then}
use Rattle.text_tokens.specs.Number.{most_digits, read_number}
use Rattle.sheet.specs.Sheet.{read_line}
use Rattle.sheet.proofs.laws.SheetTrip.{line_read}
use Rattle.run_query.specs.Query.{read_field}
use Rattle.run_verdict.specs.VerdictRun.{read_year}

-- a year, and the line feed behind it
abbrev pub with_feed : ℤ → List ℕ → Parse ℤ
with_feed year after = and_then (take_text (bytes_of "\n") after) (λ u rest. taken year rest)

pub year-steps : (bs : List ℕ) → read_year bs ≡ and_then (read_field (bytes_of "year=") bs) with_feed
unfolding read_year read_line read_field bytes_of
year-steps bs = go (take_text (bytes_of "year=") bs)
  where
    go : (q : Parse Unit)
        → and_then q (λ u after. and_then (read_number after) with_feed) ≡ and_then (and_then q (λ u after. read_number after)) with_feed
    go malformed = refl
    go (taken u after) = refl

-- a year has at most 15 digits
pub year-small : (bs : List ℕ) {year : ℤ} {rest : List ℕ} → read_year bs ≡ taken year rest → nat_abs year < 10 ^ most_digits
unfolding read_year
year-small bs e = (line_read (bytes_of "year") bs _ _ e).small
