-- The sheet in the steps of the code: its length, its first two lines, what follows its lines, and the limits.
use Rattle.std.specs.Prelude.{◌≡◌, ℕ, ◌+◌, ◌≤◌, ◌<◌, List, [], length, drop}
use Rattle.std.proofs.Common.{sym, ap, ◌∙◌}
use Rattle.std.proofs.Math.Bool.{true, false}
use borrow.Author.Tests.{le-leb, lt-leb}
use Rattle.std.proofs.Math.ListN.{drop_of_length-le}
use Rattle.std.proofs.Math.Seq.{drop-cons}
use Rattle.text_tokens.specs.Text.{bytes_of, Parse, malformed, taken}
use Rattle.text_tokens.specs.code.Places.{text_at}
use Rattle.text_tokens.specs.laws.TextLaws.{text-found, text-missing}
use Rattle.set_params.specs.declared.Params.{Params}
use Rattle.set_refusal.specs.declared.Refusal.TheVariants.{Accepted, Malformed, OutOfLimits}
use Rattle.set_params.specs.declared.Table.{Table}
use Rattle.set_params.specs.declared.Table.TheVariants.{Ag2014, LiLee}
use Rattle.set_params.specs.declared.Sex.TheVariants.{M, F}
use Rattle.set_limits.specs.InLimits.{in_limits}
use Rattle.sheet.specs.Sheet.{most_bytes, table_text, sex_text, read_either, read_table, read_sex, read_front, nothing_after, read_set}
use Rattle.sheet.specs.Sheet.{refused, reading_of, read_sheet}
use Rattle.sheet_set.specs.code.SetLines.{from_lines}
use Rattle.sheet_reader.specs.code.Read.{from_sex}
use Rattle.text_tokens.specs.laws.Steps.{goes, stops}

-- ---- its length

pub too_long : (bs : List ℕ) → most_bytes < length bs → read_sheet bs ≡ refused Malformed
unfolding read_sheet
too_long bs h = rw (lt-leb (length bs) most_bytes h)

pub not-too-long : (bs : List ℕ) → length bs ≤ most_bytes → read_sheet bs ≡ reading_of (read_set bs)
unfolding read_sheet
not-too-long bs h = rw (le-leb (length bs) most_bytes h)

-- ---- its first two lines

-- the one of two whose text is found at a place
module _ {X : Type 0} (text : X → List ℕ) (x y : X) (bytes : List ℕ) (at : ℕ) where
  pub either_first : text_at bytes at (text x) ≡ true
      → read_either text x y (drop at bytes) ≡ taken x (drop (at + length (text x)) bytes)
  unfolding read_either
  either_first f = rw (text-found bytes at (text x) f, read_either)

  module _ (n : text_at bytes at (text x) ≡ false) where
    pub either_second : text_at bytes at (text y) ≡ true
        → read_either text x y (drop at bytes) ≡ taken y (drop (at + length (text y)) bytes)
    unfolding read_either
    either_second f = rw (text-missing bytes at (text x) n, read_either) (rw (text-found bytes at (text y) f))

    pub either-none : text_at bytes at (text y) ≡ false → read_either text x y (drop at bytes) ≡ malformed
    unfolding read_either
    either-none m = rw (text-missing bytes at (text x) n, read_either) (rw (text-missing bytes at (text y) m))

module _ (bytes : List ℕ) where
  -- the first line: either table's, or none
  pub table-ag2014 : text_at bytes 0 (table_text Ag2014) ≡ true → read_front bytes ≡ from_sex Ag2014 (drop 13 bytes)
  unfolding read_front read_table table_text bytes_of from_sex from_lines
  table-ag2014 f = goes _ (either_first table_text Ag2014 LiLee bytes 0 f)

  module _ (n : text_at bytes 0 (table_text Ag2014) ≡ false) where
    pub table-lilee : text_at bytes 0 (table_text LiLee) ≡ true → read_front bytes ≡ from_sex LiLee (drop 12 bytes)
    unfolding read_front read_table table_text bytes_of from_sex from_lines
    table-lilee f = goes _ (either_second table_text Ag2014 LiLee bytes 0 n f)

    pub table_none : text_at bytes 0 (table_text LiLee) ≡ false → read_front bytes ≡ malformed
    unfolding read_front read_table
    table_none m = stops _ (either-none table_text Ag2014 LiLee bytes 0 n m)

  -- the second: either sex's, or none
  module _ (t : Table) (at : ℕ) where
    pub sex-m : text_at bytes at (sex_text M) ≡ true → from_sex t (drop at bytes) ≡ from_lines t M (drop (at + 6) bytes)
    unfolding from_sex read_sex sex_text bytes_of
    sex-m f = goes _ (either_first sex_text M F bytes at f)

    module _ (n : text_at bytes at (sex_text M) ≡ false) where
      pub sex-f : text_at bytes at (sex_text F) ≡ true → from_sex t (drop at bytes) ≡ from_lines t F (drop (at + 6) bytes)
      unfolding from_sex read_sex sex_text bytes_of
      sex-f f = goes _ (either_second sex_text M F bytes at n f)

      pub sex-none : text_at bytes at (sex_text F) ≡ false → from_sex t (drop at bytes) ≡ malformed
      unfolding from_sex read_sex
      sex-none m = stops _ (either-none sex_text M F bytes at n m)

-- ---- by what the code read at the front

module _ (bytes : List ℕ) (short : length bytes ≤ most_bytes) where
  by_front : (q : Parse Params) → q ≡ read_front bytes → read_sheet bytes ≡ reading_of (nothing_after q)
  unfolding read_set
  by_front q e = not-too-long bytes short ∙ ap (λ (r : Parse Params). reading_of (nothing_after r)) (sym e)

  -- no sheet, one that bytes follow, and one that nothing follows
  pub none-reading : malformed ≡ read_front bytes → read_sheet bytes ≡ refused Malformed
  unfolding nothing_after reading_of
  none-reading e = by_front malformed e

  module _ (p : Params) (next : ℕ) (e : taken p (drop next bytes) ≡ read_front bytes) where
    pub followed-reading : next < length bytes → read_sheet bytes ≡ refused Malformed
    unfolding nothing_after reading_of
    followed-reading h = by_front (taken p (drop next bytes)) e ∙ rw (drop-cons bytes next 0 h)

    pub whole-reading : length bytes ≤ next → read_sheet bytes ≡ reading_of (taken p [])
    unfolding nothing_after
    whole-reading h = by_front (taken p (drop next bytes)) e ∙ rw (drop_of_length-le bytes h)

-- ---- the limits

-- a whole sheet is out of limits, or accepted
pub out-of-limits : (p : Params) → in_limits p ≡ false → reading_of (taken p []) ≡ refused OutOfLimits
unfolding reading_of
out-of-limits p e = rw e

pub accepted : (p : Params) → in_limits p ≡ true → reading_of (taken p []) ≡ record { refusal = Accepted; set = p }
unfolding reading_of
accepted p e = rw e
