-- The sheet at the front of some bytes: where one is read there, its text is as many lines as its table says, and those alone are
-- read as the same set; where none is, no number of first lines is one.
use Rattle.std.specs.Prelude.{◌≡◌, Bool, ◌&&◌, ℕ, zero, suc, ◌+◌, ◌-◌, ◌/◌, ◌%◌, ◌≤◌, T, ltb, ℤ, pos, negsuc, drop}
use Rattle.std.proofs.Math.Path.{refl, sym, ap}
use Rattle.std.proofs.Common.{◌∙◌, arith, lt→ltb, length-append, length-drop}
use Rattle.std.proofs.Math.Bool.{true, false}
use mathlib.Core.List.{List, [], ◌∷◌, ◌++◌, append_assoc}
use Rattle.std.proofs.Math.Decide.{dec_le}
use Rattle.std.specs.Float.Ieee.Fits.{and_i, and_l, and_r}
use Rattle.std.proofs.Math.ListN.{length}
use Rattle.text_tokens.specs.Text.{bytes_of, Parse, malformed, taken, take_text}
use Rattle.text_tokens.specs.Number.{zero_digit, most_digits, decimal, unsigned_text, number_text}
use Rattle.text_tokens.specs.code.Places.{text_at}
use Rattle.text_tokens.specs.laws.DecimalLaws.{decimal-last, decimal-more, by_size}
use Rattle.text_tokens.specs.laws.NumberTrip.{malformed-not-taken}
use Rattle.text_tokens.specs.laws.TextLaws.{text-found, text-missing}
use Rattle.text_lines.specs.Lines.{line_feed, first_lines}
use Rattle.text_lines.proofs.laws.AfterLines.{after_lines}
use Rattle.text_lines.proofs.laws.LineLaws.{lines_split, lines-within}
use Rattle.text_lines.proofs.laws.CutLaws.{above, Cuts, above-append, cuts-none, cuts-line}
use Rattle.set_params.specs.declared.Params.{Params}
use Rattle.set_params.specs.declared.Table.{Table}
use Rattle.set_params.specs.declared.Table.TheVariants.{Ag2014, LiLee}
use Rattle.set_params.specs.declared.Sex.{Sex}
use Rattle.set_params.specs.declared.Sex.TheVariants.{M, F}
use Rattle.set_refusal.specs.declared.Refusal.TheVariants.{Malformed}
use Rattle.sheet.specs.Sheet.{most_bytes, sheet_lines, for_ages, age_keys, if_li_lee, keys, values, line_text, lines_text, table_text}
use Rattle.sheet.specs.Sheet.{sex_text, sheet_text, read_front, nothing_after, read_set, refused, reading_of, read_sheet}
use Rattle.sheet.proofs.laws.SetTrip.{keys_length, values_length}
use Rattle.sheet.proofs.laws.SheetTrip.{front_reads, front_read, set_reads, sheet-length}
use Rattle.sheet_reader.specs.Front.{table_at, front_lines, sheet_of, sheet_end}
use Rattle.sheet_reader.specs.laws.SheetLaws.{too_long, not-too-long}

-- ---- no line feed but at a line's end

digit-above : (d : ℕ) → T (above ((zero_digit + d) ∷ []))
digit-above d = and_i (ltb line_feed (zero_digit + d)) true (lt→ltb line_feed (zero_digit + d) (omega arith)) tt

decimal-above : (m n : ℕ) → T (above (decimal m n))
unfolding decimal
decimal-above zero n = tt
decimal-above (suc m) n = by_size n
    (λ h. rw (decimal-last m n h) (digit-above n))
    (λ h. rw (decimal-more m n h) (above-append (decimal m (n / 10)) _ (decimal-above m (n / 10)) (digit-above (n % 10))))

number-above : (v : ℤ) → T (above (number_text v))
unfolding number_text unsigned_text
number-above (pos n) = decimal-above most_digits n
number-above (negsuc n) = decimal-above most_digits (suc n)

all_above : List (List ℕ) → Bool
all_above [] = true
all_above (k ∷ ks) = above k && all_above ks

keys-above : (t : Table) → T (all_above (keys t))
unfolding all_above keys if_li_lee for_ages age_keys bytes_of unsigned_text decimal
keys-above Ag2014 = tt
keys-above LiLee = tt

-- ---- a sheet's lines

line-apart : (key : List ℕ) (v : ℤ) (text : List ℕ)
    → line_text key v ++ text ≡ (key ++ (bytes_of "=" ++ number_text v)) ++ (line_feed ∷ text)
unfolding line_text bytes_of
line-apart key v text = simp append_assoc

lines_cut : (ks : List (List ℕ)) (vs : List ℤ) → T (all_above ks) → length vs ≡ length ks → Cuts (length ks) (lines_text ks vs)
unfolding lines_text all_above bytes_of
lines_cut [] vs t h = cuts-none
lines_cut (k ∷ ks) [] t h = absurd (omega arith)
lines_cut (k ∷ ks) (v ∷ vs) t h =
    rw (line-apart k v (lines_text ks vs))
    (cuts-line (k ++ (bytes_of "=" ++ number_text v)) (lines_text ks vs)
    (above-append k (bytes_of "=" ++ number_text v) (and_l (above k) (all_above ks) t)
    (above-append (bytes_of "=") (number_text v) tt (number-above v)))
    (lines_cut ks vs (and_r (above k) (all_above ks) t) (omega arith)))

table-cuts : {n : ℕ} (t : Table) (text : List ℕ) → Cuts n text → Cuts (suc n) (table_text t ++ text)
unfolding table_text bytes_of
table-cuts Ag2014 text c = cuts-line (bytes_of "table=AG2014") text tt c
table-cuts LiLee text c = cuts-line (bytes_of "table=LILEE") text tt c

sex-cuts : {n : ℕ} (s : Sex) (text : List ℕ) → Cuts n text → Cuts (suc n) (sex_text s ++ text)
unfolding sex_text bytes_of
sex-cuts M text c = cuts-line (bytes_of "sex=M") text tt c
sex-cuts F text c = cuts-line (bytes_of "sex=F") text tt c

sheet-cuts : (p : Params) → Cuts (sheet_lines p.table) (sheet_text p)
unfolding sheet_text
sheet-cuts p =
    let t = p.table in
    let n : suc (suc (length (keys t))) ≡ sheet_lines t = omega (arith, keys_length t) in
    rw (← n) (table-cuts t _ (sex-cuts p.sex _ (lines_cut (keys t) (values p) (keys-above t) (values_length p))))

-- ---- the sheet at the front

-- the first line says the table
table-at : (t : Table) (rest : List ℕ) → table_at (table_text t ++ rest) ≡ t
unfolding table_at table_text bytes_of take_text
table-at Ag2014 rest = refl
table-at LiLee rest = refl

sheet-table : (p : Params) (rest : List ℕ) → table_at (sheet_text p ++ rest) ≡ p.table
unfolding sheet_text
sheet-table p rest = rw (append_assoc (table_text p.table)) (table-at p.table _)

-- the lines of a sheet are its text, whatever follows it
sheet-front : (p : Params) (rest : List ℕ) → front_lines (sheet_text p ++ rest) ≡ sheet_text p
unfolding front_lines
sheet-front p rest = rw (sheet-table p rest) ((sheet-cuts p).first rest)

module _ (bs : List ℕ) where
  -- one is read: so are its lines, which end where it ends
  module _ (p : Params) (rest : List ℕ) (e : read_front bs ≡ taken p rest) where
    front-text : front_lines bs ≡ sheet_text p
    front-text = ap front_lines (front_read bs p rest e).is ∙ sheet-front p rest

    pub first_read : sheet_of bs ≡ reading_of (taken p [])
    unfolding sheet_of
    first_read =
        let f = front_read bs p rest e in
        rw (front-text)
        (not-too-long (sheet_text p) (omega (arith, sheet-length p))
        ∙ ap reading_of (set_reads p f.whole f.shown f.small))

    pub first_ends : sheet_end bs + length rest ≡ length bs
    unfolding sheet_end
    first_ends =
        rw (front-text) (sym (length-append (sheet_text p) rest) ∙ ap length (sym (front_read bs p rest e).is))

  -- none is read: so many lines are none
  lines_none : read_front bs ≡ malformed → (n : ℕ) → read_front (first_lines n bs) ≡ malformed
  lines_none e n = go (read_front (first_lines n bs)) refl
    where
      go : (q : Parse Params) → read_front (first_lines n bs) ≡ q → read_front (first_lines n bs) ≡ malformed
      go malformed h = h
      go (taken p rest) h =
          let f = front_read (first_lines n bs) p rest h in
          let more = rest ++ after_lines n bs in
          let is : bs ≡ sheet_text p ++ more =
          sym (lines_split n bs) ∙ ap (λ (l : List ℕ). l ++ after_lines n bs) f.is ∙ append_assoc (sheet_text p) rest (after_lines n bs) in
          malformed-not-taken (sym e ∙ ap read_front is ∙ front_reads p f.whole f.shown f.small more)

  pub first-none : read_front bs ≡ malformed → sheet_of bs ≡ refused Malformed
  unfolding sheet_of front_lines read_set reading_of nothing_after
  first-none e = by_length (front_lines bs) (ap nothing_after (lines_none e (sheet_lines (table_at bs))))
    where
      by_length : (l : List ℕ) → read_set l ≡ malformed → read_sheet l ≡ refused Malformed
      by_length l m = elim (dec_le (length l) most_bytes) [
        | yes k ↦ not-too-long l k ∙ ap reading_of m
        | no k ↦ too_long l (omega arith)
      ]

-- it ends within the bytes
pub sheet-within : (bs : List ℕ) → sheet_end bs ≤ length bs
unfolding sheet_end front_lines
sheet-within bs = lines-within (sheet_lines (table_at bs)) bs

-- how many lines, by the first one
pub lilee-lines : (bs : List ℕ) → text_at bs 0 (table_text LiLee) ≡ true → sheet_lines (table_at bs) ≡ 372
unfolding table_at sheet_lines
lilee-lines bs f = rw (text-found bs 0 (table_text LiLee) f, table_at)

pub other-lines : (bs : List ℕ) → text_at bs 0 (table_text LiLee) ≡ false → sheet_lines (table_at bs) ≡ 370
unfolding table_at sheet_lines
other-lines bs m = rw (text-missing bs 0 (table_text LiLee) m, table_at)

-- ---- by what the code read

module _ (bytes : List ℕ) (p : Params) (next : ℕ) (e : taken p (drop next bytes) ≡ read_front bytes) where
  -- its reading
  pub first-reading : sheet_of bytes ≡ reading_of (taken p [])
  first-reading = first_read bytes p (drop next bytes) (sym e)

  -- and where it ends
  pub first-place : sheet_end bytes + (length bytes - next) ≡ length bytes
  first-place =
      ap (λ (n : ℕ). sheet_end bytes + n) (sym (length-drop next bytes)) ∙ first_ends bytes p (drop next bytes) (sym e)
