-- "A sheet is 370 lines, each `key=value` and one line feed, in this order: `table=AG2014`, `sex=M` or `sex=F` (a label
-- only), `a=`, `theta=`, `K=`, `k=`, then for ages 0 to 90 four lines `A.0=`, `B.0=`, `al.0=`, `be.0=` and so on to
-- `be.90=`." With a start year and a constant c, "Such sheets say `table=LILEE` and have `start=` and `c=` after `k=`, 372
-- lines in all".
use Rattle.std.specs.Prelude.{ℕ, zero, suc, ◌+◌, ◌*◌, cond, List, [], ◌∷◌, ◌++◌, eqb, leb, ℤ, pos, get_or, length, take, drop}
use Rattle.text_tokens.specs.Text.{bytes_of, Parse, malformed, taken, take_text, and_then}
use Rattle.text_tokens.specs.Number.{read_number, number_text, unsigned_text}
use Rattle.set_params.specs.declared.Params.{Params}
use Rattle.set_params.specs.declared.Table.{Table}
use Rattle.set_params.specs.declared.Table.TheVariants.{Ag2014, LiLee}
use Rattle.set_params.specs.declared.Sex.{Sex}
use Rattle.set_params.specs.declared.Sex.TheVariants.{M, F}
use Rattle.set_refusal.specs.declared.Refusal.{Refusal}
use Rattle.set_refusal.specs.declared.Refusal.TheVariants.{Accepted, Malformed, OutOfLimits, BufferTooShort}
use Rattle.set_refusal.specs.Refusals.{refusal_number}
use Rattle.sheet.specs.declared.Reading.{Reading}
use Rattle.sheet.specs.declared.Written.{Written}
use Rattle.set_params.specs.Set.{A, B, alpha, beta, ages, blank}
use Rattle.set_params.specs.Limits.{first_start}
use Rattle.set_limits.specs.InLimits.{in_limits}

-- the longest input that is read
abbrev pub most_bytes : ℕ
most_bytes = 65536

-- "A sheet is 370 lines"; one of LILEE has "372 lines in all"
unfoldable pub sheet_lines : Table → ℕ
sheet_lines Ag2014 = 370
sheet_lines LiLee = 372

-- ---- the lines' keys and values, in their order

-- f at 0, 1, .. to n − 1, one after the other
unfoldable pub for_ages : {X : Type 0} → (ℕ → List X) → ℕ → List X
for_ages f zero = []
for_ages f (suc n) = for_ages f n ++ f n

unfoldable pub age_keys : ℕ → List (List ℕ)
age_keys x =
    (bytes_of "A." ++ unsigned_text x) ∷ (bytes_of "B." ++ unsigned_text x) ∷ (bytes_of "al." ++ unsigned_text x)
    ∷ (bytes_of "be." ++ unsigned_text x) ∷ []

-- what only a sheet of LILEE has
unfoldable pub if_li_lee : {X : Type 0} → Table → List X → List X
if_li_lee Ag2014 xs = []
if_li_lee LiLee xs = xs

unfoldable pub keys : Table → List (List ℕ)
keys t =
    bytes_of "a" ∷ bytes_of "theta" ∷ bytes_of "K" ∷ bytes_of "k"
    ∷ (if_li_lee t (bytes_of "start" ∷ bytes_of "c" ∷ []) ++ for_ages age_keys ages)

unfoldable pub age_values : Params → ℕ → List ℤ
age_values p x = A p x ∷ B p x ∷ alpha p x ∷ beta p x ∷ []

unfoldable pub values : Params → List ℤ
values p =
    p.a ∷ p.theta ∷ p.period ∷ p.kappa ∷ (if_li_lee p.table (p.start ∷ p.c ∷ []) ++ for_ages (age_values p) ages)

-- ---- the one sheet of a set

unfoldable pub line_text : List ℕ → ℤ → List ℕ
line_text key v = key ++ (bytes_of "=" ++ (number_text v ++ bytes_of "\n"))

unfoldable pub lines_text : List (List ℕ) → List ℤ → List ℕ
lines_text [] vs = []
lines_text (k ∷ ks) [] = []
lines_text (k ∷ ks) (v ∷ vs) = line_text k v ++ lines_text ks vs

unfoldable pub table_text : Table → List ℕ
table_text Ag2014 = bytes_of "table=AG2014\n"
table_text LiLee = bytes_of "table=LILEE\n"

unfoldable pub sex_text : Sex → List ℕ
sex_text M = bytes_of "sex=M\n"
sex_text F = bytes_of "sex=F\n"

unfoldable pub sheet_text : Params → List ℕ
sheet_text p = table_text p.table ++ (sex_text p.sex ++ lines_text (keys p.table) (values p))

-- ---- reading

-- a line with this key: its number, and what follows the line feed
unfoldable pub read_line : List ℕ → List ℕ → Parse ℤ
read_line key bs =
    and_then (take_text (key ++ bytes_of "=") bs) (λ u after.
    and_then (read_number after) (λ v rest.
    and_then (take_text (bytes_of "\n") rest) (λ w next. taken v next)))

-- lines with these keys: their numbers
unfoldable pub read_lines : List (List ℕ) → List ℕ → Parse (List ℤ)
read_lines [] bs = taken [] bs
read_lines (k ∷ ks) bs = and_then (read_line k bs) (λ v rest. and_then (read_lines ks rest) (λ vs next. taken (v ∷ vs) next))

-- the one of two whose text the bytes begin with
unfoldable pub read_either : {X : Type 0} → (X → List ℕ) → X → X → List ℕ → Parse X
read_either text x y bs =
    elim (take_text (text x) bs) [
      | malformed ↦ elim (take_text (text y) bs) [ malformed ↦ malformed | taken u rest ↦ taken y rest ]
      | taken u rest ↦ taken x rest
    ]

unfoldable pub read_table : List ℕ → Parse Table
read_table bs = read_either table_text Ag2014 LiLee bs

unfoldable pub read_sex : List ℕ → Parse Sex
read_sex bs = read_either sex_text M F bs

-- every number of a set, in the order of a sheet of LILEE
unfoldable pub all_values : Params → List ℤ
all_values p = p.a ∷ p.theta ∷ p.period ∷ p.kappa ∷ p.start ∷ p.c ∷ for_ages (age_values p) ages

-- these out of a sheet's values: "AG2014 sheets are read and written as now, and work as start 2013 and c 0"
unfoldable pub completed : Table → List ℤ → List ℤ
completed Ag2014 vs = take 4 vs ++ (pos first_start ∷ pos 0 ∷ drop 4 vs)
completed LiLee vs = vs

-- a run of parameters: from place i on, every fourth value
unfoldable pub run_from : ℕ → List ℤ → List ℤ
run_from i vs = for_ages (λ (x : ℕ). get_or vs (i + 4 * x) (pos 0) ∷ []) ages

-- the set with these numbers: it "keeps which of the two tables it came from"
unfoldable pub params_of : Table → Sex → List ℤ → Params
params_of table sex vs =
    record {
      table = table;
      sex = sex;
      start = get_or vs 4 (pos 0);
      a = get_or vs 0 (pos 0);
      theta = get_or vs 1 (pos 0);
      c = get_or vs 5 (pos 0);
      period = get_or vs 2 (pos 0);
      kappa = get_or vs 3 (pos 0);
      level = run_from 6 vs;
      slope = run_from 7 vs;
      alpha = run_from 8 vs;
      beta = run_from 9 vs;
    }

-- the set that the bytes begin with, and what follows its lines
unfoldable pub read_front : List ℕ → Parse Params
read_front bs =
    and_then (read_table bs) (λ table rest.
    and_then (read_sex rest) (λ sex lines.
    and_then (read_lines (keys table) lines) (λ vs next. taken (params_of table sex (completed table vs)) next)))

-- what is read, where nothing follows it
unfoldable pub nothing_after : Parse Params → Parse Params
nothing_after malformed = malformed
nothing_after (taken p []) = taken p []
nothing_after (taken p (b ∷ more)) = malformed

-- the set that the whole input stands for, or malformed
unfoldable pub read_set : List ℕ → Parse Params
read_set bs = nothing_after (read_front bs)

-- "A refused reading hands back sex M and every number 0"; it "is marked AG2014, with start 2013 and c 0"
unfoldable pub refused : Refusal → Reading
refused r = record { refusal = r; set = blank }

-- "Refusal 1 is decided over the whole sheet before 2."
unfoldable pub reading_of : Parse Params → Reading
reading_of malformed = refused Malformed
reading_of (taken p rest) = cond (in_limits p) (record { refusal = Accepted; set = p }) (refused OutOfLimits)

unfoldable pub read_sheet : List ℕ → Reading
read_sheet bs = cond (leb (length bs) most_bytes) (reading_of (read_set bs)) (refused Malformed)

-- what is answered by a sheet that was read: its refusal, 1 or 2, before all others, and else what its set gives
unfoldable pub by_sheet : {A : Type 0} → (Refusal → A) → (Params → A) → Reading → A
by_sheet refuse answer got = cond (eqb (refusal_number got.refusal) 0) (answer got.set) (refuse got.refusal)

-- ---- writing

-- "The writer gives the one sheet of an in-limit set and its length, which is 0 when refused."
unfoldable pub write_refusal : Params → ℕ → Refusal
write_refusal p room = cond (in_limits p) (cond (leb (length (sheet_text p)) room) Accepted BufferTooShort) OutOfLimits

unfoldable pub written_length : Params → ℕ → ℕ
written_length p room = cond (in_limits p) (cond (leb (length (sheet_text p)) room) (length (sheet_text p)) 0) 0

unfoldable pub write_answer : Params → ℕ → Written
write_answer p room = record { refusal = write_refusal p room; len = written_length p room }

-- "Bytes after the sheet in a longer buffer keep their values", and all of them where the call is refused.
unfoldable pub written_buffer : Params → List ℕ → List ℕ
written_buffer p buffer =
    cond (in_limits p)
    (cond (leb (length (sheet_text p)) (length buffer)) (sheet_text p ++ drop (length (sheet_text p)) buffer) buffer) buffer
