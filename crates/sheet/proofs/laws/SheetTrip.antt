-- A set and its sheet: the sheet of a set in limits reads back as the set, and a sheet that is accepted is, byte for
-- byte, the sheet of the set that it gives.
use Rattle.std.specs.Prelude.{◌≡◌, refl, Bool, true, false, cond, ◌&&◌, List, [], ◌∷◌, ◌++◌, ℕ, zero, suc, ◌+◌, ◌*◌, ◌^◌, ◌≤◌, ◌<◌, T, leb, ℤ, pos, negsuc, nat_abs, length}
use Rattle.std.proofs.Common.{sym, ap, ◌∙◌, append_assoc, append-nil, arith, le-leb, leb→le, length-append}
use Rattle.std.specs.Float.Ieee.Bits.{is_true}
use Rattle.std.specs.Float.Ieee.Fits.{and_l, and_r}
use Rattle.std.specs.Int.Signed.{le_z, le_z_yes}
use Rattle.text_tokens.specs.Text.{bytes_of, Parse, malformed, taken, take_text, and_then}
use Rattle.text_tokens.specs.laws.Steps.{goes}
use Rattle.text_tokens.specs.laws.TextLaws.{take_text-split, take_text-whole}
use Rattle.text_tokens.specs.Number.{is_digit, read_number, number_text, unsigned_text, decimal}
use Rattle.text_tokens.specs.laws.DecimalLaws.{number-length}
use Rattle.number_whole.specs.code.Sizes.{Under}
use Rattle.number_whole.proofs.laws.Split.{split, split-abs}
use Rattle.set_params.specs.declared.Params.{Params}
use Rattle.set_params.specs.declared.Table.{Table}
use Rattle.set_params.specs.declared.Table.TheVariants.{Ag2014, LiLee}
use Rattle.set_params.specs.declared.Sex.{Sex}
use Rattle.set_params.specs.declared.Sex.TheVariants.{M, F}
use Rattle.set_refusal.specs.declared.Refusal.{Refusal}
use Rattle.set_refusal.specs.declared.Refusal.TheVariants.{Accepted, Malformed, OutOfLimits}
use Rattle.sheet.specs.declared.Reading.{Reading}
use Rattle.set_refusal.specs.Refusals.{refusal_number}
use Rattle.set_params.specs.Set.{ages}
use Rattle.set_params.specs.code.Runs.{Whole}
use Rattle.set_params.specs.code.Within.{StartWithin}
use Rattle.set_params.specs.Limits.{first_start, within}
use Rattle.set_limits.specs.InLimits.{last_start_of, constant_limit_of, table_in_limits, in_limits}
use Rattle.sheet.specs.Sheet.{most_bytes, sheet_lines, for_ages, age_keys, if_li_lee, keys, age_values, values, line_text}
use Rattle.sheet.specs.Sheet.{lines_text, table_text, sex_text, sheet_text, read_line, read_lines, read_either, read_table, read_sex}
use Rattle.sheet.specs.Sheet.{completed, params_of, read_front, nothing_after, read_set, refused, reading_of, read_sheet}
use Rattle.set_limits.specs.laws.LimitsLaws.{in-limits-start, in-limits-age, in-limits-series}
use Rattle.text_tokens.specs.laws.NumberTrip.{malformed-not-taken, number-reads, number-read}
use Rattle.sheet.proofs.laws.SetTrip.{keys_length, values_length, values-params, Shown, lilee-shown, ag2014-shown}
use Rattle.sheet.proofs.laws.SetTrip.{params-values, params-whole, params-shown}

-- every value has at most 15 digits
abbrev pub AllSmall : List ℤ → Type 0
AllSmall [] = Unit
AllSmall (v ∷ vs) = (nat_abs v < 10 ^ 15) × AllSmall vs

-- ---- one reading after another

pub then-taken : {A B X : Type 0} (q : Parse A) (f : A → List ℕ → Parse B) {b : B} {rest : List ℕ}
    → and_then q f ≡ taken b rest → ((a : A) (after : List ℕ) → q ≡ taken a after → f a after ≡ taken b rest → X) → X
then-taken malformed f e g = malformed-not-taken e
then-taken (taken a after) f e g = g a after refl e

-- ---- a line

line-apart : (key : List ℕ) (v : ℤ) (rest : List ℕ)
    → line_text key v ++ rest ≡ (key ++ bytes_of "=") ++ (number_text v ++ (bytes_of "\n" ++ rest))
unfolding line_text
line-apart key v rest = simp append_assoc

pub line_reads : (key : List ℕ) (v : ℤ) (rest : List ℕ) → nat_abs v < 10 ^ 15
    → read_line key (line_text key v ++ rest) ≡ taken v rest
unfolding read_line bytes_of is_digit
line_reads key v rest h =
    rw (line-apart key v rest)
    (goes _ (take_text-split (key ++ bytes_of "=") (number_text v ++ (bytes_of "\n" ++ rest)))
    ∙ goes _ (number-reads v (bytes_of "\n" ++ rest) h tt)
    ∙ goes _ (take_text-split (bytes_of "\n") rest))

-- the bytes are the line of v, and then the rest
pub record LineOf (key : List ℕ) (v : ℤ) (bs rest : List ℕ) : Type 0 where
  pub is : bs ≡ line_text key v ++ rest
  pub small : nat_abs v < 10 ^ 15

pub line_read : (key bs : List ℕ) (v : ℤ) (rest : List ℕ) → read_line key bs ≡ taken v rest → LineOf key v bs rest
unfolding read_line
line_read key bs v rest e =
    then-taken (take_text (key ++ bytes_of "=") bs) _ e λ u after q e₁.
    then-taken (read_number after) _ e₁ λ v' mid r e₂.
    then-taken (take_text (bytes_of "\n") mid) _ e₂ λ w next t e₃.
    let x : v' ≡ v = cc in
    let y : next ≡ rest = cc in
    let n = number-read after v' mid r in
    let m = take_text-whole (bytes_of "\n") mid t in
    let k = take_text-whole (key ++ bytes_of "=") bs q in
    rw (← x, ← y) (record { is = rw (line-apart key v' next, k, n.is, m); small = n.small })

-- ---- lines

pub lines-reads : (ks : List (List ℕ)) (vs : List ℤ) (rest : List ℕ) → length vs ≡ length ks → AllSmall vs
    → read_lines ks (lines_text ks vs ++ rest) ≡ taken vs rest
unfolding read_lines lines_text
lines-reads [] [] rest h a = refl
lines-reads [] (v ∷ vs) rest h a = absurd (omega arith)
lines-reads (k ∷ ks) [] rest h a = absurd (omega arith)
lines-reads (k ∷ ks) (v ∷ vs) rest h a =
    rw (append_assoc (line_text k v) (lines_text ks vs) rest)
    (goes _ (line_reads k v (lines_text ks vs ++ rest) a.0)
    ∙ goes _ (lines-reads ks vs rest (omega arith) a.1))

-- the bytes are the lines of vs, and then the rest
pub record LinesOf (ks : List (List ℕ)) (vs : List ℤ) (bs rest : List ℕ) : Type 0 where
  pub is : bs ≡ lines_text ks vs ++ rest
  pub long : length vs ≡ length ks
  pub small : AllSmall vs

pub lines-read : (ks : List (List ℕ)) (bs : List ℕ) (vs : List ℤ) (rest : List ℕ) → read_lines ks bs ≡ taken vs rest
    → LinesOf ks vs bs rest
unfolding read_lines lines_text
lines-read [] bs vs rest e =
    let x : [] ≡ vs = cc in
    let y : bs ≡ rest = cc in
    rw (← x, y) (record { is = refl; long = refl; small = tt })
lines-read (k ∷ ks) bs vs rest e =
    then-taken (read_line k bs) _ e λ v after q e₁.
    then-taken (read_lines ks after) _ e₁ λ us next r e₂.
    let x : v ∷ us ≡ vs = cc in
    let y : next ≡ rest = cc in
    let l = line_read k bs v after q in
    let ls = lines-read ks after us next r in
    rw (← x, ← y)
    (record {
      is = rw (l.is, ls.is, append_assoc (line_text k v) (lines_text ks us) next);
      long = omega (arith, ls.long);
      small = (l.small, ls.small);
    })

-- ---- the first two lines

-- what is read of two texts is the one that the bytes begin with
either-read : {X : Type 0} (text : X → List ℕ) (x y : X) (bs : List ℕ) (z : X) (rest : List ℕ)
    → read_either text x y bs ≡ taken z rest → bs ≡ text z ++ rest
unfolding read_either
either-read {X} text x y bs z rest e = go (take_text (text x) bs) refl e
  where
    go : (q : Parse Unit) → take_text (text x) bs ≡ q
        → ◌≡◌ {A = Parse X}
        (elim q [
          | malformed ↦ elim (take_text (text y) bs) [ malformed ↦ malformed | taken u after ↦ taken y after ]
          | taken u after ↦ taken x after
        ])
        (taken z rest)
        → bs ≡ text z ++ rest
    go malformed t w =
        then-taken (take_text (text y) bs) _ w λ u after r f.
        let i : y ≡ z = cc in
        let j : after ≡ rest = cc in
        rw (← i, ← j) (take_text-whole (text y) bs r)
    go (taken u after) t w =
        let i : x ≡ z = cc in
        let j : after ≡ rest = cc in
        rw (← i, ← j) (take_text-whole (text x) bs t)

pub table-reads : (t : Table) (rest : List ℕ) → read_table (table_text t ++ rest) ≡ taken t rest
unfolding read_table read_either table_text bytes_of take_text
table-reads Ag2014 rest = refl
table-reads LiLee rest = refl

pub table-read : (bs : List ℕ) (t : Table) (rest : List ℕ) → read_table bs ≡ taken t rest → bs ≡ table_text t ++ rest
unfolding read_table
table-read = either-read table_text Ag2014 LiLee

pub sex-reads : (s : Sex) (rest : List ℕ) → read_sex (sex_text s ++ rest) ≡ taken s rest
unfolding read_sex read_either sex_text bytes_of take_text
sex-reads M rest = refl
sex-reads F rest = refl

pub sex-read : (bs : List ℕ) (s : Sex) (rest : List ℕ) → read_sex bs ≡ taken s rest → bs ≡ sex_text s ++ rest
unfolding read_sex
sex-read = either-read sex_text M F

-- ---- a sheet, and what follows it

sheet-apart : (p : Params) (rest : List ℕ) → sheet_text p ++ rest
    ≡ table_text p.table ++ (sex_text p.sex ++ (lines_text (keys p.table) (values p) ++ rest))
unfolding sheet_text
sheet-apart p rest = simp append_assoc

-- the sheet of a set is read as the set, whatever follows it
pub front_reads : (p : Params) → Whole p → Shown p → AllSmall (values p) → (rest : List ℕ)
    → read_front (sheet_text p ++ rest) ≡ taken p rest
unfolding read_front
front_reads p w h s rest =
    rw (sheet-apart p rest)
    (goes _ (table-reads p.table (sex_text p.sex ++ (lines_text (keys p.table) (values p) ++ rest)))
    ∙ goes _ (sex-reads p.sex (lines_text (keys p.table) (values p) ++ rest))
    ∙ goes _ (lines-reads (keys p.table) (values p) rest (values_length p) s)
    ∙ ap (λ (q : Params). taken q rest) (params-values p w h))

-- the bytes are the sheet of a set, and then the rest
pub record FrontOf (p : Params) (bs rest : List ℕ) : Type 0 where
  pub is : bs ≡ sheet_text p ++ rest
  pub whole : Whole p
  pub shown : Shown p
  pub small : AllSmall (values p)

-- what is read is the sheet of the set that it gives
pub front_read : (bs : List ℕ) (p : Params) (rest : List ℕ) → read_front bs ≡ taken p rest → FrontOf p bs rest
unfolding read_front params_of
front_read bs p rest e =
    then-taken (read_table bs) _ e λ t after q e₁.
    then-taken (read_sex after) _ e₁ λ s lines r e₂.
    then-taken (read_lines (keys t) lines) _ e₂ λ vs next l e₃.
    let x : params_of t s (completed t vs) ≡ p = cc in
    let y : next ≡ rest = cc in
    let ls = lines-read (keys t) lines vs next l in
    let v = values-params t s vs ls.long in
    rw (← x, ← y)
    (record {
      is = rw (sheet-apart (params_of t s (completed t vs)) next, v, ← ls.is, ← sex-read after s lines r) (table-read bs t after q);
      whole = params-whole t s (completed t vs);
      shown = params-shown t s vs ls.long;
      small = rw v ls.small;
    })

-- ---- the whole input

pub set_reads : (p : Params) → Whole p → Shown p → AllSmall (values p) → read_set (sheet_text p) ≡ taken p []
unfolding read_set nothing_after
set_reads p w h s = ap nothing_after (rw append-nil at (front_reads p w h s []))

set-read : (bs : List ℕ) (p : Params) (rest : List ℕ) → read_set bs ≡ taken p rest → (sheet_text p ≡ bs) × Whole p
unfolding read_set nothing_after
set-read bs p rest e = go (read_front bs) refl e
  where
    go : (q : Parse Params) → read_front bs ≡ q → nothing_after q ≡ taken p rest → (sheet_text p ≡ bs) × Whole p
    go malformed r e = malformed-not-taken e
    go (taken p' (b ∷ more)) r e = malformed-not-taken e
    go (taken p' []) r e =
        let x : p' ≡ p = cc in
        let f = front_read bs p' [] r in
        rw (← x) (sym (f.is ∙ append-nil (sheet_text p')), f.whole)

-- ---- limits bound every value, and the sheet's length

all_append : (us vs : List ℤ) → AllSmall us → AllSmall vs → AllSmall (us ++ vs)
all_append [] vs a b = b
all_append (u ∷ us) vs a b = (a.0, all_append us vs a.1 b)

under-small : {z : ℤ} {k : ℕ} → Under z k → k ≤ 500000000000 → nat_abs z < 10 ^ 15
under-small u h = omega (arith, u.under)

start_small : (z : ℤ) → StartWithin z → nat_abs z < 10 ^ 15
start_small (pos n) w = omega (split, w.last)
start_small (negsuc n) w = absurd (omega (split, w.first))

ages-small : (p : Params) → T (in_limits p) → (n : ℕ) → n ≤ ages → AllSmall (for_ages (age_values p) n)
unfolding for_ages age_values
ages-small p t zero h = tt
ages-small p t (suc n) h =
    let w = in-limits-age p t n (omega arith) in
    all_append (for_ages (age_values p) n) (age_values p n) (ages-small p t n (omega arith)) (
      under-small w.level (omega arith),
      (
        under-small w.slope (omega arith),
        (under-small w.alpha (omega arith), (under-small w.beta (omega arith), tt)),
      ),
    )

-- a value in limits has at most 15 digits
pub in-limits-small : (p : Params) → T (in_limits p) → AllSmall (values p)
unfolding values if_li_lee
in-limits-small p t =
    let w = in-limits-series p t in (
      under-small w.dynamics.a (omega arith),
      (
        under-small w.index.theta (omega arith),
        (
          under-small w.index.start (omega arith),
          (
            under-small w.kappa (omega arith),
            all_append (if_li_lee p.table (p.start ∷ p.c ∷ [])) _ (start-and-c p.table) (ages-small p t ages (omega arith)),
          ),
        ),
      ),
    )
  where
    start-and-c : (u : Table) → AllSmall (if_li_lee u (p.start ∷ p.c ∷ []))
    start-and-c Ag2014 = tt
    start-and-c LiLee =
        (start_small p.start (in-limits-start p t), (under-small (in-limits-series p t).dynamics.c (omega arith), tt))

-- one of AG2014 has start 2013 and c 0
ag2014-start : (start c : ℤ) → T (table_in_limits Ag2014 start c) → (start ≡ pos first_start) × (c ≡ pos 0)
unfolding table_in_limits last_start_of constant_limit_of
ag2014-start start c t =
    let first = and_l (le_z (pos first_start) start) _ t in
    let others = and_r (le_z (pos first_start) start) (le_z start (pos first_start) && within 0 c) t in
    let last = and_l (le_z start (pos first_start)) (within 0 c) others in
    let none = leb→le (nat_abs c) 0 (and_r (le_z start (pos first_start)) (within 0 c) others) in (
      omega (split, le_z_yes {a = pos first_start} {b = start} first, le_z_yes {a = start} {b = pos first_start} last),
      omega (split, split-abs c, none),
    )

-- so that a sheet shows all numbers of a set in limits
pub in-limits-shown : (p : Params) → T (in_limits p) → Shown p
unfolding in_limits
in-limits-shown p t = go p.table refl
  where
    table : T (table_in_limits p.table p.start p.c)
    table = and_l (table_in_limits p.table p.start p.c) _ t

    go : (u : Table) → p.table ≡ u → Shown p
    go Ag2014 e = let (s, c) = ag2014-start p.start p.c (rw e at table) in ag2014-shown p e s c
    go LiLee e = lilee-shown p e

-- each key has at most 5 bytes
all_short : List (List ℕ) → Bool
all_short [] = true
all_short (k ∷ ks) = leb (length k) 5 && all_short ks

keys-short : (t : Table) → T (all_short (keys t))
unfolding all_short keys if_li_lee for_ages age_keys bytes_of unsigned_text decimal
keys-short Ag2014 = tt
keys-short LiLee = tt

lines-short : (ks : List (List ℕ)) (vs : List ℤ) → T (all_short ks) → length (lines_text ks vs) ≤ 23 * length ks
unfolding lines_text line_text all_short bytes_of
lines-short [] vs t = omega arith
lines-short (k ∷ ks) [] t = omega arith
lines-short (k ∷ ks) (v ∷ vs) t =
    let h = leb→le (length k) 5 (and_l (leb (length k) 5) (all_short ks) t) in
    let l = lines-short ks vs (and_r (leb (length k) 5) (all_short ks) t) in
    simp length-append (omega (arith, number-length v))

table-length : (t : Table) → length (table_text t) + 23 * sheet_lines t ≤ 8568
unfolding table_text bytes_of sheet_lines
table-length Ag2014 = omega arith
table-length LiLee = omega arith

pub sex-length : (s : Sex) → length (sex_text s) ≡ 6
unfolding sex_text bytes_of
sex-length M = refl
sex-length F = refl

-- the first two lines, and at most 23 bytes for each of the others
pub sheet-length : (p : Params) → length (sheet_text p) ≤ 8528
unfolding sheet_text
sheet-length p =
    let t = p.table in
    rw (length-append (table_text t), length-append (sex_text p.sex))
    (omega (arith, table-length t, sex-length p.sex, lines-short (keys t) (values p) (keys-short t), keys_length t))

-- ---- the sheet

-- the sheet of a whole set in limits reads back as the set
pub written-reads-back : (p : Params) → Whole p → T (in_limits p)
    → read_sheet (sheet_text p) ≡ record { refusal = Accepted; set = p }
unfolding read_sheet reading_of
written-reads-back p w t =
    let h = le-leb (length (sheet_text p)) most_bytes (omega (arith, sheet-length p)) in
    rw (h, set_reads p w (in-limits-shown p t) (in-limits-small p t), is_true (in_limits p) t)

-- and that of a set past a limit, its numbers shown and as long as a sheet's, is refused
pub written-out-of-limits : (p : Params) → Whole p → Shown p → AllSmall (values p) → in_limits p ≡ false
    → read_sheet (sheet_text p) ≡ refused OutOfLimits
unfolding read_sheet reading_of
written-out-of-limits p w h s e =
    let l = le-leb (length (sheet_text p)) most_bytes (omega (arith, sheet-length p)) in rw (l, set_reads p w h s, e)

-- a refused reading is not an accepted one
refused-not-accepted : {X : Type 0} (r : Refusal) {p : Params} → 0 < refusal_number r
    → refused r ≡ record { refusal = Accepted; set = p } → X
unfolding refused refusal_number
refused-not-accepted r h e =
    let z : refusal_number r ≡ 0 = ap (λ (q : Reading). refusal_number q.refusal) e in absurd (omega arith)

reading-accepted : {X : Type 0} (q : Parse Params) (p : Params) → reading_of q ≡ record { refusal = Accepted; set = p }
    → ((rest : List ℕ) → q ≡ taken p rest → T (in_limits p) → X) → X
unfolding reading_of refusal_number
reading-accepted malformed p e f = refused-not-accepted Malformed (omega arith) e
reading-accepted {X} (taken p' rest) p e f = go (in_limits p') refl e
  where
    go : (c : Bool) → in_limits p' ≡ c
        → cond c (record { refusal = Accepted; set = p' }) (refused OutOfLimits) ≡ record { refusal = Accepted; set = p }
        → X
    go true w q =
        let x : p' ≡ p = ap (λ (r : Reading). r.set) q in
        f rest (rw x) (rw (← x, w) tt)
    go false w q = refused-not-accepted OutOfLimits (omega arith) q

-- an accepted input is the sheet of the set that it gives, which is whole and in limits
pub read-writes-back : (bs : List ℕ) (p : Params) → read_sheet bs ≡ record { refusal = Accepted; set = p }
    → (sheet_text p ≡ bs) × (T (in_limits p)) × Whole p
unfolding read_sheet refusal_number
read-writes-back bs p e = go (leb (length bs) most_bytes) e
  where
    go : (c : Bool) → cond c (reading_of (read_set bs)) (refused Malformed) ≡ record { refusal = Accepted; set = p }
        → (sheet_text p ≡ bs) × (T (in_limits p)) × Whole p
    go true q = reading-accepted (read_set bs) p q λ rest r t.
        let (same, whole) = set-read bs p rest r in (same, t, whole)
    go false q = refused-not-accepted Malformed (omega arith) q
