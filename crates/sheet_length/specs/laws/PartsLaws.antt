-- Laws of a sheet's parts: how they make up the sheet, and how long they are.
use Rattle.std.specs.Prelude.{◌≡◌, refl, List, [], ◌∷◌, ◌++◌, ℕ, zero, suc, ◌+◌, ◌≤◌, ℤ, length}
use Rattle.std.proofs.Common.{ap, ◌∙◌, append_assoc, eq-or-lt_of_le, le_of_suc-le-suc, ⊎_elim, arith, length-append}
use Rattle.text_tokens.specs.Text.{bytes_of}
use Rattle.text_tokens.specs.Number.{unsigned_text}
use Rattle.set_params.specs.declared.Params.{Params}
use Rattle.set_params.specs.declared.Table.{Table}
use Rattle.set_params.specs.declared.Table.TheVariants.{Ag2014, LiLee}
use Rattle.set_params.specs.declared.Age.{Age}
use Rattle.set_params.specs.Set.{ages, age_of}
use Rattle.sheet.specs.Sheet.{for_ages, age_keys, if_li_lee, keys, age_values, values, line_text, lines_text, table_text, sex_text, sheet_text}
use Rattle.sheet.proofs.laws.SheetTrip.{sex-length}
use Rattle.sheet_length.specs.code.Parts.{line_length, series_text, start_text, age_text, ages_text}

-- ---- lines, and then lines

lines-append : (ks ks' : List (List ℕ)) (vs vs' : List ℤ) → length ks ≡ length vs
    → lines_text (ks ++ ks') (vs ++ vs') ≡ lines_text ks vs ++ lines_text ks' vs'
unfolding lines_text
lines-append [] ks' [] vs' h = refl
lines-append [] ks' (v ∷ vs) vs' h = absurd (omega arith)
lines-append (k ∷ ks) ks' [] vs' h = absurd (omega arith)
lines-append (k ∷ ks) ks' (v ∷ vs) vs' h =
    rw (lines-append ks ks' vs vs' (omega arith), append_assoc (line_text k v) (lines_text ks vs) (lines_text ks' vs'))

-- as many keys as values
even : (p : Params) (n : ℕ) → length (for_ages age_keys n) ≡ length (for_ages (age_values p) n)
unfolding for_ages age_keys age_values
even p zero = refl
even p (suc n) = simp length-append (omega (arith, even p n))

-- ---- ages

pub ages-none : (p : Params) → ages_text p 0 ≡ []
unfolding ages_text for_ages lines_text
ages-none p = refl

pub ages-more : (p : Params) (n : ℕ) → ages_text p (suc n) ≡ ages_text p n ++ age_text (age_of p n) n
unfolding ages_text age_text for_ages age_values
ages-more p n = lines-append (for_ages age_keys n) (age_keys n) (for_ages (age_values p) n) (age_values p n) (even p n)

pub ages-step : (p : Params) (n : ℕ) → length (ages_text p (suc n)) ≡ length (ages_text p n) + length (age_text (age_of p n) n)
ages-step p n = rw (ages-more p n, length-append)

-- more ages have no fewer bytes
pub ages-grow : (p : Params) (m n : ℕ) → m ≤ n → length (ages_text p m) ≤ length (ages_text p n)
ages-grow p m zero h = let e : m ≡ 0 = omega arith in rw e (omega arith)
ages-grow p m (suc n) h =
    ⊎_elim (λ e. rw e (omega arith))
    (λ l. omega (arith, ages-step p n, ages-grow p m n (le_of_suc-le-suc l)))
    (eq-or-lt_of_le h)

-- ---- the start and c

-- no line, or two
pub no_start : {t : Table} (start c : ℤ) → t ≡ Ag2014 → start_text t start c ≡ []
unfolding start_text if_li_lee lines_text
no_start start c e = rw e

pub start-lines : {t : Table} (start c : ℤ) → t ≡ LiLee
    → start_text t start c ≡ line_text (bytes_of "start") start ++ (line_text (bytes_of "c") c ++ [])
unfolding start_text if_li_lee lines_text
start-lines start c e = rw e

-- ---- the whole

-- as many of the start and c
start-even : (t : Table) (start c : ℤ)
    → length (if_li_lee t (bytes_of "start" ∷ bytes_of "c" ∷ [])) ≡ length (if_li_lee t (start ∷ c ∷ []))
unfolding if_li_lee
start-even Ag2014 start c = refl
start-even LiLee start c = refl

-- what follows the first two lines
abbrev pub lines_of : Params → List ℕ
lines_of p = series_text p ++ (start_text p.table p.start p.c ++ ages_text p ages)

pub sheet-parts : (p : Params) → sheet_text p ≡ table_text p.table ++ (sex_text p.sex ++ lines_of p)
unfolding sheet_text keys values series_text start_text ages_text
sheet-parts p =
    let t = p.table in
    let start = lines-append (if_li_lee t (bytes_of "start" ∷ bytes_of "c" ∷ [])) (for_ages age_keys ages)
    (if_li_lee t (p.start ∷ p.c ∷ [])) (for_ages (age_values p) ages) (start-even t p.start p.c) in
    ap (λ (l : List ℕ). table_text t ++ (sex_text p.sex ++ l))
    (lines-append (bytes_of "a" ∷ bytes_of "theta" ∷ bytes_of "K" ∷ bytes_of "k" ∷ []) _
    (p.a ∷ p.theta ∷ p.period ∷ p.kappa ∷ []) _ refl
    ∙ ap (λ (l : List ℕ). series_text p ++ l) start)

-- ---- lengths

-- the lines in front of the ages'
abbrev pub front_length : Params → ℕ
front_length p =
    length (table_text p.table) + 6 + length (series_text p) + length (start_text p.table p.start p.c)

pub sheet-sum : (p : Params) → length (sheet_text p) ≡ front_length p + length (ages_text p ages)
sheet-sum p = rw (sheet-parts p) (simp length-append (omega (arith, sex-length p.sex)))

pub table-length : {t u : Table} → t ≡ u → length (table_text t) ≡ length (table_text u)
table-length e = ap (λ (t : Table). length (table_text t)) e

-- a key, `=`, a number and a line feed
line-length : (key : List ℕ) (v : ℤ) → length (line_text key v) ≡ line_length (length key) v
unfolding line_text bytes_of
line-length key v = simp length-append (omega arith)

pub series-length : (p : Params)
    → length (series_text p)
    ≡ line_length 1 p.a + line_length 5 p.theta + line_length 1 p.period + line_length 1 p.kappa
unfolding series_text lines_text bytes_of
series-length p = simp (length-append, line-length) (omega arith)

pub start-length : {t : Table} (start c : ℤ) → t ≡ LiLee
    → length (start_text t start c) ≡ line_length 5 start + line_length 1 c
unfolding bytes_of
start-length start c e = rw (start-lines start c e) (simp (length-append, line-length) (omega arith))

pub age-length : (a : Age) (x : ℕ) → let d = length (unsigned_text x) in
    length (age_text a x)
    ≡ line_length (2 + d) a.level + line_length (2 + d) a.slope + line_length (3 + d) a.alpha
    + line_length (3 + d) a.beta
unfolding age_text lines_text age_keys bytes_of
age-length a x = simp (length-append, line-length) (omega arith)
