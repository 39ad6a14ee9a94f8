-- A set to its numbers and back. And the two calls one after the other: what is written reads back as the same numbers, and
-- what is read writes back as the same sheet.
use Rattle.std.specs.Prelude.{◌≡◌, refl, ℕ, zero, suc, ◌≤◌, Bool, true, false, cond, List, [], ◌∷◌, ◌++◌, T, eqb, leb, ℤ, pos, negsuc, length, get_or, drop}
use Rattle.std.proofs.Common.{sym, ap, ◌∙◌, arith, leb-true, ne_eqb}
use Rattle.set_params.specs.declared.Params.{Params}
use Rattle.set_params.specs.declared.Table.{Table}
use Rattle.set_params.specs.declared.Table.TheVariants.{Ag2014, LiLee}
use Rattle.set_params.specs.declared.Sex.{Sex}
use Rattle.set_params.specs.declared.Sex.TheVariants.{M, F}
use Rattle.set_refusal.specs.declared.Refusal.{Refusal}
use Rattle.set_refusal.specs.declared.Refusal.TheVariants.{Accepted, Malformed, OutOfLimits, BufferTooShort}
use Rattle.set_refusal.specs.Refusals.{refusal_number}
use Rattle.set_refusal.specs.laws.RefusalLaws.{accepted}
use Rattle.set_params.specs.code.Runs.{Whole}
use Rattle.set_limits.specs.InLimits.{in_limits}
use Rattle.sheet.specs.declared.Reading.{Reading}
use Rattle.sheet.specs.Sheet.{params_of, sheet_text, read_sheet, write_refusal}
use Rattle.sheet.proofs.laws.SetTrip.{params-whole, all_params, params-all}
use Rattle.sheet.proofs.laws.SheetTrip.{written-reads-back, read-writes-back}
use Rattle.c_set_numbers.specs.SetNumbers.{set_length, table_number, sex_number, set_numbers, is_label, table_of, sex_of, are_set, set_of, set_over}
use Rattle.c_set_numbers.specs.SetNumbers.{read_no, numbers_after, write_no}
use Rattle.c_set_numbers.specs.laws.AnswerLaws.{as_many, first-labels, read-accepted}

-- ---- a set and its numbers

table-back : (t : Table) → table_of (table_number t) ≡ t
unfolding table_number table_of
table-back Ag2014 = refl
table-back LiLee = refl

sex-back : (s : Sex) → sex_of (sex_number s) ≡ s
unfolding sex_number sex_of
sex-back M = refl
sex-back F = refl

pub set_back : (p : Params) → Whole p → set_of (set_numbers p) ≡ p
unfolding set_of set_numbers
set_back p w = rw (table-back p.table, sex-back p.sex) (params-all p w)

table-number-back : (z : ℤ) → is_label z ≡ true → table_number (table_of z) ≡ z
unfolding is_label table_number table_of
table-number-back (pos zero) h = refl
table-number-back (pos (suc zero)) h = refl
table-number-back (pos (suc (suc n))) h = absurd (omega (arith, leb-true (suc (suc n)) 1 h))
table-number-back (negsuc n) h = let z : ◌≡◌ {A = ℕ} 0 1 = cc in absurd (omega arith)

sex-number-back : (z : ℤ) → is_label z ≡ true → sex_number (sex_of z) ≡ z
unfolding is_label sex_number sex_of
sex-number-back (pos zero) h = refl
sex-number-back (pos (suc zero)) h = refl
sex-number-back (pos (suc (suc n))) h = absurd (omega (arith, leb-true (suc (suc n)) 1 h))
sex-number-back (negsuc n) h = let z : ◌≡◌ {A = ℕ} 0 1 = cc in absurd (omega arith)

back : (t s : ℤ) (vs : List ℤ) → length vs ≡ 370 → is_label t ≡ true → is_label s ≡ true → set_numbers (set_of (t ∷ s ∷ vs)) ≡ t ∷ s ∷ vs
unfolding set_numbers set_of params_of
back t s vs h l m =
    rw (table-number-back t l, sex-number-back s m)
    (ap (λ (l : List ℤ). t ∷ s ∷ l) (all_params (table_of t) (sex_of s) vs h))

pub numbers-back : (ns : List ℤ) → are_set ns ≡ true → set_numbers (set_of ns) ≡ ns
numbers-back ns t = let l = first-labels ns t in go ns (as_many ns t) l.0 l.1
  where
    go : (ns : List ℤ) → length ns ≡ set_length → is_label (get_or ns 0 (pos 0)) ≡ true → is_label (get_or ns 1 (pos 0)) ≡ true
        → set_numbers (set_of ns) ≡ ns
    go [] h l m = absurd (omega arith)
    go (t ∷ []) h l m = absurd (omega arith)
    go (t ∷ s ∷ ns) h l m = back t s ns (omega arith) l m

-- ---- written, then read

-- where a writing is accepted, the numbers are a set's, in limits
accepted-set : (ns : List ℤ) (room : ℕ) → write_no ns room ≡ 0 → (are_set ns ≡ true) × T (in_limits (set_of ns))
unfolding write_no write_refusal refusal_number
accepted-set ns room e = go (are_set ns) (in_limits (set_of ns)) (leb (length (sheet_text (set_of ns))) room) e
  where
    go : (a b c : Bool) → refusal_number (cond a (cond b (cond c Accepted BufferTooShort) OutOfLimits) Malformed) ≡ 0 → (a ≡ true) × T b
    go true true c e = (refl, tt)
    go true false c e = absurd (omega arith)
    go false b c e = absurd (omega arith)

pub written-reads : (ns : List ℤ) (room : ℕ) → write_no ns room ≡ 0 → (before : List ℤ) → set_length ≤ length before
    → (0 ≡ read_no (sheet_text (set_of ns)) (length before))
    × (ns ++ drop set_length before ≡ numbers_after (sheet_text (set_of ns)) before)
unfolding set_of set_over refusal_number
written-reads ns room e before h =
    let (t, within) = accepted-set ns room e in
    let q = written-reads-back (set_of ns) (params-whole _ _ _) within in
    read-accepted (sheet_text (set_of ns)) before (sym q) refl refl h
    (ap (λ (l : List ℤ). l ++ drop set_length before) (sym (numbers-back ns t)))

-- ---- read, then written

-- where a reading is accepted, the sheet has no refusal
accepted-sheet : (sheet : List ℕ) (places : ℕ) → read_no sheet places ≡ 0 → (read_sheet sheet).refusal ≡ Accepted
unfolding read_no
accepted-sheet sheet places e = accepted (read_sheet sheet).refusal (go (refusal_number (read_sheet sheet).refusal) e)
  where
    go : (n : ℕ) → cond (eqb n 0) (cond (leb set_length places) 0 (refusal_number BufferTooShort)) n ≡ 0 → n ≡ 0
    go zero e = refl
    go (suc n) e = rw (ne_eqb (suc n) 0 (λ q. omega arith)) at e

abbrev reading : Params → Refusal → Reading
reading p r = record { refusal = r; set = p }

pub read-writes : (sheet : List ℕ) (places : ℕ) → read_no sheet places ≡ 0
    → sheet_text (set_of (set_numbers (read_sheet sheet).set)) ≡ sheet
read-writes sheet places e =
    let p = (read_sheet sheet).set in
    let (same, within, whole) = read-writes-back sheet p (ap (reading p) (accepted-sheet sheet places e)) in
    ap sheet_text (set_back p whole) ∙ same
