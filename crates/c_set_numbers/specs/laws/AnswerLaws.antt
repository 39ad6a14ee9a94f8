-- What the calls answer, and what they leave in what they are lent, in each of their cases; and the table and the sex of a number that
-- is held in 64 bits.
use Rattle.std.specs.Prelude.{◌≡◌, refl, ℕ, zero, suc, ◌≤◌, ◌<◌, Bool, true, false, cond, ◌&&◌, List, eqb, leb, ℤ, pos, negsuc, length, get_or}
use Rattle.std.proofs.Common.{sym, ap, ◌∙◌, arith, SFits, of_z}
use Rattle.std.proofs.Math.Bool.{and-eq-true_iff}
use borrow.Author.Tests.{le-leb, lt-leb, eq-eqb, ne_eqb, eqb-true}
use Rattle.std.specs.Int.{w64}
use Rattle.set_params.specs.declared.Params.{Params}
use Rattle.set_params.specs.declared.Table.TheVariants.{Ag2014, LiLee}
use Rattle.set_params.specs.declared.Sex.TheVariants.{M, F}
use Rattle.set_refusal.specs.declared.Refusal.TheVariants.{Accepted, Malformed, OutOfLimits, BufferTooShort}
use Rattle.set_refusal.specs.Refusals.{refusal_number}
use Rattle.set_limits.specs.InLimits.{in_limits}
use Rattle.sheet.specs.declared.Reading.{Reading}
use Rattle.sheet.specs.declared.Written.{Written}
use Rattle.sheet.specs.Sheet.{read_sheet, sheet_text, write_refusal, written_length, write_answer, written_buffer}
use Rattle.c_set_numbers.specs.SetNumbers.{set_length, is_label, table_of, sex_of, are_set, set_of, set_over, read_no, numbers_after}
use Rattle.c_set_numbers.specs.SetNumbers.{write_no, buffer_after, length_after}
use Rattle.c_set_numbers.specs.code.Code.{told_length}

-- ---- the table and the sex

-- the bits are 0, or those of 1
is_zero : (z : ℤ) → SFits w64 z → of_z w64 z ≡ 0 → z ≡ pos 0
is_zero (pos n) f e = ap pos e
is_zero (negsuc n) f e = absurd (omega (arith, f.sfits))

pub label-zero : (z : ℤ) → SFits w64 z → of_z w64 z ≡ 0 → is_label z ≡ true
unfolding is_label
label-zero z f e = rw (is_zero z f e)

pub label-other : (z : ℤ) → SFits w64 z → (of_z w64 z ≡ 0 → ⊥) → eqb (of_z w64 z) 1 ≡ is_label z
unfolding is_label
label-other (pos zero) f h = absurd (h refl)
label-other (pos (suc zero)) f h = refl
label-other (pos (suc (suc n))) f h = rw (ne_eqb (suc (suc n)) 1 (λ e. omega arith), lt-leb (suc (suc n)) 1 (omega arith))
label-other (negsuc n) f h = ne_eqb (of_z w64 (negsuc n)) 1 (λ e. omega (arith, f.sfits))

pub table-zero : (z : ℤ) → SFits w64 z → of_z w64 z ≡ 0 → table_of z ≡ Ag2014
unfolding table_of
table-zero z f e = rw (is_zero z f e)

pub table-other : (z : ℤ) → (of_z w64 z ≡ 0 → ⊥) → table_of z ≡ LiLee
unfolding table_of
table-other (pos zero) h = absurd (h refl)
table-other (pos (suc n)) h = refl
table-other (negsuc n) h = refl

pub sex-zero : (z : ℤ) → SFits w64 z → of_z w64 z ≡ 0 → sex_of z ≡ M
unfolding sex_of
sex-zero z f e = rw (is_zero z f e)

pub sex-other : (z : ℤ) → (of_z w64 z ≡ 0 → ⊥) → sex_of z ≡ F
unfolding sex_of
sex-other (pos zero) h = absurd (h refl)
sex-other (pos (suc n)) h = refl
sex-other (negsuc n) h = refl

-- ---- whether numbers are a set's

module _ (ns : List ℤ) where
  pub not-as-many : (length ns ≡ set_length → ⊥) → are_set ns ≡ false
  unfolding are_set
  not-as-many h = rw (ne_eqb (length ns) set_length h)

  -- as many, the first two decide
  pub labels-decide : length ns ≡ set_length → are_set ns ≡ (is_label (get_or ns 0 (pos 0)) && is_label (get_or ns 1 (pos 0)))
  unfolding are_set
  labels-decide h = rw (eq-eqb (length ns) set_length h)

  -- a set's numbers are as many, and the first two are labels
  pub as_many : are_set ns ≡ true → length ns ≡ set_length
  unfolding are_set
  as_many t = eqb-true (length ns) set_length ((and-eq-true_iff (eqb (length ns) set_length) _).0 t).0

  pub first-labels : are_set ns ≡ true → (is_label (get_or ns 0 (pos 0)) ≡ true) × (is_label (get_or ns 1 (pos 0)) ≡ true)
  unfolding are_set
  first-labels t =
      (and-eq-true_iff (is_label (get_or ns 0 (pos 0))) (is_label (get_or ns 1 (pos 0)))).0
      ((and-eq-true_iff (eqb (length ns) set_length) (is_label (get_or ns 0 (pos 0)) && is_label (get_or ns 1 (pos 0)))).0 t).1

-- ---- reading

-- the number and the numbers after a reading
abbrev pub Read : List ℕ → List ℤ → ℕ → List ℤ → Type 0
Read sheet before answer after = (answer ≡ read_no sheet (length before)) × (after ≡ numbers_after sheet before)

module _ (sheet : List ℕ) (before : List ℤ) {got : Reading} (e : got ≡ read_sheet sheet) {no : ℕ}
    (n : no ≡ refusal_number got.refusal) where
  -- the sheet's refusal has this number
  is : refusal_number (read_sheet sheet).refusal ≡ no
  is = sym (n ∙ ap (λ (r : Reading). refusal_number r.refusal) e)

  pub read-refused : (no ≡ 0 → ⊥) → Read sheet before no before
  unfolding read_no numbers_after
  read-refused h = let q = ne_eqb no 0 h in (rw (is, q), rw (is, q, q))

  pub read_short : no ≡ 0 → length before < set_length → {short : ℕ} → short ≡ refusal_number BufferTooShort
      → Read sheet before short before
  unfolding read_no numbers_after refusal_number
  read_short h s k = let q = lt-leb set_length (length before) s in (rw (is, h, q) k, rw (is, h, q))

  pub read-accepted : no ≡ 0 → set_length ≤ length before → {after : List ℤ} → after ≡ set_over got.set before
      → Read sheet before no after
  unfolding read_no numbers_after
  read-accepted h s k =
      let q = le-leb set_length (length before) s in
      (h ∙ rw (is, h, q), k ∙ rw (is, h, q) (ap (λ (r : Reading). set_over r.set before) e))

-- ---- writing

-- the number, the buffer and the length after a writing
abbrev pub Wrote : List ℤ → List ℕ → ℕ → ℕ → List ℕ → ℕ → Type 0
Wrote ns buffer len answer after told =
    (answer ≡ write_no ns (length buffer)) × ((after ≡ buffer_after ns buffer) × (told ≡ length_after ns (length buffer) len))

pub write-malformed : (ns : List ℤ) (buffer : List ℕ) (len : ℕ) → are_set ns ≡ false → {no : ℕ} → no ≡ refusal_number Malformed
    → Wrote ns buffer len no buffer len
unfolding write_no buffer_after length_after refusal_number
write-malformed ns buffer len e n = (n ∙ rw e, (rw e, rw e))

-- the number of a writer's answer, and the length told
abbrev pub Told : Written → ℕ → ℕ → ℕ → Type 0
Told got before number told = (number ≡ refusal_number got.refusal) × (told ≡ told_length got before)

module _ (got : Written) (before : ℕ) {number : ℕ} (n : number ≡ refusal_number got.refusal) where
  pub told-accepted : number ≡ 0 → Told got before number got.len
  unfolding told_length
  told-accepted h = (n, rw (← n, h))

  pub told-refused : (number ≡ 0 → ⊥) → Told got before number before
  unfolding told_length
  told-refused h = (n, rw (← n, ne_eqb number 0 h))

-- the writer's length is told where the call is accepted
told-length : (p : Params) (room before : ℕ) → told_length (write_answer p room) before
    ≡ cond (eqb (refusal_number (write_refusal p room)) 0) (length (sheet_text p)) before
unfolding told_length write_answer write_refusal written_length refusal_number
told-length p room before = go (in_limits p) (leb (length (sheet_text p)) room)
  where
    go : (a b : Bool) → let no = refusal_number (cond a (cond b Accepted BufferTooShort) OutOfLimits) in
        cond (eqb no 0) (cond a (cond b (length (sheet_text p)) 0) 0) before ≡ cond (eqb no 0) (length (sheet_text p)) before
    go true true = refl
    go true false = refl
    go false b = refl

pub write-told : (ns : List ℤ) (buffer : List ℕ) (len : ℕ) → are_set ns ≡ true → {p : Params} → p ≡ set_of ns
    → {got : Written} {after : List ℕ}
    → (got ≡ write_answer p (length buffer)) × (after ≡ written_buffer p buffer) → {number told : ℕ}
    → Told got len number told → Wrote ns buffer len number after told
unfolding write_no buffer_after length_after write_answer
write-told ns buffer len t {p} e w n =
    let k = n.1 ∙ ap (λ (g : Written). told_length g len) w.0 ∙ told-length p (length buffer) len in (
      n.0 ∙ rw (t, ← e) (ap (λ (g : Written). refusal_number g.refusal) w.0),
      (rw (t, ← e) w.1, rw (t, ← e) k),
    )
