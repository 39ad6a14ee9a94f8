-- A set, the list of its numbers and the values of its sheet: each gives the others back.
use Rattle.std.specs.Prelude.{◌≡◌, ℤ, pos, drop}
use Rattle.std.proofs.Math.Path.{refl, sym}
use Rattle.std.proofs.Common.{ap, ◌∙◌, suc-add, mul-le-mul_left, eq-or-lt_of_le, le_of_suc-le-suc, length-drop, get_or-append-add, drop-cons, length-take-le}
use mathlib.Core.List.{List, [], ◌∷◌, ◌++◌}
use Prim.Native.Nat.{ℕ, zero, suc, ◌+◌, ◌*◌, ◌≤◌, ◌<◌}
use native.Mathlib.Omega.{arith}
use Rattle.std.proofs.Math.Logic.{⊎_elim}
use Rattle.std.proofs.Math.ListN.{length, get_or, take, length-append, get_or-append}
use Rattle.std.proofs.Math.Seq.{take-add, drop-drop, take_all, take-suc}
use Rattle.set_params.specs.declared.Params.{Params}
use Rattle.set_params.specs.declared.Table.{Table}
use Rattle.set_params.specs.declared.Table.TheVariants.{Ag2014, LiLee}
use Rattle.set_params.specs.declared.Sex.{Sex}
use Rattle.set_params.specs.Set.{A, B, alpha, beta, ages}
use Rattle.set_params.specs.code.Runs.{Whole}
use Rattle.set_params.specs.Limits.{first_start}
use Rattle.text_tokens.specs.Text.{bytes_of}
use Rattle.sheet.specs.Sheet.{sheet_lines, for_ages, age_keys, if_li_lee, keys, age_values, values}
use Rattle.sheet.specs.Sheet.{all_values, completed, run_from, params_of}

-- ---- f at each age, one after the other

-- where each f x has k elements
module _ {X : Type 0} (f : ℕ → List X) (k : ℕ) (each : (x : ℕ) → length (f x) ≡ k) where
  for_ages-length : (n : ℕ) → length (for_ages f n) ≡ k * n
  unfolding for_ages
  for_ages-length zero = omega arith
  for_ages-length (suc n) = rw length-append (omega (arith, for_ages-length n, each n))

  for_ages-at : (d : X) (n x i : ℕ) → x < n → i < k → get_or (for_ages f n) (i + k * x) d ≡ get_or (f x) i d
  unfolding for_ages
  for_ages-at d zero x i h j = absurd (omega arith)
  for_ages-at d (suc n) x i h j =
      ⊎_elim same (λ l. before l (for_ages-at d n x i l j)) (eq-or-lt_of_le (le_of_suc-le-suc h))
    where
      same : x ≡ n → get_or (for_ages f n ++ f n) (i + k * x) d ≡ get_or (f x) i d
      same e =
          let q : i + k * n ≡ length (for_ages f n) + i = omega (arith, for_ages-length n) in
          rw (e, q, get_or-append-add)

      before : x < n → get_or (for_ages f n) (i + k * x) d ≡ get_or (f x) i d
          → get_or (for_ages f n ++ f n) (i + k * x) d ≡ get_or (f x) i d
      before l r =
          let q : i + k * x < length (for_ages f n) = omega (arith, for_ages-length n, mul-le-mul_left k l) in
          rw (get_or-append (for_ages f n) (f n) d (i + k * x) q) r

for_ages-cong : {X : Type 0} (f g : ℕ → List X) (n : ℕ) → ((x : ℕ) → x < n → f x ≡ g x) → for_ages f n ≡ for_ages g n
unfolding for_ages
for_ages-cong f g zero h = refl
for_ages-cong f g (suc n) h =
    rw (for_ages-cong f g n (λ x l. h x (omega arith)), h n (omega arith))

-- one element for each age
module _ {X : Type 0} (d : X) where
  run_at : (f : ℕ → X) (n x : ℕ) → x < n → get_or (for_ages (λ (y : ℕ). f y ∷ []) n) x d ≡ f x
  run_at f n x h =
      let e : 0 + 1 * x ≡ x = omega arith in
      let r = for_ages-at {X = X} (λ (y : ℕ). f y ∷ []) 1 (λ y. refl) d n x 0 h (omega arith) in
      rw e at r

  run_take : (l : List X) (n : ℕ) → n ≤ length l → for_ages (λ (x : ℕ). get_or l x d ∷ []) n ≡ take n l
  unfolding for_ages
  run_take l zero h = refl
  run_take l (suc n) h = rw (run_take l n (omega arith), take-suc l n d (omega arith))

  -- its first six elements
  six-at : (l : List X) → 6 ≤ length l
      → take 6 l ≡ get_or l 0 d ∷ get_or l 1 d ∷ get_or l 2 d ∷ get_or l 3 d ∷ get_or l 4 d ∷ get_or l 5 d ∷ []
  unfolding for_ages
  six-at l h = sym (run_take l 6 h)

  -- four elements for each age
  four-at : (l : List X) (j : ℕ) → 4 + j ≤ length l
      → take 4 (drop j l) ≡ get_or l j d ∷ get_or l (suc j) d ∷ get_or l (suc (suc j)) d ∷ get_or l (suc (suc (suc j))) d ∷ []
  four-at l j h =
      rw (
        drop-cons l j d (omega arith),
        drop-cons l (suc j) d (omega arith),
        drop-cons l (suc (suc j)) d (omega arith),
        drop-cons l (suc (suc (suc j))) d (omega arith),
      )

  fours : List X → ℕ → ℕ → List X
  fours l m x = get_or l (m + 4 * x) d ∷ get_or l (suc m + 4 * x) d ∷ get_or l (suc (suc m) + 4 * x) d
      ∷ get_or l (suc (suc (suc m)) + 4 * x) d ∷ []

  fours-take : (l : List X) (m n : ℕ) → m + 4 * n ≤ length l → for_ages (fours l m) n ≡ take (4 * n) (drop m l)
  unfolding for_ages fours
  fours-take l m zero h = refl
  fours-take l m (suc n) h =
      let e : 4 * suc n ≡ 4 * n + 4 = omega arith in
      rw (
        e,
        take-add (4 * n) 4 (drop m l),
        drop-drop (4 * n) m l,
        four-at l (m + 4 * n) (omega arith),
        fours-take l m n (omega arith),
      )
      (simp suc-add)

-- ---- the runs of a list of values

four-each : (p : Params) (x : ℕ) → length (age_values p x) ≡ 4
unfolding age_values
four-each p x = refl

run-length : (i : ℕ) (vs : List ℤ) → length (run_from i vs) ≡ ages
unfolding run_from
run-length i vs = for_ages-length (λ (x : ℕ). get_or vs (i + 4 * x) (pos 0) ∷ []) 1 (λ x. refl) ages

run_value : (i : ℕ) (vs : List ℤ) (x : ℕ) → x < ages → get_or (run_from i vs) x (pos 0) ≡ get_or vs (i + 4 * x) (pos 0)
unfolding run_from
run_value i vs x h = run_at (pos 0) (λ (y : ℕ). get_or vs (i + 4 * y) (pos 0)) ages x h

-- the set of any list of values is whole
pub params-whole : (table : Table) (sex : Sex) (vs : List ℤ) → Whole (params_of table sex vs)
unfolding params_of
params-whole table sex vs =
    record { level = run-length 6 vs; slope = run-length 7 vs; alpha = run-length 8 vs; beta = run-length 9 vs }

-- ---- how many lines

-- two lines stand in front of those with keys
pub keys_length : (t : Table) → 2 + length (keys t) ≡ sheet_lines t
unfolding keys age_keys if_li_lee sheet_lines
keys_length Ag2014 = omega (arith, for_ages-length age_keys 4 (λ x. refl) ages)
keys_length LiLee = omega (arith, for_ages-length age_keys 4 (λ x. refl) ages)

pub values_length : (p : Params) → length (values p) ≡ length (keys p.table)
unfolding values keys age_keys if_li_lee
values_length p = omega (arith, go p.table)
  where
    ages-length : length (for_ages (age_values p) ages) ≡ length (for_ages age_keys ages)
    ages-length = for_ages-length (age_values p) 4 (four-each p) ages ∙ sym (for_ages-length age_keys 4 (λ x. refl) ages)

    go : (t : Table)
        → length (if_li_lee t (p.start ∷ p.c ∷ []) ++ for_ages (age_values p) ages)
        ≡ length (if_li_lee t (bytes_of "start" ∷ bytes_of "c" ∷ []) ++ for_ages age_keys ages)
    go Ag2014 = omega (arith, ages-length)
    go LiLee = omega (arith, ages-length)

-- ---- 370 numbers, to a set and back

module _ (table : Table) (sex : Sex) (vs : List ℤ) where
  age-fours : (x : ℕ) → x < ages → age_values (params_of table sex vs) x ≡ fours (pos 0) vs 6 x
  unfolding age_values params_of A B alpha beta fours
  age-fours x h = rw (run_value 6 vs x h, run_value 7 vs x h, run_value 8 vs x h, run_value 9 vs x h)

  module _ (h : length vs ≡ 370) where
    ages-fours : for_ages (age_values (params_of table sex vs)) ages ≡ take 364 (drop 6 vs)
    ages-fours =
        for_ages-cong (age_values (params_of table sex vs)) (fours (pos 0) vs 6) ages age-fours
        ∙ fours-take (pos 0) vs 6 ages (omega arith)

    pub all_params : all_values (params_of table sex vs) ≡ vs
    unfolding all_values params_of
    all_params =
        rw (ages-fours)
        (ap (λ (l : List ℤ). l ++ take 364 (drop 6 vs)) (sym (six-at (pos 0) vs (omega arith)))
        ∙ sym (take-add 6 364 vs) ∙ take_all 370 vs (omega arith))

-- a whole set, to its numbers and back
value-at : (p : Params) (i x : ℕ) → x < ages → i < 4
    → get_or (all_values p) (6 + i + 4 * x) (pos 0) ≡ get_or (age_values p x) i (pos 0)
unfolding all_values
value-at p i x h j =
    let e : 6 + i + 4 * x ≡ suc (suc (suc (suc (suc (suc (i + 4 * x)))))) = omega arith in
    rw e (for_ages-at (age_values p) 4 (four-each p) (pos 0) ages x i h j)

run-back : (p : Params) (i : ℕ) (l : List ℤ) → i < 4 → length l ≡ ages
    → ((x : ℕ) → get_or (age_values p x) i (pos 0) ≡ get_or l x (pos 0)) → run_from (6 + i) (all_values p) ≡ l
unfolding run_from
run-back p i l j h at =
    for_ages-cong (λ (x : ℕ). get_or (all_values p) (6 + i + 4 * x) (pos 0) ∷ []) (λ (x : ℕ). get_or l x (pos 0) ∷ []) ages
    (λ x k. ap (λ (z : ℤ). z ∷ []) (value-at p i x k j ∙ at x))
    ∙ run_take (pos 0) l ages (omega arith) ∙ take_all ages l (omega arith)

pub params-all : (p : Params) → Whole p → params_of p.table p.sex (all_values p) ≡ p
unfolding all_values params_of age_values A B alpha beta
params-all p w =
    rw (
      run-back p 0 p.level (omega arith) w.level (λ x. refl),
      run-back p 1 p.slope (omega arith) w.slope (λ x. refl),
      run-back p 2 p.alpha (omega arith) w.alpha (λ x. refl),
      run-back p 3 p.beta (omega arith) w.beta (λ x. refl),
    )

-- ---- a sheet's values and the numbers of its set

-- of these a sheet of AG2014 leaves out the start and c
left_out : List ℤ → List ℤ
left_out vs = take 4 vs ++ drop 6 vs

ag2014-values : (p : Params) → p.table ≡ Ag2014 → values p ≡ left_out (all_values p)
unfolding values all_values if_li_lee left_out
ag2014-values p e = rw e

lilee-values : (p : Params) → p.table ≡ LiLee → values p ≡ all_values p
unfolding values all_values if_li_lee
lilee-values p e = rw e

lilee-completed : (vs : List ℤ) → completed LiLee vs ≡ vs
unfolding completed
lilee-completed vs = refl

-- and gets them back
left-out-back : (vs : List ℤ) → 4 ≤ length vs → left_out (completed Ag2014 vs) ≡ vs
unfolding left_out completed
left-out-back [] h = absurd (omega arith)
left-out-back (a ∷ []) h = absurd (omega arith)
left-out-back (a ∷ b ∷ []) h = absurd (omega arith)
left-out-back (a ∷ b ∷ c ∷ []) h = absurd (omega arith)
left-out-back (a ∷ b ∷ c ∷ d ∷ vs) h = refl

completed-length : (t : Table) (vs : List ℤ) → length vs ≡ length (keys t) → length (completed t vs) ≡ 370
unfolding completed sheet_lines
completed-length Ag2014 vs h =
    rw length-append (omega (arith, keys_length Ag2014, length-take-le 4 vs (omega (arith, keys_length Ag2014)), length-drop 4 vs))
completed-length LiLee vs h = omega (arith, keys_length LiLee)

-- a sheet's values, to a set and back
pub values-params : (t : Table) (sex : Sex) (vs : List ℤ) → length vs ≡ length (keys t)
    → values (params_of t sex (completed t vs)) ≡ vs
unfolding params_of sheet_lines
values-params Ag2014 sex vs h =
    ag2014-values (params_of Ag2014 sex (completed Ag2014 vs)) refl
    ∙ ap left_out (all_params Ag2014 sex (completed Ag2014 vs) (completed-length Ag2014 vs h))
    ∙ left-out-back vs (omega (arith, keys_length Ag2014))
values-params LiLee sex vs h =
    lilee-values (params_of LiLee sex (completed LiLee vs)) refl
    ∙ all_params LiLee sex (completed LiLee vs) (completed-length LiLee vs h)
    ∙ lilee-completed vs

-- the sheet of a set shows all its numbers, though one of AG2014 has no line of its start and c
pub record Shown (p : Params) : Type 0 where
  pub shown : completed p.table (values p) ≡ all_values p

pub lilee-shown : (p : Params) → p.table ≡ LiLee → Shown p
lilee-shown p e =
    record { shown = ap (λ (t : Table). completed t (values p)) e ∙ lilee-completed (values p) ∙ lilee-values p e }

pub ag2014-shown : (p : Params) → p.table ≡ Ag2014 → p.start ≡ pos first_start → p.c ≡ pos 0 → Shown p
unfolding completed values all_values if_li_lee
ag2014-shown p e s c = record { shown = rw (e, s, c) }

-- that of any values of a sheet does
pub params-shown : (t : Table) (sex : Sex) (vs : List ℤ) → length vs ≡ length (keys t) → Shown (params_of t sex (completed t vs))
unfolding params_of
params-shown t sex vs h =
    record {
      shown = ap (completed t) (values-params t sex vs h) ∙ sym (all_params t sex (completed t vs) (completed-length t vs h));
    }

-- a whole set, to its sheet's values and back
pub params-values : (p : Params) → Whole p → Shown p → params_of p.table p.sex (completed p.table (values p)) ≡ p
params-values p w s = ap (params_of p.table p.sex) s.shown ∙ params-all p w
