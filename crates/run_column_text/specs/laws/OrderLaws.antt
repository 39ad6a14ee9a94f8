-- The columns that are read are those of E3 whose rows go upward (paper 02, E10): "Right, wrong and open keep their meaning for the
-- columns still taken." Every column that is taken was taken in any order, with the same entries, and every one that was taken in
-- any order and whose rows go upward is taken.
use Rattle.std.specs.Prelude.{◌≡◌, refl, Bool, true, false, cond, ℕ, zero, suc, ◌+◌, ◌≤◌, ◌<◌, ℤ, pos, negsuc, nat_abs, get_or}
use Rattle.std.proofs.Common.{sym, ◌∙◌, zero-add, add-zero, eqb→eq, ext_get_or}
use Rattle.std.proofs.Math.Path.{ap}
use mathlib.Core.List.{List, [], ◌∷◌, nil≢cons}
use Rattle.std.proofs.Math.Decide.{dec_lt}
use native.Mathlib.Omega.{arith}
use borrow.Author.Tests.{ltb-true, le-leb, eq-eqb, ne_eqb}
use Rattle.std.proofs.Math.Dec.{eqb}
use Rattle.std.proofs.Math.ListN.{length}
use Rattle.std.specs.Int.Signed.{lt_z}
use Rattle.number_whole.specs.Listed.{listed}
use Rattle.number_whole.proofs.laws.Table.{every, at, listed-length, listed_at}
use Rattle.text_tokens.specs.Text.{malformed, taken}
use Rattle.text_tokens.specs.laws.Steps.{goes}
use Rattle.text_tokens.specs.laws.NumberTrip.{malformed-not-taken}
use Rattle.model_closure.specs.Weights.{last_closed}
use Rattle.quote_table_tests.specs.TableTests.{age_in_table}
use Rattle.quote_table_tests.proofs.laws.TableLaws.{within}
use Rattle.run_column_text.specs.declared.Entry.{Entry}
use Rattle.run_column_text.specs.Column.{column_lines, entries_of, is_age, upward, by_age, column_of}
use Rattle.run_column_text.specs.laws.RowLaws.{steps_in}
use Rattle.run_column_text.specs.laws.AnyOrder.{of_age, all_in_table, counts, one_of_each, each_once, steps_of, by_any_order}
use Rattle.run_column_text.specs.laws.AnyOrder.{column_in_any_order, above, rising}
use Rattle.run_column_text.specs.laws.ColumnLaws.{row, rows, and-true, column-is}

-- ---- the entries of an age

of-age : (x : ℕ) (e : Entry) (es : List Entry) → is_age x e.age ≡ true → of_age x (e ∷ es) ≡ e ∷ of_age x es
unfolding of_age
of-age x e es q = rw (q, of_age)

of_other : (x : ℕ) (e : Entry) (es : List Entry) → is_age x e.age ≡ false → of_age x (e ∷ es) ≡ of_age x es
unfolding of_age
of_other x e es q = rw (q, of_age)

-- as many counts as ages, each in its place
counts-length : (es : List Entry) → length (counts es) ≡ column_lines
unfolding counts
counts-length es = listed-length _ _ column_lines

count_at : (es : List Entry) (x : ℕ) → x < column_lines → get_or (counts es) x 0 ≡ length (of_age x es)
unfolding counts
count_at es x h =
    listed_at (λ (k : ℕ). length (of_age k es)) 0 0 column_lines x h ∙ ap (λ (k : ℕ). length (of_age k es)) (zero-add x)

-- ---- rows from age 0 on: each age once

every-all : {A : Type 0} (p : A → Bool) (a : A) (i : ℕ) (xs : List A) → ((k : ℕ) → k < length xs → p (get_or xs k a) ≡ true)
    → every (λ n x. p x) i xs ≡ true
every-all p a i [] h = refl
every-all p a i (x ∷ xs) h = rw (h 0 (omega arith)) (every-all p a (suc i) xs (λ k l. h (suc k) (omega arith)))

none_before : (x : ℕ) (c : List ℕ) (y : ℕ) → y < x → of_age y (rows x c) ≡ []
unfolding rows of_age is_age
none_before x [] y h = refl
none_before x (n ∷ c) y h = of_other y (row x n) (rows (suc x) c) (ne_eqb x y (λ q. omega arith)) ∙ none_before (suc x) c y (omega arith)

own_row : (x : ℕ) (c : List ℕ) (k : ℕ) → k < length c
    → of_age (x + k) (rows x c) ≡ row (x + k) (get_or c k 0) ∷ []
unfolding rows is_age
own_row x [] k h = absurd (omega arith)
own_row x (n ∷ c) zero h =
    rw (add-zero x)
    (of-age x (row x n) (rows (suc x) c) (eq-eqb x x refl) ∙ ap (◌∷◌ (row x n)) (none_before (suc x) c x (omega arith)))
own_row x (n ∷ c) (suc k) h =
    let e : x + suc k ≡ suc x + k = omega arith in
    of_other (x + suc k) (row x n) (rows (suc x) c) (ne_eqb x (x + suc k) (λ q. omega arith)) ∙ rw e (own_row (suc x) c k (omega arith))

rows_in : (x : ℕ) (c : List ℕ) → x + length c ≤ column_lines → all_in_table (rows x c) ≡ true
unfolding rows all_in_table age_in_table
rows_in x [] h = refl
rows_in x (n ∷ c) h = rw (le-leb 0 x (omega arith), le-leb x last_closed (omega arith)) (rows_in (suc x) c (omega arith))

module _ (c : List ℕ) (l : length c ≡ column_lines) where
  row_at : (x : ℕ) → x < column_lines → of_age x (rows 0 c) ≡ row x (get_or c x 0) ∷ []
  row_at x h = rw (zero-add x) at (own_row 0 c x (omega arith))

  rows-once : each_once (rows 0 c) ≡ true
  unfolding each_once one_of_each
  rows-once =
      rw (rows_in 0 c (omega arith))
      (every-all (λ n. eqb n 1) 0 0 (counts (rows 0 c))
      (λ k h. let m : k < column_lines = omega (arith, counts-length (rows 0 c)) in
      eq-eqb _ 1 (count_at (rows 0 c) k m ∙ ap length (row_at k m))))

  steps-at : (x : ℕ) → x < column_lines → steps_of (rows 0 c) x ≡ get_or c x 0
  unfolding steps_of
  steps-at x h = rw (row_at x h, steps_of)

  rows-steps : listed (steps_of (rows 0 c)) 0 column_lines ≡ c
  rows-steps =
      ext_get_or 0 _ c (listed-length (steps_of (rows 0 c)) 0 column_lines ∙ sym l)
      (λ k h. let m : k < column_lines = omega (arith, listed-length (steps_of (rows 0 c)) 0 column_lines) in
      listed_at (steps_of (rows 0 c)) 0 0 column_lines k m ∙ ap (steps_of (rows 0 c)) (zero-add k) ∙ steps-at k m)

-- every column that is taken was taken in any order
pub taken-before : (bytes : List ℕ) {c rest : List ℕ} → column_of bytes ≡ taken c rest → column_in_any_order bytes ≡ taken c []
unfolding column_in_any_order by_any_order
taken-before bytes {c} q =
    let i = column-is bytes q in
    goes _ i.read ∙ rw (rows-once c i.long, rows-steps c i.long)

-- ---- rows that go upward, each age once

-- rows above an age are of none up to it
higher : (y n : ℕ) (z : ℤ) → y ≤ n → lt_z (pos n) z ≡ true → is_age y z ≡ false
unfolding is_age
higher y n (pos m) h l = ne_eqb m y (λ e. omega (arith, ltb-true n m l))
higher y n (negsuc m) h l = refl

none_above : (y n : ℕ) (es : List Entry) → y ≤ n → above (pos n) es ≡ true → of_age y es ≡ []
unfolding above of_age
none_above y n [] h a = refl
none_above y n (e ∷ es) h a =
    let (one, more) = and-true (lt_z (pos n) e.age) (above (pos n) es) a in
    of_other y e es (higher y n e.age h one) ∙ none_above y n es h more

-- each age from x on has one of the entries, and none below x has any
record Once (x : ℕ) (es : List Entry) : Type 0 where
  most : x ≤ column_lines
  one : (y : ℕ) → x ≤ y → y < column_lines → length (of_age y es) ≡ 1
  none : (y : ℕ) → y < x → of_age y es ≡ []

module _ (x : ℕ) (e : Entry) (es : List Entry) (o : Once x (e ∷ es)) where
  -- the first of them is of age x, as a lower age has none and x itself would have none after a higher one
  first-age : (n : ℕ) → n < column_lines → e.age ≡ pos n → above (pos n) es ≡ true → n ≡ x
  unfolding is_age
  first-age n l q a =
      elim (dec_lt n x) [
        | yes h ↦ absurd (nil≢cons (sym (o.none n h) ∙ of-age n e es (rw q (eq-eqb n n refl))))
        | no h ↦
            elim (dec_lt x n) [
              | yes k ↦
                  let other = of_other x e es (rw q (ne_eqb n x (λ r. omega arith))) in
                  absurd (omega (arith, o.one x (omega arith) (omega arith), ap length (other ∙ none_above x n es (omega arith) a)))
              | no k ↦ omega arith
            ]
      ]

  once-next : x < column_lines → e.age ≡ pos x → above (pos x) es ≡ true → Once (suc x) es
  unfolding is_age
  once-next l q a =
      record {
        most = l;
        one = λ y h k. ap length (sym (of_other y e es (rw q (ne_eqb x y (λ r. omega arith))))) ∙ o.one y (omega arith) k;
        none = λ y h. none_above y x es (omega arith) a;
      }

rising-upward : (x : ℕ) (es : List Entry) → all_in_table es ≡ true → rising es ≡ true → Once x es → upward x es ≡ true
unfolding upward all_in_table age_in_table rising of_age is_age
rising-upward x [] t r o =
    elim (dec_lt x column_lines) [
      | yes h ↦ absurd (omega (arith, o.one x (omega arith) h))
      | no h ↦ eq-eqb x column_lines (omega (arith, o.most))
    ]
rising-upward x (e ∷ es) t r o =
    let (here, more) = and-true (age_in_table e.age) (all_in_table es) t in
    let (first, later) = and-true (above e.age es) (rising es) r in
    let (is, low, high) = within 0 last_closed e.age (rw here tt) in
    let n : nat_abs e.age ≡ x = first-age x e es o (nat_abs e.age) (omega arith) (sym is) (ap (λ (z : ℤ). above z es) is ∙ first) in
    let q : e.age ≡ pos x = sym is ∙ ap pos n in
    let a : above (pos x) es ≡ true = ap (λ (z : ℤ). above z es) (sym q) ∙ first in
    rw (q, eq-eqb x x refl) (rising-upward (suc x) es more later (once-next x e es o (omega arith) q a))

once-start : (es : List Entry) → one_of_each es ≡ true → Once 0 es
unfolding one_of_each
once-start es q =
    record {
      most = omega arith;
      one = λ y h l. sym (count_at es y l) ∙ eqb→eq _ 1 (at (λ k n. eqb n 1) 0 (counts es) (rw q tt) y (omega (arith, counts-length es)));
      none = λ y h. absurd (omega arith);
    }

once-all : (es : List Entry) {c rest : List ℕ} → by_any_order es ≡ taken c rest → each_once es ≡ true
unfolding by_any_order
once-all es {c} {rest} = go (each_once es)
  where
    go : (b : Bool) → cond b (taken (listed (steps_of es) 0 column_lines) []) malformed ≡ taken c rest → b ≡ true
    go true h = refl
    go false h = malformed-not-taken h

-- every column that was taken in any order and whose rows go upward is taken
pub taken-upward : (bytes : List ℕ) {c rest none : List ℕ} {es : List Entry} → column_in_any_order bytes ≡ taken c rest
    → entries_of bytes ≡ taken es none → rising es ≡ true → column_of bytes ≡ taken c []
unfolding column_in_any_order column_of by_age each_once
taken-upward bytes {c} {rest} {es = es} q e r =
    let (inside, each) = and-true (all_in_table es) (one_of_each es) (once-all es (sym (goes _ e) ∙ q)) in
    let now : column_of bytes ≡ taken (steps_in es) [] = goes _ e ∙ rw (rising-upward 0 es inside r (once-start es each)) in
    let same : taken c rest ≡ taken (steps_in es) [] = sym q ∙ taken-before bytes now in
    let is : steps_in es ≡ c = cc in
    now ∙ ap (λ (l : List ℕ). taken l []) is
