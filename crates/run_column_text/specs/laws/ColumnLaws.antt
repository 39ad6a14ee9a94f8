-- What a column that is taken says: its bytes are 121 lines, and their entries are those of ages 0 to 120 in their order, with the
-- column's steps. And the other way round: such entries are a column.
use Rattle.std.specs.Prelude.{◌≡◌, refl, Bool, true, false, cond, ◌&&◌, List, [], ◌∷◌, ℕ, suc, ◌+◌, ℤ, pos, negsuc, length}
use Rattle.std.proofs.Common.{ap, ◌∙◌, arith, eqb-true, eq-eqb}
use Rattle.std.proofs.lemmas.List.{length-map}
use Rattle.number_whole.proofs.laws.Clash.{clash}
use Rattle.text_tokens.specs.Text.{malformed, taken}
use Rattle.text_tokens.specs.laws.Steps.{goes}
use Rattle.text_tokens.specs.laws.NumberTrip.{malformed-not-taken}
use Rattle.sheet.proofs.laws.SheetTrip.{then-taken}
use Rattle.text_lines.specs.Lines.{lines}
use Rattle.run_column_text.specs.declared.Entry.{Entry}
use Rattle.run_column_text.specs.Column.{column_lines, read_entry, read_entries, entries_of, is_age, upward, by_age, column_of}
use Rattle.run_column_text.specs.laws.RowLaws.{steps_in}

-- the entry of an age, and those of these steps from age x on
abbrev pub row : ℕ → ℕ → Entry
row x n = record { age = pos x; steps = n }

unfoldable pub rows : ℕ → List ℕ → List Entry
rows x [] = []
rows x (n ∷ c) = row x n ∷ rows (suc x) c

-- ---- an entry for each line

record EntriesOf (ls : List (List ℕ)) (es : List Entry) (rest : List ℕ) : Type 0 where
  count : length es ≡ length ls
  none : rest ≡ []

entries-read : (ls : List (List ℕ)) {es : List Entry} {rest : List ℕ} → read_entries ls ≡ taken es rest → EntriesOf ls es rest
unfolding read_entries
entries-read [] {es} {rest} q =
    let x : [] ≡ es = cc in
    let y : [] ≡ rest = cc in
    rw (← x, ← y) (record { count = refl; none = refl })
entries-read (l ∷ ls) {es} {rest} q =
    then-taken (read_entry l) _ q λ e b₀ e₀ f₀.
    then-taken (read_entries ls) _ f₀ λ fs b₁ e₁ f₁.
    let r = entries-read ls e₁ in
    let x : e ∷ fs ≡ es = cc in
    let y : b₁ ≡ rest = cc in
    rw (← x, ← y) (record { count = ap suc r.count; none = r.none })

-- ---- entries upward from age x

pub and-true : (a b : Bool) → (a && b) ≡ true → (a ≡ true) × (b ≡ true)
and-true true b q = (refl, q)
and-true false b q = (q, cc)

is-age : (x : ℕ) (z : ℤ) → is_age x z ≡ true → z ≡ pos x
unfolding is_age
is-age x (pos n) q = ap pos (eqb-true n x q)
is-age x (negsuc n) q = clash cc

record UpwardIs (x : ℕ) (es : List Entry) : Type 0 where
  many : x + length es ≡ column_lines
  are : es ≡ rows x (steps_in es)

upward-is : (x : ℕ) (es : List Entry) → upward x es ≡ true → UpwardIs x es
unfolding upward rows
upward-is x [] q = record { many = omega (arith, eqb-true x column_lines q); are = refl }
upward-is x (e ∷ es) q =
    let (own, more) = and-true (is_age x e.age) (upward (suc x) es) q in
    let u = upward-is (suc x) es more in
    record {
      many = omega (arith, u.many);
      are = ap (λ (z : ℤ). record { age = z; steps = e.steps } ∷ es) (is-age x e.age own)
          ∙ ap (◌∷◌ (row x e.steps)) u.are;
    }

rows-upward : (x : ℕ) (c : List ℕ) → x + length c ≡ column_lines → upward x (rows x c) ≡ true
unfolding upward rows is_age
rows-upward x [] q = eq-eqb x column_lines (omega arith)
rows-upward x (n ∷ c) q = rw (eq-eqb x x refl) (rows-upward (suc x) c (omega arith))

rows-steps : (x : ℕ) (c : List ℕ) → steps_in (rows x c) ≡ c
unfolding rows
rows-steps x [] = refl
rows-steps x (n ∷ c) = ap (◌∷◌ n) (rows-steps (suc x) c)

-- ---- a column that is taken

pub record ColumnIs (bytes c : List ℕ) : Type 0 where
  -- "121 lines"
  pub many : length (lines bytes) ≡ column_lines
  pub long : length c ≡ column_lines
  pub read : entries_of bytes ≡ taken (rows 0 c) []

pub column-is : (bytes : List ℕ) {c rest : List ℕ} → column_of bytes ≡ taken c rest → ColumnIs bytes c
unfolding column_of entries_of by_age
column-is bytes {c} {rest} q =
    then-taken (entries_of bytes) _ q λ es b₀ e₀ f₀. go es (entries-read (lines bytes) e₀) e₀ (upward 0 es) refl f₀
  where
    go : (es : List Entry) {b₀ : List ℕ} → EntriesOf (lines bytes) es b₀ → entries_of bytes ≡ taken es b₀
        → (b : Bool) → upward 0 es ≡ b → cond b (taken (steps_in es) []) malformed ≡ taken c rest → ColumnIs bytes c
    go es r e true u f =
        let i = upward-is 0 es u in
        let is : steps_in es ≡ c = cc in
        rw (← is)
        (record {
          many = omega (arith, r.count, i.many);
          long = omega (arith, i.many, length-map es (λ (e : Entry). e.steps));
          read = e ∙ ap (taken es) r.none ∙ ap (λ (fs : List Entry). taken fs []) i.are;
        })
    go es r e false u f = malformed-not-taken f

pub column-taken : (bytes c : List ℕ) → length c ≡ column_lines → entries_of bytes ≡ taken (rows 0 c) [] → column_of bytes ≡ taken c []
unfolding column_of by_age
column-taken bytes c l q = goes _ q ∙ rw (rows-upward 0 c (omega arith), rows-steps 0 c)

-- nothing follows it
pub column-alone : (bytes : List ℕ) {c rest : List ℕ} → column_of bytes ≡ taken c rest → column_of bytes ≡ taken c []
column-alone bytes {c} q = let i = column-is bytes q in column-taken bytes c i.long i.read
