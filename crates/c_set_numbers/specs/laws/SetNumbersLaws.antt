-- A set's numbers put in front of others, part by part, and a set taken out of its numbers.
use Rattle.std.specs.Prelude.{◌≡◌, refl, ℕ, suc, ◌+◌, ◌*◌, ◌≤◌, ◌<◌, List, [], ◌∷◌, ◌++◌, ℤ, pos, length, get_or, take, drop, set}
use Rattle.std.proofs.Common.{sym, ap, ◌∙◌, arith, append_assoc, length-append, length-drop, length-set, take_at, drop_at, drop-drop, take-suc-set, get_or-drop}
use Rattle.std.proofs.Math.Seq.{drop-append-add}
use Rattle.std.proofs.lemmas.List.Edits.{sets-eq}
use Rattle.set_params.specs.declared.Params.{Params}
use Rattle.set_params.specs.declared.Age.{Age}
use Rattle.set_params.specs.Set.{ages, age_of}
use Rattle.sheet.specs.Sheet.{for_ages, age_values, all_values, run_from, params_of}
use Rattle.sheet_set.specs.code.Ages.{run}
use Rattle.sheet_set.specs.laws.RunLaws.{Run, run_end}
use Rattle.c_set_numbers.specs.SetNumbers.{set_length, table_number, sex_number, set_numbers, table_of, sex_of, set_of, set_over}
use Rattle.c_set_numbers.specs.code.Code.{over}

-- ---- a set's numbers in front

-- the list after is these numbers, and then what stood from a place on before
pub record Front (ns : List ℤ) (at : ℕ) (before after : List ℤ) : Type 0 where
  pub long : length ns ≡ at
  pub whole : after ≡ ns ++ drop at before

pub front-length : {ns : List ℤ} {at : ℕ} {before after : List ℤ} → at ≤ length before → Front ns at before after
    → length after ≡ length before
front-length h f = rw (f.whole, length-append, length-drop) (omega (arith, f.long))

-- what stands behind the numbers is what stood there
rest : {ns : List ℤ} {at : ℕ} {before after : List ℤ} → Front ns at before after → (k : ℕ)
    → drop (at + k) after ≡ drop (at + k) before
rest {ns} {at} {before} f k =
    rw (f.whole, ← f.long) (drop-append-add ns (drop (length ns) before) k ∙ drop-drop k (length ns) before)

-- nothing is in front
front-none : (before : List ℤ) → Front [] 0 before before
front-none before = record { long = refl; whole = refl }

-- more numbers put behind them
front-more : {ns : List ℤ} {at : ℕ} {before after next : List ℤ} (vs : List ℤ) → Front ns at before after
    → next ≡ over after at vs → Front (ns ++ vs) (at + length vs) before next
unfolding over
front-more {ns} {at} {before} {after} vs f e =
    let t : take at after ≡ ns = ap (take at) f.whole ∙ take_at ns (drop at before) at f.long in
    record {
      long = rw length-append (omega (arith, f.long));
      whole = e ∙ rw (t, rest f (length vs)) (sym (append_assoc ns vs _));
    }

-- those put first leave as many
pub first-length : (before vs : List ℤ) {after : List ℤ} → after ≡ over before 0 vs → length vs ≤ length before
    → length after ≡ length before
first-length before vs e h = front-length (omega arith) (front-more vs (front-none before) e)

-- what was put may count as what stood before, where the numbers put next reach as far
pub front_self : {ns : List ℤ} {at : ℕ} {before after : List ℤ} → Front ns at before after → Front ns at after after
front_self {ns} {at} {before} f =
    let e : drop at (ns ++ drop at before) ≡ drop at before = drop_at ns (drop at before) at f.long in
    record { long = f.long; whole = f.whole ∙ sym (ap (λ (l : List ℤ). ns ++ l) (ap (drop at) f.whole ∙ e)) }

pub front-over : {ns ms : List ℤ} {at : ℕ} (k : ℕ) {before after next : List ℤ} → Front ns at before after
    → Front ms (at + k) after next → Front ms (at + k) before next
front-over {ns} {ms} {at} k {before} {after} f g =
    let e : drop (at + k) after ≡ drop (at + k) before = rest f k in
    record { long = g.long; whole = g.whole ∙ ap (λ (l : List ℤ). ms ++ l) e }

-- four stores in a row
pub four-stores : (l : List ℤ) (at : ℕ) (a b c d : ℤ) → at + 4 ≤ length l
    → set (set (set (set l at a) (at + 1) b) (at + 2) c) (at + 3) d ≡ over l at (a ∷ b ∷ c ∷ d ∷ [])
unfolding over
four-stores l at a b c d h =
    let e₁ : at + 1 ≡ suc at = omega arith in
    let e₂ : at + 2 ≡ suc (suc at) = omega arith in
    let e₃ : at + 3 ≡ suc (suc (suc at)) = omega arith in
    rw (e₁, e₂, e₃) (sets-eq (a ∷ b ∷ c ∷ d ∷ []) l at h ∙ append_assoc (take at l) (a ∷ b ∷ c ∷ d ∷ []) _)

-- the table, the sex, the series and the first n ages
unfoldable pub first_ages : Params → ℕ → List ℤ
first_ages p n =
    table_number p.table ∷ sex_number p.sex ∷ p.a ∷ p.theta ∷ p.period ∷ p.kappa ∷ p.start ∷ p.c
    ∷ for_ages (age_values p) n

ages-none : (p : Params)
    → (table_number p.table ∷ sex_number p.sex ∷ p.a ∷ p.theta ∷ []) ++ (p.period ∷ p.kappa ∷ p.start ∷ p.c ∷ [])
    ≡ first_ages p 0
unfolding first_ages for_ages
ages-none p = refl

ages-more : (p : Params) (n : ℕ) → first_ages p n ++ age_values p n ≡ first_ages p (suc n)
unfolding first_ages for_ages
ages-more p n = refl

-- the first four numbers put, and the four after them
pub head-put : (p : Params) {before first after : List ℤ} {l s a t k κ st c : ℤ} → first ≡ over before 0 (l ∷ s ∷ a ∷ t ∷ [])
    → after ≡ over first 4 (k ∷ κ ∷ st ∷ c ∷ []) → l ≡ table_number p.table → s ≡ sex_number p.sex → a ≡ p.a
    → t ≡ p.theta → k ≡ p.period → κ ≡ p.kappa → st ≡ p.start → c ≡ p.c → Front (first_ages p 0) 8 before after
head-put p {before} f e l s a t k κ st c =
    let first = table_number p.table ∷ sex_number p.sex ∷ p.a ∷ p.theta ∷ [] in
    let then = p.period ∷ p.kappa ∷ p.start ∷ p.c ∷ [] in
    rw (← ages-none p) (front-more then (front-more first (front-none before) (f ∙ rw (l, s, a, t))) (e ∙ rw (k, κ, st, c)))

-- an age's four numbers
abbrev four_of : Age → List ℤ
four_of a = a.level ∷ a.slope ∷ a.alpha ∷ a.beta ∷ []

-- those of one age more put
pub age-put : (p : Params) (x : ℕ) {before after next : List ℤ} {g : Age} {v₀ v₁ v₂ v₃ : ℤ}
    → Front (first_ages p x) (8 + 4 * x) before after → next ≡ over after (8 + 4 * x) (v₀ ∷ v₁ ∷ v₂ ∷ v₃ ∷ [])
    → g ≡ age_of p x → v₀ ≡ g.level → v₁ ≡ g.slope → v₂ ≡ g.alpha → v₃ ≡ g.beta
    → Front (first_ages p (suc x)) (8 + 4 * suc x) before next
unfolding age_values
age-put p x {before} {after} {v₀} {v₁} {v₂} {v₃} f e q e₀ e₁ e₂ e₃ =
    let n : 8 + 4 * suc x ≡ 8 + 4 * x + 4 = omega arith in
    let w : v₀ ∷ v₁ ∷ v₂ ∷ v₃ ∷ [] ≡ age_values p x = rw (e₀, e₁, e₂, e₃) (ap (λ (a : Age). four_of a) q) in
    rw (← ages-more p x, n) (front-more (age_values p x) f (e ∙ ap (over after (8 + 4 * x)) w))

-- those of all ages put
pub ages-all : (p : Params) {before after : List ℤ} → Front (first_ages p ages) set_length before after
    → after ≡ set_over p before
unfolding first_ages set_over set_numbers all_values
ages-all p f = f.whole

-- ---- a run out of a list

-- one number more put into it
pub run-put : {l : List ℤ} {i : ℕ} {vs : List ℤ} {n : ℕ} (v : ℤ) → n < ages → v ≡ get_or vs (i + 4 * n) (pos 0)
    → Run l i vs n → Run (set l n v) i vs (suc n)
unfolding run for_ages
run-put {l} {n} v h e r =
    let s : n < length l = omega (arith, r.long) in
    record { long = length-set l n v ∙ r.long; front = take-suc-set l n v s ∙ rw (r.front, e) }

-- all of them
pub run-all : {l : List ℤ} {i : ℕ} {vs : List ℤ} → Run l i vs ages → l ≡ run_from i vs
unfolding run run_from
run-all r = run_end r

-- ---- a set out of its numbers

pub set-taken : (ns : List ℤ) {p : Params} → p.table ≡ table_of (get_or ns 0 (pos 0)) → p.sex ≡ sex_of (get_or ns 1 (pos 0))
    → p.a ≡ get_or ns 2 (pos 0) → p.theta ≡ get_or ns 3 (pos 0) → p.period ≡ get_or ns 4 (pos 0) → p.kappa ≡ get_or ns 5 (pos 0)
    → p.start ≡ get_or ns 6 (pos 0) → p.c ≡ get_or ns 7 (pos 0) → p.level ≡ run_from 6 (drop 2 ns)
    → p.slope ≡ run_from 7 (drop 2 ns) → p.alpha ≡ run_from 8 (drop 2 ns) → p.beta ≡ run_from 9 (drop 2 ns) → set_of ns ≡ p
unfolding set_of params_of
set-taken ns l s a t k κ st c le b al be =
    let after : (i : ℕ) → get_or (drop 2 ns) i (pos 0) ≡ get_or ns (2 + i) (pos 0) = λ i. get_or-drop 2 ns i (pos 0) in
    rw (← l, ← s, after 0, ← a, after 1, ← t, after 2, ← k, after 3, ← κ, after 4, ← st, after 5, ← c, ← le, ← b, ← al, ← be)
