-- The eleven weights at each of the ages 91 to 120: what a table says that passes the test of rule and total, that the sizes
-- total at most 1,060, which is one test computed over the thirty ages, and how large one weight may be.
use Rattle.std.specs.Prelude.{◌≡◌, refl, Bool, ℕ, zero, suc, ◌+◌, ◌-◌, ◌≤◌, ◌<◌, T, leb, ℤ, ◌-ℤ◌, replicate}
use Rattle.std.proofs.Math.Path.{ap, sym}
use Rattle.std.proofs.Common.{subst, ◌∙◌, add-sub_of_le, zero-add, arith, leb→le}
use mathlib.Core.List.{List, [], ◌∷◌}
use Rattle.std.proofs.Math.IntN.{pos}
use Rattle.std.proofs.Math.ListN.{get_or}
use Rattle.number_whole.proofs.laws.Split.{split, split-neg, split-sub}
use Rattle.number_whole.specs.code.Sizes.{Under}
use Rattle.number_whole.proofs.laws.Bound.{under-lit, under-between, under-add, under-mul}
use Rattle.number_whole.proofs.laws.Table.{every, at, listed_at}
use Rattle.model_closure.specs.Weights.{first_fitted, fitted, first_closed, last_closed, weight_unit, weight}
use Rattle.model_closure.specs.code.Table.{closed, weight_row, Totalled, row_total, beside, totalled, ruled}
use Rattle.model_closure.specs.code.Totals.{weight_limit, most_size, size_total}

-- a test that passes at each of the thirty ages holds of an age from 91 to 120
thirty : List ℕ
thirty = replicate closed 0

by-age : (test : ℕ → Bool) → T (every (λ (k entry : ℕ). test (first_closed + k)) 0 thirty)
    → (x : ℕ) → first_closed ≤ x → x ≤ last_closed → T (test x)
unfolding thirty
by-age test t x h l =
    subst (λ (y : ℕ). T (test y)) (add-sub_of_le h)
    (at (λ (k entry : ℕ). test (first_closed + k)) 0 thirty t (x - first_closed) (omega arith))

pub weights-size : (x : ℕ) → first_closed ≤ x → x ≤ last_closed → size_total x fitted ≤ most_size
unfolding thirty weight size_total
weights-size x h l = leb→le _ _ (by-age (λ (y : ℕ). leb (size_total y fitted) most_size) tt x h l)

-- a row has the weight of each fitted age in its place
pub row-weight : (x i : ℕ) → i < fitted → get_or (weight_row x) i (pos 0) ≡ weight x i
unfolding weight_row
row-weight x i h = listed_at (weight x) (pos 0) 0 fitted i h ∙ ap (weight x) (zero-add i)

-- ---- a table whose rows are the rule's, each with its total

at_row : (r : List (List ℤ)) (k : ℕ) → get_or (totalled r) k (beside []) ≡ beside (get_or r k [])
unfolding totalled
at_row [] zero = refl
at_row [] (suc k) = refl
at_row (row ∷ rows) zero = refl
at_row (row ∷ rows) (suc k) = at_row rows k

module _ (r : List (List ℤ)) (e : totalled r ≡ ruled) {x : ℕ} (h : first_closed ≤ x) (l : x ≤ last_closed) where
  row_at : beside (get_or r (x - first_closed) []) ≡ record { row = weight_row x; total = pos weight_unit }
  unfolding ruled
  row_at =
      sym (at_row r (x - first_closed))
      ∙ ap (λ (rows : List Totalled). get_or rows (x - first_closed) (beside [])) e
      ∙ listed_at _ (beside []) first_closed closed (x - first_closed) (omega arith)
      ∙ ap (λ (y : ℕ). record { row = weight_row y; total = pos weight_unit }) (add-sub_of_le h)

  -- it has the row of each age in its place
  pub table-row : get_or r (x - first_closed) [] ≡ weight_row x
  unfolding beside
  table-row = ap (λ (t : Totalled). t.row) row_at

  -- whose eleven weights total 110
  pub row-total : row_total (weight_row x) ≡ pos weight_unit
  unfolding beside
  row-total = ap row_total (sym table-row) ∙ ap (λ (t : Totalled). t.total) row_at

-- ---- one weight

-- |a − 85| ≤ k
distance : {a k : ℕ} → 85 ≤ a + k → a ≤ 85 + k → Under (pos a -ℤ pos 85) k
distance {a} {k} l h =
    let s = split-sub (pos a) (pos 85) in
    under-between (omega (split, split-neg (pos k))) (omega split)

-- 10 + 5·35 = 185
pub weight-under : {x i : ℕ} → first_closed ≤ x → x ≤ last_closed → i < fitted → Under (weight x i) weight_limit
unfolding weight
weight-under {x} {i} l m h =
    let y = distance {a = first_fitted + i} {k = 5} (omega arith) (omega arith) in
    let z = distance {a = x} {k = 35} (omega arith) (omega arith) in
    under-add (under-lit {z = pos 10} {k = 10} tt) (under-mul y z)
