-- The weighted sums as the code forms them: each fits 64 bits, and is read as the number that the definition has.
use mathlib.Core.Path.{◌≡◌, refl, ap, ◌∙◌}
use Rattle.std.proofs.Common.{◌⊎◌, inl, inr, length, drop, pos, length-drop, drop-cons}
use mathlib.Core.List.{List, ◌∷◌}
use Prim.Native.Nat.{ℕ, zero, suc, ◌+◌, ◌*◌, ◌≤◌, ◌<◌}
use native.Mathlib.Numerals.{add-one}
use native.Mathlib.Omega.{arith}
use lib.IntN.{ℤ, ◌+ℤ◌}
use mir.Syntax.{w64}
use mir.Val.{SFits}
use Rattle.number_whole.specs.code.Sizes.{Under, Within}
use Rattle.number_whole.proofs.laws.Bound.{bits, under-lit, under-weaken, under-add, fits, back}
use Rattle.number_whole.specs.declared.SignedEnds.{SignedEnds}
use Rattle.number_whole.specs.SignedEnds.{least_product, greatest_product}
use Rattle.number_whole.proofs.laws.EndLaws.{least_under, greatest-under}
use Rattle.number_whole.proofs.Signed.{read, sum}
use Rattle.model_closure.specs.Weights.{fitted}
use Rattle.model_closure.specs.code.Totals.{weight_limit}
use Rattle.model_closure.specs.Closure.{ends_at, least_sum, greatest_sum}
use Rattle.model_closure.specs.code.Code.{end_limit, sums_limit, weight_of, RowWithin, with_product}

-- a sum with the least or the greatest product of a weight with the ends of H: it fits, and is read as it is
module _ {s w : ℤ} {e : SignedEnds} (hs : Under s sums_limit) (hw : Under w weight_limit) (he : Within end_limit e) where
  next : {p r : ℤ} → Under p (weight_limit * end_limit) → r ≡ p
      → SFits w64 (bits s +ℤ bits r) × (bits (bits s +ℤ bits r) ≡ s +ℤ p)
  next u f = sum (back hs tt) (read f (fits u tt)) refl (fits (under-add hs u) tt)

  pub next-least : {r : ℤ} → r ≡ least_product (bits w) e
      → SFits w64 (bits s +ℤ bits r) × (bits (bits s +ℤ bits r) ≡ s +ℤ least_product w e)
  next-least f = next (least_under hw he) (rw (back hw tt) at f)

  pub next-greatest : {r : ℤ} → r ≡ greatest_product (bits w) e
      → SFits w64 (bits s +ℤ bits r) × (bits (bits s +ℤ bits r) ≡ s +ℤ greatest_product w e)
  next-greatest f = next (greatest-under hw he) (rw (back hw tt) at f)

-- the sums of the first n products
abbrev pub sums_to : (ℕ → ℤ) → List SignedEnds → ℕ → SignedEnds
sums_to w hs n = record { lower = least_sum w hs n; upper = greatest_sum w hs n }

-- with the i-th product added they give the next sums
pub sums_next : (w : ℕ → ℤ) (h : List SignedEnds) (i : ℕ)
    → with_product (sums_to w h i) (w i) (ends_at h i) ≡ sums_to w h (i + 1)
unfolding with_product least_sum greatest_sum
sums_next w h i = rw (add-one i)

-- the sums stay within their limit
module _ (row : List ℤ) (hs : List SignedEnds) (r : RowWithin row) (h : (i : ℕ) → i < fitted → Within end_limit (ends_at hs i)) where
  sums-grow : (n : ℕ) → n ≤ fitted → Within (n * (weight_limit * end_limit)) (sums_to (weight_of row) hs n)
  unfolding least_sum greatest_sum
  sums-grow zero k = record { low = under-lit tt; high = under-lit tt }
  sums-grow (suc n) k =
      let a = sums-grow n (omega arith) in
      let w = r.weights n k in
      record {
        low = under-weaken (under-add a.low (least_under w (h n k))) (omega arith);
        high = under-weaken (under-add a.high (greatest-under w (h n k))) (omega arith);
      }

  pub sums-within : (n : ℕ) → n ≤ fitted → Within sums_limit (sums_to (weight_of row) hs n)
  sums-within n k =
      let a = sums-grow n k in
      record { low = under-weaken a.low (omega arith); high = under-weaken a.high (omega arith) }

-- after i products: the two sums, and the weights and the ends of H that are left
pub record Summed (row : List ℤ) (hs : List SignedEnds) (i : ℕ) (ws : List ℤ) (es : List SignedEnds) (sums : SignedEnds) : Type 0 where
  pub counted : i ≤ fitted
  pub is : sums ≡ sums_to (weight_of row) hs i
  pub weights : ws ≡ drop i row
  pub ends : es ≡ drop i hs

module _ {row : List ℤ} {hs : List SignedEnds} (size : length row ≡ fitted) (size' : length hs ≡ fitted) {i : ℕ} {ws : List ℤ}
    {es : List SignedEnds} {s : SignedEnds} (h : Summed row hs i ws es s) where
  -- the next weight and the next ends are those at i
  module _ {w : ℤ} {e : SignedEnds} {ws' : List ℤ} {es' : List SignedEnds} (l : ws ≡ w ∷ ws' × es ≡ e ∷ es') where
    pub below : i < fitted
    below = omega (arith, length-drop i row, ap length h.weights, ap length l.0)

    pub weight-is : w ≡ weight_of row i
    weight-is = let d = drop-cons row i (pos 0) (omega (arith, below)) in cc (h.weights, l.0)

    pub ends-are : e ≡ ends_at hs i
    ends-are = let d = drop-cons hs i (record { lower = pos 0; upper = pos 0 }) (omega (arith, below)) in cc (h.ends, l.1)

    -- one product more
    pub summed-next : {r : SignedEnds} → r ≡ with_product s w e → Summed row hs (i + 1) ws' es' r
    summed-next f =
        let d = drop-cons row i (pos 0) (omega (arith, below)) in
        let d' = drop-cons hs i (record { lower = pos 0; upper = pos 0 }) (omega (arith, below)) in
        record {
          counted = omega (arith, below);
          is = f ∙ rw (h.is, weight-is, ends-are) (sums_next (weight_of row) hs i);
          weights = rw (add-one i) (cc (h.weights, l.0));
          ends = rw (add-one i) (cc (h.ends, l.1));
        }

  -- none is left
  pub summed : length ws ≡ 0 ⊎ length es ≡ 0 → s ≡ sums_to (weight_of row) hs fitted
  summed n =
      let k = elim n as (λ _. fitted ≤ i) [
        | inl z ↦ omega (arith, length-drop i row, ap length h.weights)
        | inr z ↦ omega (arith, length-drop i hs, ap length h.ends)
      ] in
      let e : i ≡ fitted = omega (arith, h.counted) in
      rw e at h.is
