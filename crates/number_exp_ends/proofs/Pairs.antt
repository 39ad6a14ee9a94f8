-- What the two sums of terms have on the way: the ends of term 2i + 1, the upper one less one, the sum of the even terms to 2i
-- and that of the odd terms to 2i + 1, each with the bound by which it fits.
use mathlib.Core.Path.{◌≡◌, sym, ap, ◌∙◌}
use mathlib.Core.Logic.{inl, inr}
use Prim.Native.Nat.{ℕ, suc, ◌+◌, ◌-◌, ◌*◌, ◌≤◌, ◌<◌, min}
use native.Mathlib.Nat.{le_refl, mul_comm, one-mul, mul-div_cancel, mul-le-mul, eq-zero-or-pos}
use native.Mathlib.Numerals.{add-one}
use native.Mathlib.Omega.{arith}
use Rattle.number_whole.proofs.laws.DivisionLaws.{ceilℕ-exact}
use Rattle.number_taylor.specs.Alternating.{double}
use Rattle.number_exponential.specs.Grid.{Grid}
use Rattle.number_exponential.specs.Exponential.{next_lower, next_upper, term_lower, term_upper, total, sum_lower, sum_upper}
use Rattle.number_exponential.proofs.laws.Facts.{Sound}
use Rattle.number_exponential.proofs.laws.WidthFacts.{Narrow}
use Rattle.number_exponential.proofs.laws.Terms.{term-lower-bound, term-upper-bound}
use Rattle.number_exponential.proofs.laws.Sums.{even_total, odd_total, evens-even, evens-odd, odds-even, odds-odd}
use Rattle.number_exponential.proofs.laws.NearSums.{lower-kept, upper-kept}
use Rattle.number_exponential.proofs.laws.RunOut.{term-lower-stays, term-upper-stays, even-run, odd-run}
use Rattle.number_exponential.specs.declared.GridUnit.{GridUnit}
use Rattle.number_exponential.specs.Units.{grid_of, ten_trillionths}
use Rattle.number_products.specs.laws.Units.{unit-most}
use Rattle.number_exp_ends.specs.code.Code.{PairCount}

-- t, with c more, is a's term j, and t is no more than the unit
pub record Term (g : Grid) (a : ℕ → ℕ) (c j t : ℕ) : Type 0 where
  pub is : c + t ≡ a j
  pub small : t ≤ g.unit

-- t is the lower end, and one less than the upper end, of term j at f
abbrev pub Lower : Grid → ℕ → ℕ → ℕ → Type 0
Lower g f j t = Term g (term_lower g f) 0 j t

abbrev pub Less : Grid → ℕ → ℕ → ℕ → Type 0
Less g f j t = Term g (term_upper g f) 1 j t

-- after i pairs of terms, with the even terms of a and the odd ones of b
pub record Pairs (g : Grid) (f : ℕ) (a : ℕ → ℕ) (c : ℕ) (b : ℕ → ℕ) (d low less evens odds i : ℕ) : Type 0 where
  pub lower : Lower g f (suc (double i)) low
  pub upper : Less g f (suc (double i)) less
  pub evens-are : evens + c * i ≡ even_total a i
  pub evens-small : evens ≤ suc i * g.unit
  pub odds-are : odds + d * i ≡ odd_total b (suc i)
  pub odds-small : odds ≤ suc i * g.unit

-- the even terms by their lower ends and the odd ones by their upper ends, and the other way round
abbrev pub LowerPairs : Grid → ℕ → ℕ → ℕ → ℕ → ℕ → ℕ → Type 0
LowerPairs g f = Pairs g f (term_lower g f) 0 (term_upper g f) 1

abbrev pub UpperPairs : Grid → ℕ → ℕ → ℕ → ℕ → ℕ → ℕ → Type 0
UpperPairs g f = Pairs g f (term_upper g f) 1 (term_lower g f) 0

-- a sum of few ends is no more than as many fine units
pub room : (u : GridUnit) (i : ℕ) {x : ℕ} → i ≤ 40 → x ≤ suc i * (grid_of u).unit → x ≤ 41 * ten_trillionths.unit
room u i {x} h l = omega (arith, mul-le-mul {n₁ = suc i} {n₂ = 41} (omega arith) (unit-most u))

module _ (g : Grid) (f : ℕ) (small : f ≤ g.unit) where
  -- the next term's end follows from the last one's
  pub lower-next : {j t k r : ℕ} → Lower g f j t → k ≡ suc j → r ≡ next_lower g t f k → Lower g f (suc j) r
  unfolding term_lower
  lower-next {j} {t} {k} {r} p e d =
      let q : t ≡ term_lower g f j = omega (arith, p.is) in
      let h : r ≡ term_lower g f (suc j) = rw (d, e, q) in
      record { is = omega (arith, h); small = rw h (term-lower-bound g f g.positive small (suc j)) }

  pub less-next : {j t k r : ℕ} → Less g f j t → k ≡ suc j → suc r ≡ next_upper g (suc t) f k → Less g f (suc j) r
  unfolding term_upper
  less-next {j} {t} {k} {r} p e d =
      let q : suc t ≡ term_upper g f j = omega (arith, p.is) in
      let h : suc r ≡ term_upper g f (suc j) = rw (d, e, q) in
      let l : suc r ≤ g.unit = rw h (term-upper-bound g f g.positive small (suc j)) in
      record { is = omega (arith, h); small = omega (arith, l) }

-- term 1 is f
pub first-lower : (g : Grid) (f : ℕ) → term_lower g f 1 ≡ f
unfolding term_lower next_lower
first-lower g f = rw (one-mul g.unit, mul_comm g.unit f) (mul-div_cancel f g.positive)

pub first-upper : (g : Grid) (f : ℕ) → term_upper g f 1 ≡ f
unfolding term_upper next_upper
first-upper g f = rw (one-mul g.unit, mul_comm g.unit f) (ceilℕ-exact f g.positive)

-- f is not 0
pub positive : {f : ℕ} → (f ≡ 0 → ⊥) → 0 < f
positive {f} h = elim (eq-zero-or-pos f) [ inl z ↦ absurd (h z) | inr p ↦ p ]

-- no pair
module _ (g : Grid) (f : ℕ) (some : 0 < f) (small : f ≤ g.unit) (a b : ℕ → ℕ) (c d : ℕ) where
  pub none : {u : ℕ} → u ≡ g.unit → g.unit ≡ a 0 → f ≡ b 1 → Pairs g f a c b d f (f - 1) u f 0
  unfolding total double
  none k e h =
      record {
        lower = record { is = omega (arith, first-lower g f); small = small };
        upper = record { is = omega (arith, first-upper g f); small = omega arith };
        evens-are = omega (arith, e);
        evens-small = omega arith;
        odds-are = omega (arith, h);
        odds-small = omega arith;
      }

-- one pair more
pub more : {g : Grid} {f low less evens odds i x y low' less' c d : ℕ} {a b : ℕ → ℕ} → Pairs g f a c b d low less evens odds i
    → Lower g f (suc (suc (suc (double i)))) low' → Less g f (suc (suc (suc (double i)))) less'
    → Term g a c (suc (suc (double i))) x → Term g b d (suc (suc (suc (double i)))) y
    → Pairs g f a c b d low' less' (evens + x) (odds + y) (i + 1)
unfolding total double
more {i = i} p l h x y =
    rw (add-one i)
    (record {
      lower = l;
      upper = h;
      evens-are = omega (arith, p.evens-are, x.is);
      evens-small = omega (arith, p.evens-small, x.small);
      odds-are = omega (arith, p.odds-are, y.is);
      odds-small = omega (arith, p.odds-small, y.small);
    })

-- all n pairs
pub all : {g : Grid} {f low less evens odds i c d : ℕ} {a b : ℕ → ℕ} (n : ℕ) → Pairs g f a c b d low less evens odds i → i ≡ n
    → Pairs g f a c b d low less evens odds n
all n p e = rw e at p

-- ---- where the terms have run out, after j + 1 pairs

module _ {g : Grid} {f low less E O c d : ℕ} {a b : ℕ → ℕ} (j : ℕ) (small : f ≤ g.unit)
    (p : Pairs g f a c b d low less E O (j + 1)) where
  -- each further term's ends
  lower-left : low ≡ 0 → (m : ℕ) → term_lower g f (suc (double (suc j)) + m) ≡ 0
  lower-left z m =
      let q = rw (add-one j) at p in
      let t : term_lower g f (suc (double (suc j))) ≡ 0 = omega (arith, q.lower.is) in
      term-lower-stays g f (suc (double (suc j))) m t

  upper-left : less ≡ 0 → (m : ℕ) → term_upper g f (suc (double (suc j)) + m) ≡ 1
  upper-left z m =
      let q = rw (add-one j) at p in
      let t : term_upper g f (suc (double (suc j))) ≡ 1 = omega (arith, q.upper.is) in
      term-upper-stays g f small (double (suc j)) m (le_refl 1) t

  -- the sums with n pairs more
  evens-left : (n : ℕ) {e k : ℕ} → j + 1 + n ≡ k → ((m : ℕ) → a (suc (double (suc j)) + m) ≡ e)
      → even_total a k ≡ E + c * suc j + n * e
  evens-left n {e} {k} s h =
      let q = rw (add-one j) at p in
      let x : k ≡ suc j + n = omega arith in
      ap (even_total a) x ∙ even-run a e (suc j) n h ∙ ap (λ (t : ℕ). t + n * e) (sym q.evens-are)

  odds-left : (n : ℕ) {e k : ℕ} → j + 2 + n ≡ k → ((m : ℕ) → b (suc (double (suc j)) + m) ≡ e)
      → odd_total b k ≡ O + d * suc j + n * e
  odds-left n {e} {k} s h =
      let q = rw (add-one j) at p in
      let x : k ≡ suc (suc j) + n = omega arith in
      ap (odd_total b) x ∙ odd-run b e (suc j) n h ∙ ap (λ (t : ℕ). t + n * e) (sym q.odds-are)

-- ---- the sums of n pairs

module _ (g : Grid) (s : Sound g) (w : Narrow g s) {n : ℕ} (k : PairCount g n) (f : ℕ) (h : f ≤ g.unit) where
  -- the sums' differences, from the sums of the definition
  lower-is : (E O : ℕ) → even_total (term_lower g f) n ≡ E → odd_total (term_upper g f) (suc n) ≡ O
      → (O ≤ E) × (E - O ≡ sum_lower g f)
  unfolding sum_lower
  lower-is E O e o =
      let d = evens-odd (term_lower g f) n g.last_lower k.lower ∙ e in
      let q = odds-odd (term_upper g f) n g.last_lower k.lower ∙ o in
      (rw (← d, ← q) (lower-kept g s w f h), rw (d, q))

  upper_is : (E O : ℕ) → even_total (term_upper g f) n ≡ E → odd_total (term_lower g f) n ≡ O
      → (O ≤ E) × (min g.unit (E - O) ≡ sum_upper g f)
  unfolding sum_upper
  upper_is E O e o =
      let d = evens-even (term_upper g f) n g.last_upper k.upper ∙ e in
      let q = odds-even (term_lower g f) n g.last_upper k.upper ∙ o in
      (rw (← d, ← q) (upper-kept g s w f h), rw (d, q))

  -- after all pairs the lower sum, and after all but one and the last term the upper one before its cap
  pub lower-sum : {low less E O : ℕ} → LowerPairs g f low less E O n → (O + n ≤ E) × (E - (O + n) ≡ sum_lower g f)
  lower-sum p = lower-is _ _ (omega (arith, p.evens-are)) (omega (arith, p.odds-are))

  pub upper-sum : (m : ℕ) {low less E O t : ℕ} → suc m ≡ n → UpperPairs g f low less E O m → Less g f (suc (suc (double m))) t
      → (O ≤ E + t + n) × (min g.unit (E + t + n - O) ≡ sum_upper g f)
  unfolding total double
  upper-sum m e p x =
      upper_is _ _ (ap (even_total (term_upper g f)) (sym e) ∙ omega (arith, p.evens-are, x.is))
      (ap (odd_total (term_lower g f)) (sym e) ∙ omega (arith, p.odds-are))

  -- and where the terms have run out
  pub lower-out : (j : ℕ) {low less E O : ℕ} → LowerPairs g f low less E O (j + 1) → j < n → low ≡ 0 → less ≡ 0
      → (O + n ≤ E) × (E - (O + n) ≡ sum_lower g f)
  lower-out j p l z o =
      lower-is _ _ (evens-left j h p (n - 1 - j) (omega arith) (lower-left j h p z) ∙ omega arith)
      (odds-left j h p (n - 1 - j) (omega arith) (upper-left j h p o) ∙ omega arith)

  pub upper-out : (j : ℕ) {low less E O : ℕ} → UpperPairs g f low less E O (j + 1) → j + 1 < n → low ≡ 0 → less ≡ 0
      → (O ≤ E + n) × (min g.unit (E + n - O) ≡ sum_upper g f)
  upper-out j p l z o =
      upper_is _ _ (evens-left j h p (n - 1 - j) (omega arith) (upper-left j h p o) ∙ omega arith)
      (odds-left j h p (n - 2 - j) (omega arith) (lower-left j h p z) ∙ omega arith)
