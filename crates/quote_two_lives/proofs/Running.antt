-- What the loop has after i factors of each life: the expectancy of the status over them, within its bound.
use mathlib.Core.Path.{◌≡◌, ap, ap₂, sym, ◌∙◌}
use mathlib.Core.List.{List, ◌∷◌}
use Prim.Native.Nat.{ℕ, suc, ◌+◌, ◌*◌, ◌/◌, ◌≤◌, ◌<◌, zero-le}
use native.Mathlib.Nat.{add-zero}
use native.Mathlib.Numerals.{add-one}
use native.Mathlib.Omega.{arith}
use lib.ListN.{length, take, drop}
use lib.Seq.{length-take-le, drop-cons}
use Rattle.std.proofs.lemmas.List.{take_all, length-drop}
use Rattle.number_exponential.specs.Grid.{Grid}
use Rattle.number_exponential.specs.declared.Ends.{Ends}
use Rattle.number_folds.specs.Folds.{half, with_factor, plus, sum_over}
use Rattle.number_folds.specs.laws.Each.{each_take}
use Rattle.number_folds.specs.code.Code.{AtMost, most_factors, Chances}
use Rattle.number_folds.proofs.laws.Bounds.{years-at-most}
use Rattle.number_folds.proofs.Running as life
use Rattle.quote_couple_kinds.specs.declared.Status.{Status}
use Rattle.quote_two_lives.specs.TwoLives.{status_chance, status_over, status_expectancy_over}
use Rattle.quote_two_lives.proofs.laws.Sizes.{status-at-most, expectancy-at-most}
use Rattle.quote_two_lives.proofs.laws.Steps.{expectancy-next}

abbrev expectancy_at : Grid → Status → List Ends → List Ends → ℕ → Ends
expectancy_at g status first second i = status_expectancy_over status g (take i first) (take i second)

pub record ExpectancyTo (g : Grid) (status : Status) (first second : List Ends) (i : ℕ) (s : Ends) : Type 0 where
  pub is : s ≡ expectancy_at g status first second i
  pub small : AtMost (suc most_factors * g.unit) s

-- what is left of a list after its next, x, the one at i
record NextAt (xs : List Ends) (i : ℕ) (x : Ends) (left : List Ends) : Type 0 where
  below : i < length xs
  is : x ≡ life.factor_at xs i
  rest : left ≡ drop (suc i) xs

next-at : (xs : List Ends) (i : ℕ) {x : Ends} {left : List Ends} → drop i xs ≡ x ∷ left → NextAt xs i x left
next-at xs i e =
    let b : i < length xs = omega (arith, length-drop i xs, ap length e) in
    let d = drop-cons xs i life.past b in
    record { below = b; is = cc e; rest = cc e }

-- what the loop has after i factors of each life: what is left of them, the sums and the two survivals
pub record StatusTo (g : Grid) (status : Status) (first second : List Ends) (i : ℕ) (left left' : List Ends) (sums s t : Ends) : Type 0 where
  pub rest : left ≡ drop i first
  pub rest' : left' ≡ drop i second
  pub expectancy : ExpectancyTo g status first second i sums
  pub survival : life.SurvivalTo g first i s
  pub survival' : life.SurvivalTo g second i t

module _ {g : Grid} (status : Status) {first second : List Ends} (c : Chances g first) (c' : Chances g second) where
  expectancy-to : {i : ℕ} {s : Ends} → i ≤ length first → s ≡ expectancy_at g status first second i → ExpectancyTo g status first second i s
  expectancy-to {i} l e =
      let n : length (take i first) ≤ most_factors = rw (length-take-le i first l) (omega (arith, c.room)) in
      record {
        is = e;
        small = rw e
            (years-at-most g g.positive most_factors n
            (expectancy-at-most g status (each_take i c.each) (each_take i c'.each)));
      }

  -- one factor of each life more
  expectancy-more : {i : ℕ} {sums s t r u : Ends} → i < length first → ExpectancyTo g status first second i sums
      → life.SurvivalTo g first (i + 1) s → life.SurvivalTo g second (i + 1) t → r ≡ status_chance status g s t
      → u ≡ plus sums r → ExpectancyTo g status first second (i + 1) u
  unfolding status_over
  expectancy-more {i} {sums} l h hs ht e f =
      expectancy-to {i = i + 1} (omega arith)
      (f ∙ ap₂ plus h.is (e ∙ ap₂ (status_chance status g) hs.is ht.is)
      ∙ ap (λ (n : ℕ). plus (expectancy_at g status first second i) (status_over status g (take n first) (take n second))) (add-one i)
      ∙ sym (expectancy-next status g first second i l)
      ∙ ap (expectancy_at g status first second) (sym (add-one i)))

  -- no factor: one half
  pub status-none : {left left' : List Ends} (n : ℕ) → n ≡ g.unit → left ≡ first → left' ≡ second
      → StatusTo g status first second 0 left left' (record { lower = n / 2; upper = n / 2 }) (record { lower = n; upper = n }) (record { lower = n; upper = n })
  unfolding status_expectancy_over sum_over plus half
  status-none n e l l' =
      record {
        rest = l;
        rest' = l';
        expectancy = expectancy-to {i = 0} zero-le
            (ap (λ (k : ℕ). record { lower = k; upper = k }) (ap (λ (k : ℕ). k / 2) e ∙ sym (add-zero (g.unit / 2))));
        survival = life.survival-none c e;
        survival' = life.survival-none c' e;
      }

module _ {g : Grid} {status : Status} {first second : List Ends} (c : Chances g first) (c' : Chances g second) {i : ℕ}
    {x x' : Ends} {left left' rest rest' : List Ends} {sums s t : Ends} (l : left ≡ x ∷ rest × left' ≡ x' ∷ rest')
    (h : StatusTo g status first second i left left' sums s t) where
  next : NextAt first i x rest
  next = next-at first i (sym h.rest ∙ l.0)

  next' : NextAt second i x' rest'
  next' = next-at second i (sym h.rest' ∙ l.1)

  -- the next factors are at most 1
  pub small : AtMost g.unit s × AtMost g.unit x
  small = (h.survival.small, rw next.is (life.factor-small c i next.below))

  pub small' : AtMost g.unit t × AtMost g.unit x'
  small' = (h.survival'.small, rw next'.is (life.factor-small c' i next'.below))

  -- the survivals over one factor more
  longer : {r : Ends} → r ≡ with_factor g s x → life.SurvivalTo g first (i + 1) r
  longer e = life.survival-more c next.below h.survival (e ∙ ap (with_factor g s) next.is)

  longer' : {r : Ends} → r ≡ with_factor g t x' → life.SurvivalTo g second (i + 1) r
  longer' e = life.survival-more c' next'.below h.survival' (e ∙ ap (with_factor g t) next'.is)

  pub both-small : {r r' : Ends} → r ≡ with_factor g s x → r' ≡ with_factor g t x' → AtMost g.unit r × AtMost g.unit r'
  both-small e e' = ((longer e).small, (longer' e').small)

  -- the chance of the status over them
  pub chance-small : {r r' u : Ends} → r ≡ with_factor g s x → r' ≡ with_factor g t x' → u ≡ status_chance status g r r' → AtMost g.unit u
  chance-small e e' f = rw f (status-at-most g status (longer e).small (longer' e').small)

  -- one factor of each life more
  pub status-more : {r r' u v : Ends} → r ≡ with_factor g s x → r' ≡ with_factor g t x' → u ≡ status_chance status g r r'
      → v ≡ plus sums u → StatusTo g status first second (i + 1) rest rest' v r r'
  status-more e e' f k =
      record {
        rest = next.rest ∙ ap (λ (n : ℕ). drop n first) (sym (add-one i));
        rest' = next'.rest ∙ ap (λ (n : ℕ). drop n second) (sym (add-one i));
        expectancy = expectancy-more status c c' next.below h.expectancy (longer e) (longer' e') f k;
        survival = longer e;
        survival' = longer' e';
      }

-- no factor of either life left
none-left : (xs : List Ends) (i : ℕ) {left : List Ends} → left ≡ drop i xs → length left ≡ 0 → length xs ≤ i
none-left xs i e n = omega (arith, length-drop i xs, ap length e)

module _ {g : Grid} {status : Status} {first second : List Ends} (e : length first ≡ length second) {i : ℕ} {left left' : List Ends}
    {sums s t : Ends} (h : StatusTo g status first second i left left' sums s t) where
  all : length first ≤ i → sums ≡ status_expectancy_over status g first second
  all l =
      h.expectancy.is ∙ ap₂ (status_expectancy_over status g) (take_all i first l) (take_all i second (omega arith))

  pub status-all : length left ≡ 0 → sums ≡ status_expectancy_over status g first second
  status-all n = all (none-left first i h.rest n)

  pub status-all' : length left' ≡ 0 → sums ≡ status_expectancy_over status g first second
  status-all' n = let l = none-left second i h.rest' n in all (omega arith)
