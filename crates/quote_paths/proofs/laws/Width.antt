-- How far apart the ends of the values along an answered path lie on a grid, t times what they may on the grid of 10^-9, and how
-- great any path's are.
use Rattle.std.specs.Prelude.{◌≡◌, refl, Bool, eqb, ℤ, nat_abs, take, drop}
use Rattle.std.proofs.Math.Path.{ap, sym}
use Rattle.std.proofs.Common.{ap₂, ◌∙◌, add-zero, zero-add, le_refl, mul-le-mul_right, lt-ltb, le-ltb}
use Rattle.std.proofs.Math.Bool.{true, false, cond}
use mathlib.Core.List.{List, [], ◌∷◌, ◌++◌, map, map-append, append-nil, Forall₂}
use Prim.Native.Nat.{ℕ, zero, suc, ◌+◌, ◌*◌, ◌≤◌, ◌<◌}
use Rattle.std.proofs.Math.Nat.{mul-le-mul}
use Rattle.std.proofs.Math.Decide.{dec_lt}
use native.Mathlib.Omega.{arith}
use Rattle.std.proofs.Math.ListN.{length}
use Rattle.std.proofs.lemmas.List.{length-map}
use Rattle.number_whole.specs.Listed.{listed}
use Rattle.number_whole.proofs.laws.Table.{listed-shift, listed-part, listed-map}
use Rattle.number_fraction.specs.Ratio.{Ratio, ◌≤/◌}
use Rattle.number_fraction.proofs.laws.RatioLaws.{≤/-refl}
use Rattle.number_exponential.specs.Grid.{Grid}
use Rattle.number_exponential.proofs.laws.Facts.{Sound}
use Rattle.number_exponential.specs.Exponential.{exp_between}
use Rattle.number_exponential.proofs.laws.AtMostOne.{exp-lower-one, exp-upper-one}
use Rattle.set_params.specs.declared.Params.{Params}
use Rattle.model_closure.specs.Weights.{first_closed, last_closed}
use Rattle.number_folds.specs.laws.Each.{Each, none, also, each-places}
use Rattle.number_folds.specs.code.Code.{AtMost, most_factors}
use Rattle.number_folds.proofs.laws.Steps.{survival-one}
use Rattle.number_folds.proofs.laws.Bounds.{survival-at-most, expectancy-at-most, years-at-most}
use Rattle.number_folds.proofs.laws.Width.{Chance, spread, spread-times, spreads, survival-chance, expectancy-width}
use Rattle.number_folds.proofs.laws.Parts.{spread-part}
use Rattle.number_folds.proofs.laws.Plain.{spreads-plain}
use Rattle.number_annuity.proofs.laws.Bounds.{annuity-at-most}
use Rattle.number_annuity.proofs.laws.Width.{price_spread, annuity-width}
use Rattle.model_force.specs.Force.{death_of}
use Rattle.model_mortality.specs.Cell as cell
use Rattle.model_mortality.proofs.laws.Death.{death}
use Rattle.model_mortality.proofs.laws.Answered.{Answered}
use Rattle.model_mortality.proofs.laws.Width.{death-narrowed}
use Rattle.model_mortality.proofs.laws.GridFacts.{old_limit}
use Rattle.quote_paths.specs.Path.{Place, place_at, path_of, part_year, factors}
use Rattle.quote_paths.specs.declared.Fold.{Fold}
use Rattle.quote_paths.specs.declared.Fold.TheVariants.{Death, Survival, Expectancy, Annuity}
use Rattle.quote_paths.specs.Values.{fold_over, grid_value}
use Rattle.quote_paths.proofs.laws.Answers.{AnsweredPlace, AnsweredPath, path-more, factors-length}
use Rattle.quote_paths.proofs.laws.Oldest.{place-age}
use Rattle.quote_paths.proofs.laws.Facts.{age_limit, Facts, p-narrowed}

-- the limits of `fold_width` of quote_kinds/Kinds: of a survival, and of an expectancy or a price
abbrev pub survival_limit : ℕ
survival_limit = 30000

abbrev pub expectancy_limit : ℕ
expectancy_limit = 10000000

-- ---- one cell

-- no factor of any cell, answered or not, is above 1
module _ (g : Grid) (s : Sound g) (p : Params) where
  factor-at-most : (x n : ℕ) (part : Ratio) → AtMost g.unit (cell.survival g p x n part)
  unfolding cell.survival exp_between
  factor-at-most x n part = record { lower = exp-lower-one g s _; upper = exp-upper-one g s _ }

  pub factors-chances : (path : List Place) → Each (AtMost g.unit) (factors g p path)
  unfolding factors
  factors-chances [] = none
  factors-chances (c ∷ path) = also (factor-at-most c.age c.year c.part) (factors-chances path)

-- p of an answered cell
p-chance : {g : Grid} {t : ℕ} → Facts g t → {p : Params} {c : Place} → AnsweredPlace p c
    → Chance g (t * age_limit c.age) (cell.survival g p c.age c.year c.part)
p-chance {g} f {p} {c} a =
    let v = p-narrowed f a.cell a.within in
    record {
      ordered = v.ordered;
      most = (factor-at-most g f.sound p c.age c.year c.part).upper;
      width = v.width;
    }

-- ---- a path of one cell

-- the same for a cohort and a period
pub one_place : (cohort : Bool) (x n : ℕ) → x ≤ last_closed → path_of cohort x n 1 ≡ record { age = x; year = n; part = cell.whole_year } ∷ []
unfolding path_of listed place_at
one_place true x n l = ap₂ (λ (y m : ℕ). record { age = y; year = m; part = cell.whole_year } ∷ []) (omega arith) (omega arith)
one_place false x n l = ap (λ (y : ℕ). record { age = y; year = n; part = cell.whole_year } ∷ []) (omega arith)

-- its chance to die is the cell's q
pub one_cell : (g : Grid) → 0 < g.unit → (p : Params) (cohort : Bool) (x n : ℕ) → x ≤ last_closed
    → grid_value Death g p (path_of cohort x n 1) ≡ death g p x n
unfolding grid_value fold_over factors death
one_cell g positive p cohort x n l =
    rw (one_place cohort x n l) (ap (death_of g) (survival-one g positive (cell.survival g p x n cell.whole_year)))

pub death-limit : {g : Grid} {t : ℕ} → Facts g t → {p : Params} (cohort : Bool) (x n : ℕ) → x ≤ last_closed
    → AnsweredPath p (path_of cohort x n 1) → (grid_value Death g p (path_of cohort x n 1)).upper
    ≤ (grid_value Death g p (path_of cohort x n 1)).lower + t * age_limit x
death-limit {g} {t} f {p} cohort x n l a =
    rw (one_cell g g.positive p cohort x n l)
    (death-narrowed g p x n (t * age_limit x)
    (p-narrowed f (first (rw (one_place cohort x n l) at a)) (≤/-refl cell.whole_year))).width
  where
    first : AnsweredPath p (record { age = x; year = n; part = cell.whole_year } ∷ []) → Answered p x n
    first (also h none) = h.cell

-- ---- a path's widths

-- of its factors, in order
abbrev pub path_limits : ℕ → List Place → List ℕ
path_limits t path = map (λ (c : Place). t * age_limit c.age) path

-- to age 120 they are a part of those of all ages
abbrev age_limits : ℕ → List ℕ
age_limits t = listed (λ (x : ℕ). t * age_limit x) 0 (suc last_closed)

-- on the grid of 10^-9
widest-survival : spread (listed age_limit 0 (suc last_closed)) ≡ 27342
unfolding spread listed age_limit
widest-survival = refl

-- two rules that agree
listed_same : (f h : ℕ → ℕ) (i n : ℕ) → ((k : ℕ) → k < i + n → f k ≡ h k) → listed f i n ≡ listed h i n
unfolding listed
listed_same f h i zero e = refl
listed_same f h i (suc n) e =
    ap₂ (λ (v : ℕ) (l : List ℕ). v ∷ l) (e i (omega arith)) (listed_same f h (suc i) n (λ k l. e k (omega arith)))

module _ (t : ℕ) where
  age-spread : 0 < t → spread (age_limits t) ≤ t * 27342
  age-spread l =
      rw (← listed-map (λ (v : ℕ). t * v) age_limit 0 (suc last_closed), ← widest-survival)
      (spread-times t l (listed age_limit 0 (suc last_closed)))

  limits-part : (cohort : Bool) (x n k : ℕ) → x + k ≤ suc last_closed
      → path_limits t (path_of cohort x n k) ≡ take k (drop x (age_limits t))
  unfolding path_of
  limits-part cohort x n k h =
      let f : ℕ → ℕ = λ y. t * age_limit y in
      listed-map (λ (c : Place). f c.age) (place_at cohort x n) 0 k
      ∙ listed_same _ _ 0 k (λ s l. ap f (place-age cohort x n s (omega arith))) ∙ listed-shift f x 0 k
      ∙ ap (λ (y : ℕ). listed f y k) (add-zero x ∙ sym (zero-add x)) ∙ sym (listed-part f 0 (suc last_closed) x k h)

  -- and so are those of a survival to age 121
  pub path-spread : 0 < t → (cohort : Bool) (x n k : ℕ) → x + k ≤ suc last_closed
      → spread (path_limits t (path_of cohort x n k)) ≤ t * 27342
  path-spread l cohort x n k h =
      omega (arith, ap spread (limits-part cohort x n k h), spread-part x k (age_limits t), age-spread l)

  -- with a part of the year after it
  limits-with-part : (cohort : Bool) (x n k m : ℕ) (part : Ratio) → x + k ≤ last_closed
      → spread (path_limits t (path_of cohort x n k ++ part_year (x + k) m part)) ≤ spread (age_limits t)
  unfolding part_year
  limits-with-part cohort x n k m part h = go (eqb part.num 0)
    where
      go : (b : Bool)
          → spread (path_limits t (path_of cohort x n k ++ cond b [] (record { age = x + k; year = m; part = part } ∷ [])))
          ≤ spread (age_limits t)
      go true = rw (append-nil (path_of cohort x n k), limits-part cohort x n k (omega arith)) (spread-part x k (age_limits t))
      go false =
          let f : Place → ℕ = λ c. t * age_limit c.age in
          let e : path_limits t (path_of cohort x n k ++ (record { age = x + k; year = m; part = part } ∷ []))
          ≡ path_limits t (path_of cohort x n (suc k)) =
          map-append f (path_of cohort x n k) _
          ∙ ap (λ (y : ℕ). path_limits t (path_of cohort x n k) ++ (t * age_limit y ∷ [])) (sym (place-age cohort x n k h))
          ∙ sym (map-append f (path_of cohort x n k) (place_at cohort x n k ∷ []))
          ∙ ap (path_limits t) (sym (path-more cohort x n k)) in
          rw (e, limits-part cohort x n (suc k) (omega arith)) (spread-part x (suc k) (age_limits t))

  -- at any age none is above t times 600, so those of an expectancy are at most the plain sum of as much and 2 units a factor,
  -- over 171 factors
  old-widest : (x : ℕ) → t * age_limit x ≤ t * old_limit
  unfolding age_limit
  old-widest x = elim (dec_lt x first_closed) [
    | yes l ↦ rw (lt-ltb x first_closed l) (omega arith)
    | no l ↦ let k : first_closed ≤ x = omega arith in rw (le-ltb x first_closed k) (le_refl (t * old_limit))
  ]

  limits-widest : (path : List Place) → Each (λ (v : ℕ). v ≤ t * old_limit) (path_limits t path)
  limits-widest [] = none
  limits-widest (c ∷ path) = also (old-widest c.age) (limits-widest path)

  pub path-spreads : 0 < t → (path : List Place) → length path ≤ most_factors → spreads (path_limits t path) ≤ t * 8853012
  path-spreads l path h =
      omega (arith, spreads-plain (t * old_limit) (limits-widest path) {k = most_factors} (rw (length-map path _) h))

-- ---- the values along it

module _ {g : Grid} {t : ℕ} (f : Facts g t) {p : Params} where
  pub path-chances : {path : List Place} → AnsweredPath p path → Forall₂ (Chance g) (path_limits t path) (factors g p path)
  unfolding factors
  path-chances a = each-places _ _ (λ c h. p-chance f h) a

  pub survival-limit : (cohort : Bool) (x n k : ℕ) → x + k ≤ suc last_closed → AnsweredPath p (path_of cohort x n k)
      → (grid_value Survival g p (path_of cohort x n k)).upper
      ≤ (grid_value Survival g p (path_of cohort x n k)).lower + t * survival_limit
  unfolding grid_value fold_over
  survival-limit cohort x n k h a =
      omega (
        arith,
        (survival-chance g g.positive (path-chances a)).width,
        path-spread t f.some cohort x n k h,
      )

  -- with a part of the year after it
  pub day-limit : (cohort : Bool) (x n k m : ℕ) (part : Ratio) → x + k ≤ last_closed
      → AnsweredPath p (path_of cohort x n k ++ part_year (x + k) m part)
      → (grid_value Survival g p (path_of cohort x n k ++ part_year (x + k) m part)).upper
      ≤ (grid_value Survival g p (path_of cohort x n k ++ part_year (x + k) m part)).lower + t * survival_limit
  unfolding grid_value fold_over
  day-limit cohort x n k m part h a =
      omega (
        arith,
        (survival-chance g g.positive (path-chances a)).width,
        limits-with-part t cohort x n k m part h,
        age-spread t f.some,
      )

  pub expectancy-limit : {path : List Place} → length path ≤ most_factors → AnsweredPath p path
      → (grid_value Expectancy g p path).upper ≤ (grid_value Expectancy g p path).lower + t * expectancy_limit
  unfolding grid_value fold_over
  expectancy-limit {path = path} h a =
      omega (arith, expectancy-width g g.positive (path-chances a), path-spreads t f.some path h)

  pub annuity-limit : {path : List Place} → length path ≤ most_factors → AnsweredPath p path → (rate : ℤ)
      → (grid_value (Annuity rate) g p path).upper ≤ (grid_value (Annuity rate) g p path).lower + t * expectancy_limit
  unfolding grid_value fold_over price_spread
  annuity-limit {path = path} h a rate =
      let n = length (path_limits t path) in
      let l : n ≤ most_factors = rw (length-map path (λ (c : Place). t * age_limit c.age)) h in
      let a₁ : suc n ≤ suc most_factors = omega arith in
      let a₂ : n + 2 ≤ most_factors + 2 = omega arith in
      let m = mul-le-mul a₁ a₂ in
      let v = f.some in
      omega (arith, annuity-width g g.positive (nat_abs rate) (path-chances a), path-spreads t v path h)

-- ---- sizes

-- a value along any path of at most 171 cells is at most 172
pub value-small : (g : Grid) (s : Sound g) (p : Params) (path : List Place) → length path ≤ most_factors → (f : Fold)
    → AtMost (suc most_factors * g.unit) (grid_value f g p path)
unfolding grid_value fold_over death_of
value-small g s p path h Death = record { lower = omega arith; upper = omega arith }
value-small g s p path h Survival =
    let a = survival-at-most g g.positive (factors-chances g s p path) in
    record { lower = omega (arith, a.lower); upper = omega (arith, a.upper) }
value-small g s p path h Expectancy =
    years-at-most g g.positive most_factors (rw (factors-length g p path) h)
    (expectancy-at-most g g.positive (factors-chances g s p path))
value-small g s p path h (Annuity rate) =
    let a = annuity-at-most g g.positive (nat_abs rate) (factors-chances g s p path) in
    let m = mul-le-mul_right g.unit h in
    let e = ap (λ (k : ℕ). k * g.unit) (factors-length g p path) in
    record { lower = omega (arith, a.lower); upper = omega (arith, a.upper) }
