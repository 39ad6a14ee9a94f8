-- Paths in parts, and the paths that are answered: every cell of them is.
use Rattle.std.specs.Prelude.{◌≡◌, refl, Bool, true, false, ◌&&◌, List, [], ◌∷◌, ◌++◌, ℕ, zero, suc, ◌+◌, ◌≤◌, ◌<◌, T, length}
use Rattle.std.proofs.Common.{ap, sym, ◌∙◌, append-nil, zero-add, not-suc-le-zero, eq-zero-or-pos, inl, inr, ne_eqb, arith}
use Rattle.std.proofs.Math.Bool.{and_assoc, and-true, and-false}
use Rattle.std.proofs.lemmas.List.{map-append, length-map}
use Rattle.std.proofs.Math.Decide.{dec_lt}
use Rattle.std.proofs.Math.Facts.{and_yes, yes_and}
use Rattle.number_fraction.specs.Ratio.{Ratio, ◌≤/◌}
use Rattle.number_fraction.proofs.laws.RatioLaws.{≤/-refl}
use Rattle.number_whole.proofs.laws.Table.{listed-length, listed_more}
use Rattle.number_exponential.specs.Grid.{Grid}
use Rattle.number_exponential.specs.Units.{billionths}
use Rattle.set_params.specs.declared.Params.{Params}
use Rattle.set_limits.specs.InLimits.{in_limits}
use Rattle.set_params.specs.Limits.{last_years}
use Rattle.model_closure.specs.Weights.{last_closed}
use Rattle.number_folds.specs.laws.Each.{Each, none, also, each-listed, each-with}
use Rattle.model_mortality.specs.Cell.{whole_year, needed_in_range}
use Rattle.model_mortality.proofs.laws.Answered.{Answered}
use Rattle.model_mortality.proofs.laws.Needed.{needed-finer}
use Rattle.quote_paths.specs.Path.{Place, place_at, path_of, part_year, factors, path_in_range}

-- ---- lengths and parts

-- a path over k years has k cells, and a factor for each
pub path-length : (cohort : Bool) (x n k : ℕ) → length (path_of cohort x n k) ≡ k
unfolding path_of
path-length cohort x n k = listed-length (place_at cohort x n) 0 k

pub factors-length : (g : Grid) (p : Params) (path : List Place) → length (factors g p path) ≡ length path
unfolding factors
factors-length g p path = length-map path _

-- one year more puts one cell at the end
pub path-more : (cohort : Bool) (x n k : ℕ) → path_of cohort x n (suc k) ≡ path_of cohort x n k ++ (place_at cohort x n k ∷ [])
unfolding path_of
path-more cohort x n k =
    listed_more (place_at cohort x n) 0 k
    ∙ ap (λ (s : ℕ). path_of cohort x n k ++ (place_at cohort x n s ∷ [])) (zero-add k)

pub factors-append : (g : Grid) (p : Params) (a b : List Place) → factors g p (a ++ b) ≡ factors g p a ++ factors g p b
unfolding factors
factors-append g p a b = map-append _ a b

-- ---- which are in range

pub in-range-append : (g : Grid) (p : Params) (a b : List Place) → path_in_range g p (a ++ b) ≡ (path_in_range g p a && path_in_range g p b)
unfolding path_in_range
in-range-append g p [] b = refl
in-range-append g p (c ∷ a) b =
    ap (λ (t : Bool). needed_in_range g p c.age c.year && t) (in-range-append g p a b)
    ∙ sym (and_assoc (needed_in_range g p c.age c.year) (path_in_range g p a) (path_in_range g p b))

-- what the cell at place s of a path needs is in range
abbrev pub place_in_range : Grid → Params → Bool → ℕ → ℕ → ℕ → Bool
place_in_range g p cohort x n s = needed_in_range g p (place_at cohort x n s).age (place_at cohort x n s).year

pub in-range-more : (g : Grid) (p : Params) (cohort : Bool) (x n k : ℕ)
    → path_in_range g p (path_of cohort x n (suc k)) ≡ (path_in_range g p (path_of cohort x n k) && place_in_range g p cohort x n k)
unfolding path_in_range
in-range-more g p cohort x n k =
    ap (path_in_range g p) (path-more cohort x n k) ∙ in-range-append g p (path_of cohort x n k) (place_at cohort x n k ∷ [])
    ∙ ap (λ (t : Bool). path_in_range g p (path_of cohort x n k) && t) (and-true (place_in_range g p cohort x n k))

-- one cell out of range is enough
pub range-out : (g : Grid) (p : Params) (cohort : Bool) (x n s k : ℕ) → s < k → place_in_range g p cohort x n s ≡ false
    → path_in_range g p (path_of cohort x n k) ≡ false
range-out g p cohort x n s zero h e = absurd (not-suc-le-zero h)
range-out g p cohort x n s (suc k) h e =
    in-range-more g p cohort x n k
    ∙ elim (dec_lt s k) [
      | yes l ↦ ap (λ (t : Bool). t && place_in_range g p cohort x n k) (range-out g p cohort x n s k l e)
      | no l ↦
          let m : k ≡ s = omega arith in
          rw m (ap (λ (t : Bool). path_in_range g p (path_of cohort x n s) && t) e ∙ and-false (path_in_range g p (path_of cohort x n s)))
    ]

-- ---- which are answered

-- a cell that is answered, over a part of its year
pub record AnsweredPlace (p : Params) (c : Place) : Type 0 where
  pub cell : Answered p c.age c.year
  pub within : c.part ≤/ whole_year

abbrev pub AnsweredPath : Params → List Place → Type 0
AnsweredPath p path = Each (AnsweredPlace p) path

-- a path in range on the grid of 10^-9 is so on every grid
pub path-finer : (g : Grid) (p : Params) (path : List Place) → T (path_in_range billionths p path) → T (path_in_range g p path)
unfolding path_in_range
path-finer g p [] t = tt
path-finer g p (c ∷ path) t =
    let b = and_yes (needed_in_range billionths p c.age c.year) (path_in_range billionths p path) t in
    yes_and (needed_in_range g p c.age c.year) (path_in_range g p path) (needed-finer g p c.age c.year b.0) (path-finer g p path b.1)

in-range-each : (p : Params) (path : List Place) → T (path_in_range billionths p path)
    → Each (λ (c : Place). T (needed_in_range billionths p c.age c.year)) path
unfolding path_in_range
in-range-each p [] t = none
in-range-each p (c ∷ path) t =
    let b = and_yes (needed_in_range billionths p c.age c.year) (path_in_range billionths p path) t in also b.0 (in-range-each p path b.1)

-- a cohort's years are in the table when the last is, a period's when its one is
pub path-years : (cohort : Bool) (x n k : ℕ) → n ≤ last_years → (cohort ≡ true → n + k ≤ suc last_years)
    → (s : ℕ) → s < k → (place_at cohort x n s).year ≤ last_years
unfolding place_at
path-years true x n k h c s l = omega (arith, c refl)
path-years false x n k h c s l = h

-- an age and a year of the table, and a part of the year
abbrev InTable : Place → Type 0
InTable c = (c.age ≤ last_closed) × (c.year ≤ last_years) × (c.part ≤/ whole_year)

answered : {p : Params} {c : Place} → T (in_limits p) → InTable c → T (needed_in_range billionths p c.age c.year) → AnsweredPlace p c
answered limits h needed =
    record { cell = record { limits = limits; age = h.0; year = h.1; needed = needed }; within = h.2 }

-- a path in the table whose needed cells are in range
pub path-answered : (p : Params) (cohort : Bool) (x n k : ℕ) → T (in_limits p)
    → ((s : ℕ) → s < k → (place_at cohort x n s).year ≤ last_years) → T (path_in_range billionths p (path_of cohort x n k))
    → AnsweredPath p (path_of cohort x n k)
unfolding path_of place_at
path-answered p cohort x n k limits years t =
    each-with (in-range-each p (path_of cohort x n k) t)
    (each-listed {P = InTable} (place_at cohort x n) 0 k (λ s l. (omega arith, years s (omega arith), ≤/-refl whole_year)))
    (λ c r h. answered limits h r)

-- ---- with a part of a year after it

each_append : {P : Place → Type 0} {a b : List Place} → Each P a → Each P b → Each P (a ++ b)
each_append none k = k
each_append (also h l) k = also h (each_append l k)

part-answered : {p : Params} {x n : ℕ} (part : Ratio) → T (in_limits p)
    → ((part.num ≡ 0 → ⊥) → (x ≤ last_closed) × (n ≤ last_years) × (part ≤/ whole_year))
    → T (path_in_range billionths p (part_year x n part)) → AnsweredPath p (part_year x n part)
unfolding part_year path_in_range
part-answered {p} {x} {n} part limits some t =
    elim (eq-zero-or-pos part.num) [
      | inl z ↦ rw z none
      | inr l ↦
          let m : part.num ≡ 0 → ⊥ = λ z. omega arith in
          let e = ne_eqb part.num 0 m in
          rw e (also (answered limits (some m) (and_yes (needed_in_range billionths p x n) true (rw e at t)).0) none)
    ]

-- a path in the table, and a part of the year after it
pub with-part-answered : {p : Params} (cohort : Bool) (x n k : ℕ) {y m : ℕ} (part : Ratio) → T (in_limits p)
    → ((s : ℕ) → s < k → (place_at cohort x n s).year ≤ last_years)
    → ((part.num ≡ 0 → ⊥) → (y ≤ last_closed) × (m ≤ last_years) × (part ≤/ whole_year))
    → T (path_in_range billionths p (path_of cohort x n k ++ part_year y m part)) → AnsweredPath p (path_of cohort x n k ++ part_year y m part)
with-part-answered {p} cohort x n k {y} {m} part limits years some t =
    let b = and_yes (path_in_range billionths p (path_of cohort x n k)) (path_in_range billionths p (part_year y m part))
    (rw (in-range-append billionths p (path_of cohort x n k) (part_year y m part)) at t) in
    each_append (path-answered p cohort x n k limits years b.0) (part-answered part limits some b.1)

-- without days it is the path
pub no_part : (x n : ℕ) (part : Ratio) (path : List Place) → part.num ≡ 0 → path ++ part_year x n part ≡ path
unfolding part_year
no_part x n part path e = rw e (append-nil path)
