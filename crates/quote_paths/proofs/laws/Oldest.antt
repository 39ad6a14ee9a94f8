-- The cells of a path to age 120 and past it: the ages go up to 120 and stay there, so that in one calendar year the cells
-- from age 120 on are one and the same.
use Rattle.std.specs.Prelude.{◌≡◌, refl, Bool, false, List, [], ◌∷◌, ◌++◌, ℕ, zero, suc, ◌+◌, ◌≤◌, T, replicate}
use Rattle.std.proofs.Common.{ap, ap₂, sym, ◌∙◌, append-nil, append_assoc, add-zero, add-suc, add-one, arith}
use Rattle.std.proofs.lemmas.List.{replicate-append-replicate}
use Rattle.std.proofs.Math.Facts.{and_yes, yes_and}
use Rattle.number_exponential.specs.Grid.{Grid}
use Rattle.number_exponential.specs.declared.Ends.{Ends}
use Rattle.set_params.specs.declared.Params.{Params}
use Rattle.model_closure.specs.Weights.{last_closed}
use Rattle.model_mortality.specs.Cell.{whole_year, survival, needed_in_range}
use Rattle.quote_paths.specs.Path.{Place, place_at, path_of, factors, path_in_range}
use Rattle.quote_paths.proofs.laws.Answers.{place_in_range, path-more, factors-append, in-range-append, in-range-more}

-- ---- the age at a place

pub place-age : (cohort : Bool) (x n s : ℕ) → x + s ≤ last_closed → (place_at cohort x n s).age ≡ x + s
unfolding place_at
place-age cohort x n s l = omega arith

place-past : (cohort : Bool) (x n s : ℕ) → last_closed ≤ x + s → (place_at cohort x n s).age ≡ last_closed
unfolding place_at
place-past cohort x n s l = omega arith

-- ---- in one calendar year

-- the cell of age 120
abbrev pub oldest : ℕ → Place
oldest n = record { age = last_closed; year = n; part = whole_year }

pub place-oldest : (x n s : ℕ) → last_closed ≤ x + s → place_at false x n s ≡ oldest n
unfolding place_at
place-oldest x n s l = ap (λ (y : ℕ). record { age = y; year = n; part = whole_year }) (place-past false x n s l)

-- k more of it
path-repeats : (x n m k : ℕ) → last_closed ≤ x + m → path_of false x n (m + k) ≡ path_of false x n m ++ replicate k (oldest n)
path-repeats x n m zero l = rw (add-zero m) (sym (append-nil (path_of false x n m)))
path-repeats x n m (suc k) l =
    rw (add-suc m k)
    (path-more false x n (m + k)
    ∙ ap₂ (λ (a b : List Place). a ++ b) (path-repeats x n m k l)
    (ap (λ (c : Place). c ∷ []) (place-oldest x n (m + k) (omega arith)))
    ∙ append_assoc (path_of false x n m) (replicate k (oldest n)) (oldest n ∷ [])
    ∙ ap (λ (a : List Place). path_of false x n m ++ a)
    (replicate-append-replicate k 1 (oldest n) ∙ ap (λ (i : ℕ). replicate i (oldest n)) (add-one k)))

range_same : (g : Grid) (p : Params) (c : Place) (k : ℕ) → T (needed_in_range g p c.age c.year) → T (path_in_range g p (replicate k c))
unfolding path_in_range
range_same g p c zero t = tt
range_same g p c (suc k) t =
    yes_and (needed_in_range g p c.age c.year) (path_in_range g p (replicate k c)) t (range_same g p c k t)

-- so a path that has come to age 120 in range stays in range
pub range-stays : (g : Grid) (p : Params) (x n s k : ℕ) → last_closed ≤ x + s → T (path_in_range g p (path_of false x n (suc s)))
    → T (path_in_range g p (path_of false x n (suc s + k)))
range-stays g p x n s k l t =
    let a = and_yes (path_in_range g p (path_of false x n s)) (place_in_range g p false x n s) (rw (in-range-more g p false x n s) at t) in
    let c : T (needed_in_range g p last_closed n) = rw (place-oldest x n s l) at a.1 in
    rw (path-repeats x n (suc s) k (omega arith), in-range-append g p (path_of false x n (suc s)) (replicate k (oldest n)))
    (yes_and (path_in_range g p (path_of false x n (suc s))) (path_in_range g p (replicate k (oldest n))) t (range_same g p (oldest n) k c))

factors-same : (g : Grid) (p : Params) (c : Place) (k : ℕ) → factors g p (replicate k c) ≡ replicate k (survival g p c.age c.year c.part)
unfolding factors
factors-same g p c zero = refl
factors-same g p c (suc k) = ap (λ (l : List Ends). survival g p c.age c.year c.part ∷ l) (factors-same g p c k)

-- and its factors are those to age 120 and then the last of them
pub factors-stay : (g : Grid) (p : Params) (x n s k : ℕ) → last_closed ≤ x + s
    → factors g p (path_of false x n (suc s + k)) ≡ factors g p (path_of false x n (suc s)) ++ replicate k (survival g p last_closed n whole_year)
factors-stay g p x n s k l =
    ap (factors g p) (path-repeats x n (suc s) k (omega arith))
    ∙ factors-append g p (path_of false x n (suc s)) (replicate k (oldest n))
    ∙ ap (λ (a : List Ends). factors g p (path_of false x n (suc s)) ++ a) (factors-same g p (oldest n) k)
