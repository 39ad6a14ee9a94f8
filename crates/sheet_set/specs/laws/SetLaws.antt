-- The lines after the first two in the steps of the code: those of the series, which are malformed where any of them is, those of
-- the start and c, and else the runs of the set that has their values.
use Rattle.std.specs.Prelude.{◌≡◌, refl, ℕ, zero, suc, ◌+◌, ◌*◌, List, [], ◌∷◌, ◌++◌, ℤ, pos, get_or, take, drop}
use Rattle.std.proofs.Common.{sym, ap, ◌∙◌, arith}
use Rattle.text_tokens.specs.Text.{bytes_of, Parse, malformed, taken, and_then}
use Rattle.text_tokens.specs.laws.Steps.{stops}
use Rattle.text_tokens.specs.laws.NumberTrip.{malformed-not-taken}
use Rattle.set_params.specs.declared.Params.{Params}
use Rattle.set_params.specs.declared.Table.{Table}
use Rattle.set_params.specs.declared.Table.TheVariants.{Ag2014, LiLee}
use Rattle.set_params.specs.declared.Sex.{Sex}
use Rattle.set_params.specs.Set.{ages}
use Rattle.set_params.specs.Limits.{first_start}
use Rattle.sheet.specs.Sheet.{for_ages, age_keys, if_li_lee, keys, read_lines, completed, run_from, params_of}
use Rattle.sheet.proofs.laws.FourLaws.{after}
use Rattle.sheet_set.specs.code.Ages.{run, with_runs, from_ages}
use Rattle.sheet_set.specs.code.SetLines.{from_lines, read_start}
use Rattle.sheet_set.specs.laws.LinesLaws.{lines-malformed, lines_then, two-values}

-- the keys of the series in every sheet, and of the start and c
abbrev pub four_keys : List (List ℕ)
four_keys = bytes_of "a" ∷ bytes_of "theta" ∷ bytes_of "K" ∷ bytes_of "k" ∷ []

abbrev start_keys : List (List ℕ)
start_keys = bytes_of "start" ∷ bytes_of "c" ∷ []

abbrev all_ages : List (List ℕ)
all_ages = for_ages age_keys ages

-- ---- malformed

pub series-malformed : (t : Table) (sex : Sex) (bs : List ℕ) → read_lines four_keys bs ≡ malformed
    → from_lines t sex bs ≡ malformed
unfolding from_lines keys
series-malformed t sex bs e = stops _ (lines-malformed four_keys (if_li_lee t start_keys ++ all_ages) bs e)

pub start-malformed : (t : Table) (sex : Sex) (bs : List ℕ) {vs : List ℤ} {rest : List ℕ}
    → read_lines four_keys bs ≡ taken vs rest → read_start t rest ≡ malformed → from_lines t sex bs ≡ malformed
unfolding from_lines keys if_li_lee read_start
start-malformed Ag2014 sex bs e f = malformed-not-taken (sym f)
start-malformed LiLee sex bs {vs} {rest} e f =
    stops _
    (lines_then four_keys (start_keys ++ all_ages) bs e ∙ ap (after vs) (lines-malformed start_keys all_ages rest f))

-- ---- read

-- the start and c by the table
pub start-by : {t u : Table} (bs : List ℕ) → t ≡ u → read_start t bs ≡ read_start u bs
start-by bs e = ap (λ (t : Table). read_start t bs) e

-- it has two values
pub start-values : (t : Table) (bs : List ℕ) {vs : List ℤ} {rest : List ℕ} → read_start t bs ≡ taken vs rest
    → read_start t bs ≡ taken (get_or vs 0 (pos 0) ∷ get_or vs 1 (pos 0) ∷ []) rest
unfolding read_start
start-values Ag2014 bs {vs} e = let is : vs ≡ pos first_start ∷ pos 0 ∷ [] = cc in rw is (rw is at e)
start-values LiLee bs e = two-values start_keys bs refl e

-- every number of a set, with these for its ages
abbrev numbers : Params → List ℤ → List ℤ
numbers p vs = p.a ∷ p.theta ∷ p.period ∷ p.kappa ∷ p.start ∷ p.c ∷ vs

run-behind : (p : Params) (vs : List ℤ) (i n : ℕ)
    → for_ages (λ (x : ℕ). get_or (numbers p vs) (6 + i + 4 * x) (pos 0) ∷ []) n ≡ run i vs n
unfolding run for_ages
run-behind p vs i zero = refl
run-behind p vs i (suc n) =
    let e : 6 + i + 4 * n ≡ suc (suc (suc (suc (suc (suc (i + 4 * n)))))) = omega arith in rw (e, run-behind p vs i n)

params-runs : (p : Params) (vs : List ℤ) → params_of p.table p.sex (numbers p vs) ≡ with_runs p vs
unfolding params_of with_runs run_from
params-runs p vs =
    rw (run-behind p vs 0 ages, run-behind p vs 1 ages, run-behind p vs 2 ages, run-behind p vs 3 ages)

-- the values of a sheet's lines, completed
lines-numbers : (t : Table) (bs : List ℕ) {a θ k κ s c : ℤ} {mid rest : List ℕ}
    → read_lines four_keys bs ≡ taken (a ∷ θ ∷ k ∷ κ ∷ []) mid → read_start t mid ≡ taken (s ∷ c ∷ []) rest
    → {X : Type 0} (f : List ℤ → X)
    → and_then (read_lines (keys t) bs) (λ vs next. taken (f (completed t vs)) next)
    ≡ and_then (read_lines all_ages rest) (λ vs next. taken (f (a ∷ θ ∷ k ∷ κ ∷ s ∷ c ∷ vs)) next)
unfolding keys if_li_lee completed read_start
lines-numbers Ag2014 bs {a} {θ} {k} {κ} {s} {c} {mid} {rest} e h {X} f =
    let x : pos first_start ≡ s = cc in
    let z : pos 0 ≡ c = cc in
    let y : mid ≡ rest = cc in
    rw (lines_then four_keys all_ages bs e, ← x, ← z, ← y) (go (read_lines all_ages mid))
  where
    go : (q : Parse (List ℤ))
        → and_then (after (a ∷ θ ∷ k ∷ κ ∷ []) q)
        (λ vs next. taken (f (take 4 vs ++ (pos first_start ∷ pos 0 ∷ drop 4 vs))) next)
        ≡ and_then q (λ vs next. taken (f (a ∷ θ ∷ k ∷ κ ∷ pos first_start ∷ pos 0 ∷ vs)) next)
    go malformed = refl
    go (taken vs next) = refl
lines-numbers LiLee bs {a} {θ} {k} {κ} {s} {c} {mid} {rest} e h {X} f =
    rw (lines_then four_keys (start_keys ++ all_ages) bs e, lines_then start_keys all_ages mid h) (go (read_lines all_ages rest))
  where
    go : (q : Parse (List ℤ))
        → and_then (after (a ∷ θ ∷ k ∷ κ ∷ []) (after (s ∷ c ∷ []) q)) (λ vs next. taken (f vs) next)
        ≡ and_then q (λ vs next. taken (f (a ∷ θ ∷ k ∷ κ ∷ s ∷ c ∷ vs)) next)
    go malformed = refl
    go (taken vs next) = refl

pub series-read : (p : Params) (bs : List ℕ) {mid rest : List ℕ}
    → read_lines four_keys bs ≡ taken (p.a ∷ p.theta ∷ p.period ∷ p.kappa ∷ []) mid
    → read_start p.table mid ≡ taken (p.start ∷ p.c ∷ []) rest
    → from_lines p.table p.sex bs ≡ from_ages p rest
unfolding from_lines from_ages
series-read p bs {rest} e h =
    lines-numbers p.table bs e h (params_of p.table p.sex)
    ∙ go (read_lines all_ages rest)
  where
    go : (q : Parse (List ℤ))
        → and_then q (λ vs next. taken (params_of p.table p.sex (numbers p vs)) next)
        ≡ and_then q (λ vs next. taken (with_runs p vs) next)
    go malformed = refl
    go (taken vs next) = ap (λ (r : Params). taken r next) (params-runs p vs)
