-- The runs of a set while its ages are read: a run holds the values of the ages read so far in its first places.
use Rattle.std.specs.Prelude.{◌≡◌, refl, ℕ, zero, suc, ◌+◌, ◌-◌, ◌*◌, ◌≤◌, ◌<◌, List, [], ◌∷◌, ◌++◌, ℤ, pos, length, get_or, take, set}
use Rattle.std.proofs.Common.{sym, ap, ◌∙◌, arith, length-append, length-set, take_all, take-suc-set, get_or-append-add}
use Rattle.std.proofs.Math.ListN.{get_or-append}
use Rattle.text_tokens.specs.Text.{malformed, taken}
use Rattle.set_params.specs.declared.Params.{Params}
use Rattle.set_params.specs.Set.{ages}
use Rattle.set_params.specs.code.Runs.{Whole}
use Rattle.sheet.specs.Sheet.{for_ages, age_keys, read_lines}
use Rattle.sheet_set.specs.code.Ages.{run, with_runs, from_ages}
use Rattle.text_tokens.specs.laws.Steps.{goes, stops}
use Rattle.sheet.proofs.laws.FourLaws.{after}
use Rattle.sheet_set.specs.laws.LinesLaws.{lines_then, ages-suc, more-malformed}

-- ---- a run

-- the values of more ages leave it as it is
run-keeps : (i : ℕ) (vs us : List ℤ) (n : ℕ) → i < 4 → 4 * n ≤ length vs → run i (vs ++ us) n ≡ run i vs n
unfolding run for_ages
run-keeps i vs us zero h k = refl
run-keeps i vs us (suc n) h k =
    rw (run-keeps i vs us n h (omega arith), get_or-append vs us (pos 0) (i + 4 * n) (omega arith))

-- one age more
run-grows : (i : ℕ) (vs us : List ℤ) (n : ℕ) → i < 4 → length vs ≡ 4 * n
    → run i (vs ++ us) (suc n) ≡ run i vs n ++ (get_or us i (pos 0) ∷ [])
unfolding run for_ages
run-grows i vs us n h k =
    let q : i + 4 * n ≡ length vs + i = omega arith in
    rw (q, get_or-append-add) (ap (λ (l : List ℤ). l ++ (get_or us i (pos 0) ∷ [])) (run-keeps i vs us n h (omega arith)))

-- the list is a set's run, and its first n places hold the values in place i of each age
pub record Run (l : List ℤ) (i : ℕ) (vs : List ℤ) (n : ℕ) : Type 0 where
  pub long : length l ≡ ages
  pub front : take n l ≡ run i vs n

pub run-start : (l : List ℤ) (i : ℕ) (vs : List ℤ) → length l ≡ ages → Run l i vs 0
unfolding run for_ages
run-start l i vs h = record { long = h; front = refl }

pub run_store : {l : List ℤ} {i : ℕ} {vs : List ℤ} {n : ℕ} (us : List ℤ) (v : ℤ) → i < 4 → n < ages → length vs ≡ 4 * n
    → get_or us i (pos 0) ≡ v → Run l i vs n → Run (set l n v) i (vs ++ us) (suc n)
run_store {l} {i} {vs} {n} us v h k e w r =
    let s : n < length l = omega (arith, r.long) in
    record {
      long = length-set l n v ∙ r.long;
      front = take-suc-set l n v s ∙ rw (r.front, ← w) (sym (run-grows i vs us n h e));
    }

pub run_end : {l : List ℤ} {i : ℕ} {vs : List ℤ} → Run l i vs ages → l ≡ run i vs ages
run_end {l} r = sym (take_all ages l (omega (arith, r.long))) ∙ r.front

-- ---- the set

-- the first x ages are read, up to the place next: their values, and where the set has them, which else is as it was begun
pub record AgesRead (bs rest : List ℕ) (begun : Params) (x : ℕ) (p : Params) : Type 0 where
  pub vs : List ℤ
  pub read : read_lines (for_ages age_keys x) bs ≡ taken vs rest
  pub long : length vs ≡ 4 * x
  pub same : (us : List ℤ) → with_runs p us ≡ with_runs begun us
  pub level : Run p.level 0 vs x
  pub slope : Run p.slope 1 vs x
  pub alpha : Run p.alpha 2 vs x
  pub beta : Run p.beta 3 vs x

pub ages-start : (bs : List ℕ) (begun : Params) → Whole begun → AgesRead bs bs begun 0 begun
unfolding read_lines for_ages
ages-start bs begun w =
    record {
      vs = [];
      read = refl;
      long = refl;
      same = λ us. refl;
      level = run-start _ 0 [] w.level;
      slope = run-start _ 1 [] w.slope;
      alpha = run-start _ 2 [] w.alpha;
      beta = run-start _ 3 [] w.beta;
    }

-- the set with these values for age x
abbrev pub stored : Params → ℕ → ℤ → ℤ → ℤ → ℤ → Params
stored p x v₀ v₁ v₂ v₃ =
    record {
      table = p.table;
      sex = p.sex;
      start = p.start;
      a = p.a;
      theta = p.theta;
      c = p.c;
      period = p.period;
      kappa = p.kappa;
      level = set p.level x v₀;
      slope = set p.slope x v₁;
      alpha = set p.alpha x v₂;
      beta = set p.beta x v₃;
    }

pub ages-next : {bs rest next : List ℕ} {begun : Params} {x : ℕ} {p : Params} {v₀ v₁ v₂ v₃ : ℤ} → x < ages
    → read_lines (age_keys x) rest ≡ taken (v₀ ∷ v₁ ∷ v₂ ∷ v₃ ∷ []) next → AgesRead bs rest begun x p
    → AgesRead bs next begun (suc x) (stored p x v₀ v₁ v₂ v₃)
unfolding with_runs
ages-next {bs} {rest} {next} {begun} {x} {p} {v₀} {v₁} {v₂} {v₃} h e f =
    record {
      vs = f.vs ++ (v₀ ∷ v₁ ∷ v₂ ∷ v₃ ∷ []);
      read = rw (ages-suc age_keys x) (lines_then (for_ages age_keys x) (age_keys x) bs f.read ∙ ap (after f.vs) e);
      long = rw length-append (omega (arith, f.long));
      same = f.same;
      level = run_store {i = 0} (v₀ ∷ v₁ ∷ v₂ ∷ v₃ ∷ []) v₀ (omega arith) h f.long refl f.level;
      slope = run_store {i = 1} (v₀ ∷ v₁ ∷ v₂ ∷ v₃ ∷ []) v₁ (omega arith) h f.long refl f.slope;
      alpha = run_store {i = 2} (v₀ ∷ v₁ ∷ v₂ ∷ v₃ ∷ []) v₂ (omega arith) h f.long refl f.alpha;
      beta = run_store {i = 3} (v₀ ∷ v₁ ∷ v₂ ∷ v₃ ∷ []) v₃ (omega arith) h f.long refl f.beta;
    }

-- an age's lines are malformed, so all are
pub ages-malformed : {bs rest : List ℕ} {begun : Params} {x : ℕ} {p : Params} → x < ages
    → read_lines (age_keys x) rest ≡ malformed → AgesRead bs rest begun x p → from_ages begun bs ≡ malformed
unfolding from_ages
ages-malformed {bs} {x} h e f =
    let t : read_lines (for_ages age_keys x ++ age_keys x) bs ≡ malformed =
    lines_then (for_ages age_keys x) (age_keys x) bs f.read ∙ ap (after f.vs) e in
    let k : ages - suc x + suc x ≡ ages = omega arith in
    stops _ (rw k at (more-malformed age_keys bs (ages - suc x) (suc x) (rw (ages-suc age_keys x) t)))

-- all are read
runs-read : {bs rest : List ℕ} {begun p : Params} (f : AgesRead bs rest begun ages p) → with_runs p f.vs ≡ p
unfolding with_runs
runs-read f = rw (← run_end f.level, ← run_end f.slope, ← run_end f.alpha, ← run_end f.beta)

pub ages-end : {bs rest : List ℕ} {begun p : Params} → AgesRead bs rest begun ages p → from_ages begun bs ≡ taken p rest
unfolding from_ages
ages-end {rest} f = goes _ f.read ∙ ap (λ (p : Params). taken p rest) (sym (f.same f.vs) ∙ runs-read f)
