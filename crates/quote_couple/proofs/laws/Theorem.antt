-- Every answer to a couple's query meets demand 3, and the claim over two of them by itself.
use Rattle.std.specs.Prelude.{◌≡◌, refl, true, ◌↔◌, ℕ, ◌+◌, ◌*◌, ◌≤◌, ◌<◌, length, ℤ, nat_abs}
use Rattle.std.proofs.Common.{ap, sym, ◌∙◌, arith, lit<}
use Rattle.number_exponential.specs.Units.{billionths, grid_of, width_times}
use Rattle.number_exponential.specs.declared.GridUnit.{GridUnit}
use Rattle.number_exact.specs.Value.{OneStep}
use Rattle.number_exact.proofs.laws.Rounding.{same_step}
use Rattle.number_folds.specs.code.Code.{most_factors}
use Rattle.set_params.specs.declared.Params.{Params}
use Rattle.set_refusal.specs.declared.Refusal.TheVariants.{Accepted}
use Rattle.set_params.specs.Set.{year_number}
use Rattle.model_closure.specs.Weights.{last_closed}
use Rattle.quote_paths.specs.Path.{factors}
use Rattle.quote_paths.proofs.laws.Answers.{AnsweredPath, path-length}
use Rattle.quote_paths.proofs.laws.Facts.{unit-facts}
use Rattle.quote_paths.specs.declared.Fold.TheVariants.{Survival}
use Rattle.quote_kinds.specs.Kinds.{rule_of, most_span, longest_span, count_of, step_of, fold_width, width_of, span_of}
use Rattle.quote_couple_kinds.specs.declared.CoupleKind.{CoupleKind}
use Rattle.quote_couple_kinds.specs.declared.CoupleKind.TheVariants as kind
use Rattle.quote_couple_kinds.specs.declared.Status.{Status}
use Rattle.quote_couple_kinds.specs.declared.Status.TheVariants.{JointLife, LastSurvivor}
use Rattle.quote_couple_kinds.specs.CoupleKinds.{single_of, couple_width}
use Rattle.quote_two_lives.specs.TwoLives.{status_over, status_expectancy_over, couple_over}
use Rattle.quote_two_lives.proofs.laws.Holds.{value-holds}
use Rattle.quote_two_lives.proofs.laws.OrdersAgree.{value-agrees}
use Rattle.quote_two_lives.proofs.laws.Narrowing.{value-narrows}
use Rattle.quote_two_lives.proofs.laws.Width.{status-limit, status-expectancy-limit}
use Rattle.quote.specs.Demand.{printed, figure_shown, Promised}
use Rattle.quote.proofs.laws.Promises.{Held, promised, UnitsAgree, units-agree}
use Rattle.quote.proofs.laws.Tests as life
use Rattle.quote_couple.specs.Couple.{life_path, couple_ends, exact_couple, couple_refusal, couple_step, couple_answer}
use Rattle.quote_couple.specs.Couple.{CoupleDemand3}
use Rattle.quote_couple.proofs.laws.CoupleTests.{single-plain, life-path, Passed, all-passed}

-- ---- an accepted query

step-positive : (k : CoupleKind) → 0 < couple_step k
unfolding step_of rule_of single_of
step-positive kind.JointLife = lit< tt
step-positive kind.LastSurvivor = lit< tt
step-positive kind.JointExpectancy = lit< tt
step-positive kind.LastExpectancy = lit< tt

-- each life by itself: its span ends at age 121, its path has room, and its cells are answered
pub record Life (p : Params) (k : CoupleKind) (age year span : ℤ) : Type 0 where
  pub old : nat_abs age ≤ last_closed
  pub ends : nat_abs span ≤ most_span (rule_of (single_of k)).fold (nat_abs age)
  pub room : count_of (rule_of (single_of k)).fold (year_number p.start year) (nat_abs span) ≤ most_factors
  pub answered : AnsweredPath p (life_path p k age year span)

pub in-life : (p : Params) (k : CoupleKind) (age year span : ℤ) → life.Passed p (single_of k) age year span → Life p k age year span
unfolding longest_span span_of
in-life p k age year span h =
    let c = life.counted (single_of k) h.table in
    let u = (single-plain k).undated in
    record {
      old = c.age-in;
      ends = rw u at c.span-in;
      room = rw u at (life.path_room (single_of k) c);
      answered = life.query-answered h;
    }

module _ (u : GridUnit) {p p' : Params} (k : CoupleKind) {age age' year span : ℤ} (same : p.start ≡ p'.start) (h : Life p k age year span)
    (h' : Life p' k age' year span) where
  -- a chance's ends, and an expectancy's
  chance-width : (status : Status) → (rule_of (single_of k)).fold ≡ Survival
      → let e = status_over status (grid_of u) (factors (grid_of u) p (life_path p k age year span)) (factors (grid_of u) p' (life_path p' k age' year span)) in
      e.upper ≤ e.lower + width_times u * 60000
  unfolding count_of most_span
  chance-width status f =
      let w = life-path p k age year span in
      let w' = life-path p' k age' year span in
      let l = rw f at h.ends in
      let l' = rw f at h'.ends in
      let o = h.old in
      let o' = h'.old in
      rw (w, w', f)
      (status-limit (unit-facts u) status (nat_abs age) (nat_abs age') (year_number p.start year) (year_number p'.start year)
      (nat_abs span) (omega arith) (omega arith) (rw (w, f) at h.answered) (rw (w', f) at h'.answered))

  expectancy-width : (status : Status)
      → let e = status_expectancy_over status (grid_of u) (factors (grid_of u) p (life_path p k age year span)) (factors (grid_of u) p' (life_path p' k age' year span)) in
      e.upper ≤ e.lower + width_times u * 20000000
  expectancy-width status =
      let n = ap length (life-path p k age year span) ∙ path-length true (nat_abs age) (year_number p.start year) _ in
      let n' = ap length (life-path p' k age' year span) ∙ path-length true (nat_abs age') (year_number p'.start year) _ in
      let e = ap (λ (z : ℤ). count_of (rule_of (single_of k)).fold (year_number z year) (nat_abs span)) same in
      status-expectancy-limit (unit-facts u) status (n ∙ e ∙ sym n') (rw n h.room) h.answered h'.answered

couple-width : (p p' : Params) (k : CoupleKind) (age age' year span : ℤ) → Passed p p' k age age' year span → (u : GridUnit)
    → (couple_ends p p' k age age' year span u).upper
    ≤ (couple_ends p p' k age age' year span u).lower + width_times u * couple_width k (nat_abs age) (nat_abs span)
unfolding couple_ends couple_over couple_width width_of fold_width rule_of single_of
couple-width p p' k age age' year span h u = go k h.start (in-life p k age year span h.first) (in-life p' k age' year span h.second)
  where
    go : (k : CoupleKind) → p.start ≡ p'.start → Life p k age year span → Life p' k age' year span
        → (couple_ends p p' k age age' year span u).upper
        ≤ (couple_ends p p' k age age' year span u).lower + width_times u * couple_width k (nat_abs age) (nat_abs span)
    go kind.JointLife s l l' = chance-width u kind.JointLife s l l' JointLife refl
    go kind.LastSurvivor s l l' = chance-width u kind.LastSurvivor s l l' LastSurvivor refl
    go kind.JointExpectancy s l l' = expectancy-width u kind.JointExpectancy s l l' JointLife
    go kind.LastExpectancy s l l' = expectancy-width u kind.LastExpectancy s l l' LastSurvivor

couple-held : (p p' : Params) (k : CoupleKind) (age age' year span : ℤ) → Passed p p' k age age' year span
    → Held (couple_ends p p' k age age' year span) (exact_couple p p' k age age' year span) (couple_step k)
    (couple_width k (nat_abs age) (nat_abs span))
unfolding couple_ends exact_couple
couple-held p p' k age age' year span h =
    let a = life.query-answered h.first in
    let a' = life.query-answered h.second in
    record {
      positive = step-positive k;
      holds = λ u. value-holds (unit-facts u) a a' k;
      width = couple-width p p' k age age' year span h;
      agrees = value-agrees a a' k;
      narrows = value-narrows a a' k;
    }

-- ---- the theorems

-- what is promised of every answer by itself
couple-promised : (p p' : Params) (k : CoupleKind) (age age' year span : ℤ)
    → Promised (couple_refusal p p' k age age' year span) (couple_ends p p' k age age' year span)
    (exact_couple p p' k age age' year span) (couple_step k) (couple_width k (nat_abs age) (nat_abs span))
    (couple_answer p p' k age age' year span)
unfolding couple_answer
couple-promised p p' k age age' year span =
    promised (couple_refusal p p' k age age' year span) _ _ _ _ (λ e. couple-held p p' k age age' year span (all-passed p p' k age age' year span e))

-- fine ends and coarse ends that round alike give one step, at any step
pub couple-units-agree : (p p' : Params) (k : CoupleKind) (age age' year span : ℤ) → couple_refusal p p' k age age' year span ≡ Accepted
    → (t : ℕ) → 0 < t → UnitsAgree t (couple_ends p p' k age age' year span)
couple-units-agree p p' k age age' year span e = units-agree (couple-held p p' k age age' year span (all-passed p p' k age age' year span e))

-- two printed figures of one kind, whichever sets, ages, years and spans they come from, are equal exactly when their exact values
-- round to one same step
pub same-figure : (k : CoupleKind) (p p' q q' : Params) (age age' year span x x' y s : ℤ) {n m : ℕ}
    → figure_shown (couple_answer p p' k age age' year span) ≡ printed n → figure_shown (couple_answer q q' k x x' y s) ≡ printed m
    → (n ≡ m) ↔ OneStep billionths (couple_step k) (exact_couple p p' k age age' year span) (exact_couple q q' k x x' y s)
same-figure k p p' q q' age age' year span x x' y s {n} {m} e f =
    same_step ((couple-promised p p' k age age' year span).rounds n e) ((couple-promised q q' k x x' y s).rounds m f)

-- every answer meets demand 3
pub demand-met : (p p' : Params) (k : CoupleKind) (age age' year span : ℤ)
    → CoupleDemand3 p p' k age age' year span (couple_answer p p' k age age' year span)
demand-met p p' k age age' year span =
    record {
      alone = couple-promised p p' k age age' year span;
      one-step = λ n e q q' x x' y s m f. same-figure k p p' q q' age age' year span x x' y s e f;
    }
