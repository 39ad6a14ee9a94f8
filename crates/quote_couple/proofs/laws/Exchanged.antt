-- A couple's answer does not change when the two lives are exchanged: neither its refusal nor its ends nor its figure.
use Rattle.std.specs.Prelude.{◌≡◌, refl, Bool, List, suc, ℤ, nat_abs, take}
use Rattle.std.proofs.Math.Path.{ap, sym, fun_ext}
use Rattle.std.proofs.Common.{◌∙◌}
use Rattle.std.proofs.Math.Bool.{true, false, cond}
use Rattle.std.proofs.Math.Nat.{mul_comm}
use Rattle.std.proofs.Math.ListN.{length}
use Rattle.number_exponential.specs.Grid.{Grid}
use Rattle.number_exponential.specs.declared.Ends.{Ends}
use Rattle.number_exponential.specs.Units.{billionths, grid_of}
use Rattle.number_exponential.specs.declared.GridUnit.{GridUnit}
use Rattle.number_exponential.specs.Outward.{outward_over}
use Rattle.number_folds.specs.Folds.{half, with_factor, plus, sum_over}
use Rattle.number_folds.proofs.laws.Steps.{sum_same}
use Rattle.model_force.specs.Force.{death_of}
use Rattle.set_params.specs.declared.Params.{Params}
use Rattle.set_params.specs.Set.{year_number}
use Rattle.set_refusal.specs.declared.Refusal.{Refusal}
use Rattle.set_refusal.specs.declared.Refusal.TheVariants.{OutOfLimits, NoSuchAge, NoSuchYear, NoSuchSpan, LogForceOutOfRange}
use Rattle.set_limits.specs.InLimits.{in_limits}
use Rattle.quote_paths.specs.Path.{path_in_range}
use Rattle.quote_paths.proofs.laws.Answers.{path-length, factors-length}
use Rattle.quote_kinds.specs.Kinds.{rule_of, count_of}
use Rattle.quote_couple_kinds.specs.declared.Status.{Status}
use Rattle.quote_couple_kinds.specs.declared.Status.TheVariants.{JointLife, LastSurvivor}
use Rattle.quote_couple_kinds.specs.declared.CoupleKind.{CoupleKind}
use Rattle.quote_couple_kinds.specs.declared.CoupleKind.TheVariants as kind
use Rattle.quote_couple_kinds.specs.CoupleKinds.{single_of}
use Rattle.quote_table_tests.specs.TableTests.{age_in_table, year_in_table, span_in_table, first_failed}
use Rattle.quote_two_lives.specs.TwoLives.{status_chance, status_over, statuses_over, status_expectancy_over, couple_over}
use Rattle.quote_along.specs.QuoteBy.{quote_by}
use Rattle.quote.specs.Quote.{answer_by}
use Rattle.quote.proofs.laws.AnswerLaws.{by-refusal}
use Rattle.quote_couple.specs.Couple.{life_path, couple_ends, same_start, couple_table, couple_refusal, couple_step, couple_answer}
use Rattle.quote_couple.proofs.laws.CoupleTests.{life-path, starts-same, same-starts, other-starts, all-passed}
use Rattle.number_whole.proofs.laws.Clash.{clash}

-- ---- the values

module _ (g : Grid) where
  pub factors-exchanged : (s s' : Ends) → with_factor g s s' ≡ with_factor g s' s
  unfolding with_factor outward_over
  factors-exchanged s s' = rw (mul_comm s.lower s'.lower, mul_comm s.upper s'.upper)

  chance-exchanged : (status : Status) (s s' : Ends) → status_chance status g s s' ≡ status_chance status g s' s
  unfolding status_chance
  chance-exchanged JointLife s s' = factors-exchanged s s'
  chance-exchanged LastSurvivor s s' = ap (death_of g) (factors-exchanged (death_of g s) (death_of g s'))

  over-exchanged : (status : Status) (ps ps' : List Ends) → status_over status g ps ps' ≡ status_over status g ps' ps
  unfolding status_over
  over-exchanged status ps ps' = chance-exchanged status _ _

  expectancy-exchanged : (status : Status) (ps ps' : List Ends) → length ps ≡ length ps'
      → status_expectancy_over status g ps ps' ≡ status_expectancy_over status g ps' ps
  unfolding status_expectancy_over
  expectancy-exchanged status ps ps' e =
      ap (plus (half g))
      (sum_same (statuses_over status g ps ps') (statuses_over status g ps' ps) (length ps)
      (λ k l. over-exchanged status (take (suc k) ps) (take (suc k) ps'))
      ∙ ap (sum_over (statuses_over status g ps' ps)) e)

  couple-exchanged : (k : CoupleKind) (ps ps' : List Ends) → length ps ≡ length ps' → couple_over k g ps ps' ≡ couple_over k g ps' ps
  unfolding couple_over
  couple-exchanged kind.JointLife ps ps' e = over-exchanged JointLife ps ps'
  couple-exchanged kind.LastSurvivor ps ps' e = over-exchanged LastSurvivor ps ps'
  couple-exchanged kind.JointExpectancy ps ps' e = expectancy-exchanged JointLife ps ps' e
  couple-exchanged kind.LastExpectancy ps ps' e = expectancy-exchanged LastSurvivor ps ps' e

-- ---- the refusal

true-not-false : true ≡ false → ⊥
true-not-false e = clash cc

-- two tests of one number, either of them first
either : (b b' : Bool) (n : Refusal) {t u : Refusal} → t ≡ u → cond b (cond b' t n) n ≡ cond b' (cond b u n) n
either true true n e = e
either true false n e = refl
either false true n e = refl
either false false n e = refl

module _ (p p' : Params) (k : CoupleKind) (age age' year span : ℤ) where
  refusal-by : (b : Bool) → same_start p p' ≡ b → couple_refusal p p' k age age' year span ≡ couple_refusal p' p k age' age year span
  unfolding couple_refusal couple_table first_failed
  refusal-by true e =
      let rule = rule_of (single_of k) in
      let same = starts-same p p' (rw e tt) in
      let y = ap (λ (z : ℤ). year_in_table z rule year) (sym same) in
      rw (e, same-starts p' p (sym same), y)
      (either (in_limits p) (in_limits p') OutOfLimits
      (either (age_in_table age) (age_in_table age') NoSuchAge
      (ap (λ (t : Refusal). cond (year_in_table p.start rule year) t NoSuchYear)
      (either (span_in_table rule age year span) (span_in_table rule age' year span) NoSuchSpan
      (either (path_in_range billionths p (life_path p k age year span)) (path_in_range billionths p' (life_path p' k age' year span)) LogForceOutOfRange refl)))))
  refusal-by false e =
      let e' : same_start p' p ≡ false = other-starts p' p (λ q. true-not-false (sym (same-starts p p' (sym q)) ∙ e)) in
      rw (e, e') (either (in_limits p) (in_limits p') OutOfLimits refl)

  pub refusal-exchanged : couple_refusal p p' k age age' year span ≡ couple_refusal p' p k age' age year span
  refusal-exchanged = refusal-by (same_start p p') refl

  -- ---- the answer

  ends-exchanged : p.start ≡ p'.start → (u : GridUnit)
      → couple_ends p p' k age age' year span u ≡ couple_ends p' p k age' age year span u
  unfolding couple_ends
  ends-exchanged same u =
      let f = (rule_of (single_of k)).fold in
      let n = factors-length (grid_of u) p (life_path p k age year span) ∙ ap length (life-path p k age year span)
      ∙ path-length true (nat_abs age) (year_number p.start year) _ in
      let n' = factors-length (grid_of u) p' (life_path p' k age' year span) ∙ ap length (life-path p' k age' year span)
      ∙ path-length true (nat_abs age') (year_number p'.start year) _ in
      couple-exchanged (grid_of u) k _ _
      (n ∙ ap (λ (z : ℤ). count_of f (year_number z year) (nat_abs span)) same ∙ sym n')

  pub answer-exchanged : couple_answer p p' k age age' year span ≡ couple_answer p' p k age' age year span
  unfolding couple_answer
  answer-exchanged =
      by-refusal (couple_refusal p p' k age age' year span) _ _
      (λ a. ap (quote_by (couple_step k)) (fun_ext (ends-exchanged (all-passed p p' k age age' year span a).start)))
      ∙ ap (λ (r : Refusal). answer_by r (quote_by (couple_step k) (couple_ends p' p k age' age year span))) refusal-exchanged
