-- No end of a quote is above 172, in whichever unit it is reported, and so none in another unit.
use Rattle.std.specs.Prelude.{◌≡◌, Bool, true, false, cond, ℕ, zero, suc, ◌+◌, ◌*◌, ◌≤◌, eqb, ℤ, nat_abs, length, Ok, Err}
use Rattle.std.proofs.Math.Path.{refl}
use mathlib.Core.List.{List, [], ◌∷◌, ◌++◌}
use Rattle.std.proofs.Common.{mul-le-mul_right, arith, lit≤, length-append}
use Rattle.number_fraction.specs.Ratio.{Ratio}
use Rattle.number_exponential.specs.declared.Ends.{Ends}
use Rattle.number_exponential.specs.declared.GridUnit.{GridUnit}
use Rattle.number_exponential.specs.declared.GridUnit.TheVariants.{Coarse, Fine}
use Rattle.number_exponential.specs.Units.{ten_trillionths, grid_of}
use Rattle.number_exponential.proofs.laws.GridFacts.{unit-sound}
use Rattle.set_params.specs.declared.Params.{Params}
use Rattle.set_params.specs.Set.{year_number}
use Rattle.set_refusal.specs.declared.Refusal.{Refusal}
use Rattle.set_refusal.specs.declared.Refusal.TheVariants.{Accepted}
use Rattle.number_exact.specs.Figure.{figure_of}
use Rattle.number_folds.specs.code.Code.{AtMost, most_factors}
use Rattle.quote_paths.specs.Path.{Place, path_of, part_year}
use Rattle.quote_paths.proofs.laws.Answers.{path-length, no_part}
use Rattle.quote_paths.proofs.laws.Width.{value-small}
use Rattle.quote_kinds.specs.declared.Kind.{Kind}
use Rattle.quote_kinds.specs.Kinds.{rule_of, count_of, span_of, part_of}
use Rattle.quote_along.specs.declared.Quote.{Quote}
use Rattle.quote_along.specs.QuoteBy.{Answer}
use Rattle.quote.specs.Quote.{query_path, query_ends, refusal_of, quote_of, answer_of}
use Rattle.quote.specs.Demand.{step}
use Rattle.quote.proofs.laws.AnswerLaws.{AnswerBy, quoted, refused, answer-by}
use Rattle.quote.proofs.laws.Promises.{WorkedIn, worked-in, quote-worked}
use Rattle.quote.proofs.laws.Tests.{all-passed, Counted, counted, path_room, part-after}
use Rattle.quote_compare.specs.Compare.{ends_in}
use Rattle.quote_compare.specs.code.Sizes.{SmallQuote, SmallAnswer}
use Rattle.quote_compare.proofs.laws.UnitLaws.{times}

-- ---- the path of a query

-- it has no more places than there is room for factors: a part of a year takes one that the whole years leave
part_length : (x n : ℕ) (part : Ratio) → length (part_year x n part) ≤ 1
unfolding part_year
part_length x n part = go (eqb part.num 0) _
  where
    go : (b : Bool) (c : Place) → length (cond b [] (c ∷ [])) ≤ 1
    go true c = omega arith
    go false c = omega arith

module _ (k : Kind) {start age year term : ℤ} (c : Counted start k age year term) where
  abbrev n : ℕ
  n = year_number start year

  abbrev count : ℕ
  count = count_of (rule_of k).fold n (nat_abs (span_of (rule_of k) year term))

  abbrev part : Ratio
  part = part_of (rule_of k) term

  path-small : length (query_path start k age year term) ≤ most_factors
  unfolding query_path
  path-small = go part.num refl
    where
      whole : List Place
      whole = path_of (rule_of k).cohort (nat_abs age) n count

      after : List Place
      after = part_year (nat_abs age + count) (n + count) part

      l : length whole ≡ count
      l = path-length (rule_of k).cohort (nat_abs age) n count

      go : (m : ℕ) → part.num ≡ m → length (whole ++ after) ≤ most_factors
      go zero e = rw (no_part (nat_abs age + count) (n + count) part whole e) (omega (arith, l, path_room k c))
      go (suc m) e =
          omega (
            arith,
            l,
            length-append whole after,
            part_length (nat_abs age + count) (n + count) part,
            part-after k c (λ z. omega (arith, e, z)),
            c.year-in.from,
          )

-- ---- its quote

-- ends of at most 172, with the figure of a step of s units of 10^-9
pub record Small (s : ℕ) (q : Quote) : Type 0 where
  pub ends : SmallQuote q
  pub figure : q.figure ≡ figure_of (s * (grid_of q.unit).scale) (record { lower = q.lower; upper = q.upper })

-- ends that are so in each unit
worked-small : {s : ℕ} {e : GridUnit → Ends} {q : Quote} → ((u : GridUnit) → AtMost (172 * (grid_of u).unit) (e u)) → WorkedIn s e q
    → Small s q
worked-small h (worked-in u f) = record { ends = record { lower = (h u).lower; upper = (h u).upper }; figure = refl }

quote-small : (p : Params) (k : Kind) (age year term : ℤ) → refusal_of p k age year term ≡ Accepted
    → Small (step k) (quote_of p k age year term)
unfolding quote_of query_ends
quote-small p k age year term e =
    let c = counted k (all-passed p k age year term e).table in
    worked-small
    (λ u. value-small (grid_of u) (unit-sound u) p (query_path p.start k age year term) (path-small k c) (rule_of k).fold)
    (quote-worked (step k) _)

-- ---- every answer

-- what holds of small quotes and of refusals holds of it
pub of-answer : (P : Answer → Type 0) (p : Params) (k : Kind) (age year term : ℤ) → ((q : Quote) → Small (step k) q → P (Ok q))
    → ((r : Refusal) → P (Err r)) → P (answer_of p k age year term)
unfolding answer_of
of-answer P p k age year term f g = go (answer-by (refusal_of p k age year term) (quote_of p k age year term))
  where
    go : {a : Answer} → AnswerBy (refusal_of p k age year term) (quote_of p k age year term) a → P a
    go (quoted e) = f _ (quote-small p k age year term e)
    go (refused n) = g _

pub answer-small : (p : Params) (k : Kind) (age year term : ℤ) → SmallAnswer (answer_of p k age year term)
unfolding SmallAnswer
answer-small p k age year term = of-answer SmallAnswer p k age year term (λ q s. s.ends) (λ r. tt)

-- ---- in another unit

times-most : (u v : GridUnit) → times u v * (grid_of v).unit ≤ ten_trillionths.unit
unfolding grid_of
times-most Coarse Coarse = lit≤ tt
times-most Coarse Fine = lit≤ tt
times-most Fine Coarse = lit≤ tt
times-most Fine Fine = lit≤ tt

-- n units of at most 172
pub most-in : (u v : GridUnit) (n : ℕ) → n ≤ 172 * (grid_of v).unit → n * times u v ≤ 172 * ten_trillionths.unit
most-in u v n h = omega (arith, times-most u v, mul-le-mul_right (times u v) h)

pub ends-small : (u : GridUnit) {q : Quote} → SmallQuote q → AtMost (172 * ten_trillionths.unit) (ends_in u q)
unfolding ends_in
ends-small u {q} s =
    record { lower = most-in u q.unit q.lower s.lower; upper = most-in u q.unit q.upper s.upper }
