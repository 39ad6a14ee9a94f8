-- How great the numbers of a comparison are: the units have at most 16 digits and the figures at most 8.
use Rattle.std.specs.Prelude.{◌-◌, ◌^◌, ◌<◌, Ok, Err}
use Rattle.std.proofs.Math.Decide.{dec_lt}
use Rattle.std.proofs.Common.{arith}
use Rattle.number_exponential.specs.declared.Ends.{Ends}
use Rattle.quote_along.specs.QuoteBy.{Answer}
use Rattle.run_answer_text.specs.AnswerText.{end_digits}
use Rattle.run_answer_text.specs.code.Sizes.{SizedAnswer}
use Rattle.quote_compare.specs.Compare.{excess, most_apart, values_of, finer, ends_in, pair_of, comparison_of}
use Rattle.quote_compare.specs.code.Sizes.{SmallAnswer}
use Rattle.quote_compare.proofs.laws.SmallLaws.{ends-small}
use Rattle.quote_compare.proofs.laws.CompareLaws.{values-below, values-above, values-near, apart-second, apart-first}
use Rattle.run_compare_text.specs.code.Sizes.{SizedExcess, SizedValues, SizedComparison}

-- units are a difference of two ends, and so no greater than an end
excess_small : (a b : Ends) → b.lower < 10 ^ end_digits → b.upper < 10 ^ end_digits → SizedExcess (excess a b)
unfolding excess
excess_small a b h k = record { least = omega arith; most = omega arith }

apart-small : (a b : Ends) → a.upper < 10 ^ end_digits → b.upper < 10 ^ end_digits → most_apart a b < 10 ^ end_digits
apart-small a b h k =
    elim (dec_lt (b.upper - a.lower) (a.upper - b.lower)) [
      | yes l ↦ omega (arith, apart-first a b (omega arith))
      | no l ↦ omega (arith, apart-second a b (omega arith))
    ]

values-sized : (a b : Ends) → a.lower < 10 ^ end_digits → a.upper < 10 ^ end_digits → b.lower < 10 ^ end_digits
    → b.upper < 10 ^ end_digits → SizedValues (values_of a b)
unfolding SizedValues
values-sized a b h h' k k' =
    elim (dec_lt a.upper b.lower) [
      | yes l ↦ rw (values-below a b l) (excess_small a b k k')
      | no l ↦ elim (dec_lt b.upper a.lower) [
        | yes m ↦ rw (values-above a b (omega arith) m) (excess_small b a h h')
        | no m ↦ rw (values-near a b (omega arith) (omega arith)) (apart-small a b h' k')
      ]
    ]

-- of two answers whose ends are at most 172, in the finer unit
pub comparison-sized : (a b : Answer) → SmallAnswer a → SmallAnswer b → SizedAnswer a → SizedAnswer b
    → SizedComparison (comparison_of a b)
unfolding comparison_of pair_of SmallAnswer SizedAnswer SizedComparison
comparison-sized (Err r) b l m s t = tt
comparison-sized (Ok q) (Err r) l m s t = tt
comparison-sized (Ok q) (Ok q') l m s t =
    let u = finer q.unit q'.unit in
    let e = ends-small u l in
    let e' = ends-small u m in
    record {
      first = s.figure;
      second = t.figure;
      values = values-sized (ends_in u q) (ends_in u q') (omega (arith, e.lower)) (omega (arith, e.upper)) (omega (arith, e'.lower)) (omega (arith, e'.upper));
    }
