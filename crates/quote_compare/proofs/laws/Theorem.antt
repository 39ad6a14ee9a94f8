-- What a comparison tells of any two queries, whichever their sets, kinds, ages, years and terms.
use Rattle.std.specs.Prelude.{◌≡◌, ℕ, ℤ, Ok}
use Rattle.std.proofs.Common.{sym, ap, subst, ◌∙◌}
use Rattle.number_exponential.specs.Units.{billionths, grid_of}
use Rattle.number_exponential.specs.declared.Ends.{Ends}
use Rattle.number_exponential.specs.declared.GridUnit.{GridUnit}
use Rattle.set_params.specs.declared.Params.{Params}
use Rattle.number_exact.specs.declared.Figure.TheVariants.{Printed}
use Rattle.number_exact.specs.Value.{Exact, OneStep}
use Rattle.quote_kinds.specs.declared.Kind.{Kind}
use Rattle.quote_kinds.specs.Kinds.{OneKind}
use Rattle.quote_along.specs.declared.Quote.{Quote}
use Rattle.quote_along.specs.QuoteBy.{Answer}
use Rattle.quote.specs.Quote.{query_ends, exact_query, answer_of}
use Rattle.quote.specs.Demand.{shown_of, number_of, unit_of, lower_of, upper_of, figure_shown, step, query_width, KeptBy}
use Rattle.quote.proofs.laws.Theorem.{same-figure, demand-met}
use Rattle.quote_compare.specs.declared.Excess.{Excess}
use Rattle.quote_compare.specs.declared.Values.TheVariants.{Below, Above}
use Rattle.quote_compare.specs.declared.Pair.{Pair}
use Rattle.quote_compare.specs.Compare.{finer, ends_in, pair_of, comparison_of, Held, Means, Less}
use Rattle.quote_compare.proofs.laws.UnitLaws.{NoCoarser, finer-first, finer-second, held_in}
use Rattle.quote_compare.proofs.laws.CompareLaws.{Both, compared-both}
use Rattle.quote_compare.proofs.laws.MeaningLaws.{values-mean, exceeds-less}

-- a query's answer is kept
abbrev Kept : Params → Kind → ℤ → ℤ → ℤ → Answer → Type 0
Kept p kind age year term a =
    KeptBy (query_ends p kind age year term) (exact_query p kind age year term) (step kind) (query_width kind age year term) a

-- an accepted answer is
kept : (p : Params) (kind : Kind) (age year term : ℤ) {q : Quote} → answer_of p kind age year term ≡ Ok q
    → Kept p kind age year term (Ok q)
unfolding number_of
kept p kind age year term e = subst (Kept p kind age year term) e ((demand-met p kind age year term).alone.kept (ap number_of e))

-- and so its ends hold its exact value, in any unit no coarser than their own
held : {e : GridUnit → Ends} {x : Exact} {s w : ℕ} {q : Quote} {u : GridUnit} → NoCoarser u q.unit → KeptBy e x s w (Ok q)
    → Held (grid_of u) (ends_in u q) x
unfolding unit_of lower_of upper_of
held {q = q} {u} f k = held_in u q f (record { at_least = k.at_least; at_most = k.at_most })

module _ (p : Params) (kind : Kind) (age year term : ℤ) (p' : Params) (kind' : Kind) (age' year' term' : ℤ) where
  -- the two answers, and their exact values
  abbrev pub answer : Answer
  answer = answer_of p kind age year term

  abbrev pub answer' : Answer
  answer' = answer_of p' kind' age' year' term'

  abbrev pub value : Exact
  value = exact_query p kind age year term

  abbrev pub value' : Exact
  value' = exact_query p' kind' age' year' term'

  module _ {x : Pair} (e : comparison_of answer answer' ≡ Ok x) where
    b : Both answer answer' x
    b = compared-both answer answer' e

    first-kept : Kept p kind age year term (Ok b.first)
    first-kept = kept p kind age year term b.first-is

    second-kept : Kept p' kind' age' year' term' (Ok b.second)
    second-kept = kept p' kind' age' year' term' b.second_is

    -- below, above and near are true of the exact values, with their numbers in the pair's unit
    pub compared-mean : Means (grid_of x.unit) x.values value value'
    unfolding pair_of
    compared-mean =
        let v = b.first.unit in
        let w = b.second.unit in
        rw b.pair
        (values-mean (ends_in (finer v w) b.first) (ends_in (finer v w) b.second) (held (finer-first v w) first-kept)
        (held (finer-second v w) second-kept))

    -- and below and above are of two values that differ
    pub below_less : {b : Excess} → x.values ≡ Below b → Less value value'
    unfolding Means
    below_less q = exceeds-less (rw q at compared-mean) first-kept.narrows second-kept.narrows

    pub above-less : {b : Excess} → x.values ≡ Above b → Less value' value
    unfolding Means
    above-less q = exceeds-less (rw q at compared-mean) second-kept.narrows first-kept.narrows

-- of one kind, figures that are printed and different have exact values that do not round to one step
pub figures-differ : (kind kind' : Kind) → OneKind kind kind' → (p p' : Params) (age year term age' year' term' : ℤ) {x : Pair}
    {n n' : ℕ} → comparison_of (answer_of p kind age year term) (answer_of p' kind' age' year' term') ≡ Ok x
    → x.first ≡ Printed n → x.second ≡ Printed n' → (n ≡ n' → ⊥)
    → OneStep billionths (step kind) (exact_query p kind age year term) (exact_query p' kind' age' year' term')
    → ⊥
unfolding pair_of shown_of figure_shown
figures-differ kind kind' one p p' age year term age' year' term' e f f' d o =
    let b = compared-both (answer_of p kind age year term) (answer_of p' kind' age' year' term') e in
    let shown = ap figure_shown b.first-is ∙ ap shown_of (sym (ap (λ (y : Pair). y.first) b.pair) ∙ f) in
    let shown' = ap figure_shown b.second_is ∙ ap shown_of (sym (ap (λ (y : Pair). y.second) b.pair) ∙ f') in
    d ((same-figure kind kind' one p p' age year term age' year' term' shown shown').1 o)
