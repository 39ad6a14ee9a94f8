-- What is promised of an answer by its refusal, where the quote's ends hold its exact value.
use Rattle.std.specs.Prelude.{◌≡◌, refl, ◌↔◌, cond, ℕ, ◌+◌, ◌*◌, ◌≤◌, ◌<◌, Ok, Err}
use Rattle.std.proofs.Common.{ap, sym, ◌∙◌, mul-one, mul-pos, arith}
use Rattle.number_whole.proofs.laws.Clash.{clash}
use Rattle.number_taylor.specs.Order.{least_order}
use Rattle.number_exponential.specs.declared.Ends.{Ends}
use Rattle.number_exponential.specs.Grid.{Grid}
use Rattle.number_exponential.specs.Units.{billionths, grid_of, width_times}
use Rattle.number_exponential.specs.declared.GridUnit.{GridUnit}
use Rattle.number_exponential.specs.declared.GridUnit.TheVariants.{Coarse, Fine}
use Rattle.number_exponential.proofs.laws.Overlap.{Overlap}
use Rattle.set_refusal.specs.declared.Refusal.{Refusal}
use Rattle.set_refusal.specs.declared.Refusal.TheVariants.{Accepted}
use Rattle.set_refusal.specs.Refusals.{refusal_number}
use Rattle.set_refusal.specs.laws.RefusalLaws.{accepted}
use Rattle.number_exact.specs.declared.Figure.{Figure}
use Rattle.number_exact.specs.declared.Figure.TheVariants.{Printed, Open}
use Rattle.number_exact.specs.Value.{Exact, RoundsTo, Narrows, Agrees}
use Rattle.number_exact.proofs.laws.ValueLaws.{overlap-at-least, overlap-at-most}
use Rattle.number_exact.specs.Figure.{half_up, figure_of, is_open}
use Rattle.number_exact.proofs.laws.Units.{rounds-on}
use Rattle.number_exact.proofs.laws.FigureLaws.{figure-printed, figure-open}
use Rattle.number_exact.proofs.laws.Rounding.{printed-rounds, rounds-once}
use Rattle.quote_along.specs.declared.Quote.{Quote}
use Rattle.quote_along.specs.QuoteBy.{quote_on, quote_by, Answer}
use Rattle.quote.specs.Quote.{answer_by}
use Rattle.quote.specs.Demand.{printed, marked_open, no_figure, shown_of, number_of, unit_of, lower_of, upper_of, figure_shown, LeftOpen, KeptBy, Promised}
use Rattle.quote.proofs.laws.AnswerLaws.{AnswerBy, quoted, refused, answer-by}

-- ---- which answers are quotes

-- an answer has the number of its refusal
answer-number : (r : Refusal) (q : Quote) → number_of (answer_by r q) ≡ refusal_number r
unfolding number_of refusal_number
answer-number r q = go (answer-by r q)
  where
    go : {a : Answer} → AnswerBy r q a → number_of a ≡ refusal_number r
    go (quoted e) = rw e
    go (refused n) = refl

-- an answer with a number has ends 0 and 0 in units of 10^-9 and no figure
refused-empty : (a : Answer) → (number_of a ≡ 0 → ⊥) → (unit_of a ≡ Coarse) × (lower_of a ≡ 0) × (upper_of a ≡ 0) × (figure_shown a ≡ no_figure)
unfolding number_of unit_of lower_of upper_of figure_shown
refused-empty (Ok q) n = absurd (n refl)
refused-empty (Err r) n = (refl, refl, refl, refl)

-- an answer with no number is a quote
no_number : (r : Refusal) (q : Quote) → number_of (answer_by r q) ≡ 0 → r ≡ Accepted
no_number r q e = accepted r (sym (answer-number r q) ∙ e)

-- and so is one with a figure
no-refusal : {n : ℕ} → no_figure ≡ printed n → ⊥
no-refusal e = clash cc

printed-quote : (r : Refusal) (q : Quote) {n : ℕ} → figure_shown (answer_by r q) ≡ printed n → (r ≡ Accepted) × (shown_of q.figure ≡ printed n)
unfolding figure_shown
printed-quote r q {n} = go (answer-by r q)
  where
    go : {a : Answer} → AnswerBy r q a → figure_shown a ≡ printed n → (r ≡ Accepted) × (shown_of q.figure ≡ printed n)
    go (quoted e) f = (e, f)
    go (refused m) f = absurd (no-refusal f)

printed-figure : (f : Figure) {n : ℕ} → shown_of f ≡ printed n → f ≡ Printed n
unfolding shown_of
printed-figure (Printed m) {n} e = let k : m ≡ n = cc in ap Printed k
printed-figure Open e = clash cc

open-figure : (f : Figure) → (shown_of f ≡ marked_open) ↔ (f ≡ Open)
unfolding shown_of
open-figure (Printed m) = (λ e. clash cc, λ e. clash cc)
open-figure Open = (λ e. refl, λ e. refl)

-- ---- the quote of ends in each unit

-- it is that of one of the two, the fine one exactly when the coarse ends leave the figure open
pub data WorkedIn (s : ℕ) (e : GridUnit → Ends) : Quote → Type 0 where
  worked-in : (u : GridUnit) → (u ≡ Fine) ↔ LeftOpen s Coarse (e Coarse).lower (e Coarse).upper → WorkedIn s e (quote_on s u (e u))

pub quote-worked : (s : ℕ) (e : GridUnit → Ends) → WorkedIn s e (quote_by s e)
unfolding quote_by is_open
quote-worked s e = go (figure_of (s * (grid_of Coarse).scale) (e Coarse)) refl
  where
    go : (f : Figure) → figure_of (s * (grid_of Coarse).scale) (e Coarse) ≡ f
        → WorkedIn s e (cond (is_open f) (quote_on s Fine (e Fine)) (quote_on s Coarse (e Coarse)))
    go (Printed n) q =
        let g = figure-printed (s * (grid_of Coarse).scale) (e Coarse) q in
        worked-in Coarse (λ k. clash cc, λ k. absurd (k (g.0 ∙ sym g.1)))
    go Open q = worked-in Fine (λ k. (figure-open (s * (grid_of Coarse).scale) (e Coarse)).0 q, λ k. refl)

-- ---- an accepted answer

-- the ends of a quote in each unit hold its exact value at every order, are no further apart than w units of 10^-9 or a thousandth
-- of them, and the orders agree and narrow
pub record Held (e : GridUnit → Ends) (x : Exact) (s w : ℕ) : Type 0 where
  pub positive : 0 < s
  pub holds : (u : GridUnit) (j : ℕ) → least_order ≤ j → Overlap (grid_of u) (e u) (x j).least (x j).most
  pub width : (u : GridUnit) → (e u).upper ≤ (e u).lower + width_times u * w
  pub agrees : Agrees x
  pub narrows : Narrows x

-- two ends in a unit round half up to n steps, of t units of 10^-9
abbrev pub RoundAlike : ℕ → GridUnit → Ends → ℕ → Type 0
RoundAlike t u e n = (half_up (t * (grid_of u).scale) e.lower ≡ n) × (half_up (t * (grid_of u).scale) e.upper ≡ n)

-- in whichever units the ends of a figure round alike, they give one step
abbrev pub UnitsAgree : ℕ → (GridUnit → Ends) → Type 0
UnitsAgree t e = (u v : GridUnit) (n m : ℕ) → RoundAlike t u (e u) n → RoundAlike t v (e v) m → n ≡ m

scale-some : (g : Grid) → 0 < g.scale
scale-some g = omega (arith, g.positive, g.scaled)

module _ {e : GridUnit → Ends} {x : Exact} {s w : ℕ} (h : Held e x s w) where
  quote-kept : {q : Quote} → WorkedIn s e q → KeptBy e x s w (Ok q)
  unfolding unit_of lower_of upper_of figure_shown
  quote-kept (worked-in u f) =
      let o = figure-open (s * (grid_of u).scale) (e u) in
      let g = open-figure (figure_of (s * (grid_of u).scale) (e u)) in
      record {
        of-grid = (refl, refl);
        fine-when = f;
        at_least = overlap-at-least (h.holds u);
        at_most = overlap-at-most (h.holds u);
        width = h.width u;
        agrees = h.agrees;
        narrows = h.narrows;
        open-when = (λ q. o.0 (g.0 q), λ q. g.1 (o.1 q));
      }

  -- ends that round alike give the step of the exact value
  ends-round : (t : ℕ) → 0 < t → (u : GridUnit) {n : ℕ} → RoundAlike t u (e u) n → RoundsTo billionths t n x
  ends-round t l u g =
      rw (mul-one t) at
      (rounds-on (grid_of u) billionths t
      (printed-rounds (e u) (mul-pos l (scale-some (grid_of u))) (overlap-at-least (h.holds u)) (overlap-at-most (h.holds u))
      h.narrows g.0 g.1))

  -- a printed figure is the exact value rounded half up
  quote-rounds : {q : Quote} {n : ℕ} → WorkedIn s e q → q.figure ≡ Printed n → RoundsTo billionths s n x
  quote-rounds (worked-in u f) q = ends-round s h.positive u (figure-printed (s * (grid_of u).scale) (e u) q)

  -- "Where the fine ends of a figure round alike at its old step, and its coarse ends on E4's grid do too, both must give the same
  -- step": at any step
  pub units-agree : (t : ℕ) → 0 < t → UnitsAgree t e
  units-agree t l u v n m a b = rounds-once (ends-round t l u a) (ends-round t l v b)

-- ---- any answer

pub promised : (r : Refusal) (e : GridUnit → Ends) (x : Exact) (s w : ℕ) → (r ≡ Accepted → Held e x s w)
    → Promised r e x s w (answer_by r (quote_by s e))
unfolding answer_by refusal_number
promised r e x s w h =
    record {
      number = answer-number r (quote_by s e);
      refused = refused-empty (answer_by r (quote_by s e));
      kept = λ q. kept (no_number r (quote_by s e) q);
      rounds =
          λ n q. let f = printed-quote r (quote_by s e) q in quote-rounds (h f.0) (quote-worked s e) (printed-figure _ f.1);
    }
  where
    kept : r ≡ Accepted → KeptBy e x s w (answer_by r (quote_by s e))
    kept a = rw a (quote-kept (h a) (quote-worked s e))
