-- The answer to a couple's query in the steps of the code: a set out of its limits, starts that differ, the table's refusal, and
-- else what is answered along the two paths.
use Rattle.std.specs.Prelude.{Err}
use mathlib.Core.Path.{◌≡◌, refl, ap, sym, ◌∙◌}
use mathlib.Core.Bool.{Bool, true, false, cond, ◌&&◌}
use mathlib.Core.List.{append-nil}
use native.Mathlib.Omega.{arith}
use lib.Dec.{T}
use lib.Ieee.Bits.{is_true}
use lib.IntN.{ℤ}
use Rattle.number_fraction.specs.Ratio.{whole/}
use Rattle.number_exponential.specs.Units.{billionths}
use Rattle.set_params.specs.declared.Params.{Params}
use Rattle.set_limits.specs.InLimits.{in_limits}
use Rattle.set_refusal.specs.declared.Refusal.{Refusal}
use Rattle.set_refusal.specs.declared.Refusal.TheVariants.{Accepted, OutOfLimits, LogForceOutOfRange, StartsDiffer}
use Rattle.set_refusal.specs.Refusals.{refusal_number}
use Rattle.quote_paths.specs.Path.{part_year, path_in_range}
use Rattle.quote_walks.specs.code.Code.{PathWithin, path_is}
use Rattle.quote_kinds.specs.Kinds.{rule_of, span_of, part_of}
use Rattle.quote_couple_kinds.specs.declared.CoupleKind.{CoupleKind}
use Rattle.quote_couple_kinds.specs.declared.CoupleKind.TheVariants.{JointLife, LastSurvivor, JointExpectancy, LastExpectancy}
use Rattle.quote_couple_kinds.specs.CoupleKinds.{single_of}
use Rattle.quote_table_tests.specs.TableTests.{age_in_table, year_in_table, span_in_table, first_failed, table_tests}
use Rattle.quote_table_tests.proofs.laws.TableLaws.{in_table}
use Rattle.quote_along.specs.declared.Quote.{Quote}
use Rattle.quote_along.specs.QuoteBy.{quote_by, Answer}
use Rattle.quote_along.specs.code.Code.{in_range_or}
use Rattle.quote.specs.Quote.{query_path, answer_by}
use Rattle.quote.specs.code.Code.{path_to}
use Rattle.quote.proofs.laws.Tests.{counted, path-first, path_room, path-in}
use Rattle.quote.proofs.Steps.{refused, failed-append, first-passed, number-none}
use Rattle.quote_couple.specs.Couple.{life_path, couple_ends, couple_table, couple_refusal, couple_step, couple_answer}
use Rattle.quote_couple.specs.code.Code.{paths_quote}
use Rattle.quote_couple.specs.Couple.{CoupleDemand3}
use Rattle.quote_couple.proofs.laws.Theorem.{demand-met}
use Rattle.quote_couple.proofs.laws.CoupleTests.{CoupleIn, same-starts, other-starts}

-- ---- each life's path, as the code has it

pub whole-path : (p : Params) (k : CoupleKind) (age year span : ℤ)
    → path_is (path_to p.start (single_of k) age year span) ≡ life_path p k age year span
unfolding query_path part_year part_of span_of rule_of single_of whole/
whole-path p JointLife age year span = sym (append-nil _)
whole-path p LastSurvivor age year span = sym (append-nil _)
whole-path p JointExpectancy age year span = sym (append-nil _)
whole-path p LastExpectancy age year span = sym (append-nil _)

pub path-within : (p : Params) (k : CoupleKind) (age year span : ℤ) → T (in_limits p)
    → first_failed (table_tests p.start (rule_of (single_of k)) age year span) ≡ Accepted
    → PathWithin p (path_to p.start (single_of k) age year span)
path-within p k age year span l e =
    let c = counted (single_of k) (in_table p.start (rule_of (single_of k)) age year span e) in
    record { limits = l; age = c.age-in; room = path_room _ c; first = path-first _ c; years = path-in _ c }

-- ---- the answer

decided : (a b : Bool) (q : Quote)
    → in_range_or (a && b) q ≡ answer_by (cond a (cond b Accepted LogForceOutOfRange) LogForceOutOfRange) q
unfolding in_range_or answer_by refusal_number
decided true true q = refl
decided true false q = refl
decided false b q = refl

module _ (p p' : Params) (k : CoupleKind) (age age' year span : ℤ) where
  quote : Quote
  quote = quote_by (couple_step k) (couple_ends p p' k age age' year span)

  answered : (r : Refusal) → (refusal_number r ≡ 0 → ⊥) → couple_refusal p p' k age age' year span ≡ r
      → Err r ≡ couple_answer p p' k age age' year span
  unfolding couple_answer quote
  answered r n e = refused r quote n ∙ ap (λ (s : Refusal). answer_by s quote) (sym e)

  -- a set out of its limits
  pub first_out : in_limits p ≡ false → Err OutOfLimits ≡ couple_answer p p' k age age' year span
  unfolding couple_refusal first_failed refusal_number
  first_out e = answered OutOfLimits (λ z. omega (arith, z)) (rw e)

  pub second-out : T (in_limits p) → in_limits p' ≡ false → Err OutOfLimits ≡ couple_answer p p' k age age' year span
  unfolding couple_refusal first_failed refusal_number
  second-out l e = answered OutOfLimits (λ z. omega (arith, z)) (rw (is_true (in_limits p) l, e))

  module _ (l : T (in_limits p)) (l' : T (in_limits p')) where
    -- starts that differ
    pub starts-differ : (p.start ≡ p'.start → ⊥) → Err StartsDiffer ≡ couple_answer p p' k age age' year span
    unfolding couple_refusal first_failed refusal_number
    starts-differ n =
        answered StartsDiffer (λ z. omega (arith, z))
        (rw (is_true (in_limits p) l, is_true (in_limits p') l', other-starts p p' n))

    module _ (same : p.start ≡ p'.start) where
      -- the table refuses
      pub table-refuses : {r : Refusal} → r ≡ first_failed (couple_table p.start (rule_of (single_of k)) age age' year span)
          → (refusal_number r ≡ 0 → ⊥) → Err r ≡ couple_answer p p' k age age' year span
      unfolding couple_refusal
      table-refuses {r} e n =
          answered r n
          (first-passed _ _ l ∙ first-passed _ _ l' ∙ first-passed _ _ (rw (same-starts p p' same) tt)
          ∙ failed-append (couple_table p.start (rule_of (single_of k)) age age' year span) _
          (λ a. n (ap refusal_number (e ∙ a) ∙ number-none))
          ∙ sym e)

      -- the table has it, so the cells decide
      cells-decide : CoupleIn p.start (rule_of (single_of k)) age age' year span
          → couple_refusal p p' k age age' year span
          ≡ cond (path_in_range billionths p (life_path p k age year span))
          (cond (path_in_range billionths p' (life_path p' k age' year span)) Accepted LogForceOutOfRange) LogForceOutOfRange
      unfolding couple_refusal couple_table first_failed
      cells-decide h =
          rw (
            is_true (in_limits p) l,
            is_true (in_limits p') l',
            same-starts p p' same,
            is_true (age_in_table age) h.age-in,
            is_true (age_in_table age') h.other-in,
            is_true (year_in_table p.start (rule_of (single_of k)) year) h.year-in,
            is_true (span_in_table (rule_of (single_of k)) age year span) h.span-in,
            is_true (span_in_table (rule_of (single_of k)) age' year span) h.other-span-in,
          )

      pub along-answer : CoupleIn p.start (rule_of (single_of k)) age age' year span
          → paths_quote p p' k (life_path p k age year span) (life_path p' k age' year span)
          ≡ couple_answer p p' k age age' year span
      unfolding paths_quote couple_answer couple_ends quote
      along-answer h =
          decided (path_in_range billionths p (life_path p k age year span)) (path_in_range billionths p' (life_path p' k age' year span)) quote
          ∙ ap (λ (r : Refusal). answer_by r quote) (sym (cells-decide h))

-- an answer that is the definition's meets demand 3
pub met : {p p' : Params} {k : CoupleKind} {age age' year span : ℤ} {a : Answer} → a ≡ couple_answer p p' k age age' year span
    → (a ≡ couple_answer p p' k age age' year span) × CoupleDemand3 p p' k age age' year span a
met {p} {p'} {k} {age} {age'} {year} {span} e = (e, rw e (demand-met p p' k age age' year span))
