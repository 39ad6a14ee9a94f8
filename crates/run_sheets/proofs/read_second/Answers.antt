-- `read_second` meets its contract: the second sheet is read behind the first, and its answer is given, or the first is named.
use mathlib.Core.Bool.{not}
use borrow.Author.Rules.{rules}
use mathlib.Core.Path.{◌≡◌, ap, ◌∙◌}
use mathlib.Core.Bool.{cond}
use mathlib.Core.List.{List}
use Prim.Native.Nat.{ℕ, ◌≤◌}
use native.Mathlib.Omega.{arith}
use borrow.Author.Tests.{not-true, not-false}
use lib.ListN.{length, drop, length-drop}
use Rattle.set_refusal.specs.Refusals.{refusal_number}
use Rattle.sheet_reader.specs.Front.{sheet_of, sheet_end}
use Rattle.sheet_reader.specs.laws.FirstLaws.{sheet-within}
use Rattle.run_sheets.specs.Front.{in_turn, by_number}
use Rattle.run_sheets.specs.laws.FrontLaws.{rest_from, two-first, two-second}
use Rattle.run_sheets.proofs.read_second.Goals as goal

-- ---- the needs

pub returns-then-not-second_given : goal.returns-then-not-second_given
returns-then-not-second_given c =
    let input : List ℕ = c.args.input.now in
    let rest : List ℕ = drop c.args.end input in
    let other : c.read_first-other.result.sheet ≡ sheet_of rest = c.read_first-other.ensures.0 ∙ ap sheet_of (rest_from input _) in
    let given : let s = c.args in let a = refusal_number s.one.refusal in let b = refusal_number c.read_first-other.result.sheet.refusal in c.second_given.result ≡ cond s.numbered (by_number a b) (in_turn a b) =
    let s = c.args in
    let a = refusal_number s.one.refusal in
    let n = c.refusal_number.result in
    c.second_given.ensures
    ∙ ap (λ (m : ℕ). cond s.numbered (by_number m n) (in_turn m n)) c.refusal_number-number.ensures
    ∙ ap (λ (m : ℕ). cond s.numbered (by_number a m) (in_turn a m)) c.refusal_number.ensures in
    c.stop.ensures
    ∙ two-first input c.requires.0 c.requires.1 c.args.numbered other given
    (not-true c.second_given.result (ap not c.if-not-second_given.true))

pub overflow_add-result : goal.overflow_add-result
overflow_add-result c =
    let input : List ℕ = c.args.input.now in
    let within : c.args.end ≤ length input = omega (arith, c.requires.1, sheet-within input) in
    let rest : List ℕ = drop c.args.end input in
    let len : c.read_first-other.result.next ≡ sheet_end rest = c.read_first-other.ensures.1 ∙ ap sheet_end (rest_from input _) in
    record { fits = omega (arith, len, sheet-within rest, length-drop c.args.end input, within) }

pub returns : goal.returns
returns c =
    let input : List ℕ = c.args.input.now in
    let rest : List ℕ = drop c.args.end input in
    let other : c.read_first-other.result.sheet ≡ sheet_of rest = c.read_first-other.ensures.0 ∙ ap sheet_of (rest_from input _) in
    let len : c.read_first-other.result.next ≡ sheet_end rest = c.read_first-other.ensures.1 ∙ ap sheet_end (rest_from input _) in
    let given : let s = c.args in let a = refusal_number s.one.refusal in let b = refusal_number c.read_first-other.result.sheet.refusal in c.second_given.result ≡ cond s.numbered (by_number a b) (in_turn a b) =
    let s = c.args in
    let a = refusal_number s.one.refusal in
    let n = c.refusal_number.result in
    c.second_given.ensures
    ∙ ap (λ (m : ℕ). cond s.numbered (by_number m n) (in_turn m n)) c.refusal_number-number.ensures
    ∙ ap (λ (m : ℕ). cond s.numbered (by_number a m) (in_turn a m)) c.refusal_number.ensures in
    two-second input c.requires.0 c.requires.1 c.args.numbered other given
    (not-false c.second_given.result (ap not c.if-not-second_given.false)) len

pub slice_bounds-rest-count : goal.slice_bounds-rest-count
slice_bounds-rest-count c =
    let input : List ℕ = c.args.input.now in
    let within : c.args.end ≤ length input = omega (arith, c.requires.1, sheet-within input) in
    within

pub slice_bounds-rest-start : goal.slice_bounds-rest-start
slice_bounds-rest-start c =
    let input : List ℕ = c.args.input.now in
    let within : c.args.end ≤ length input = omega (arith, c.requires.1, sheet-within input) in
    within
