-- `read_front` meets its contract: an input that is too long, one sheet, or two sheets.
use borrow.Author.Rules.{rules}
use mathlib.Core.Path.{◌≡◌, ◌∙◌}
use mathlib.Core.List.{List}
use Prim.Native.Nat.{ℕ}
use native.Mathlib.Omega.{arith}
use Rattle.sheet_reader.specs.Front.{sheet_of, sheet_end}
use Rattle.run_sheets.specs.laws.FrontLaws.{front_long, front-one, front-turn, front-number}
use Rattle.run_sheets.proofs.read_front.Goals as goal

pub returns-then-input-gt-MOST_BYTES : goal.returns-then-input-gt-MOST_BYTES
returns-then-input-gt-MOST_BYTES c =
    let input : List ℕ = c.args.input.now in
    let end : c.read_first-one.result.next ≡ sheet_end input = c.read_first-one.ensures.1 in
    c.stop.ensures ∙ front_long input end c.args.sheets (omega arith)

pub read_second-requires : goal.read_second-requires
read_second-requires c =
    let input : List ℕ = c.args.input.now in
    let one : c.read_first-one.result.sheet ≡ sheet_of input = c.read_first-one.ensures.0 in
    let end : c.read_first-one.result.next ≡ sheet_end input = c.read_first-one.ensures.1 in
    (one, end)

pub read_second-requires-in-ByNumber : goal.read_second-requires-in-ByNumber
read_second-requires-in-ByNumber c =
    let input : List ℕ = c.args.input.now in
    let one : c.read_first-one.result.sheet ≡ sheet_of input = c.read_first-one.ensures.0 in
    let end : c.read_first-one.result.next ≡ sheet_end input = c.read_first-one.ensures.1 in
    (one, end)

pub returns-in-One : goal.returns-in-One
returns-in-One c =
    let input : List ℕ = c.args.input.now in
    let one : c.read_first-one.result.sheet ≡ sheet_of input = c.read_first-one.ensures.0 in
    let end : c.read_first-one.result.next ≡ sheet_end input = c.read_first-one.ensures.1 in
    front-one input (omega arith) c.in-One.is one end

pub returns-in-InTurn : goal.returns-in-InTurn
returns-in-InTurn c =
    let input : List ℕ = c.args.input.now in
    c.read_second.ensures ∙ front-turn input (omega arith) c.in-InTurn.is

pub returns-in-ByNumber : goal.returns-in-ByNumber
returns-in-ByNumber c =
    let input : List ℕ = c.args.input.now in
    c.read_second-in-ByNumber.ensures ∙ front-number input (omega arith) c.in-ByNumber.is
