-- `column_of` meets its contract. The loop's invariant: the steps before age x and the rows from the present place on are the
-- whole column. The measure is how many ages are left.
use mathlib.Core.Bool.{not}
use borrow.Author.Tests.{not-true, not-false}
use mathlib.Core.Path.{◌≡◌, refl, sym, ap, ◌∙◌}
use mathlib.Core.Bool.{Bool, true, false}
use mathlib.Core.List.{List}
use Prim.Native.Nat.{ℕ, suc, ◌+◌, ◌-◌, ◌≤◌}
use native.Mathlib.Numerals.{add-one}
use native.Mathlib.Omega.{arith}
use lib.ListN.{length, take, drop}
use Rattle.text_tokens.specs.Text.{and_then}
use Rattle.text_tokens.specs.laws.Steps.{goes, stops}
use Rattle.text_lines.proofs.laws.LineLaws.{line-take, place-within}
use Rattle.run_column_text.specs.Column.{column_lines, column_of}
use Rattle.run_column_text.specs.code.Code.{list_read, with_row}
use Rattle.run_column_text.specs.laws.RowLaws.{row-long, line_at, column_from, from_start, from_step, from_end, from_past}
use Rattle.run_column_text.proofs.column_of.Goals as goal

-- ---- the needs

pub loop-x-init : goal.loop-x-init
loop-x-init c = record { most = omega arith; within = omega arith; long = refl; whole = from_start _ }

pub returns-then-not-put_row : goal.returns-then-not-put_row
returns-then-not-put_row c =
    let bytes : List ℕ = c.args.bytes.now in
    let end : let l = c.loop-x in c.line_end-end.result ≡ l.at + length (line_at bytes l.at) = c.line_end-end.ensures in
    let slice : let l = c.loop-x in take (c.line_end-end.result - l.at) (drop l.at bytes) ≡ line_at bytes l.at =
    let l = c.loop-x in
    let e : c.line_end-end.result - l.at ≡ length (line_at bytes l.at) = omega (arith, end) in
    rw e (line-take (drop l.at bytes)) in
    let step : let l = c.loop-x in let bs = bytes in column_of bs ≡ and_then (with_row l.steps l.x (line_at bs l.at)) (λ t none. column_from bs (l.at + length (line_at bs l.at)) t (suc l.x)) =
    let l = c.loop-x in
    l.invariant.whole ∙ from_step bytes l.at l.steps l.x (omega arith) l.invariant.long in
    let row : (b : Bool) → c.put_row.result ≡ b → let l = c.loop-x in with_row l.steps l.x (line_at bytes l.at) ≡ list_read b c.put_row.new.steps =
    λ b e. let l = c.loop-x in
    ap (with_row l.steps l.x) (sym slice) ∙ sym c.put_row.ensures ∙ ap (λ (b : Bool). list_read b c.put_row.new.steps) e in
    sym (step ∙ stops _ (row false (not-true _ (ap not c.if-not-put_row.true))))

pub loop-x-preserved : goal.loop-x-preserved
loop-x-preserved c =
    let bytes : List ℕ = c.args.bytes.now in
    let end : let l = c.loop-x in c.line_end-end.result ≡ l.at + length (line_at bytes l.at) = c.line_end-end.ensures in
    let inside : c.line_end-end.result ≤ length bytes =
    let l = c.loop-x in
    omega (arith, end, place-within bytes l.at l.invariant.within) in
    let slice : let l = c.loop-x in take (c.line_end-end.result - l.at) (drop l.at bytes) ≡ line_at bytes l.at =
    let l = c.loop-x in
    let e : c.line_end-end.result - l.at ≡ length (line_at bytes l.at) = omega (arith, end) in
    rw e (line-take (drop l.at bytes)) in
    let step : let l = c.loop-x in let bs = bytes in column_of bs ≡ and_then (with_row l.steps l.x (line_at bs l.at)) (λ t none. column_from bs (l.at + length (line_at bs l.at)) t (suc l.x)) =
    let l = c.loop-x in
    l.invariant.whole ∙ from_step bytes l.at l.steps l.x (omega arith) l.invariant.long in
    let row : (b : Bool) → c.put_row.result ≡ b → let l = c.loop-x in with_row l.steps l.x (line_at bytes l.at) ≡ list_read b c.put_row.new.steps =
    λ b e. let l = c.loop-x in
    ap (with_row l.steps l.x) (sym slice) ∙ sym c.put_row.ensures ∙ ap (λ (b : Bool). list_read b c.put_row.new.steps) e in
    let l = c.loop-x in
    let put = row true (not-false _ (ap not c.if-not-put_row.false)) in
    record {
      most = omega arith;
      within = inside;
      long = row-long l.steps l.x _ put ∙ l.invariant.long;
      whole = rw (add-one l.x)
          (step ∙ goes _ put ∙ ap (λ (n : ℕ). column_from bytes n c.put_row.new.steps (suc l.x)) (sym end));
    }

pub returns-then-at-bytes : goal.returns-then-at-bytes
returns-then-at-bytes c =
    let l = c.loop-x in
    let e : l.x ≡ column_lines = omega (arith, l.invariant.most) in
    sym (rw e at l.invariant.whole ∙ from_past _ l.at l.steps (omega arith))

pub returns : goal.returns
returns c =
    let l = c.loop-x in
    let e : l.x ≡ column_lines = omega (arith, l.invariant.most) in
    sym (rw e at l.invariant.whole ∙ from_end _ l.at l.steps l.invariant.long (omega arith))

pub slice_bounds-put_row-count : goal.slice_bounds-put_row-count
slice_bounds-put_row-count c =
    let bytes : List ℕ = c.args.bytes.now in
    let end : let l = c.loop-x in c.line_end-end.result ≡ l.at + length (line_at bytes l.at) = c.line_end-end.ensures in
    omega (arith, end)

pub slice_bounds-put_row-start : goal.slice_bounds-put_row-start
slice_bounds-put_row-start c =
    let bytes : List ℕ = c.args.bytes.now in
    let end : let l = c.loop-x in c.line_end-end.result ≡ l.at + length (line_at bytes l.at) = c.line_end-end.ensures in
    omega (arith, end)

pub slice_bounds-put_row-end : goal.slice_bounds-put_row-end
slice_bounds-put_row-end c =
    let bytes : List ℕ = c.args.bytes.now in
    let end : let l = c.loop-x in c.line_end-end.result ≡ l.at + length (line_at bytes l.at) = c.line_end-end.ensures in
    let inside : c.line_end-end.result ≤ length bytes =
    let l = c.loop-x in
    omega (arith, end, place-within bytes l.at l.invariant.within) in
    inside
