-- `lines_end` meets its contract: what is left of the lines begins where the last one ended.
use mathlib.Core.Path.{◌≡◌, refl, ◌∙◌}
use Prim.Native.Nat.{ℕ, zero, suc, ◌+◌, ◌-◌, ◌≤◌, ◌<◌}
use native.Mathlib.Omega.{arith}
use mathlib.Core.List.{List}
use lib.ListN.{length, drop}
use lib.Seq.{drop-drop}
use Rattle.text_lines.specs.Lines.{first_line, after_line, first_lines}
use Rattle.text_lines.proofs.laws.LineLaws.{after-drop, lines-length, place-within}
use Rattle.text_lines.proofs.lines_end.Goals as goal

-- one line of those that are left
one_less : (bytes : List ℕ) (at left : ℕ) → 0 < left
    → at + length (first_lines left (drop at bytes))
    ≡ at + length (first_line (drop at bytes))
    + length (first_lines (left - 1) (drop (at + length (first_line (drop at bytes))) bytes))
one_less bytes at zero h = absurd (omega arith)
one_less bytes at (suc left) h =
    let l = first_line (drop at bytes) in
    let e : after_line (drop at bytes) ≡ drop (at + length l) bytes =
    after-drop (drop at bytes) ∙ drop-drop (length l) at bytes in
    let f : suc left - 1 ≡ left = omega arith in
    rw (f, ← e) (omega (arith, lines-length left (drop at bytes)))

-- none is left
none : (bytes : List ℕ) (at left : ℕ) → left ≤ 0 → length (first_lines left (drop at bytes)) ≡ 0
unfolding first_lines
none bytes at zero h = refl
none bytes at (suc left) h = absurd (omega arith)

pub loop-preserved : goal.loop-preserved
loop-preserved c =
    let bytes = c.args.bytes.now in
    let at = c.loop.at in
    let left = c.args.count - c.loop.counter in
    let e : c.line_end-at.result ≡ at + length (first_line (drop at bytes)) = c.line_end-at.ensures in
    let one : c.args.count - (c.loop.counter + 1) ≡ left - 1 = omega arith in
    record {
      within = rw e (place-within bytes at c.loop.invariant.within);
      ahead = rw (e, one) (c.loop.invariant.ahead ∙ one_less bytes at left (omega arith));
    }

pub returns : goal.returns
returns c = omega (arith, c.loop.invariant.ahead, none c.args.bytes.now c.loop.at (c.args.count - c.loop.counter) (omega arith))
