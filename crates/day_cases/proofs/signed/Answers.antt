-- `signed` is safe: −1 − (2⁶⁴ − 1 − word) is at least −2⁶³ where the word is at least 2⁶³.
use Prim.Native.Nat.{ℕ, suc, ◌-◌, ◌^◌, ◌<◌}
use native.Mathlib.Omega.{arith}
use lib.IntN.{pos, negsuc, ◌-ℤ◌}
use mir.Syntax.{w64}
use mir.Val.{SFits}
use mir.Facts.{to_z_pos}
use Rattle.number_whole.proofs.laws.Split.{split-sub}
use Rattle.number_whole.proofs.laws.Bound.{fits-parts}
use Rattle.day_cases.proofs.signed.Goals as goal

below-zero : (n : ℕ) → n < 2 ^ 63 → SFits w64 (negsuc 0 -ℤ pos n)
below-zero n h =
    fits-parts (negsuc 0 -ℤ pos n) 0 (suc n) (omega (arith, split-sub (negsuc 0) (pos n))) (omega arith) (omega arith)

pub overflow_sub-result-2 : goal.overflow_sub-result-2
overflow_sub-result-2 c =
    let n = 18446744073709551615 - c.before.args.word in
    let h : n < 2 ^ 63 = omega arith in
    rw (to_z_pos w64 {n = n} h) (below-zero n h)
