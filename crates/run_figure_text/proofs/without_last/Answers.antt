-- `without_last` meets its contract: each turn takes one more digit away.
use Rattle.std.proofs.Common.{◌≡◌, ℕ, ◌+◌, ◌/◌, ◌^◌, div-one, add-one, sym, ap, ◌∙◌}
use Rattle.std.proofs.Math.Nat.{pow-suc, div-div-eq-div-mul}
use Rattle.run_figure_text.proofs.without_last.Goals as goal

one-more : (n k : ℕ) → n / 10 ^ k / 10 ≡ n / 10 ^ (k + 1)
one-more n k = rw (add-one k, pow-suc) (div-div-eq-div-mul n (10 ^ k) 10)

pub loop-taken-init : goal.loop-taken-init
loop-taken-init c = sym (div-one c.args.n)

pub loop-taken-preserved : goal.loop-taken-preserved
loop-taken-preserved c =
    let l = c.loop-taken in
    ap (λ (n : ℕ). n / 10) l.invariant ∙ one-more c.args.n l._taken
