-- `four_at` meets its contract: the four lines one after another, each read or malformed.
use mathlib.Core.Path.{◌≡◌, sym, ap, ◌∙◌}
use mir.Val.{of_z, to_z}
use Rattle.std.specs.Int.{w64}
use borrow.Author.Rules.{rules}
use Rattle.sheet.specs.code.Lines.{lines_read}
use Rattle.sheet.proofs.laws.FourLaws.{four-malformed₀, four-malformed₁, four-malformed₂, four-malformed₃, four-taken}
use Rattle.sheet.proofs.four_at.Goals as goal

pub returns-in_err-v0 : goal.returns-in_err-v0
returns-in_err-v0 c k₀ k₁ k₂ k₃ e₀ e₁ e₂ e₃ =
    ap (lines_read c.args.bytes.now) c.from_residual.ensures
    ∙ sym (four-malformed₀ _ _ _ _ _ (sym (c.in_err-v0.ensures k₀ e₀)))

pub returns-in_err-v1 : goal.returns-in_err-v1
returns-in_err-v1 c k₀ k₁ k₂ k₃ e₀ e₁ e₂ e₃ =
    ap (lines_read c.args.bytes.now) c.from_residual-in_err-v1.ensures
    ∙ sym (four-malformed₁ _ _ _ _ _ (sym (c.in_ok-v0.ensures k₀ e₀)) (sym (c.in_err-v1.ensures k₁ e₁)))

pub returns-in_err-v2 : goal.returns-in_err-v2
returns-in_err-v2 c k₀ k₁ k₂ k₃ e₀ e₁ e₂ e₃ =
    ap (lines_read c.args.bytes.now) c.from_residual-in_err-v2.ensures
    ∙ sym
    (four-malformed₂ _ _ _ _ _ (sym (c.in_ok-v0.ensures k₀ e₀)) (sym (c.in_ok-v1.ensures k₁ e₁))
    (sym (c.in_err-v2.ensures k₂ e₂)))

pub returns-in_err-v3 : goal.returns-in_err-v3
returns-in_err-v3 c k₀ k₁ k₂ k₃ e₀ e₁ e₂ e₃ =
    ap (lines_read c.args.bytes.now) c.from_residual-in_err-v3.ensures
    ∙ sym
    (four-malformed₃ _ _ _ _ _ (sym (c.in_ok-v0.ensures k₀ e₀)) (sym (c.in_ok-v1.ensures k₁ e₁))
    (sym (c.in_ok-v2.ensures k₂ e₂)) (sym (c.in_err-v3.ensures k₃ e₃)))

pub returns : goal.returns
returns c k₀ k₁ k₂ k₃ e₀ e₁ e₂ e₃ =
    let held₀ : to_z w64 (of_z w64 c.in_ok-v0.v0) ≡ c.in_ok-v0.v0 = search rules in
    let held₁ : to_z w64 (of_z w64 c.in_ok-v1.v1) ≡ c.in_ok-v1.v1 = search rules in
    let held₂ : to_z w64 (of_z w64 c.in_ok-v2.v2) ≡ c.in_ok-v2.v2 = search rules in
    let held₃ : to_z w64 (of_z w64 c.in_ok-v3.v3) ≡ c.in_ok-v3.v3 = search rules in
    rw (held₀, held₁, held₂, held₃)
    (sym
    (four-taken _ _ _ _ _ (sym (c.in_ok-v0.ensures k₀ e₀)) (sym (c.in_ok-v1.ensures k₁ e₁))
    (sym (c.in_ok-v2.ensures k₂ e₂)) (sym (c.in_ok-v3.ensures k₃ e₃))))
