-- `target_query_of` meets its contract: each part of the line is found at its place and leaves the others to be read, or the line
-- is malformed.
use mathlib.Core.Bool.{not}
use mathlib.Core.Path.{ap}
use borrow.Author.Rules.{rules}
use mir.Facts.{to_z-of_z}
use mir.Val.{SFits}
use mir.Syntax.{w64}
use mathlib.Core.Path.{◌≡◌, sym, ◌∙◌}
use Prim.Native.Nat.{ℕ}
use mathlib.Core.List.{List}
use lib.IntN.{ℤ}
use Rattle.text_tokens.specs.Text.{bytes_of, Parse, malformed, taken, and_then}
use Rattle.text_tokens.specs.laws.ReadLaws.{lacks, has, read-malformed, read_taken}
use Rattle.text_tokens.specs.laws.Steps.{goes, stops}
use Rattle.run_query.specs.Query.{read_field, ended}
use Rattle.run_query.proofs.QuerySteps.{line-ended, line-goes-on}
use Rattle.run_target_line.specs.declared.TargetQuery.{TargetQuery}
use Rattle.run_target_line.specs.TargetLine.{read_target}
use Rattle.run_target_line.specs.code.Code.{target_read}
use Rattle.run_target_line.proofs.target_query_of.Goals as goal

-- ---- what is still to be read

abbrev from_target : ℤ → List ℕ → Parse TargetQuery
from_target age bs =
    and_then (read_field (bytes_of " target=") bs) (λ target rest. ended (record { age = age; target = target }) rest)

age-malformed : (line : List ℕ) → read_field (bytes_of "age=") line ≡ malformed → read_target line ≡ malformed
unfolding read_target
age-malformed line e = stops _ e

age-taken : (line : List ℕ) {age : ℤ} {rest : List ℕ} → read_field (bytes_of "age=") line ≡ taken age rest
    → read_target line ≡ from_target age rest
unfolding read_target
age-taken line e = goes _ e

-- ---- the needs

pub returns-in_err-age : goal.returns-in_err-age
unfolding bytes_of
returns-in_err-age c = ap target_read c.from_residual.ensures ∙ sym (age-malformed _ (read-malformed _ c.field_at.ensures c.in_err-age.was))

pub returns-in_err-target : goal.returns-in_err-target
unfolding bytes_of
returns-in_err-target c =
    ap target_read c.from_residual-in_err-target.ensures ∙ sym (age-taken _ (read_taken _ c.field_at.ensures c.in_ok-age.was) ∙ stops _ (read-malformed _ c.field_at-2.ensures c.in_err-target.was))

pub returns-then-not-ends_at : goal.returns-then-not-ends_at
unfolding bytes_of
returns-then-not-ends_at c =
    sym (age-taken _ (read_taken _ c.field_at.ensures c.in_ok-age.was) ∙ goes _ (read_taken _ c.field_at-2.ensures c.in_ok-target.was)
    ∙ line-goes-on _ _ (lacks c.ends_at.ensures (ap not c.if-not-ends_at.true)))

pub returns : goal.returns
unfolding bytes_of
returns c =
    let f : SFits w64 c.in_ok-age.age = search rules in
    let g : SFits w64 c.in_ok-target.target = search rules in
    rw (to_z-of_z f, to_z-of_z g)
    (sym (age-taken _ (read_taken _ c.field_at.ensures c.in_ok-age.was) ∙ goes _ (read_taken _ c.field_at-2.ensures c.in_ok-target.was)
    ∙ line-ended _ _ (has c.ends_at.ensures (ap not c.if-not-ends_at.false))))
