-- `entry_of` meets its contract: each part of the line is found at its place and leaves the others to be read, or the line is
-- malformed.
use mathlib.Core.Bool.{not}
use mathlib.Core.Path.{ap}
use borrow.Author.Rules.{rules}
use mathlib.Core.Path.{◌≡◌, sym, ◌∙◌}
use mir.Val.{of_z, to_z}
use Rattle.std.specs.Int.{w64}
use Rattle.run_column_text.specs.code.Code.{entry_read}
use Prim.Native.Nat.{ℕ, ◌+◌}
use native.Mathlib.Omega.{arith}
use mathlib.Core.List.{List}
use lib.ListN.{drop}
use Rattle.text_tokens.specs.Text.{bytes_of}
use Rattle.text_tokens.specs.laws.TextLaws.{text-found, text-missing, text-room}
use Rattle.text_tokens.specs.laws.ReadLaws.{lacks, has, read-malformed, read_taken}
use Rattle.text_tokens.specs.laws.Steps.{goes, stops}
use Rattle.run_query.specs.Query.{ended}
use Rattle.run_query.proofs.QuerySteps.{line-ended, line-goes-on}
use Rattle.run_column_text.specs.declared.Entry.{Entry}
use Rattle.run_column_text.specs.Column.{read_entry}
use Rattle.run_column_text.proofs.EntrySteps.{from_q, from_name, age-malformed, age-taken, unsigned-malformed, unsigned-taken}
use Rattle.run_column_text.proofs.entry_of.Goals as goal

-- ---- the needs

pub returns-in_err-age : goal.returns-in_err-age
unfolding bytes_of
returns-in_err-age c = ap entry_read c.from_residual.ensures ∙ sym (age-malformed _ (read-malformed _ c.field_at.ensures c.in_err-age.was))

pub returns-then-not-text_at : goal.returns-then-not-text_at
unfolding bytes_of
returns-then-not-text_at c =
    let line : List ℕ = c.args.line.now in
    let after-age : read_entry line ≡ from_name c.in_ok-age.age (drop c.in_ok-age.after_age line) = age-taken _ (read_taken _ c.field_at.ensures c.in_ok-age.was) in
    sym (after-age ∙ stops _ (text-missing _ _ (bytes_of " q=") (lacks c.text_at.ensures (ap not c.if-not-text_at.true))))

pub overflow_add-after_age : goal.overflow_add-after_age
overflow_add-after_age c =
    omega (arith, c.well_formed.0, text-room _ _ _ (has c.text_at.ensures (ap not c.if-not-text_at.false)))

pub returns-in_err-steps : goal.returns-in_err-steps
unfolding bytes_of
returns-in_err-steps c =
    let line : List ℕ = c.args.line.now in
    let after-age : read_entry line ≡ from_name c.in_ok-age.age (drop c.in_ok-age.after_age line) = age-taken _ (read_taken _ c.field_at.ensures c.in_ok-age.was) in
    let after-name : read_entry line ≡ from_q c.in_ok-age.age (drop (c.in_ok-age.after_age + 3) line) = after-age ∙ goes _ (text-found _ _ (bytes_of " q=") (has c.text_at.ensures (ap not c.if-not-text_at.false))) in
    ap entry_read c.from_residual-in_err-steps.ensures ∙ sym (after-name ∙ stops _ (unsigned-malformed _ c.q_at.ensures c.in_err-steps.was))

pub returns-then-not-ends_at : goal.returns-then-not-ends_at
unfolding bytes_of
returns-then-not-ends_at c =
    let line : List ℕ = c.args.line.now in
    let said : Entry = record { age = c.in_ok-age.age; steps = c.in_ok-steps.steps } in
    let after-age : read_entry line ≡ from_name c.in_ok-age.age (drop c.in_ok-age.after_age line) = age-taken _ (read_taken _ c.field_at.ensures c.in_ok-age.was) in
    let after-name : read_entry line ≡ from_q c.in_ok-age.age (drop (c.in_ok-age.after_age + 3) line) = after-age ∙ goes _ (text-found _ _ (bytes_of " q=") (has c.text_at.ensures (ap not c.if-not-text_at.false))) in
    let after-q : read_entry line ≡ ended said (drop c.in_ok-steps.after_q line) = after-name ∙ goes _ (unsigned-taken _ c.q_at.ensures c.in_ok-steps.was) in
    sym (after-q ∙ line-goes-on _ _ (lacks c.ends_at.ensures (ap not c.if-not-ends_at.true)))

pub returns : goal.returns
unfolding bytes_of
returns c =
    let line : List ℕ = c.args.line.now in
    let said : Entry = record { age = c.in_ok-age.age; steps = c.in_ok-steps.steps } in
    let after-age : read_entry line ≡ from_name c.in_ok-age.age (drop c.in_ok-age.after_age line) = age-taken _ (read_taken _ c.field_at.ensures c.in_ok-age.was) in
    let after-name : read_entry line ≡ from_q c.in_ok-age.age (drop (c.in_ok-age.after_age + 3) line) = after-age ∙ goes _ (text-found _ _ (bytes_of " q=") (has c.text_at.ensures (ap not c.if-not-text_at.false))) in
    let after-q : read_entry line ≡ ended said (drop c.in_ok-steps.after_q line) = after-name ∙ goes _ (unsigned-taken _ c.q_at.ensures c.in_ok-steps.was) in
    let held : to_z w64 (of_z w64 c.in_ok-age.age) ≡ c.in_ok-age.age = search rules in
    rw held
    (sym (after-q ∙ line-ended _ _ (has c.ends_at.ensures (ap not c.if-not-ends_at.false))))
