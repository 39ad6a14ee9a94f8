-- `q_at` meets its contract: a digit, a point and five digits are read, or one of them is missing.
use mathlib.Core.Bool.{not}
use mathlib.Core.Path.{ap}
use mathlib.Core.Path.{◌≡◌, sym, ◌∙◌}
use native.Mathlib.Omega.{arith}
use lib.ListN.{drop}
use Rattle.text_tokens.specs.Text.{bytes_of, taken}
use Rattle.text_tokens.specs.laws.TextLaws.{text-found, text-missing, text-room}
use Rattle.text_tokens.specs.laws.ReadLaws.{lacks, has}
use Rattle.text_tokens.specs.laws.Steps.{goes, stops}
use Rattle.text_tokens.specs.Number.{read_digits}
use Rattle.run_column_text.specs.Column.{wholes, read_q}
use Rattle.run_column_text.specs.code.Code.{unsigned_read}
use Rattle.run_column_text.specs.laws.QLaws.{digits-small}
use Rattle.run_column_text.proofs.EntrySteps.{from_point, digit-malformed, digit-taken, unsigned-malformed, unsigned-taken}
use Rattle.run_column_text.proofs.q_at.Goals as goal

-- ---- the needs

pub returns-in_err-first : goal.returns-in_err-first
returns-in_err-first c =
    ap (unsigned_read c.args.bytes.now) c.from_residual.ensures
    ∙ sym (digit-malformed _ (unsigned-malformed _ c.digits_at.ensures c.in_err-first.was))

pub returns-then-not-text_at : goal.returns-then-not-text_at
unfolding bytes_of
returns-then-not-text_at c =
    let first_taken : let s = c.args in read_digits 0 wholes (drop s.at s.bytes.now) ≡ taken c.in_ok-first.first (drop c.in_ok-first.after s.bytes.now) = unsigned-taken _ c.digits_at.ensures c.in_ok-first.was in
    let after_first : let s = c.args in read_q (drop s.at s.bytes.now) ≡ from_point c.in_ok-first.first (drop c.in_ok-first.after s.bytes.now) = digit-taken _ first_taken in
    sym (after_first ∙ stops _ (text-missing _ _ (bytes_of ".") (lacks c.text_at.ensures (ap not c.if-not-text_at.true))))

pub overflow_add-after : goal.overflow_add-after
overflow_add-after c =
    omega (arith, c.well_formed.0, text-room _ _ _ (has c.text_at.ensures (ap not c.if-not-text_at.false)))

pub digits_at-requires-2 : goal.digits_at-requires-2
digits_at-requires-2 c =
    let first_taken : let s = c.args in read_digits 0 wholes (drop s.at s.bytes.now) ≡ taken c.in_ok-first.first (drop c.in_ok-first.after s.bytes.now) = unsigned-taken _ c.digits_at.ensures c.in_ok-first.was in
    (omega arith, omega (arith, digits-small _ _ _ first_taken))

pub returns : goal.returns
unfolding bytes_of
returns c =
    let first_taken : let s = c.args in read_digits 0 wholes (drop s.at s.bytes.now) ≡ taken c.in_ok-first.first (drop c.in_ok-first.after s.bytes.now) = unsigned-taken _ c.digits_at.ensures c.in_ok-first.was in
    let after_first : let s = c.args in read_q (drop s.at s.bytes.now) ≡ from_point c.in_ok-first.first (drop c.in_ok-first.after s.bytes.now) = digit-taken _ first_taken in
    c.digits_at-2.ensures
    ∙ sym (after_first ∙ goes _ (text-found _ _ (bytes_of ".") (has c.text_at.ensures (ap not c.if-not-text_at.false))))
