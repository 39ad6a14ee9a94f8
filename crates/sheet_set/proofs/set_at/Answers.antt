-- `set_at` meets its contract: the four lines of the series, those of the start and c, and then those of the ages.
use mathlib.Core.Path.{◌≡◌, refl, sym, ap, ◌∙◌}
use native.Mathlib.Omega.{arith}
use borrow.Author.Rules.{rules}
use lib.IntN.{pos}
use lib.ListN.{drop, get_or}
use mir.Val.{of_z, to_z}
use Rattle.std.specs.Int.{w64}
use Rattle.text_words.specs.laws.ShortTextLaws.{holds-joins, holds-sized}
use Rattle.text_tokens.specs.Text.{bytes_of}
use Rattle.sheet_set.specs.code.Ages.{set_read, ages_read}
use Rattle.sheet_set.specs.code.SetLines.{from_lines}
use Rattle.sheet_set.specs.laws.LinesLaws.{four-values}
use Rattle.sheet_set.specs.laws.SetLaws.{series-malformed, start-malformed, start-values, series-read}
use Rattle.sheet_set.proofs.Joined.{joined-holds}
use Rattle.sheet_set.proofs.set_at.Goals as goal
use Rattle.sheet_set.proofs.set_at.Goals.{After-ages_at}

pub joined-requires : goal.joined-requires
joined-requires c = holds-joins c.three.ensures c.three-2.ensures (omega arith) (omega arith)

pub four_at-requires : goal.four_at-requires
four_at-requires c = (
  holds-sized c.two.ensures (omega arith),
  holds-sized (joined-holds c.three.ensures c.three-2.ensures c.joined.ensures) (omega arith),
  holds-sized c.two-2.ensures (omega arith),
  holds-sized c.two-3.ensures (omega arith),
)

-- ---- what was read: the lines of the series were read or malformed as their keys say

pub returns-in_err-a : goal.returns-in_err-a
unfolding bytes_of
returns-in_err-a c =
    let theta = joined-holds c.three.ensures c.three-2.ensures c.joined.ensures in
    ap (set_read c.args.bytes.now) c.from_residual.ensures
    ∙ sym
    (series-malformed _ _ _ (sym (c.in_err-a.ensures _ _ _ _ (record { text = c.two.ensures.holds }) (record { text = theta.holds })
    (record { text = c.two-2.ensures.holds }) (record { text = c.two-3.ensures.holds }))))

pub returns-in_err-start : goal.returns-in_err-start
unfolding bytes_of
returns-in_err-start c =
    let theta = joined-holds c.three.ensures c.three-2.ensures c.joined.ensures in
    ap (set_read c.args.bytes.now) c.from_residual-in_err-start.ensures
    ∙ sym
    (start-malformed _ _ _ (sym (c.in_ok-a.ensures _ _ _ _ (record { text = c.two.ensures.holds }) (record { text = theta.holds })
    (record { text = c.two-2.ensures.holds }) (record { text = c.two-3.ensures.holds }))) (sym c.in_err-start.ensures))

-- what is read of the ages is what is read of all lines
all_lines : (c : After-ages_at)
    → ages_read c.args.bytes.now c.ages_at.new.set c.ages_at.result
    ≡ from_lines c.args.table c.args.sex (drop c.args.at c.args.bytes.now)
unfolding bytes_of
all_lines c =
    let theta = joined-holds c.three.ensures c.three-2.ensures c.joined.ensures in
    let vs = c.in_ok-a.field-0-0 in
    let us = c.in_ok-start.field-0-0 in
    let a-held : to_z w64 (of_z w64 (get_or vs 0 (pos 0))) ≡ get_or vs 0 (pos 0) = search rules in
    let theta-held : to_z w64 (of_z w64 (get_or vs 1 (pos 0))) ≡ get_or vs 1 (pos 0) = search rules in
    let period-held : to_z w64 (of_z w64 (get_or vs 2 (pos 0))) ≡ get_or vs 2 (pos 0) = search rules in
    let kappa-held : to_z w64 (of_z w64 (get_or vs 3 (pos 0))) ≡ get_or vs 3 (pos 0) = search rules in
    let start-held : to_z w64 (of_z w64 (get_or us 0 (pos 0))) ≡ get_or us 0 (pos 0) = search rules in
    let c-held : to_z w64 (of_z w64 (get_or us 1 (pos 0))) ≡ get_or us 1 (pos 0) = search rules in
    c.ages_at.ensures
    ∙ sym
    (series-read _ _ {mid = drop c.in_ok-a.after c.args.bytes.now}
    (rw (a-held, theta-held, period-held, kappa-held)
    (four-values _ _ refl (sym (c.in_ok-a.ensures _ _ _ _ (record { text = c.two.ensures.holds }) (record { text = theta.holds })
    (record { text = c.two-2.ensures.holds }) (record { text = c.two-3.ensures.holds })))))
    (rw (start-held, c-held) (start-values _ _ (sym c.in_ok-start.ensures))))

pub returns-in_err-next : goal.returns-in_err-next
returns-in_err-next c =
    ap (set_read c.args.bytes.now) c.from_residual-in_err-next.ensures
    ∙ sym (ap (ages_read c.args.bytes.now c.ages_at.new.set) c.in_err-next.was)
    ∙ all_lines (goal.at.returns-in_err-next c).After-ages_at

pub returns : goal.returns
returns c =
    sym (ap (ages_read c.args.bytes.now c.ages_at.new.set) c.in_ok-next.was) ∙ all_lines (goal.at.returns c).After-ages_at
