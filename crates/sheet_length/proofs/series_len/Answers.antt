-- `series_len` meets its contract: the four lines have at most 23 bytes each, and their sum is the length of them all.
use mathlib.Core.Path.{◌≡◌, ap, ◌∙◌}
use native.Mathlib.Omega.{arith}
use Rattle.sheet_length.specs.code.Parts.{line_length}
use Rattle.sheet_length.specs.laws.PartsLaws.{series-length}
use Rattle.sheet_length.specs.laws.Held.{SeriesHeld, series-held}
use Rattle.sheet_length.proofs.series_len.Goals as goal

-- ---- the needs

pub line_len-requires : goal.line_len-requires
line_len-requires c =
    let values : SeriesHeld c.args.p = series-held c.args.p c.requires in
    (omega arith, values.a.small)

pub line_len-requires-2 : goal.line_len-requires-2
line_len-requires-2 c =
    let values : SeriesHeld c.args.p = series-held c.args.p c.requires in
    (omega arith, values.theta.small)

pub line_len-requires-3 : goal.line_len-requires-3
line_len-requires-3 c =
    let values : SeriesHeld c.args.p = series-held c.args.p c.requires in
    (omega arith, values.period.small)

pub line_len-requires-4 : goal.line_len-requires-4
line_len-requires-4 c =
    let values : SeriesHeld c.args.p = series-held c.args.p c.requires in
    (omega arith, values.kappa.small)

pub returns : goal.returns
returns c =
    let values : SeriesHeld c.args.p = series-held c.args.p c.requires in
    let a-line : c.line_len.result ≡ line_length 1 c.args.p.a = c.line_len.ensures.0 ∙ ap (line_length 1) values.a.is in
    let theta-line : c.line_len-2.result ≡ line_length 5 c.args.p.theta = c.line_len-2.ensures.0 ∙ ap (line_length 5) values.theta.is in
    let period-line : c.line_len-3.result ≡ line_length 1 c.args.p.period = c.line_len-3.ensures.0 ∙ ap (line_length 1) values.period.is in
    let kappa-line : c.line_len-4.result ≡ line_length 1 c.args.p.kappa = c.line_len-4.ensures.0 ∙ ap (line_length 1) values.kappa.is in
    let n = series-length c.args.p in
    omega (arith, a-line, theta-line, period-line, kappa-line, n)
