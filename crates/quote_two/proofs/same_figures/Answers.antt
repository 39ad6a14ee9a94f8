-- `same_figures` meets its contract: of one kind the figures are compared, and else the kinds are told to be others.
use mathlib.Core.Path.{sym, ◌∙◌}
use mir.Facts.{to_z-of_z}
use Rattle.quote_two.specs.laws.ClaimLaws.{kinds-one, not-one-kind}
use Rattle.quote_two.proofs.same_figures.Goals as goal

pub same_printed-requires : goal.same_printed-requires
same_printed-requires c = kinds-one _ _ (sym c.before.one_kind.ensures ∙ c.if-one_kind.true)

pub returns-then-one_kind : goal.returns-then-one_kind
returns-then-one_kind c =
    let f = c.before.before.before.ranges in
    rw (
      to_z-of_z f.age,
      to_z-of_z f.year,
      to_z-of_z f.term,
      to_z-of_z f.age2,
      to_z-of_z f.year2,
      to_z-of_z f.term2,
    ) at c.same_printed.ensures

pub returns : goal.returns
returns c = not-one-kind (sym c.before.one_kind.ensures ∙ c.if-one_kind.false)
