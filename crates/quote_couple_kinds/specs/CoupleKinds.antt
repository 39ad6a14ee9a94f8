-- The kinds of a couple's figures (paper 02, E8): "the chances that both live and that at least one lives after a span, and the
-- expectancy of each of these two states": joint life where both live, last survivor where at least one does. Of each the kind of
-- a single life that it follows.
use Rattle.std.specs.Prelude.{ℕ, ◌*◌}
use Rattle.quote_kinds.specs.declared.Kind.{Kind}
use Rattle.quote_kinds.specs.declared.Kind.TheVariants as kind
use Rattle.quote_kinds.specs.Kinds.{rule_of, width_of}
use Rattle.quote_couple_kinds.specs.declared.CoupleKind.{CoupleKind}
use Rattle.quote_couple_kinds.specs.declared.CoupleKind.TheVariants.{JointLife, LastSurvivor, JointExpectancy, LastExpectancy}

-- "Wanted, along the cohort": each life's path is that of `coh` or of `ecoh`. "Steps are those of the single life."
unfoldable pub single_of : CoupleKind → Kind
single_of JointLife = kind.CohortSurvival
single_of LastSurvivor = kind.CohortSurvival
single_of JointExpectancy = kind.CohortExpectancy
single_of LastExpectancy = kind.CohortExpectancy

-- "Ends may be twice as wide as for one life", which of these kinds is as wide at every age and over every span
unfoldable pub couple_width : CoupleKind → ℕ → ℕ → ℕ
couple_width k x span = 2 * width_of (rule_of (single_of k)) x span
