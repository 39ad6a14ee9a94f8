-- The status of the two lives, of each kind.
use Rattle.quote_couple_kinds.specs.declared.Status.{Status}
use Rattle.quote_couple_kinds.specs.declared.Status.TheVariants as status
use Rattle.quote_couple_kinds.specs.declared.CoupleKind.{CoupleKind}
use Rattle.quote_couple_kinds.specs.declared.CoupleKind.TheVariants.{JointLife, LastSurvivor, JointExpectancy, LastExpectancy}

-- "both live": joint life; "at least one lives": last survivor
unfoldable pub status_of : CoupleKind → Status
status_of JointLife = status.JointLife
status_of LastSurvivor = status.LastSurvivor
status_of JointExpectancy = status.JointLife
status_of LastExpectancy = status.LastSurvivor
