-- What the calls of `folded` ask: a survival is at most 1, and the rate is a whole number within its limit.
use borrow.Author.Rules.{rules}
use lib.IntN.{ℤ}
use mir.Syntax.{w64}
use mir.Val.{SFits}
use mir.Facts.{to_z-of_z}
use Rattle.number_exponential.specs.Units.{grid_of}
use Rattle.number_folds.specs.code.Code.{AtMost}
use Rattle.number_folds.proofs.laws.Bounds.{survival-at-most}
use Rattle.quote_paths.specs.declared.Fold.TheVariants.{Annuity}
use Rattle.quote_kinds.specs.Kinds.{rate_of}
use Rattle.quote_kinds.specs.code.Code.{RateWithin}
use Rattle.quote_kinds.proofs.Casts.{cast-whole}
use Rattle.quote_kinds.proofs.folded.Goals as goal

pub death_of-requires : goal.death_of-requires
death_of-requires c =
    let g = grid_of c.args.grid in
    let h = survival-at-most g g.positive c.requires.0.each in
    let k : AtMost g.unit c.survival_over.result = rw c.survival_over.ensures h in
    (k.lower, k.upper)

-- the rate in the annuity's arm
abbrev rate : goal.In-Annuity → ℤ
rate c = c.in-Annuity.rate

rate-fits : (c : goal.In-Annuity) → SFits w64 (rate c)
rate-fits c = search rules

rate-within : (c : goal.In-Annuity) → RateWithin (Annuity (rate c))
rate-within c = rw c.in-Annuity.is at c.requires.1

pub overflow_cast-rate : goal.overflow_cast-rate
unfolding rate_of
overflow_cast-rate c = cast-whole (rate-fits c) (rate-within c).is

pub annuity_over-requires : goal.annuity_over-requires
unfolding rate_of
annuity_over-requires c = (c.requires.0, rw (to_z-of_z (rate-fits c)) (rate-within c).most)
