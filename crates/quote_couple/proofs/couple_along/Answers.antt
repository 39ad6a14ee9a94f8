-- `couple_along` meets its contract: a coarse quote with an open figure is worked again, and two paths in range are so on the fine grid.
use Rattle.std.proofs.Common.{◌≡◌, sym, ap, ◌∙◌, Bool, true, false, List}
use lib.Dec.{lit<}
use lib.Ieee.Bits.{is_true}
use Rattle.std.proofs.Math.Facts.{and_yes, yes_and}
use Rattle.number_exponential.specs.Units.{billionths, grid_of, ten_trillionths}
use Rattle.number_exponential.specs.declared.GridUnit.{GridUnit}
use Rattle.number_exponential.specs.declared.GridUnit.TheVariants.{Coarse, Fine}
use Rattle.set_params.specs.declared.Params.{Params}
use Rattle.quote_paths.specs.Path.{Place, path_in_range}
use Rattle.quote_paths.proofs.laws.Answers.{path-finer}
use Rattle.quote_couple_kinds.specs.declared.CoupleKind.{CoupleKind}
use Rattle.quote_along.specs.QuoteBy.{Answer}
use Rattle.quote_along.specs.code.Code.{left_open, quote_for}
use Rattle.quote_along.specs.laws.Again.{worked-again, worked-once}
use Rattle.quote_couple.specs.code.Code.{paths_in_range, paths_answer, paths_quote}
use Rattle.quote_couple.proofs.couple_along.Goals as goal

module _ (p p' : Params) (k : CoupleKind) (path path' : List Place) where
  fine-too : paths_in_range billionths p p' path path' ≡ true → paths_in_range ten_trillionths p p' path path' ≡ true
  fine-too e =
      let b = and_yes (path_in_range billionths p path) (path_in_range billionths p' path') (rw e tt) in
      is_true (paths_in_range ten_trillionths p p' path path')
      (yes_and (path_in_range ten_trillionths p path) (path_in_range ten_trillionths p' path') (path-finer ten_trillionths p path b.0)
      (path-finer ten_trillionths p' path' b.1))

  -- the coarse quote is to be worked again, or it is not
  paths-again : left_open (paths_answer Coarse p p' k path path') ≡ true → paths_answer Fine p p' k path path' ≡ paths_quote p p' k path path'
  unfolding paths_answer paths_quote grid_of quote_for
  paths-again = worked-again _ _ true _ _ fine-too

  paths-once : left_open (paths_answer Coarse p p' k path path') ≡ false → paths_answer Coarse p p' k path path' ≡ paths_quote p p' k path path'
  unfolding paths_answer paths_quote grid_of quote_for
  paths-once = worked-once _ _ true _

  -- the answer of a round, by its grid
  fine-round : {grid : GridUnit} {answer : Answer} → grid ≡ Fine → answer ≡ paths_answer grid p p' k path path'
      → left_open (paths_answer Coarse p p' k path path') ≡ true → answer ≡ paths_quote p p' k path path'
  fine-round e a h = a ∙ rw e (paths-again h)

  asked : {grid : GridUnit} {answer : Answer} {b d : Bool} → grid ≡ Coarse → answer ≡ paths_answer grid p p' k path path'
      → b ≡ left_open answer → b ≡ d → left_open (paths_answer Coarse p p' k path path') ≡ d
  asked e a o h = rw (← rw e at a) (sym o ∙ h)

  coarse-round : {grid : GridUnit} {answer : Answer} {b : Bool} → grid ≡ Coarse → answer ≡ paths_answer grid p p' k path path'
      → b ≡ left_open answer → b ≡ false → answer ≡ paths_quote p p' k path path'
  coarse-round e a o h = rw e at a ∙ paths-once (asked e a o h)

pub returns-in_default : goal.returns-in_default
returns-in_default c = coarse-round _ _ _ _ _ c.in-Coarse.is c.answer_on-answer.ensures c.is_left_open.ensures c.if-is_left_open.false

pub returns-in_default-2 : goal.returns-in_default-2
returns-in_default-2 c = fine-round _ _ _ _ _ c.in_default.is c.answer_on-answer.ensures (c.round.invariant c.in_default.is)

pub round-preserved : goal.round-preserved
round-preserved c e = asked _ _ _ _ _ c.in-Coarse.is c.answer_on-answer.ensures c.is_left_open.ensures c.if-is_left_open.true

pub round-smaller : goal.round-smaller
round-smaller c = rw c.in-Coarse.is (lit< tt)
