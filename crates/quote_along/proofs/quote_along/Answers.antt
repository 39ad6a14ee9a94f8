-- `quote_along` meets its contract: a coarse quote with an open figure is worked again, and a path in range is so on the fine grid.
use Rattle.std.proofs.Common.{◌≡◌, refl, sym, ap, ◌∙◌, Bool, true, false, ◌&&◌, List, arith}
use lib.Dec.{lit<}
use lib.Ieee.Bits.{is_true}
use Rattle.number_exponential.specs.Units.{billionths, grid_of, ten_trillionths}
use Rattle.number_exponential.specs.declared.GridUnit.{GridUnit}
use Rattle.number_exponential.specs.declared.GridUnit.TheVariants.{Coarse, Fine}
use Rattle.set_params.specs.declared.Params.{Params}
use Rattle.quote_paths.specs.declared.Fold.{Fold}
use Rattle.quote_paths.specs.Path.{Place, path_in_range}
use Rattle.quote_paths.proofs.laws.Answers.{path-finer}
use Rattle.quote_along.specs.QuoteBy.{Answer}
use Rattle.quote_along.specs.code.Code.{left_open, path_answer, path_quote}
use Rattle.quote_along.specs.laws.Again.{worked-again, worked-once}
use Rattle.quote_along.proofs.quote_along.Goals as goal

module _ (again : Bool) (p : Params) (fold : Fold) (path : List Place) where
  fine-too : path_in_range billionths p path ≡ true → path_in_range ten_trillionths p path ≡ true
  fine-too e = is_true (path_in_range ten_trillionths p path) (path-finer ten_trillionths p path (rw e tt))

  -- the coarse quote is to be worked again, or it is not
  path-again : again && left_open (path_answer Coarse p fold path) ≡ true → path_answer Fine p fold path ≡ path_quote again p fold path
  unfolding path_answer path_quote grid_of
  path-again = worked-again _ _ again _ _ fine-too

  path-once : again && left_open (path_answer Coarse p fold path) ≡ false → path_answer Coarse p fold path ≡ path_quote again p fold path
  unfolding path_answer path_quote grid_of
  path-once = worked-once _ _ again _

  -- the answer of a round, by its grid
  fine-round : {grid : GridUnit} {answer : Answer} → grid ≡ Fine → answer ≡ path_answer grid p fold path
      → again && left_open (path_answer Coarse p fold path) ≡ true → answer ≡ path_quote again p fold path
  fine-round e a h = a ∙ rw e (path-again h)

  asked : {grid : GridUnit} {answer : Answer} {b d : Bool} → grid ≡ Coarse → answer ≡ path_answer grid p fold path
      → b ≡ again && left_open answer → b ≡ d → again && left_open (path_answer Coarse p fold path) ≡ d
  asked e a o h = rw (← rw e at a) (sym o ∙ h)

  coarse-round : {grid : GridUnit} {answer : Answer} {b : Bool} → grid ≡ Coarse → answer ≡ path_answer grid p fold path
      → b ≡ again && left_open answer → b ≡ false → answer ≡ path_quote again p fold path
  coarse-round e a o h = rw e at a ∙ path-once (asked e a o h)

pub returns-in_default : goal.returns-in_default
returns-in_default c part h = coarse-round _ _ _ _ c.in-Coarse.is (c.answer_along-answer.ensures part h) c.is_left_open.ensures c.if-is_left_open.false

pub returns-in_default-2 : goal.returns-in_default-2
returns-in_default-2 c part h = fine-round _ _ _ _ c.in_default.is (c.answer_along-answer.ensures part h) (c.round.invariant part h c.in_default.is)

pub round-preserved : goal.round-preserved
round-preserved c part h e = asked _ _ _ _ c.in-Coarse.is (c.answer_along-answer.ensures part h) c.is_left_open.ensures c.if-is_left_open.true

pub round-smaller : goal.round-smaller
round-smaller c = rw c.in-Coarse.is (lit< tt)
