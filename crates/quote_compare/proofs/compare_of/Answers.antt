-- `compare_of` meets its contract: the answers of `quote_of`, whose ends are small.
use mathlib.Core.Path.{◌≡◌}
use mir.Facts.{to_z-of_z}
use Rattle.quote.specs.Quote.{answer_of}
use Rattle.quote_compare.proofs.laws.SmallLaws.{answer-small}
use Rattle.quote_compare.proofs.compare_of.Goals as goal
use Rattle.quote_compare.proofs.compare_of.Tie as tie
use Rattle.quote_compare.proofs.compare_of.Lts as lts
use Rattle.quote_compare.proofs.compare_of.Reads as reads

first : (c : lts.After-quote_of tie.the-claims reads.Pre reads.Post tie.handed_clauses) → let s = c.before.args in
    c.quote_of-first.result ≡ answer_of s.p s.kind s.age s.year s.term
first c =
    let f = c.before.ranges in
    rw (to_z-of_z f.age, to_z-of_z f.year, to_z-of_z f.term) at c.quote_of-first.ensures.answered

second : (c : lts.After-quote_of2 tie.the-claims reads.Pre reads.Post tie.handed_clauses) → let s = c.before.before.args in
    c.quote_of-second.result ≡ answer_of s.p2 s.kind2 s.age2 s.year2 s.term2
second c =
    let f = c.before.before.ranges in
    rw (to_z-of_z f.age2, to_z-of_z f.year2, to_z-of_z f.term2) at c.quote_of-second.ensures.answered

pub compare-requires : goal.compare-requires
compare-requires c =
    let s = c.before.before.args in (
      rw (first c.before) (answer-small s.p s.kind s.age s.year s.term),
      rw (second c) (answer-small s.p2 s.kind2 s.age2 s.year2 s.term2),
    )

pub returns : goal.returns
returns c = rw (first c.before.before, second c.before) at c.compare.ensures
