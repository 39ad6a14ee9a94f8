-- `compare` meets its contract: the first refusal, or the quotes compared.
use Rattle.std.specs.Prelude.{Ok}
use Rattle.std.proofs.lemmas.Result.{err_from_is_err_and}
use mathlib.Core.Path.{◌≡◌, sym}
use Rattle.quote_along.specs.declared.Quote.{Quote}
use Rattle.quote_along.specs.QuoteBy.{Answer}
use Rattle.quote_compare.specs.code.Sizes.{SmallQuote, SmallAnswer}
use Rattle.quote_compare.proofs.laws.CompareLaws.{first-refused, second-refused, both-quoted}
use Rattle.quote_compare.proofs.compare.Goals as goal

-- the quote of an answer whose ends are small
small-quote : {a : Answer} {q : Quote} → a ≡ Ok q → SmallAnswer a → SmallQuote q
unfolding SmallAnswer
small-quote e s = rw e at s

pub pair_of-requires : goal.pair_of-requires
pair_of-requires c =
    let p = c.requires in
    (small-quote c.in_ok-first.was p.0, small-quote c.in_ok-second.was p.1)

pub returns-in_err-first : goal.returns-in_err-first
returns-in_err-first c =
    let p = err_from_is_err_and c.from_residual.result c.from_residual.ensures.1 in
    rw (p.1, p.2) (sym (first-refused c.args.b c.in_err-first.was))

pub returns-in_err-second : goal.returns-in_err-second
returns-in_err-second c =
    let p = err_from_is_err_and c.from_residual-in_err-second.result c.from_residual-in_err-second.ensures.1 in
    rw (p.1, p.2) (sym (second-refused c.in_ok-first.was c.in_err-second.was))

pub returns : goal.returns
returns c = sym (both-quoted c.in_ok-first.was c.in_ok-second.was c.pair_of.ensures)
