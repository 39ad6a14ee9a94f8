-- `put_quote` meets its contract: short, or the five numbers.
use native.Mathlib.Omega.{arith}
use Rattle.c_sheet_quote.specs.laws.AnswerLaws.{put-short, put_whole}
use Rattle.c_sheet_quote.proofs.put_quote.Goals as goal

pub returns-then-numbers-lt-QUOTE_LENGTH : goal.returns-then-numbers-lt-QUOTE_LENGTH
returns-then-numbers-lt-QUOTE_LENGTH c =
    let m = put-short c.args.quote c.args.numbers.now (omega (arith, c.if-numbers-lt-QUOTE_LENGTH.true)) c.refusal_number.ensures in
    record { value = m.0; numbers_after = m.1 }

pub returns : goal.returns
returns c =
    let p = c in
    let m = put_whole c.args.quote c.args.numbers.now (omega (arith, p.if-numbers-lt-QUOTE_LENGTH.false)) c.refusal_number-2.ensures p.put_five.ensures in
    record { value = m.0; numbers_after = m.1 }
