-- What follows a couple's query: how great its numbers are and how long it is; and so how long the answer to a line is.
use Rattle.std.specs.Prelude.{◌≡◌, refl, true, List, ℕ, ◌≤◌, length, Ok, Err}
use Rattle.std.proofs.Common.{arith}
use Rattle.text_tokens.specs.Text.{taken}
use Rattle.set_params.specs.declared.Params.{Params}
use Rattle.quote_kinds.specs.Kinds.{rule_of}
use Rattle.quote_couple_kinds.specs.CoupleKinds.{single_of}
use Rattle.quote_along.specs.QuoteBy.{Answer}
use Rattle.quote_couple.proofs.laws.SmallLaws.{couple-small}
use Rattle.run_couple_query.specs.declared.CoupleQuery.{CoupleQuery}
use Rattle.run_couple_query.specs.CoupleQuery.{read_couple}
use Rattle.run_couple_query.specs.laws.CoupleQueryLaws.{couple_text, couple-text, couple-least, couple-most}
use Rattle.run_answer_text.specs.AnswerText.{kind_decimals, answer_text, without_feed}
use Rattle.run_answer_text.specs.code.Sizes.{SizedAnswer}
use Rattle.run_answer_text.proofs.laws.SizeLaws.{small-sized}
use Rattle.run_answer_text.proofs.laws.Lengths.{decimals-few, answer_bytes, answer-length}
use Rattle.run_answer_text.proofs.laws.LineLaws.{Bounded, Lengths, ReadsText, echoed, text-lengths, answered-bounded}
use Rattle.run_couple_line.specs.CoupleLine.{query_couple, couple_reply, couple_line, most_couple}

-- ---- a query's line

reads : ReadsText read_couple couple_text
reads = record { is = λ line e. couple-text line e }

-- without its line feed it is the query's text
pub couple-echo : (line : List ℕ) {q : CoupleQuery} {rest : List ℕ} → read_couple line ≡ taken q rest
    → without_feed line ≡ couple_text q
couple-echo line e = echoed reads line e

pub couple-lengths : Lengths read_couple 36 98
couple-lengths = text-lengths reads couple-least couple-most

-- ---- ends of at most 16 digits, and a figure of at most 8

pub couple-sized : (p p' : Params) (q : CoupleQuery) → SizedAnswer (query_couple p p' q)
unfolding query_couple SizedAnswer
couple-sized p p' q = go (query_couple p p' q) refl
  where
    go : (a : Answer) → query_couple p p' q ≡ a → SizedAnswer a
    go (Ok a) e =
        let s = couple-small p p' q.kind q.age q.other q.year q.span e in
        small-sized (rule_of (single_of q.kind)).fold a
        (record { ends = record { lower = s.lower; upper = s.upper }; figure = s.figure })
    go (Err r) e = tt

-- ---- the text, from a query's decimals and its answer

pub reply-by : (p p' : Params) (q : CoupleQuery) {d : ℕ} → d ≡ kind_decimals (single_of q.kind) → {a : Answer}
    → a ≡ query_couple p p' q → couple_reply p p' q ≡ answer_text true d a
unfolding couple_reply
reply-by p p' q f g = rw (f, g)

-- ---- lengths

-- the most bytes that follow a query
reply-length : (p p' : Params) (q : CoupleQuery) → length (couple_reply p p' q) ≤ answer_bytes
unfolding couple_reply
reply-length p p' q =
    let k = single_of q.kind in
    answer-length true (kind_decimals k) (query_couple p p' q) (decimals-few (rule_of k).fold) (couple-sized p p' q)

pub couple-bounded : (p p' : Params) → Bounded most_couple (couple_line p p')
couple-bounded p p' =
    answered-bounded couple-lengths (couple_reply p p') {n = answer_bytes} (reply-length p p') (omega arith) (omega arith)
    (omega arith)
