-- What follows a query: how great its numbers are and how long it is; and so how long the answer to a line is.
use Rattle.std.specs.Prelude.{◌≡◌, Bool, List, ℕ, ◌+◌, ◌-◌, ◌≤◌, length}
use Rattle.std.proofs.Common.{arith}
use Rattle.text_tokens.specs.Text.{taken}
use Rattle.set_params.specs.declared.Params.{Params}
use Rattle.quote_kinds.specs.Kinds.{rule_of}
use Rattle.quote_along.specs.QuoteBy.{Answer}
use Rattle.run_query.specs.declared.Query.{Query}
use Rattle.run_query.specs.Query.{read_query}
use Rattle.run_query.specs.laws.QueryLaws.{query_text, query-text, query-least, query-most}
use Rattle.run_answer_text.specs.AnswerText.{kind_decimals, answer_text, without_feed}
use Rattle.run_answer_text.specs.code.Sizes.{SizedAnswer}
use Rattle.run_answer_text.proofs.laws.SizeLaws.{answer-sized}
use Rattle.run_answer_text.proofs.laws.Lengths.{decimals-few, answer-length}
use Rattle.run_answer_text.proofs.laws.LineLaws.{Bounded, Lengths, ReadsText, echoed, text-lengths, answered-bounded}
use Rattle.quote_compare.specs.Compare.{Comparison}
use Rattle.quote_compare.specs.Compare.{comparison_of}
use Rattle.quote_compare.specs.code.Sizes.{SmallAnswer}
use Rattle.quote_compare.proofs.laws.SmallLaws.{answer-small}
use Rattle.run_compare_text.specs.CompareText.{comparison_text}
use Rattle.run_compare_text.specs.code.Sizes.{SizedComparison}
use Rattle.run_compare_text.specs.laws.SizeLaws.{comparison-sized}
use Rattle.run_compare_text.specs.laws.Lengths.{comparison-length}
use Rattle.run_couple_line.specs.laws.CoupleLineLaws.{couple-bounded}
use Rattle.run_target_line.specs.TargetLine.{most_target}
use Rattle.run_target_line.specs.laws.TargetLineLaws.{target-bounded}
use Rattle.run_line.specs.declared.Mode.{Mode}
use Rattle.run_line.specs.declared.Mode.TheVariants.{Quotes, Compare, Couples, Targets}
use Rattle.run_line.specs.declared.Reply.{Reply}
use Rattle.run_line.specs.declared.Reply.TheVariants.{Quote, Compared}
use Rattle.run_line.specs.Line.{query_answer, reply, query_line, line_answer, longest_reply, longest_line}
use Rattle.run_line.specs.code.Sizes.{most_line}

-- ---- a query's line

reads : ReadsText read_query query_text
reads = record { is = λ line e. query-text line e }

-- without its line feed it is the query's text
pub echo : (line : List ℕ) {q : Query} {rest : List ℕ} → read_query line ≡ taken q rest → without_feed line ≡ query_text q
echo line e = echoed reads line e

pub query-lengths : Lengths read_query 26 96
query-lengths = text-lengths reads query-least query-most

-- ---- ends of at most 172, which have at most 16 digits, and a figure of at most 8

pub query-small : (p : Params) (q : Query) → SmallAnswer (query_answer p q)
unfolding query_answer
query-small p q = answer-small p q.kind q.age q.year q.term

pub query-sized : (p : Params) (q : Query) → SizedAnswer (query_answer p q)
unfolding query_answer
query-sized p q = answer-sized p q.kind q.age q.year q.term

compared-sized : (p p' : Params) (q : Query) → SizedComparison (comparison_of (query_answer p q) (query_answer p' q))
compared-sized p p' q =
    comparison-sized (query_answer p q) (query_answer p' q) (query-small p q) (query-small p' q) (query-sized p q) (query-sized p' q)

-- ---- the text by what follows, from a query's decimals and its answers

module _ (follows : Reply) (p p' : Params) (q : Query) {d : ℕ} (f : d ≡ kind_decimals q.kind) {a : Answer}
    (g : a ≡ query_answer p q) where
  pub reply-quotes : {ends : Bool} → follows ≡ Quote ends → reply follows p p' q ≡ answer_text ends d a
  unfolding reply
  reply-quotes e = rw (e, f, g)

  pub reply-compare : follows ≡ Compared → {b : Answer} → b ≡ query_answer p' q → {k : Comparison} → k ≡ comparison_of a b
      → (reply follows p p' q ≡ comparison_text d k) × SizedComparison k
  unfolding reply
  reply-compare e h k =
      (rw (e, k, f, g, h), rw (k, g, h) (compared-sized p p' q))

-- ---- lengths

-- the most bytes that follow a query
pub reply-length : (follows : Reply) (p p' : Params) (q : Query) → length (reply follows p p' q) + 96 ≤ longest_reply follows
unfolding reply
reply-length (Quote ends) p p' q =
    omega (
      arith,
      answer-length ends (kind_decimals q.kind) (query_answer p q) (decimals-few (rule_of q.kind).fold) (query-sized p q),
    )
reply-length Compared p p' q =
    let k = comparison_of (query_answer p q) (query_answer p' q) in
    omega (
      arith,
      comparison-length (kind_decimals q.kind) k (decimals-few (rule_of q.kind).fold) (compared-sized p p' q),
    )

reply-between : (follows : Reply) → (159 ≤ longest_reply follows) × (longest_reply follows ≤ most_line)
reply-between (Quote ends) = omega arith
reply-between Compared = omega arith

pub query-bounded : (follows : Reply) (p p' : Params) → Bounded (longest_reply follows) (query_line follows p p')
query-bounded follows p p' =
    let b = reply-between follows in
    answered-bounded query-lengths (reply follows p p') {n = longest_reply follows - 96}
    (λ q. omega (arith, reply-length follows p p' q)) (omega (arith, b)) (omega (arith, b)) (omega (arith, b))

-- ---- by the mode

pub longest-between : (mode : Mode) → (most_target ≤ longest_line mode) × (longest_line mode ≤ most_line)
unfolding longest_line
longest-between (Quotes ends) = omega arith
longest-between Compare = omega arith
longest-between Couples = omega arith
longest-between Targets = omega arith

pub line-bounded : (mode : Mode) (p p' : Params) → Bounded (longest_line mode) (line_answer mode p p')
unfolding longest_line line_answer
line-bounded (Quotes ends) p p' = query-bounded (Quote ends) p p'
line-bounded Compare p p' = query-bounded Compared p p'
line-bounded Couples p p' = couple-bounded p p'
line-bounded Targets p p' = target-bounded p
