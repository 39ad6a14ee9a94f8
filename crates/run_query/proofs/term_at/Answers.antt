-- `term_at` meets its contract: the name is that of a date or of a span, by the kind's rule.
use mathlib.Core.Path.{◌≡◌, ◌∙◌}
use Prim.Native.Nat.{ℕ}
use mathlib.Core.Bool.{true, false}
use mathlib.Core.List.{List}
use lib.ListN.{drop}
use Rattle.text_tokens.specs.Text.{bytes_of}
use Rattle.quote_kinds.specs.declared.Kind.{Kind}
use Rattle.quote_kinds.specs.declared.Rule.{Rule}
use Rattle.quote_kinds.specs.Kinds.{rule_of}
use Rattle.run_query.specs.Query.{term_name, read_field}
use Rattle.run_query.proofs.term_at.Goals as goal

-- the field of that name, by what the code's rule says
module _ (k : Kind) (bs : List ℕ) {r : Rule} (e : r ≡ rule_of k) where
  of-date : r.dated ≡ true → read_field (bytes_of " date=") bs ≡ read_field (term_name k) bs
  unfolding term_name
  of-date h = rw (← e, h)

  of-span : r.dated ≡ false → read_field (bytes_of " span=") bs ≡ read_field (term_name k) bs
  unfolding term_name
  of-span h = rw (← e, h)

pub returns-then-rule : goal.returns-then-rule
unfolding bytes_of
returns-then-rule c =
    let here : List ℕ = drop c.args.at c.args.bytes.now in
    c.field_at.ensures ∙ of-date c.args.kind here c.rule_of-rule.ensures c.if-rule.true

pub returns : goal.returns
unfolding bytes_of
returns c =
    let here : List ℕ = drop c.args.at c.args.bytes.now in
    c.field_at-2.ensures ∙ of-span c.args.kind here c.rule_of-rule.ensures c.if-rule.false
