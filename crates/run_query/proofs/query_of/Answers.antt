-- `query_of` meets its contract: each part of the line is found at its place and leaves the others to be read, or the
-- line is malformed.
use mathlib.Core.Bool.{not}
use mathlib.Core.Path.{ap}
use borrow.Author.Rules.{rules}
use mathlib.Core.Path.{◌≡◌, sym, ◌∙◌}
use mir.Val.{of_z, to_z}
use Rattle.std.specs.Int.{w64}
use Prim.Native.Nat.{ℕ}
use mathlib.Core.List.{List}
use lib.ListN.{drop}
use Rattle.text_tokens.specs.Text.{bytes_of}
use Rattle.text_tokens.specs.laws.TextLaws.{text-found, text-missing}
use Rattle.text_tokens.specs.laws.ReadLaws.{lacks, has, read-malformed, read_taken}
use Rattle.text_tokens.specs.laws.Steps.{goes, stops}
use Rattle.run_query.specs.declared.Query.{Query}
use Rattle.run_query.specs.Query.{ended, read_query}
use Rattle.run_query.specs.code.Code.{query_read}
use Rattle.run_query.proofs.QuerySteps.{from_rate, from_term, from_year, from_age, from_word}
use Rattle.run_query.proofs.QuerySteps.{start-malformed, start-taken, line-ended, line-goes-on, kind-malformed, kind-taken}
use Rattle.run_query.proofs.query_of.Goals as goal

-- ---- the needs

pub returns-then-not-text_at : goal.returns-then-not-text_at
unfolding bytes_of
returns-then-not-text_at c = sym (start-malformed _ (text-missing _ 0 (bytes_of "kind=") (lacks c.text_at.ensures (ap not c.if-not-text_at.true))))

pub returns-in_err-word : goal.returns-in_err-word
unfolding bytes_of
returns-in_err-word c =
    let line : List ℕ = c.args.line.now in
    let after-start : let l = line in read_query l ≡ from_word (drop 5 l) = start-taken _ (text-found _ 0 (bytes_of "kind=") (has c.text_at.ensures (ap not c.if-not-text_at.false))) in
    ap query_read c.from_residual.ensures ∙ sym (after-start ∙ stops _ (kind-malformed _ c.kind_at.ensures c.in_err-word.was))

pub returns-in_err-age : goal.returns-in_err-age
unfolding bytes_of
returns-in_err-age c =
    let line : List ℕ = c.args.line.now in
    let after-start : let l = line in read_query l ≡ from_word (drop 5 l) = start-taken _ (text-found _ 0 (bytes_of "kind=") (has c.text_at.ensures (ap not c.if-not-text_at.false))) in
    let after-word : let l = line in read_query l ≡ from_age c.in_ok-word.word (drop c.in_ok-word.after_word l) =
    after-start
    ∙ goes _ (kind-taken _ c.kind_at.ensures c.in_ok-word.was) in
    ap query_read c.from_residual-in_err-age.ensures ∙ sym (after-word ∙ stops _ (read-malformed _ c.field_at.ensures c.in_err-age.was))

pub returns-in_err-year : goal.returns-in_err-year
unfolding bytes_of
returns-in_err-year c =
    let line : List ℕ = c.args.line.now in
    let after-start : let l = line in read_query l ≡ from_word (drop 5 l) = start-taken _ (text-found _ 0 (bytes_of "kind=") (has c.text_at.ensures (ap not c.if-not-text_at.false))) in
    let after-word : let l = line in read_query l ≡ from_age c.in_ok-word.word (drop c.in_ok-word.after_word l) =
    after-start
    ∙ goes _ (kind-taken _ c.kind_at.ensures c.in_ok-word.was) in
    let after-age : let l = line in read_query l ≡ from_year c.in_ok-word.word c.in_ok-age.age (drop c.in_ok-age.after_age l) =
    after-word
    ∙ goes _ (read_taken _ c.field_at.ensures c.in_ok-age.was) in
    ap query_read c.from_residual-in_err-year.ensures ∙ sym (after-age ∙ stops _ (read-malformed _ c.field_at-2.ensures c.in_err-year.was))

pub returns-in_err-term : goal.returns-in_err-term
unfolding bytes_of
returns-in_err-term c =
    let line : List ℕ = c.args.line.now in
    let after-start : let l = line in read_query l ≡ from_word (drop 5 l) = start-taken _ (text-found _ 0 (bytes_of "kind=") (has c.text_at.ensures (ap not c.if-not-text_at.false))) in
    let after-word : let l = line in read_query l ≡ from_age c.in_ok-word.word (drop c.in_ok-word.after_word l) =
    after-start
    ∙ goes _ (kind-taken _ c.kind_at.ensures c.in_ok-word.was) in
    let after-age : let l = line in read_query l ≡ from_year c.in_ok-word.word c.in_ok-age.age (drop c.in_ok-age.after_age l) =
    after-word
    ∙ goes _ (read_taken _ c.field_at.ensures c.in_ok-age.was) in
    let after-year : let l = line in read_query l ≡ from_term c.in_ok-word.word c.in_ok-age.age c.in_ok-year.year (drop c.in_ok-year.after_year l) =
    after-age
    ∙ goes _ (read_taken _ c.field_at-2.ensures c.in_ok-year.was) in
    ap query_read c.from_residual-in_err-term.ensures ∙ sym (after-year ∙ stops _ (read-malformed _ c.term_at.ensures c.in_err-term.was))

pub returns-in_err-kind : goal.returns-in_err-kind
unfolding bytes_of
returns-in_err-kind c =
    let line : List ℕ = c.args.line.now in
    let after-start : let l = line in read_query l ≡ from_word (drop 5 l) = start-taken _ (text-found _ 0 (bytes_of "kind=") (has c.text_at.ensures (ap not c.if-not-text_at.false))) in
    let after-word : let l = line in read_query l ≡ from_age c.in_ok-word.word (drop c.in_ok-word.after_word l) =
    after-start
    ∙ goes _ (kind-taken _ c.kind_at.ensures c.in_ok-word.was) in
    let after-age : let l = line in read_query l ≡ from_year c.in_ok-word.word c.in_ok-age.age (drop c.in_ok-age.after_age l) =
    after-word
    ∙ goes _ (read_taken _ c.field_at.ensures c.in_ok-age.was) in
    let after-year : let l = line in read_query l ≡ from_term c.in_ok-word.word c.in_ok-age.age c.in_ok-year.year (drop c.in_ok-year.after_year l) =
    after-age
    ∙ goes _ (read_taken _ c.field_at-2.ensures c.in_ok-year.was) in
    let after-term : let l = line in read_query l ≡ from_rate c.in_ok-word.word c.in_ok-age.age c.in_ok-year.year c.in_ok-term.term (drop c.in_ok-term.after_term l) =
    after-year
    ∙ goes _ (read_taken _ c.term_at.ensures c.in_ok-term.was) in
    ap query_read c.from_residual-in_err-kind.ensures ∙ sym (after-term ∙ stops _ (kind-malformed _ c.rate_at.ensures c.in_err-kind.was))

pub returns-then-not-ends_at : goal.returns-then-not-ends_at
unfolding bytes_of
returns-then-not-ends_at c =
    let line : List ℕ = c.args.line.now in
    let asked : Query =
    record {
      kind = c.in_ok-kind.kind;
      age = c.in_ok-age.age;
      year = c.in_ok-year.year;
      term = c.in_ok-term.term;
    } in
    let after-start : let l = line in read_query l ≡ from_word (drop 5 l) = start-taken _ (text-found _ 0 (bytes_of "kind=") (has c.text_at.ensures (ap not c.if-not-text_at.false))) in
    let after-word : let l = line in read_query l ≡ from_age c.in_ok-word.word (drop c.in_ok-word.after_word l) =
    after-start
    ∙ goes _ (kind-taken _ c.kind_at.ensures c.in_ok-word.was) in
    let after-age : let l = line in read_query l ≡ from_year c.in_ok-word.word c.in_ok-age.age (drop c.in_ok-age.after_age l) =
    after-word
    ∙ goes _ (read_taken _ c.field_at.ensures c.in_ok-age.was) in
    let after-year : let l = line in read_query l ≡ from_term c.in_ok-word.word c.in_ok-age.age c.in_ok-year.year (drop c.in_ok-year.after_year l) =
    after-age
    ∙ goes _ (read_taken _ c.field_at-2.ensures c.in_ok-year.was) in
    let after-term : let l = line in read_query l ≡ from_rate c.in_ok-word.word c.in_ok-age.age c.in_ok-year.year c.in_ok-term.term (drop c.in_ok-term.after_term l) =
    after-year
    ∙ goes _ (read_taken _ c.term_at.ensures c.in_ok-term.was) in
    let after-rate : let l = line in read_query l ≡ ended asked (drop c.in_ok-kind.after_rate l) =
    after-term
    ∙ goes _ (kind-taken _ c.rate_at.ensures c.in_ok-kind.was) in
    sym (after-rate ∙ line-goes-on _ _ (lacks c.ends_at.ensures (ap not c.if-not-ends_at.true)))

pub returns : goal.returns
unfolding bytes_of
returns c =
    let line : List ℕ = c.args.line.now in
    let asked : Query =
    record {
      kind = c.in_ok-kind.kind;
      age = c.in_ok-age.age;
      year = c.in_ok-year.year;
      term = c.in_ok-term.term;
    } in
    let after-start : let l = line in read_query l ≡ from_word (drop 5 l) = start-taken _ (text-found _ 0 (bytes_of "kind=") (has c.text_at.ensures (ap not c.if-not-text_at.false))) in
    let after-word : let l = line in read_query l ≡ from_age c.in_ok-word.word (drop c.in_ok-word.after_word l) =
    after-start
    ∙ goes _ (kind-taken _ c.kind_at.ensures c.in_ok-word.was) in
    let after-age : let l = line in read_query l ≡ from_year c.in_ok-word.word c.in_ok-age.age (drop c.in_ok-age.after_age l) =
    after-word
    ∙ goes _ (read_taken _ c.field_at.ensures c.in_ok-age.was) in
    let after-year : let l = line in read_query l ≡ from_term c.in_ok-word.word c.in_ok-age.age c.in_ok-year.year (drop c.in_ok-year.after_year l) =
    after-age
    ∙ goes _ (read_taken _ c.field_at-2.ensures c.in_ok-year.was) in
    let after-term : let l = line in read_query l ≡ from_rate c.in_ok-word.word c.in_ok-age.age c.in_ok-year.year c.in_ok-term.term (drop c.in_ok-term.after_term l) =
    after-year
    ∙ goes _ (read_taken _ c.term_at.ensures c.in_ok-term.was) in
    let after-rate : let l = line in read_query l ≡ ended asked (drop c.in_ok-kind.after_rate l) =
    after-term
    ∙ goes _ (kind-taken _ c.rate_at.ensures c.in_ok-kind.was) in
    let held₀ : to_z w64 (of_z w64 c.in_ok-age.age) ≡ c.in_ok-age.age = search rules in
    let held₁ : to_z w64 (of_z w64 c.in_ok-year.year) ≡ c.in_ok-year.year = search rules in
    let held₂ : to_z w64 (of_z w64 c.in_ok-term.term) ≡ c.in_ok-term.term = search rules in
    rw (held₀, held₁, held₂)
    (sym (after-rate ∙ line-ended _ _ (has c.ends_at.ensures (ap not c.if-not-ends_at.false))))
