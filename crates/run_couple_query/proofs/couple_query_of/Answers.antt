-- `couple_query_of` meets its contract: each part of the line is found at its place and leaves the others to be read, or the
-- line is malformed.
use mathlib.Core.Bool.{not}
use mathlib.Core.Path.{ap}
use borrow.Author.Rules.{rules}
use mathlib.Core.Path.{◌≡◌, sym, ◌∙◌}
use mir.Val.{of_z, to_z}
use Rattle.std.specs.Int.{w64}
use Rattle.run_couple_query.specs.code.Code.{couple_read}
use Prim.Native.Nat.{ℕ}
use mathlib.Core.List.{List}
use lib.ListN.{drop}
use Rattle.text_tokens.specs.Text.{bytes_of}
use Rattle.text_tokens.specs.laws.TextLaws.{text-found, text-missing}
use Rattle.text_tokens.specs.laws.ReadLaws.{lacks, has, read-malformed, read_taken}
use Rattle.text_tokens.specs.laws.Steps.{goes, stops}
use Rattle.run_query.specs.Query.{ended}
use Rattle.run_query.proofs.QuerySteps.{line-ended, line-goes-on}
use Rattle.run_couple_query.specs.declared.CoupleQuery.{CoupleQuery}
use Rattle.run_couple_query.specs.CoupleQuery.{read_couple}
use Rattle.run_couple_query.proofs.CoupleSteps.{from_span, from_year, from_other, from_age, from_word}
use Rattle.run_couple_query.proofs.CoupleSteps.{start-malformed, start-taken, kind-malformed, kind-taken}
use Rattle.run_couple_query.proofs.couple_query_of.Goals as goal

-- ---- the needs

pub returns-then-not-text_at : goal.returns-then-not-text_at
unfolding bytes_of
returns-then-not-text_at c = sym (start-malformed _ (text-missing _ 0 (bytes_of "kind=") (lacks c.text_at.ensures (ap not c.if-not-text_at.true))))

pub returns-in_err-kind : goal.returns-in_err-kind
unfolding bytes_of
returns-in_err-kind c =
    let line : List ℕ = c.args.line.now in
    let after-start : let l = line in read_couple l ≡ from_word (drop 5 l) = start-taken _ (text-found _ 0 (bytes_of "kind=") (has c.text_at.ensures (ap not c.if-not-text_at.false))) in
    ap couple_read c.from_residual.ensures ∙ sym (after-start ∙ stops _ (kind-malformed _ c.couple_kind_at.ensures c.in_err-kind.was))

pub returns-in_err-age : goal.returns-in_err-age
unfolding bytes_of
returns-in_err-age c =
    let line : List ℕ = c.args.line.now in
    let after-start : let l = line in read_couple l ≡ from_word (drop 5 l) = start-taken _ (text-found _ 0 (bytes_of "kind=") (has c.text_at.ensures (ap not c.if-not-text_at.false))) in
    let after-kind : let l = line in read_couple l ≡ from_age c.in_ok-kind.kind (drop c.in_ok-kind.after_kind l) =
    after-start
    ∙ goes _ (kind-taken _ c.couple_kind_at.ensures c.in_ok-kind.was) in
    ap couple_read c.from_residual-in_err-age.ensures ∙ sym (after-kind ∙ stops _ (read-malformed _ c.field_at.ensures c.in_err-age.was))

pub returns-in_err-other : goal.returns-in_err-other
unfolding bytes_of
returns-in_err-other c =
    let line : List ℕ = c.args.line.now in
    let after-start : let l = line in read_couple l ≡ from_word (drop 5 l) = start-taken _ (text-found _ 0 (bytes_of "kind=") (has c.text_at.ensures (ap not c.if-not-text_at.false))) in
    let after-kind : let l = line in read_couple l ≡ from_age c.in_ok-kind.kind (drop c.in_ok-kind.after_kind l) =
    after-start
    ∙ goes _ (kind-taken _ c.couple_kind_at.ensures c.in_ok-kind.was) in
    let after-age : let l = line in read_couple l ≡ from_other c.in_ok-kind.kind c.in_ok-age.age (drop c.in_ok-age.after_age l) =
    after-kind
    ∙ goes _ (read_taken _ c.field_at.ensures c.in_ok-age.was) in
    ap couple_read c.from_residual-in_err-other.ensures ∙ sym (after-age ∙ stops _ (read-malformed _ c.field_at-2.ensures c.in_err-other.was))

pub returns-in_err-year : goal.returns-in_err-year
unfolding bytes_of
returns-in_err-year c =
    let line : List ℕ = c.args.line.now in
    let after-start : let l = line in read_couple l ≡ from_word (drop 5 l) = start-taken _ (text-found _ 0 (bytes_of "kind=") (has c.text_at.ensures (ap not c.if-not-text_at.false))) in
    let after-kind : let l = line in read_couple l ≡ from_age c.in_ok-kind.kind (drop c.in_ok-kind.after_kind l) =
    after-start
    ∙ goes _ (kind-taken _ c.couple_kind_at.ensures c.in_ok-kind.was) in
    let after-age : let l = line in read_couple l ≡ from_other c.in_ok-kind.kind c.in_ok-age.age (drop c.in_ok-age.after_age l) =
    after-kind
    ∙ goes _ (read_taken _ c.field_at.ensures c.in_ok-age.was) in
    let after-other : let l = line in read_couple l ≡ from_year c.in_ok-kind.kind c.in_ok-age.age c.in_ok-other.other (drop c.in_ok-other.after_other l) =
    after-age
    ∙ goes _ (read_taken _ c.field_at-2.ensures c.in_ok-other.was) in
    ap couple_read c.from_residual-in_err-year.ensures ∙ sym (after-other ∙ stops _ (read-malformed _ c.field_at-3.ensures c.in_err-year.was))

pub returns-in_err-span : goal.returns-in_err-span
unfolding bytes_of
returns-in_err-span c =
    let line : List ℕ = c.args.line.now in
    let after-start : let l = line in read_couple l ≡ from_word (drop 5 l) = start-taken _ (text-found _ 0 (bytes_of "kind=") (has c.text_at.ensures (ap not c.if-not-text_at.false))) in
    let after-kind : let l = line in read_couple l ≡ from_age c.in_ok-kind.kind (drop c.in_ok-kind.after_kind l) =
    after-start
    ∙ goes _ (kind-taken _ c.couple_kind_at.ensures c.in_ok-kind.was) in
    let after-age : let l = line in read_couple l ≡ from_other c.in_ok-kind.kind c.in_ok-age.age (drop c.in_ok-age.after_age l) =
    after-kind
    ∙ goes _ (read_taken _ c.field_at.ensures c.in_ok-age.was) in
    let after-other : let l = line in read_couple l ≡ from_year c.in_ok-kind.kind c.in_ok-age.age c.in_ok-other.other (drop c.in_ok-other.after_other l) =
    after-age
    ∙ goes _ (read_taken _ c.field_at-2.ensures c.in_ok-other.was) in
    let after-year : let l = line in read_couple l ≡ from_span c.in_ok-kind.kind c.in_ok-age.age c.in_ok-other.other c.in_ok-year.year (drop c.in_ok-year.after_year l) =
    after-other
    ∙ goes _ (read_taken _ c.field_at-3.ensures c.in_ok-year.was) in
    ap couple_read c.from_residual-in_err-span.ensures ∙ sym (after-year ∙ stops _ (read-malformed _ c.field_at-4.ensures c.in_err-span.was))

pub returns-then-not-ends_at : goal.returns-then-not-ends_at
unfolding bytes_of
returns-then-not-ends_at c =
    let line : List ℕ = c.args.line.now in
    let asked : CoupleQuery =
    record {
      kind = c.in_ok-kind.kind;
      age = c.in_ok-age.age;
      other = c.in_ok-other.other;
      year = c.in_ok-year.year;
      span = c.in_ok-span.span;
    } in
    let after-start : let l = line in read_couple l ≡ from_word (drop 5 l) = start-taken _ (text-found _ 0 (bytes_of "kind=") (has c.text_at.ensures (ap not c.if-not-text_at.false))) in
    let after-kind : let l = line in read_couple l ≡ from_age c.in_ok-kind.kind (drop c.in_ok-kind.after_kind l) =
    after-start
    ∙ goes _ (kind-taken _ c.couple_kind_at.ensures c.in_ok-kind.was) in
    let after-age : let l = line in read_couple l ≡ from_other c.in_ok-kind.kind c.in_ok-age.age (drop c.in_ok-age.after_age l) =
    after-kind
    ∙ goes _ (read_taken _ c.field_at.ensures c.in_ok-age.was) in
    let after-other : let l = line in read_couple l ≡ from_year c.in_ok-kind.kind c.in_ok-age.age c.in_ok-other.other (drop c.in_ok-other.after_other l) =
    after-age
    ∙ goes _ (read_taken _ c.field_at-2.ensures c.in_ok-other.was) in
    let after-year : let l = line in read_couple l ≡ from_span c.in_ok-kind.kind c.in_ok-age.age c.in_ok-other.other c.in_ok-year.year (drop c.in_ok-year.after_year l) =
    after-other
    ∙ goes _ (read_taken _ c.field_at-3.ensures c.in_ok-year.was) in
    let after-span : let l = line in read_couple l ≡ ended asked (drop c.in_ok-span.after_span l) =
    after-year
    ∙ goes _ (read_taken _ c.field_at-4.ensures c.in_ok-span.was) in
    sym (after-span ∙ line-goes-on _ _ (lacks c.ends_at.ensures (ap not c.if-not-ends_at.true)))

pub returns : goal.returns
unfolding bytes_of
returns c =
    let line : List ℕ = c.args.line.now in
    let asked : CoupleQuery =
    record {
      kind = c.in_ok-kind.kind;
      age = c.in_ok-age.age;
      other = c.in_ok-other.other;
      year = c.in_ok-year.year;
      span = c.in_ok-span.span;
    } in
    let after-start : let l = line in read_couple l ≡ from_word (drop 5 l) = start-taken _ (text-found _ 0 (bytes_of "kind=") (has c.text_at.ensures (ap not c.if-not-text_at.false))) in
    let after-kind : let l = line in read_couple l ≡ from_age c.in_ok-kind.kind (drop c.in_ok-kind.after_kind l) =
    after-start
    ∙ goes _ (kind-taken _ c.couple_kind_at.ensures c.in_ok-kind.was) in
    let after-age : let l = line in read_couple l ≡ from_other c.in_ok-kind.kind c.in_ok-age.age (drop c.in_ok-age.after_age l) =
    after-kind
    ∙ goes _ (read_taken _ c.field_at.ensures c.in_ok-age.was) in
    let after-other : let l = line in read_couple l ≡ from_year c.in_ok-kind.kind c.in_ok-age.age c.in_ok-other.other (drop c.in_ok-other.after_other l) =
    after-age
    ∙ goes _ (read_taken _ c.field_at-2.ensures c.in_ok-other.was) in
    let after-year : let l = line in read_couple l ≡ from_span c.in_ok-kind.kind c.in_ok-age.age c.in_ok-other.other c.in_ok-year.year (drop c.in_ok-year.after_year l) =
    after-other
    ∙ goes _ (read_taken _ c.field_at-3.ensures c.in_ok-year.was) in
    let after-span : let l = line in read_couple l ≡ ended asked (drop c.in_ok-span.after_span l) =
    after-year
    ∙ goes _ (read_taken _ c.field_at-4.ensures c.in_ok-span.was) in
    let held₀ : to_z w64 (of_z w64 c.in_ok-age.age) ≡ c.in_ok-age.age = search rules in
    let held₁ : to_z w64 (of_z w64 c.in_ok-other.other) ≡ c.in_ok-other.other = search rules in
    let held₂ : to_z w64 (of_z w64 c.in_ok-year.year) ≡ c.in_ok-year.year = search rules in
    let held₃ : to_z w64 (of_z w64 c.in_ok-span.span) ≡ c.in_ok-span.span = search rules in
    rw (held₀, held₁, held₂, held₃)
    (sym (after-span ∙ line-ended _ _ (has c.ends_at.ensures (ap not c.if-not-ends_at.false))))
