-- A target's query and its line: the line of a query reads as the query, and what reads as a query is its line. And how long a
-- query's text is.
use Rattle.std.specs.Prelude.{◌≡◌, ℕ, ◌^◌, ◌≤◌, ◌<◌, List, [], ◌++◌, nat_abs, length}
use Rattle.std.proofs.Common.{◌∙◌, arith, append_assoc, length-append}
use Rattle.text_tokens.specs.Text.{bytes_of, taken}
use Rattle.text_tokens.specs.Number.{most_digits, is_digit, number_text}
use Rattle.text_tokens.specs.laws.DecimalLaws.{number-length}
use Rattle.text_tokens.specs.laws.Steps.{goes}
use Rattle.sheet.proofs.laws.SheetTrip.{then-taken}
use Rattle.run_query.specs.Query.{read_field}
use Rattle.run_query.specs.laws.QueryLaws.{field-reads, field-read, ended-taken, ended-reads}
use Rattle.run_target_line.specs.declared.TargetQuery.{TargetQuery}
use Rattle.run_target_line.specs.TargetLine.{read_target}

-- the query's text
unfoldable pub target_text : TargetQuery → List ℕ
target_text q = bytes_of "age=" ++ (number_text q.age ++ (bytes_of " target=" ++ number_text q.target))

-- the text, part by part, with what follows it
target-apart : (q : TargetQuery) (rest : List ℕ)
    → target_text q ++ rest ≡ bytes_of "age=" ++ (number_text q.age ++ (bytes_of " target=" ++ (number_text q.target ++ rest)))
unfolding target_text
target-apart q rest = simp append_assoc

-- what reads as a query is its text and a line feed
pub target-text : (line : List ℕ) {q : TargetQuery} {rest : List ℕ} → read_target line ≡ taken q rest
    → line ≡ target_text q ++ bytes_of "\n"
unfolding read_target
target-text line {q} e =
    then-taken (read_field (bytes_of "age=") line) _ e λ age b₀ e₀ f₀.
    then-taken (read_field (bytes_of " target=") b₀) _ f₀ λ target b₁ e₁ f₁.
    let r : TargetQuery = record { age = age; target = target } in
    let (l, same) = ended-taken r b₁ f₁ in
    let t = field-read (bytes_of " target=") b₀ e₁ in
    rw (← same) (field-read (bytes_of "age=") line e₀ ∙ rw (t, l, target-apart r (bytes_of "\n")))

-- the line of a query whose numbers have at most 15 digits reads as the query
pub target-reads : (q : TargetQuery) → nat_abs q.age < 10 ^ most_digits → nat_abs q.target < 10 ^ most_digits
    → read_target (target_text q ++ bytes_of "\n") ≡ taken q []
unfolding read_target bytes_of is_digit
target-reads q a t =
    rw (target-apart q (bytes_of "\n"))
    (goes _ (field-reads (bytes_of "age=") q.age (bytes_of " target=" ++ (number_text q.target ++ bytes_of "\n")) a tt)
    ∙ goes _ (field-reads (bytes_of " target=") q.target (bytes_of "\n") t tt)
    ∙ ended-reads q)

-- ---- lengths

-- 12 bytes besides the numbers
pub target-between : (q : TargetQuery) → (14 ≤ length (target_text q)) × (length (target_text q) ≤ 44)
unfolding target_text bytes_of
target-between q = simp length-append (omega (arith, number-length q.age, number-length q.target))
