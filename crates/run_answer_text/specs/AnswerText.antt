-- "It echoes each with ` fig=` and a figure or `open`, or ` no=` and a refusal. .. A torn query prints `no=1` only": what is printed
-- after a query, with the two ends and their unit before the figure where they are shown, and the answer to a line.
use Rattle.std.specs.Prelude.{Bool, cond, List, [], ◌++◌, ℕ, ◌-◌, length, take, Ok, Err}
use Rattle.text_tokens.specs.Text.{bytes_of, Parse, malformed, taken}
use Rattle.text_tokens.specs.Number.{decimal, unsigned_text}
use Rattle.number_exponential.specs.declared.GridUnit.{GridUnit}
use Rattle.number_exponential.specs.declared.GridUnit.TheVariants.{Coarse, Fine}
use Rattle.set_refusal.specs.declared.Refusal.{Refusal}
use Rattle.set_refusal.specs.declared.Refusal.TheVariants.{Malformed}
use Rattle.set_refusal.specs.Refusals.{refusal_number}
use Rattle.quote_kinds.specs.declared.Kind.{Kind}
use Rattle.quote_kinds.specs.Kinds.{rule_of, decimals_of}
use Rattle.run_figure_text.specs.FigureText.{shown_text}
use Rattle.quote_along.specs.declared.Quote.{Quote}
use Rattle.quote_along.specs.QuoteBy.{Answer}

-- `no=` and a refusal's number, as a line
unfoldable pub refusal_line : Refusal → List ℕ
refusal_line r = (bytes_of "no=" ++ unsigned_text (refusal_number r)) ++ bytes_of "\n"

-- the same behind what is refused
unfoldable pub refused_text : Refusal → List ℕ
refused_text r = bytes_of " " ++ refusal_line r

-- a number of units, of at most 16 digits: as many as an expectancy of 100 years has in units of 10^-13
abbrev pub end_digits : ℕ
end_digits = 16

unfoldable pub end_text : ℕ → List ℕ
end_text n = decimal end_digits n

-- a unit of 10^-9 or of 10^-13
unfoldable pub unit_text : GridUnit → List ℕ
unit_text Coarse = bytes_of " unit=9"
unit_text Fine = bytes_of " unit=13"

-- the two ends and their unit, where they are asked for
unfoldable pub ends_text : Bool → GridUnit → ℕ → ℕ → List ℕ
ends_text ends unit lower upper =
    cond ends ((bytes_of " lo=" ++ end_text lower) ++ ((bytes_of " hi=" ++ end_text upper) ++ unit_text unit)) []

-- a quote, its figure with so many decimals
unfoldable pub quote_text : Bool → ℕ → Quote → List ℕ
quote_text ends d a = ends_text ends a.unit a.lower a.upper ++ (shown_text d a.figure ++ bytes_of "\n")

-- the decimals of a kind's figures
abbrev pub kind_decimals : Kind → ℕ
kind_decimals kind = decimals_of (rule_of kind).fold

-- an answer
unfoldable pub answer_text : Bool → ℕ → Answer → List ℕ
answer_text ends d (Ok a) = quote_text ends d a
answer_text ends d (Err r) = refused_text r

-- ---- a line, whatever reads it and whatever follows it

-- a line without its last byte, the line feed
abbrev pub without_feed : List ℕ → List ℕ
without_feed line = take (length line - 1) line

-- the answer to a line, by what reads it and what follows it: `no=1` alone where it is malformed, else its own text and behind it
-- what follows
unfoldable pub answered : {A : Type 0} → (List ℕ → Parse A) → (A → List ℕ) → List ℕ → List ℕ
answered read follows line =
    elim (read line) [ malformed ↦ refusal_line Malformed | taken q rest ↦ without_feed line ++ follows q ]
