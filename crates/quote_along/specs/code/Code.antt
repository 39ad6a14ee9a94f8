-- What contracts say beside the definitions: the answer of a fold along a path.
use Rattle.std.specs.Prelude.{◌≡◌, Bool, true, false, cond, List, ℕ, suc, eqb, Ok, Err}
use Rattle.number_fraction.specs.Ratio.{Ratio}
use Rattle.number_exponential.specs.declared.Ends.{Ends}
use Rattle.number_exponential.specs.Units.{billionths, grid_of}
use Rattle.number_exponential.specs.declared.GridUnit.{GridUnit}
use Rattle.number_exponential.specs.declared.GridUnit.TheVariants.{Coarse}
use Rattle.set_params.specs.declared.Params.{Params}
use Rattle.set_refusal.specs.declared.Refusal.TheVariants.{LogForceOutOfRange}
use Rattle.number_exact.specs.Figure.{is_open}
use Rattle.quote_paths.specs.Path.{Place, path_in_range}
use Rattle.quote_paths.specs.Values.{grid_value}
use Rattle.quote_paths.specs.declared.Path.{Path}
use Rattle.quote_paths.specs.declared.Part.{Part}
use Rattle.quote_paths.specs.code.Code.{IsPart}
use Rattle.quote_factors.specs.code.Code.{all_places}
use Rattle.quote_paths.specs.declared.Fold.{Fold}
use Rattle.quote_kinds.specs.Kinds.{step_of}
use Rattle.quote_along.specs.QuoteBy.{quote_on, quote_by, Answer}
use Rattle.quote_along.specs.declared.Quote.{Quote}

-- a quote, or the refusal of a cell out of range
unfoldable pub in_range_or : Bool → Quote → Answer
in_range_or inside q = cond inside (Ok q) (Err LogForceOutOfRange)

-- the answer of a fold in one unit
unfoldable pub path_answer : GridUnit → Params → Fold → List Place → Answer
path_answer u p fold path = in_range_or (path_in_range (grid_of u) p path) (quote_on (step_of fold) u (grid_value fold (grid_of u) p path))

-- an answer is a quote whose figure is open
unfoldable pub left_open : Answer → Bool
left_open (Ok q) = is_open q.figure
left_open (Err r) = false

-- the quote of the ends in each unit, or of the coarse ends alone
unfoldable pub quote_for : Bool → ℕ → (GridUnit → Ends) → Quote
quote_for true s ends = quote_by s ends
quote_for false s ends = quote_on s Coarse (ends Coarse)

-- the answer of a fold, with an open figure worked again where it may be
unfoldable pub path_quote : Bool → Params → Fold → List Place → Answer
path_quote again p fold path =
    in_range_or (path_in_range billionths p path) (quote_for again (step_of fold) (λ (u : GridUnit). grid_value fold (grid_of u) p path))

-- those along a path and a part of a year after it, whichever fraction the part is
abbrev pub AnswerAlong : GridUnit → Params → Fold → Path → Part → Answer → Type 0
AnswerAlong u p fold w r a = (part : Ratio) → IsPart r part → a ≡ path_answer u p fold (all_places w part)

abbrev pub QuoteAlong : Bool → Params → Fold → Path → Part → Answer → Type 0
QuoteAlong again p fold w r a = (part : Ratio) → IsPart r part → a ≡ path_quote again p fold (all_places w part)

-- factors, and one more where there are days
unfoldable pub count_with : ℕ → ℕ → ℕ
count_with k days = cond (eqb days 0) k (suc k)
