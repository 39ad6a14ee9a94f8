-- The starred edges (paper 01, "Edges": "Those with * go through the definitions as rows of one proved table"), in the paper's
-- order: on the grid the ends that the definitions give, and of a set or a figure what a user sees, which is the number that a
-- call gives for the set's sheet and the text that is printed.
use Rattle.std.specs.Prelude.{◌≡◌, List, ℕ, ◌-◌, ◌≤◌, ℤ, pos, neg_ℤ, replicate}
use Prim.Native.String.{String}
use Rattle.number_exponential.specs.declared.Ends.{Ends}
use Rattle.number_exponential.specs.Exponential.{exp_between}
use Rattle.number_exponential.specs.Units.{billionths}
use Rattle.text_tokens.specs.Text.{bytes_of}
use Rattle.set_params.specs.declared.Params.{Params}
use Rattle.set_params.specs.declared.Table.TheVariants.{Ag2014}
use Rattle.set_params.specs.declared.Sex.TheVariants.{M}
use Rattle.set_params.specs.Set.{ages}
use Rattle.set_series.specs.Series.{kappa}
use Rattle.model_log_force.specs.LogForce.{log_force}
use Rattle.sheet.specs.Sheet.{sheet_text}
use Rattle.model_closure.specs.Weights.{first_fitted, first_closed, last_closed, weight}
use Rattle.model_closure.specs.code.Table.{weight_row, row_total}
use Rattle.number_exact.specs.Figure.{figure_of}
use Rattle.quote_paths.specs.declared.Fold.TheVariants.{Death}
use Rattle.quote_kinds.specs.Kinds.{step_of, decimals_of}
use Rattle.run_figure_text.specs.FigureText.{figure_text}
use Rattle.c_sheet_quote.specs.SheetQuote.{kind_of, sheet_answer, quote_length, quote_no}

-- −n
abbrev pub minus : ℕ → ℤ
minus n = neg_ℤ (pos n)

-- the exponential of −z, where z is one number
abbrev pub exponential : ℕ → Ends
exponential z = exp_between billionths (record { lower = z; upper = z })

-- the weight of age y at age x
abbrev pub weight_from : ℕ → ℕ → ℤ
weight_from x y = weight x (y - first_fitted)

-- a set of these four numbers, the last the A of every age, and every other number 0
unfoldable pub set_of : ℤ → ℤ → ℤ → ℤ → Params
set_of a theta kappa level =
    record {
      table = Ag2014;
      sex = M;
      start = pos 2013;
      a = a;
      theta = theta;
      c = pos 0;
      period = pos 0;
      kappa = kappa;
      level = replicate ages level;
      slope = replicate ages (pos 0);
      alpha = replicate ages (pos 0);
      beta = replicate ages (pos 0);
    }

abbrev pub with_theta : ℕ → Params
with_theta theta = set_of (pos 0) (pos theta) (pos 0) (pos 0)

-- every cell to age 90 has this log force
abbrev pub with_force : ℤ → Params
with_force m = set_of (pos 0) (pos 0) (pos 0) m

-- the number that a call gives for the set's sheet and a kind's word, at 65 in 2020 with span 0
unfoldable pub call_number : String → Params → ℕ
call_number word p = quote_no (sheet_answer (sheet_text p) (kind_of (bytes_of word)) (pos 65) (pos 2020) (pos 0)) quote_length

-- the text of a probability with these ends
unfoldable pub printed_text : ℕ → ℕ → List ℕ
printed_text lower upper = figure_text (decimals_of Death) (figure_of (step_of Death) (record { lower = lower; upper = upper }))

pub record StarredEdges : Type 0 where
  -- "Exponential at z = 0: both ends 10^9." "z = 10^9: 367,879,441 and 367,879,442." "z = 21·10^9: 0 and 1."
  pub exponential-0 : exponential 0 ≡ record { lower = 1000000000; upper = 1000000000 }
  pub exponential-1 : exponential 1000000000 ≡ record { lower = 367879441; upper = 367879442 }
  pub exponential-21 : exponential 21000000000 ≡ record { lower = 0; upper = 1 }
  -- "Weights: age 91 from 80, −20; age 120 from 90, 185." "Each age's eleven weights total 110."
  pub weight-91 : weight_from 91 80 ≡ minus 20
  pub weight-120 : weight_from 120 90 ≡ pos 185
  pub weights-total : (x : ℕ) → first_closed ≤ x → x ≤ last_closed → row_total (weight_row x) ≡ pos 110
  -- "a = −50,000,000, kappa 3: ends −2 and −1;" "a year on, 0 and 1."
  pub kappa-next : kappa billionths (set_of (minus 50000000) (pos 0) (pos 3) (pos 0)) 1 ≡ record { lower = minus 2; upper = minus 1 }
  pub kappa-a-year-on : kappa billionths (set_of (minus 50000000) (pos 0) (pos 3) (pos 0)) 2 ≡ record { lower = pos 0; upper = pos 1 }
  -- "K 0: theta 2,923,976,608 accepted; one more gives 2." Span 0 needs no cell.
  pub theta-accepted : call_number "coh" (with_theta 2923976608) ≡ 0
  pub theta-one-more : call_number "coh" (with_theta 2923976609) ≡ 2
  -- "Upper m −700,000,000 accepted, −699,999,999 gives 6."
  pub force-highest : (log_force billionths (with_force (minus 700000000)) 65 7).upper ≡ minus 700000000
  pub force-accepted : call_number "q" (with_force (minus 700000000)) ≡ 0
  pub force-one-more : call_number "q" (with_force (minus 699999999)) ≡ 6
  -- "Ends 15,000 and 24,999 print 0.00002;" "14,999 and 15,000 are open."
  pub ends-printed : printed_text 15000 24999 ≡ bytes_of "0.00002"
  pub ends_open : printed_text 14999 15000 ≡ bytes_of "open"
