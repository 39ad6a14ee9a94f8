-- "Right is returned only for a column whose every entry is the rounded exact value, wrong only for one with an entry that isn't":
-- of any set, year and column, read or malformed.
use Rattle.std.specs.Prelude.{◌≡◌, refl, true, false, List, ℕ, ℤ, pos, Err}
use Rattle.std.proofs.Common.{ap, sym, ◌∙◌, eq-eqb, ne_eqb}
use Rattle.std.proofs.Math.Decide.{ℕ_discrete}
use Rattle.number_whole.proofs.laws.Clash.{clash}
use Rattle.text_tokens.specs.Text.{Parse}
use Rattle.set_params.specs.declared.Params.{Params}
use Rattle.set_refusal.specs.declared.Refusal.{Refusal}
use Rattle.number_exact.specs.declared.Figure.{Figure}
use Rattle.number_exact.specs.declared.Figure.TheVariants as figure
use Rattle.number_exact.proofs.laws.Rounding.{rounds-once}
use Rattle.quote_kinds.specs.declared.Kind.TheVariants.{Death}
use Rattle.quote.specs.Demand.{Shown, printed, marked_open, no_figure, shown_of}
use Rattle.quote.proofs.laws.Theorem.{figure-rounds}
use Rattle.quote_verdicts.specs.declared.Verdict.TheVariants.{Right, Wrong}
use Rattle.quote_verdicts.specs.Verdict.{column_ages, figure_here, entry_at, differs, is_open, verdict_of, column_refusal, entries_in, judged}
use Rattle.quote_verdicts.specs.Verdict.{EachRounded, SomeOther}
use Rattle.quote_verdicts.specs.code.Code.{Honest}
use Rattle.quote_verdicts.proofs.laws.VerdictLaws.{right-none, wrong-some, verdict-given, all-passed}
use Rattle.quote_verdicts.proofs.laws.Figures.{Worked, figure-quoted}

-- ---- one age

-- a figure that is not open and does not differ from an entry is the entry, printed
same-entry : (f : Figure) (m : ℕ) → differs (shown_of f) m ≡ false → is_open (shown_of f) ≡ false → shown_of f ≡ printed m
unfolding differs is_open shown_of
same-entry (figure.Printed n) m d o = elim (ℕ_discrete n m) [
  | yes e ↦ ap printed e
  | no h ↦ let k = ne_eqb n m h in clash cc
]
same-entry figure.Open m d o = clash cc

-- a figure that differs from an entry is printed, and another
record Other (s : Shown) (m : ℕ) : Type 0 where
  steps : ℕ
  is : s ≡ printed steps
  other : steps ≡ m → ⊥

other-entry : (s : Shown) (m : ℕ) → differs s m ≡ true → Other s m
unfolding differs
other-entry (printed n) m d = record { steps = n; is = refl; other = λ e. let k = eq-eqb n m e in clash cc }
other-entry marked_open m d = clash cc
other-entry no_figure m d = clash cc

-- ---- a column

module _ (p : Params) (year : ℤ) (column : List ℕ) where
  -- right: each figure here is printed and is the entry
  right-rounded : Worked p year → verdict_of p year column ≡ Right → EachRounded p year column
  unfolding verdict_of figure_here
  right-rounded h e x l =
      let k = right-none (figure_here p year) (entry_at column) column_ages e x l in
      let f = figure-quoted x l h in
      let m = entry_at column x in
      figure-rounds p Death (pos x) year (pos 0)
      (f ∙ same-entry _ m (ap (λ (s : Shown). differs s m) (sym f) ∙ k.0) (ap is_open (sym f) ∙ k.1))

  -- wrong: an exact value that rounds to the figure does not round to the entry
  wrong-other : verdict_of p year column ≡ Wrong → SomeOther p year column
  unfolding verdict_of figure_here
  wrong-other e =
      let w = wrong-some (figure_here p year) (entry_at column) column_ages e in
      let d = other-entry _ _ w.holds in
      record {
        age = w.age;
        in-column = w.below;
        other = λ r. d.other (rounds-once (figure-rounds p Death (pos w.age) year (pos 0) d.is) r);
      }

-- ---- the theorem

pub verdict-honest : (p : Params) (year : ℤ) (read : Parse (List ℕ)) → Honest p year (entries_in read) (judged p year read)
unfolding judged
verdict-honest p year read =
    let given = verdict-given (column_refusal p year read) (verdict_of p year (entries_in read)) in
    record {
      right = λ e.
          let g = given Right e in
          let a = all-passed p year read g.0 in
          right-rounded p year (entries_in read) (record { limits = a.limits; year-in = a.year-in; range = a.range }) g.1;
      wrong = λ e. wrong-other p year (entries_in read) (given Wrong e).1;
    }

-- a refusal says nothing of the column
pub refused-honest : {p : Params} {year : ℤ} {column : List ℕ} {r : Refusal} → Honest p year column (Err r)
refused-honest = record { right = λ e. clash cc; wrong = λ e. clash cc }
