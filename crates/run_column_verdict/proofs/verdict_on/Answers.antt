-- `verdict_on` meets its contract: the column is read, and what is read is judged.
use mathlib.Core.Path.{◌≡◌, refl, sym, ap, subst, ◌∙◌}
use mathlib.Core.List.{List}
use Prim.Native.Nat.{ℕ}
use mir.Facts.{to_z-of_z}
use Rattle.std.specs.Prelude.{Option, None, Some}
use Rattle.run_column_text.specs.code.Code.{column_read as whole_read}
use Rattle.quote_verdicts.specs.Verdict.{judged}
use Rattle.quote_verdicts.specs.code.Code.{column_read}
use Rattle.run_column_text.specs.Column.{column_of}
use Rattle.run_column_verdict.specs.ColumnVerdict.{column_verdict, HonestOn}
use Rattle.run_column_verdict.proofs.laws.ColumnTheorem.{honest-on}
use Rattle.run_column_verdict.proofs.verdict_on.Goals as goal

-- what was read, in either's words
same_read : (read : Option (List ℕ)) → column_read read ≡ whole_read read
unfolding column_read
same_read None = refl
same_read (Some l) = refl

pub returns : goal.returns
unfolding column_verdict
returns c =
    let s = c.args in
    let said : column_read c.column_of-read.result ≡ column_of s.bytes.now = same_read _ ∙ c.column_of-read.ensures in
    let e = (rw (to_z-of_z c.ranges.year) at c.judge.ensures.answered) ∙ ap (judged s.p s.year) said in
    record {
      answered = e;
      honest = subst (HonestOn s.p s.year s.bytes.now) (sym e) (honest-on s.p s.year s.bytes.now);
    }
