-- Every answer of bytes is honest: a verdict is given of a column alone, and what it says of the column's entries holds. A column
-- that is taken is answered as it was when its rows stood in any order.
use Rattle.std.specs.Prelude.{◌≡◌, refl, List, ℕ, ℤ, Ok}
use Rattle.std.proofs.Common.{sym, ap, ◌∙◌}
use Rattle.text_tokens.specs.Text.{Parse, malformed, taken}
use Rattle.set_params.specs.declared.Params.{Params}
use Rattle.run_column_text.specs.Column.{column_of}
use Rattle.run_column_text.specs.laws.AnyOrder.{column_in_any_order}
use Rattle.run_column_text.specs.laws.ColumnLaws.{column-alone}
use Rattle.run_column_text.specs.laws.OrderLaws.{taken-before}
use Rattle.quote_verdicts.specs.declared.Verdict.{Verdict}
use Rattle.quote_verdicts.specs.Verdict.{verdict_of, column_refusal, entries_in, judged}
use Rattle.quote_verdicts.proofs.laws.VerdictLaws.{verdict-given, all-passed}
use Rattle.quote_verdicts.proofs.laws.Theorem.{verdict-honest}
use Rattle.run_column_verdict.specs.ColumnVerdict.{column_verdict, HonestOn}

-- malformed bytes have no verdict
malformed-none : {X : Type 0} (p : Params) (year : ℤ) {v : Verdict} → judged p year malformed ≡ Ok v → X
unfolding judged
malformed-none p year {v} e =
    let g = verdict-given (column_refusal p year malformed) (verdict_of p year (entries_in malformed)) v e in
    absurd (all-passed p year malformed g.0).whole

pub honest-on : (p : Params) (year : ℤ) (bytes : List ℕ) → HonestOn p year bytes (column_verdict p year bytes)
unfolding column_verdict entries_in
honest-on p year bytes = go (column_of bytes) refl
  where
    go : (q : Parse (List ℕ)) → column_of bytes ≡ q → HonestOn p year bytes (judged p year q)
    go malformed e = record { right = λ f. malformed-none p year f; wrong = λ f. malformed-none p year f }
    go (taken c rest) e =
        let h = verdict-honest p year (taken c rest) in
        let k = column-alone bytes e in
        record {
          right = λ f. record { column = c; is = k; holds = h.right f };
          wrong = λ f. record { column = c; is = k; holds = h.wrong f };
        }

-- "Right, wrong and open keep their meaning for the columns still taken" (paper 02, E10)
pub answer-kept : (p : Params) (year : ℤ) (bytes : List ℕ) {c rest : List ℕ} → column_of bytes ≡ taken c rest
    → column_verdict p year bytes ≡ judged p year (column_in_any_order bytes)
unfolding column_verdict
answer-kept p year bytes e = ap (judged p year) (column-alone bytes e ∙ sym (taken-before bytes e))
