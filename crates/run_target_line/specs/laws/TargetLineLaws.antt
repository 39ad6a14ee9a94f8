-- What follows a target's line: how great its year is and how long it is; and so how long the answer to a line is.
use Rattle.std.specs.Prelude.{◌≡◌, refl, ℕ, ◌^◌, ◌≤◌, ◌<◌, T, ℤ, pos, ◌+ℤ◌, nat_abs, length, Ok, Err}
use Rattle.std.proofs.Common.{arith, length-append}
use Rattle.number_whole.specs.code.Sizes.{Under}
use Rattle.number_whole.proofs.laws.Bound.{under-add, under-pos}
use Rattle.text_tokens.specs.Text.{bytes_of}
use Rattle.text_tokens.specs.Number.{most_digits}
use Rattle.text_tokens.specs.laws.DecimalLaws.{number-length}
use Rattle.set_params.specs.declared.Params.{Params}
use Rattle.set_params.specs.Limits.{quote_years, last_start}
use Rattle.set_limits.specs.InLimits.{in_limits}
use Rattle.set_limits.specs.laws.LimitsLaws.{in-limits-start}
use Rattle.quote_target.specs.declared.TargetYear.{TargetYear}
use Rattle.quote_target.specs.declared.TargetYear.TheVariants.{Reached, Open, Never}
use Rattle.quote_target.specs.Target.{TargetAnswer, target_answer}
use Rattle.quote_target.proofs.laws.Theorem.{honest}
use Rattle.quote_target.proofs.laws.PeriodLaws.{start_under}
use Rattle.run_answer_text.proofs.laws.Lengths.{refused-length}
use Rattle.run_answer_text.proofs.laws.LineLaws.{Bounded, Lengths, ReadsText, text-lengths, answered-bounded}
use Rattle.run_target_line.specs.TargetLine.{read_target, year_text, told_text, found_text, target_reply, target_line, most_target}
use Rattle.run_target_line.specs.code.Code.{SizedTold, SizedFound}
use Rattle.run_target_line.specs.laws.TargetQueryLaws.{target_text, target-text, target-between}

-- ---- a line

reads : ReadsText read_target target_text
reads = record { is = λ line e. target-text line e }

pub target-lengths : Lengths read_target 14 44
target-lengths = text-lengths reads (λ q. (target-between q).0) (λ q. (target-between q).1)

-- ---- a named year is one of the quote years

year-small : (start : ℤ) (n : ℕ) → Under start last_start → n ≤ quote_years → nat_abs (start +ℤ pos n) < 10 ^ most_digits
year-small start n u h = omega (arith, under-add u (under-pos {k = quote_years} h))

pub found-sized : (p : Params) → T (in_limits p) → (age target : ℤ) → SizedFound (target_answer p age target)
unfolding SizedFound SizedTold
found-sized p t age target = go (target_answer p age target) refl
  where
    go : (r : TargetAnswer) → target_answer p age target ≡ r → SizedFound r
    go (Ok (Reached year)) e =
        let y = (honest p age target).named year e in
        rw y.is (year-small p.start y.number (start_under (in-limits-start p t)) y.last)
    go (Ok Open) e = tt
    go (Ok Never) e = tt
    go (Err r) e = tt

-- ---- lengths

told-length : (t : TargetYear) → length (told_text t) ≤ 23
unfolding told_text year_text bytes_of
told-length (Reached year) = simp length-append (omega (arith, number-length year))
told-length Open = omega arith
told-length Never = omega arith

found-length : (r : TargetAnswer) → length (found_text r) ≤ 23
unfolding found_text
found-length (Ok told) = told-length told
found-length (Err r) = omega (arith, refused-length r)

pub target-bounded : (p : Params) → Bounded most_target (target_line p)
unfolding target_reply
target-bounded p =
    answered-bounded target-lengths (target_reply p) {n = 23} (λ q. found-length (target_answer p q.age q.target))
    (omega arith) (omega arith) (omega arith)
