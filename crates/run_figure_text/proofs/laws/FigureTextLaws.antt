-- Laws of a figure's text: how long it is, and a number's last digits one by one.
use Rattle.std.specs.Prelude.{◌≡◌, refl, ℕ, zero, suc, ◌+◌, ◌-◌, ◌/◌, ◌^◌, ◌≤◌, ◌<◌, length}
use Rattle.std.proofs.Common.{zero-add, div-one, arith, length-append}
use Rattle.std.proofs.Math.Nat.{pow-succ', div-div-eq-div-mul}
use Rattle.text_tokens.specs.Text.{bytes_of}
use Rattle.text_tokens.specs.Number.{decimal, unsigned_text}
use Rattle.text_tokens.specs.laws.DecimalLaws.{by_size, decimal-last, decimal-more}
use Rattle.number_exact.specs.declared.Figure.{Figure}
use Rattle.number_exact.specs.declared.Figure.TheVariants.{Printed, Open}
use Rattle.run_figure_text.specs.FigureText.{last_digits, steps_text, figure_text, shown_text}
use Rattle.run_figure_text.specs.code.Sizes.{Printable, few_digits, Short}

-- ---- one digit more

-- a tenth without its last digits
pub tenth-without : (d n : ℕ) → n / 10 / 10 ^ d ≡ n / 10 ^ suc d
tenth-without d n = rw pow-succ' (div-div-eq-div-mul n 10 (10 ^ d))

-- a number without its last digits has so many fewer
without-small : (d k n : ℕ) → n < 10 ^ (d + k) → n / 10 ^ d < 10 ^ k
without-small zero k n h = rw (div-one n) (rw (zero-add k) at h)
without-small (suc d) k n h =
    let e : suc d + k ≡ suc (d + k) = omega arith in
    rw (← tenth-without d n) (without-small d k (n / 10) (omega (arith, pow-succ' 10 (d + k), rw e at h)))

-- ---- lengths

-- so many digits as were asked for
pub last-length : (d n : ℕ) → length (last_digits d n) ≡ d
unfolding last_digits
last-length zero n = refl
last-length (suc d) n = simp length-append (omega (arith, last-length d (n / 10)))

-- no more digits than the number has
pub digits-within : (k m n : ℕ) → n < 10 ^ suc k → length (decimal m n) ≤ suc k
unfolding decimal
digits-within k zero n h = omega arith
digits-within zero (suc m) n h = rw (decimal-last m n h) (omega arith)
digits-within (suc k) (suc m) n h =
    by_size n (λ l. rw (decimal-last m n l) (omega arith))
    (λ l. rw (decimal-more m n l, length-append) (omega (arith, digits-within k m (n / 10) (omega (arith, pow-succ' 10 k)))))

-- a number of at most 8 digits has them and a point, where not all are decimals
steps-length : (d n : ℕ) → d < few_digits → n < 10 ^ few_digits → length (steps_text d n) ≤ suc few_digits
unfolding steps_text bytes_of unsigned_text
steps-length d n l h =
    let k = few_digits - suc d in
    let e : d + suc k ≡ few_digits = omega arith in
    simp length-append
    (omega (arith, digits-within k 15 (n / 10 ^ d) (without-small d (suc k) n (rw e h)), last-length d n))

-- and `open` is no longer
figure-length : (d : ℕ) (f : Figure) → d < few_digits → Short f → length (figure_text d f) ≤ suc few_digits
unfolding figure_text Short bytes_of
figure-length d (Printed n) l h = steps-length d n l h
figure-length d Open l h = omega arith

-- with its name
pub shown-length : (d : ℕ) (f : Figure) → d < few_digits → Short f → length (shown_text d f) ≤ 6 + few_digits
unfolding shown_text bytes_of
shown-length d f l h = omega (arith, figure-length d f l h)

-- and it has room for its digits
pub short-printable : (f : Figure) → Short f → Printable f
unfolding Short Printable
short-printable (Printed n) h = omega arith
short-printable Open h = tt
