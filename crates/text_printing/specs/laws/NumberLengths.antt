-- The texts of numbers: a text is the text of the tenth and one digit more, and how long the texts are.
use Rattle.std.specs.Prelude.{◌≡◌, refl, List, [], ◌∷◌, ◌++◌, ℕ, zero, suc, ◌+◌, ◌/◌, ◌%◌, ◌^◌, ◌≤◌, ◌<◌, ℤ, pos, negsuc, nat_abs, ◌≤ℤ◌, ◌<ℤ◌}
use Rattle.std.proofs.Common.{sym, ap, ◌∙◌, pow-suc, arith}
use Rattle.number_whole.proofs.laws.Split.{split}
use Rattle.text_tokens.specs.Number.{zero_digit, minus_sign, most_digits, decimal, unsigned_text, number_text}
use Rattle.text_tokens.specs.laws.DecimalLaws.{decimal-last, decimal-more, by_size}
pub use Rattle.text_tokens.specs.laws.DecimalLaws.{text-small, unsigned-length, number-length}

-- room for one digit more changes nothing, where all digits have room
decimal-room : (m n : ℕ) → n < 10 ^ suc m → decimal (suc (suc m)) n ≡ decimal (suc m) n
decimal-room zero n h = let k : n < 10 = omega arith in decimal-last 1 n k ∙ sym (decimal-last 0 n k)
decimal-room (suc m) n h =
    let ih = decimal-room m (n / 10) (omega (arith, rw (pow-suc 10 (suc m)) at h)) in
    by_size n
    (λ k. rw (decimal-last (suc (suc m)) n k, decimal-last (suc m) n k))
    (λ k. rw (decimal-more (suc (suc m)) n k, decimal-more (suc m) n k, ih))

-- from 10 on
pub text-step : (n : ℕ) → 10 ≤ n → n < 10 ^ most_digits
    → unsigned_text n ≡ unsigned_text (n / 10) ++ ((zero_digit + n % 10) ∷ [])
unfolding unsigned_text
text-step n h k = decimal-more 14 n h
    ∙ ap (λ (l : List ℕ). l ++ ((zero_digit + n % 10) ∷ [])) (sym (decimal-room 13 (n / 10) (omega arith)))

-- below 0, and from 0 on
pub text-negative : {v : ℤ} → v <ℤ pos 0 → number_text v ≡ minus_sign ∷ unsigned_text (nat_abs v)
unfolding number_text
text-negative {v = pos n} h = absurd (omega split)
text-negative {v = negsuc n} h = refl

pub text-natural : {v : ℤ} → pos 0 ≤ℤ v → number_text v ≡ unsigned_text (nat_abs v)
unfolding number_text
text-natural {v = pos n} h = refl
text-natural {v = negsuc n} h = absurd h.le
