-- Digits read one after the other, in a list and from a place on; and how large the number is that they stand for.
use Rattle.std.specs.Prelude.{◌≡◌, refl, Bool, true, false, List, [], ◌∷◌, ℕ, zero, suc, ◌+◌, ◌-◌, ◌*◌, ◌^◌, ◌≤◌, ◌<◌, length, get_or, drop}
use Rattle.std.proofs.Common.{sym, ◌∙◌, pow-suc, lt_of_lt_of_le, add-one, arith, drop_of_length-le, drop-cons}
use Rattle.text_tokens.specs.Text.{malformed, taken}
use Rattle.text_tokens.specs.Number.{zero_digit, is_digit, read_digits}
use Rattle.text_tokens.specs.laws.DigitLaws.{digit-bounds, digit-within}
use Rattle.text_tokens.specs.laws.FixedLaws.{read_all, read_past, read-other, read-digit}
use Rattle.text_tokens.specs.laws.NumberTrip.{malformed-not-taken}

-- ---- in a list

-- n digits after those of v stand for less than (v + 1)·10ⁿ
pub digits-small : (v n : ℕ) (bs : List ℕ) {w : ℕ} {rest : List ℕ} → read_digits v n bs ≡ taken w rest → w < suc v * 10 ^ n
digits-small v zero bs {w} {rest} e =
    let q : taken v bs ≡ taken w rest = sym (read_all v bs) ∙ e in
    let x : v ≡ w = cc in
    omega arith
digits-small v (suc n) [] {w} {rest} e = malformed-not-taken (sym (read_past v n) ∙ e)
digits-small v (suc n) (b ∷ bs) {w} {rest} e = go (λ q. digits-small (v * 10 + (b - zero_digit)) n bs q) (is_digit b) refl
  where
    go : (read_digits (v * 10 + (b - zero_digit)) n bs ≡ taken w rest → w < suc (v * 10 + (b - zero_digit)) * 10 ^ n)
        → (x : Bool) → is_digit b ≡ x → w < suc v * 10 ^ suc n
    go ih true h =
        let d = digit-bounds b h in
        let l = ih (sym (read-digit v n b bs h) ∙ e) in
        rw (pow-suc 10 n) (lt_of_lt_of_le l (digit-within v (b - zero_digit) 10 (10 ^ n) (omega arith)))
    go ih false h = malformed-not-taken (sym (read-other v n b bs h) ∙ e)

-- ---- from a place on

module _ (bytes : List ℕ) (v n next : ℕ) where
  -- a digit is missing
  pub place-past : 0 < n → length bytes ≤ next → read_digits v n (drop next bytes) ≡ malformed
  place-past h k = go n h
    where
      go : (m : ℕ) → 0 < m → read_digits v m (drop next bytes) ≡ malformed
      go zero l = absurd (omega arith)
      go (suc m) l = rw (drop_of_length-le bytes k) (read_past v m)

  module _ (h : 0 < n) (k : next < length bytes) where
    pub place_other : is_digit (get_or bytes next 0) ≡ false → read_digits v n (drop next bytes) ≡ malformed
    place_other e = go n h
      where
        go : (m : ℕ) → 0 < m → read_digits v m (drop next bytes) ≡ malformed
        go zero l = absurd (omega arith)
        go (suc m) l = rw (drop-cons bytes next 0 k) (read-other v m _ _ e)

    -- a digit more
    pub place-digit : is_digit (get_or bytes next 0) ≡ true
        → read_digits v n (drop next bytes)
        ≡ read_digits (v * 10 + (get_or bytes next 0 - zero_digit)) (n - 1) (drop (next + 1) bytes)
    place-digit e = go n h
      where
        go : (m : ℕ) → 0 < m
            → read_digits v m (drop next bytes)
            ≡ read_digits (v * 10 + (get_or bytes next 0 - zero_digit)) (m - 1) (drop (next + 1) bytes)
        go zero l = absurd (omega arith)
        go (suc m) l =
            let q : suc m - 1 ≡ m = omega arith in
            rw (add-one next, q, drop-cons bytes next 0 k) (read-digit v m _ _ e)
