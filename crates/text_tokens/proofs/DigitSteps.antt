-- Reading digits one by one: after k of them with the value v, what is left of the 16 that are looked at is a run of its
-- own from k places on, and v goes on with it.
use mathlib.Core.Path.{◌≡◌, sym, ap, ◌∙◌}
use Prim.Native.Nat.{ℕ, suc, ◌+◌, ◌-◌, ◌*◌, ◌^◌, ◌≤◌, ◌<◌, min}
use native.Mathlib.Nat.{add-zero, add-suc, pow-suc, pow-le-pow_right, zero-lt-suc, eq-zero-or-pos}
use native.Mathlib.Numerals.{add-one}
use native.Mathlib.Omega.{arith}
use mathlib.Core.Logic.{⊎_elim}
use mathlib.Core.Bool.{true, false}
use mathlib.Core.List.{List, [], ◌∷◌}
use lib.ListN.{length, get_or, drop, drop_of_length-le}
use lib.Seq.{drop-cons, take-nil}
use Rattle.text_tokens.specs.Number.{zero_digit, most_digits, is_digit, digits, value_from, value, leading}
use Rattle.text_tokens.specs.code.Unsigned.{DigitsRead}
use Rattle.text_tokens.specs.laws.DigitLaws.{digit-bounds, digits_more, digits-end}

-- the digits that are looked at, and those of them that are not read yet
abbrev looked : ℕ
looked = suc most_digits

module _ (bytes : List ℕ) (at : ℕ) where
  pub unread : ℕ → List ℕ
  unread k = leading (looked - k) (drop (at + k) bytes)

  unread-more : (k : ℕ) → k < looked → at + k < length bytes → is_digit (get_or bytes (at + k) 0) ≡ true
      → unread k ≡ get_or bytes (at + k) 0 ∷ unread (k + 1)
  unfolding unread leading
  unread-more k h l e =
      let q : looked - k ≡ suc (looked - suc k) = omega arith in
      rw (add-one k, add-suc at k, q, drop-cons bytes (at + k) 0, digits_more _ _ e)

  -- k digits are read, with the value v
  pub record Run (v k : ℕ) : Type 0 where
    pub counted : k + length (unread k) ≡ length (leading looked (drop at bytes))
    pub valued : value_from v (unread k) ≡ value (leading looked (drop at bytes))
    pub small : v < 10 ^ k

  pub run-start : Run 0 0
  unfolding unread
  run-start =
      record {
        counted = rw (add-zero at) (omega arith);
        valued = rw (add-zero at);
        small = omega arith;
      }

  -- a number of at most 16 digits has room for another digit in 64 bits
  pub run-bound : {v k : ℕ} → Run v k → k < looked → v < 10 ^ most_digits
  run-bound {k} r h =
      let l : k ≤ most_digits = omega arith in
      omega (arith, r.small, pow-le-pow_right {n = 10} (zero-lt-suc 9) l)

  module _ {v k : ℕ} (r : Run v k) where
    -- nothing is left: past the last byte, after 16 digits, and at a byte that is no digit
    run-stop : unread k ≡ [] → DigitsRead bytes at (record { count = k; value = v })
    unfolding value_from
    run-stop e =
        record {
          counted = omega (arith, r.counted, ap length e);
          valued = ap (value_from v) (sym e) ∙ r.valued;
        }

    pub run_end : min looked (length bytes - at) ≤ k → DigitsRead bytes at (record { count = k; value = v })
    unfolding unread leading digits
    run_end h = ⊎_elim (λ e. run-stop (rw e)) by_bytes (eq-zero-or-pos (looked - k))
      where
        by_bytes : 0 < looked - k → DigitsRead bytes at (record { count = k; value = v })
        by_bytes l =
            let m : length bytes ≤ at + k = omega arith in
            run-stop (rw (drop_of_length-le bytes m) (take-nil (looked - k)))

    pub run-break : at + k < length bytes → is_digit (get_or bytes (at + k) 0) ≡ false
        → DigitsRead bytes at (record { count = k; value = v })
    unfolding unread leading
    run-break h e =
        run-stop (rw (drop-cons bytes (at + k) 0, digits-end _ _ e) (take-nil (looked - k)))

    -- one more
    pub run-next : k < looked → at + k < length bytes → is_digit (get_or bytes (at + k) 0) ≡ true
        → Run (v * 10 + (get_or bytes (at + k) 0 - zero_digit)) (k + 1)
    unfolding value_from
    run-next h l e =
        let q = unread-more k h l e in
        record {
          counted = omega (arith, r.counted, ap length q);
          valued = ap (value_from v) (sym q) ∙ r.valued;
          small = rw (add-one k, pow-suc 10 k) (omega (arith, r.small, digit-bounds _ e));
        }
