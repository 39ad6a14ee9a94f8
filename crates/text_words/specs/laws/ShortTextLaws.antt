-- Short texts: one after another in one word, and which bytes of two words are the same.
use Rattle.std.specs.Prelude.{◌≡◌, ℕ, zero, suc, ◌+◌, ◌-◌, ◌*◌, ◌/◌, ◌%◌, ◌^◌, ◌≤◌, ◌<◌, List, ◌∷◌, ◌++◌, eqb, length}
use Rattle.std.proofs.Common.{sym, ap, ◌∙◌, suc-mul, zero-mul, suc-add, zero-add, mod-lt, le_refl, lt_of_lt_of_le, zero-lt-suc, arith, eqb-true, take_all, pow-add, pow_pos, shl_exact, shr_lt}
use Rattle.std.proofs.Math.Nat.{pow-le-pow_right}
use Rattle.std.proofs.lemmas.Bool.{eqb-false}
use Rattle.std.proofs.Math.Arith.{digits_lt}
use Rattle.std.proofs.Math.Pow.{high, low, split}
use Rattle.text_words.specs.declared.Short.{Short}
use Rattle.text_words.specs.code.Word.{byte_bits, word_bytes, lanes, word_of, bytes_in, Below}
use Rattle.text_words.specs.code.ShortText.{Sized, Holds, Tells, Joins, text_of}
use Rattle.text_words.specs.laws.LaneLaws.{lanes-length, lanes-of-sum, sum_below, same-lanes, same_left, shifted, shifted-same}

-- the lanes of two numbers side by side
pub lanes-joined : (k n m w v : ℕ) → w < 2 ^ (n * k) → lanes k (n + m) (v * 2 ^ (n * k) + w) ≡ lanes k n w ++ lanes k m v
unfolding lanes
lanes-joined k zero m w v h =
    let z : w < 1 = rw (zero-mul k) at h in
    let e : v * 2 ^ (zero * k) + w ≡ v = rw (zero-mul k) (omega arith) in
    rw (zero-add m, e)
lanes-joined k (suc n) m w v h =
    let l : w < 2 ^ (n * k + k) = rw (suc-mul n k) at h in
    let p : 2 ^ (suc n * k) ≡ 2 ^ (n * k) * 2 ^ k = ap (λ (i : ℕ). 2 ^ i) (suc-mul n k) ∙ pow-add 2 (n * k) k in
    let e : v * 2 ^ (suc n * k) + w ≡ (v * 2 ^ (n * k) + w / 2 ^ k) * 2 ^ k + w % 2 ^ k =
    omega (arith, ap (λ (i : ℕ). v * i) p, split w k) in
    let b = mod-lt w (pow_pos k) in
    rw (suc-add n m, e, low (v * 2 ^ (n * k) + w / 2 ^ k) k b, high (v * 2 ^ (n * k) + w / 2 ^ k) k b)
    (ap (λ (r : List ℕ). w % 2 ^ k ∷ r) (lanes-joined k n m (w / 2 ^ k) v (shr_lt (n * k) k l)))

-- the test of two words shifted so that only their first n bytes are left
pub shift-tells : (w v n : ℕ) → n ≤ word_bytes
    → Tells (eqb (w * 2 ^ (64 - 8 * n) % 2 ^ 64) (v * 2 ^ (64 - 8 * n) % 2 ^ 64)) (bytes_in n w ≡ bytes_in n v)
shift-tells w v n h =
    let e : n * byte_bits + (64 - 8 * n) ≡ 64 = omega arith in
    record {
      yes = λ t. same-lanes byte_bits n w v (shifted-same w v (n * byte_bits) (64 - 8 * n) (rw e (eqb-true _ _ t)));
      no = λ t q.
          eqb-false _ _ t
          (rw e at
          (shifted w (n * byte_bits) (64 - 8 * n)
          ∙ ap (λ (i : ℕ). i * 2 ^ (64 - 8 * n)) (same_left byte_bits n w v q)
          ∙ sym (shifted v (n * byte_bits) (64 - 8 * n))));
    }

-- a word and a length are a short text of the bytes that make up the word
pub holds-sum : (s : Short) (text : List ℕ) → Below (2 ^ byte_bits) text → length text ≤ word_bytes → s.len ≡ length text
    → s.word ≡ word_of text → Holds s text
holds-sum s text b l n w =
    record {
      padded = record { short = omega arith; clear = rw (n, w) (sum_below byte_bits b) };
      holds = rw (n, w) (lanes-of-sum byte_bits (length text) b (le_refl _) ∙ take_all (length text) text (le_refl _));
    }

-- two short texts side by side, in 64 bits
module _ (s t : Short) (j : Joins s t) where
  pub shift-exact : t.word * 2 ^ (8 * s.len) % 2 ^ 64 ≡ t.word * 2 ^ (s.len * byte_bits)
  shift-exact =
      shl_exact (t.len * byte_bits) (8 * s.len) 64 j.second.clear (omega (arith, j.room))
      ∙ ap (λ (i : ℕ). t.word * 2 ^ i) (omega arith)

  pub side_by_side : t.word * 2 ^ (s.len * byte_bits) + s.word < 2 ^ ((s.len + t.len) * byte_bits)
  side_by_side =
      let e : (s.len + t.len) * byte_bits ≡ t.len * byte_bits + s.len * byte_bits = omega arith in
      rw (e, pow-add 2 (t.len * byte_bits) (s.len * byte_bits)) (digits_lt j.second.clear j.first.clear)

  pub side-fits : t.word * 2 ^ (s.len * byte_bits) + s.word < 2 ^ 64
  side-fits =
      lt_of_lt_of_le side_by_side (pow-le-pow_right {n = 2} (zero-lt-suc 1) {j = 64} (omega (arith, j.room)))

  pub side-holds : (r : Short) → r.len ≡ s.len + t.len → r.word ≡ t.word * 2 ^ (s.len * byte_bits) + s.word
      → Holds r (text_of s ++ text_of t)
  side-holds r n w =
      record {
        padded = record { short = omega (arith, j.room); clear = rw (n, w) side_by_side };
        holds = rw (n, w) (lanes-joined byte_bits s.len t.len s.word t.word j.first.clear);
      }

-- how long a short text is
pub holds-length : {s : Short} {text : List ℕ} → Holds s text → s.len ≡ length text
holds-length {s} h = sym (lanes-length byte_bits s.len s.word) ∙ ap length h.holds

pub holds-sized : {s : Short} {text : List ℕ} → Holds s text → 0 < length text → Sized s
holds-sized h l = record { some = omega (arith, holds-length h); short = h.padded.short }

-- two short texts that hold texts of at most eight bytes together
pub holds-joins : {s t : Short} {u v : List ℕ} → Holds s u → Holds t v → 0 < length v → length u + length v ≤ word_bytes
    → Joins s t
holds-joins h k l m =
    record {
      first = h.padded;
      second = k.padded;
      some = omega (arith, holds-length k);
      room = omega (arith, holds-length h, holds-length k);
    }
