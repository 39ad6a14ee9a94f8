-- Laws of the answer to a line, whatever reads it and whatever follows it: by what the line reads as, and how long it is.
use Rattle.std.specs.Prelude.{◌≡◌, refl, List, ◌++◌, ℕ, suc, ◌+◌, ◌-◌, ◌*◌, ◌≤◌, ◌<◌}
use Rattle.std.proofs.Math.Path.{ap}
use Rattle.std.proofs.Common.{arith, length-take}
use Rattle.std.proofs.Math.ListN.{length, length-append}
use Rattle.std.proofs.Math.Seq.{take-append_seam}
use Rattle.text_tokens.specs.Text.{bytes_of, Parse, malformed, taken}
use Rattle.set_refusal.specs.declared.Refusal.TheVariants.{Malformed}
use Rattle.run_answer_text.specs.AnswerText.{refusal_line, without_feed, answered}
use Rattle.run_answer_text.proofs.laws.Lengths.{malformed-length}

-- ---- definitions

-- no answer is longer than the longest, nor than five bytes for each of its line's
pub record Bounded (longest : ℕ) (answer : List ℕ → List ℕ) : Type 0 where
  pub most : (l : List ℕ) → length (answer l) ≤ longest
  pub fivefold : (l : List ℕ) → 0 < length l → length (answer l) ≤ 5 * length l

-- a line that is read has at least so many bytes before its last, and at most so many
pub record Lengths {A : Type 0} (read : List ℕ → Parse A) (few many : ℕ) : Type 0 where
  pub least : (line : List ℕ) {q : A} {rest : List ℕ} → read line ≡ taken q rest → few < length line
  pub most : (line : List ℕ) {q : A} {rest : List ℕ} → read line ≡ taken q rest → length line ≤ suc many

-- what is read is a text and a line feed
pub record ReadsText {A : Type 0} (read : List ℕ → Parse A) (text : A → List ℕ) : Type 0 where
  pub is : (line : List ℕ) {q : A} {rest : List ℕ} → read line ≡ taken q rest → line ≡ text q ++ bytes_of "\n"

-- ---- laws

module _ {A : Type 0} (read : List ℕ → Parse A) (follows : A → List ℕ) (line : List ℕ) where
  -- a malformed line, and another
  pub answered-malformed : read line ≡ malformed → answered read follows line ≡ refusal_line Malformed
  unfolding answered
  answered-malformed e = rw (e, answered)

  pub answered-taken : {q : A} {rest : List ℕ} → read line ≡ taken q rest
      → answered read follows line ≡ without_feed line ++ follows q
  unfolding answered
  answered-taken e = rw (e, answered)

-- of lines that are read where they are a text and a line feed
module _ {A : Type 0} {read : List ℕ → Parse A} {text : A → List ℕ} (t : ReadsText read text) where
  text-length : (line : List ℕ) {q : A} {rest : List ℕ} → read line ≡ taken q rest → length line ≡ suc (length (text q))
  unfolding bytes_of
  text-length line {q} e = omega (arith, ap length (t.is line e), length-append (text q) (bytes_of "\n"))

  -- without its line feed it is the text
  pub echoed : (line : List ℕ) {q : A} {rest : List ℕ} → read line ≡ taken q rest → without_feed line ≡ text q
  echoed line {q} e =
      let l : length line - 1 ≡ length (text q) = omega (arith, text-length line e) in
      rw (l, t.is line e) (take-append_seam (text q) (bytes_of "\n"))

  -- by how long the texts are
  pub text-lengths : {few many : ℕ} → ((q : A) → few ≤ length (text q)) → ((q : A) → length (text q) ≤ many)
      → Lengths read few many
  text-lengths least most =
      record {
        least = λ line {q} e. omega (arith, text-length line e, least q);
        most = λ line {q} e. omega (arith, text-length line e, most q);
      }

-- by how long the lines are and how many bytes follow
module _ {A : Type 0} {read : List ℕ → Parse A} {few many : ℕ} (l : Lengths read few many) (follows : A → List ℕ) {n : ℕ}
    (h : (q : A) → length (follows q) ≤ n) where
  taken-length : (line : List ℕ) {q : A} {rest : List ℕ} → read line ≡ taken q rest
      → length (answered read follows line) ≤ length line - 1 + n
  taken-length line {q} e =
      rw (answered-taken read follows line e)
      (omega (arith, length-append (without_feed line) (follows q), length-take (length line - 1) line, h q))

  pub answered-bounded : {longest : ℕ} → 5 ≤ longest → many + n ≤ longest → n ≤ 4 * few + 5
      → Bounded longest (answered read follows)
  answered-bounded {longest} short whole small =
      record { most = λ line. go line (read line) refl; fivefold = λ line some. five line some (read line) refl }
    where
      go : (line : List ℕ) (r : Parse A) → read line ≡ r → length (answered read follows line) ≤ longest
      go line malformed e = rw (answered-malformed read follows line e) (omega (arith, malformed-length))
      go line (taken q rest) e = omega (arith, taken-length line e, l.most line e)

      five : (line : List ℕ) → 0 < length line → (r : Parse A) → read line ≡ r
          → length (answered read follows line) ≤ 5 * length line
      five line some malformed e = rw (answered-malformed read follows line e) (omega (arith, malformed-length))
      five line some (taken q rest) e = omega (arith, taken-length line e, l.least line e)
