-- Laws of the refusals' numbers: only what is not refused has the number 0, and each number has at most two digits. Which of two
-- refusals is the lower.
use Rattle.std.specs.Prelude.{◌≡◌, refl, ◌≤◌, ◌<◌}
use Rattle.std.proofs.Common.{arith}
use borrow.Author.Tests.{ne_eqb, le-leb, lt-leb}
use Rattle.set_refusal.specs.declared.Refusal.{Refusal}
use Rattle.set_refusal.specs.declared.Refusal.TheVariants.{Accepted, Malformed, OutOfLimits, NoSuchAge, NoSuchYear}
use Rattle.set_refusal.specs.declared.Refusal.TheVariants.{NoSuchSpan, LogForceOutOfRange, BufferTooShort, NoSuchRate, MalformedColumn, NoSuchDate, StartsDiffer}
use Rattle.set_refusal.specs.Refusals.{refusal_number, lower_refusal}

pub accepted : (r : Refusal) → refusal_number r ≡ 0 → r ≡ Accepted
unfolding refusal_number
accepted Accepted e = refl
accepted Malformed e = absurd (omega arith)
accepted OutOfLimits e = absurd (omega arith)
accepted NoSuchAge e = absurd (omega arith)
accepted NoSuchYear e = absurd (omega arith)
accepted NoSuchSpan e = absurd (omega arith)
accepted LogForceOutOfRange e = absurd (omega arith)
accepted BufferTooShort e = absurd (omega arith)
accepted NoSuchRate e = absurd (omega arith)
accepted MalformedColumn e = absurd (omega arith)
accepted NoSuchDate e = absurd (omega arith)
accepted StartsDiffer e = absurd (omega arith)

pub number_small : (r : Refusal) → refusal_number r < 100
unfolding refusal_number
number_small Accepted = omega arith
number_small Malformed = omega arith
number_small OutOfLimits = omega arith
number_small NoSuchAge = omega arith
number_small NoSuchYear = omega arith
number_small NoSuchSpan = omega arith
number_small LogForceOutOfRange = omega arith
number_small BufferTooShort = omega arith
number_small NoSuchRate = omega arith
number_small MalformedColumn = omega arith
number_small NoSuchDate = omega arith
number_small StartsDiffer = omega arith

-- ---- of two refusals

module _ (r r' : Refusal) where
  -- one is none
  pub lower-second-none : refusal_number r' ≡ 0 → lower_refusal r r' ≡ r
  unfolding lower_refusal
  lower-second-none e = rw e

  pub lower-first-none : refusal_number r ≡ 0 → (refusal_number r' ≡ 0 → ⊥) → lower_refusal r r' ≡ r'
  unfolding lower_refusal
  lower-first-none e n = rw (ne_eqb (refusal_number r') 0 n, e)

  -- neither is none
  pub lower-first : (refusal_number r ≡ 0 → ⊥) → (refusal_number r' ≡ 0 → ⊥) → refusal_number r ≤ refusal_number r'
      → lower_refusal r r' ≡ r
  unfolding lower_refusal
  lower-first m n l = rw (ne_eqb (refusal_number r') 0 n, ne_eqb (refusal_number r) 0 m, le-leb _ _ l)

  pub lower-second : (refusal_number r ≡ 0 → ⊥) → (refusal_number r' ≡ 0 → ⊥) → refusal_number r' < refusal_number r
      → lower_refusal r r' ≡ r'
  unfolding lower_refusal
  lower-second m n l = rw (ne_eqb (refusal_number r') 0 n, ne_eqb (refusal_number r) 0 m, lt-leb _ _ l)
