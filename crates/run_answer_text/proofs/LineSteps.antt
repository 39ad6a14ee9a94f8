-- The answer to a line in the steps of the code, whatever reads it and whatever follows it: a malformed line's refusal, or the line
-- without its line feed and then what follows.
use mathlib.Core.Path.{◌≡◌, sym}
use mathlib.Core.List.{List}
use Prim.Native.Nat.{ℕ, ◌+◌, ◌≤◌, ◌<◌}
use native.Mathlib.Omega.{arith}
use lib.ListN.{length}
use Rattle.text_tokens.specs.Text.{Parse, malformed, taken}
use Rattle.text_printing.specs.code.Put.{Room, Put}
use Rattle.text_printing.specs.laws.PutLaws.{put_as, room_as, room-first, room-rest, put-join}
use Rattle.set_refusal.specs.declared.Refusal.TheVariants.{Malformed}
use Rattle.run_answer_text.specs.AnswerText.{refusal_line, without_feed, answered}
use Rattle.run_answer_text.proofs.laws.LineLaws.{Bounded, Lengths, answered-malformed, answered-taken}

-- there is room for the answer, and a line that is read has a byte
pub record Answering {A : Type 0} (read : List ℕ → Parse A) (follows : A → List ℕ) (bytes : List ℕ) (at : ℕ) (line : List ℕ) : Type 0 where
  pub room : Room bytes at (answered read follows line)
  pub some : {q : A} {rest : List ℕ} → read line ≡ taken q rest → 0 < length line

pub answering : {A : Type 0} {read : List ℕ → Parse A} {follows : A → List ℕ} {few many longest : ℕ} → Lengths read few many
    → Bounded longest (answered read follows) → {bytes : List ℕ} {at : ℕ} (line : List ℕ) → at + longest ≤ length bytes
    → Answering read follows bytes at line
answering l b line room =
    record { room = record { fits = omega (arith, room, b.most line) }; some = λ e. omega (arith, l.least line e) }

module _ {A : Type 0} {read : List ℕ → Parse A} {follows : A → List ℕ} {bytes : List ℕ} {at : ℕ} {line : List ℕ}
    (a : Answering read follows bytes at line) where
  -- a malformed line
  pub refusal-room : read line ≡ malformed → Room bytes at (refusal_line Malformed)
  refusal-room e = room_as (answered-malformed read follows line e) a.room

  pub refusal-put : read line ≡ malformed → {after : List ℕ} {next : ℕ} → Put bytes at (refusal_line Malformed) after next
      → Put bytes at (answered read follows line) after next
  refusal-put e put = put_as (sym (answered-malformed read follows line e)) put

  -- another
  module _ {q : A} {rest : List ℕ} (e : read line ≡ taken q rest) where
    pub echo-room : (0 < length line) × Room bytes at (without_feed line)
    echo-room = (a.some e, room-first _ (room_as (answered-taken read follows line e) a.room))

    pub reply-room : {mid : List ℕ} {next : ℕ} → Put bytes at (without_feed line) mid next → Room mid next (follows q)
    reply-room put = room-rest put (room_as (answered-taken read follows line e) a.room)

    pub reply-put : {mid : List ℕ} {next : ℕ} → Put bytes at (without_feed line) mid next → {after : List ℕ} {end : ℕ}
        → Put mid next (follows q) after end → Put bytes at (answered read follows line) after end
    reply-put echo put =
        let whole = answered-taken read follows line e in put_as (sym whole) (put-join echo put (room_as whole a.room))
