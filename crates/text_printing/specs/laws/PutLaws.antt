-- Texts written one right after the other: each has room where their whole has, and together they are one text.
use Rattle.std.specs.Prelude.{◌≡◌, List, [], ◌++◌, ℕ, ◌+◌, length}
use Rattle.std.proofs.Common.{sym, ap, ◌∙◌, arith, length-append}
use Rattle.text_printing.specs.code.Overwritten.{overwritten}
use Rattle.text_printing.specs.laws.OverwrittenLaws.{overwritten-length, overwritten-none, overwritten-after}
use Rattle.text_printing.specs.code.Put.{Room, Put}

-- no text, written anywhere
pub put-none : (bytes : List ℕ) (at : ℕ) → Put bytes at [] bytes at
put-none bytes at = record { place = omega arith; whole = sym (overwritten-none bytes at) }

-- what a call that writes a text says
pub put_of : {bytes : List ℕ} {at : ℕ} {text after : List ℕ} {next : ℕ}
    → (next ≡ at + length text) × (after ≡ overwritten bytes at text) → Put bytes at text after next
put_of e = record { place = e.0; whole = e.1 }

-- the same text in other words
pub put_as : {bytes : List ℕ} {at : ℕ} {t u after : List ℕ} {next : ℕ} → t ≡ u → Put bytes at t after next
    → Put bytes at u after next
put_as e put = rw (← e) put

pub room_as : {bytes : List ℕ} {at : ℕ} {t u : List ℕ} → t ≡ u → Room bytes at t → Room bytes at u
room_as e room = rw (← e) room

-- a text that has room leaves the length as it was
pub put-length : {bytes : List ℕ} {at : ℕ} {text after : List ℕ} {next : ℕ} → Put bytes at text after next
    → Room bytes at text → length after ≡ length bytes
put-length {bytes} {at} {text} put room = ap length put.whole ∙ overwritten-length bytes at text room.fits

-- ---- two texts

-- the first has room
pub room-first : {bytes : List ℕ} {at : ℕ} {t : List ℕ} (u : List ℕ) → Room bytes at (t ++ u) → Room bytes at t
room-first {t} u room = record { fits = omega (arith, room.fits, length-append t u) }

-- and so has the second, where the first ends
pub room-rest : {bytes : List ℕ} {at : ℕ} {t after : List ℕ} {next : ℕ} {u : List ℕ} → Put bytes at t after next
    → Room bytes at (t ++ u) → Room after next u
room-rest {t} {u} put room =
    record { fits = omega (arith, room.fits, length-append t u, put.place, put-length put (room-first u room)) }

-- together they are one text
pub put-join : {bytes : List ℕ} {at : ℕ} {t mid : List ℕ} {next : ℕ} {u after : List ℕ} {end : ℕ}
    → Put bytes at t mid next → Put mid next u after end → Room bytes at (t ++ u) → Put bytes at (t ++ u) after end
put-join {bytes} {at} {t} {u} first rest room =
    let e = overwritten-after bytes at t u (omega (arith, room.fits, length-append t u)) in
    record {
      place = omega (arith, length-append t u, first.place, rest.place);
      whole = rest.whole ∙ rw (first.whole, first.place) e;
    }

-- ---- three texts

-- their whole has room
pub record Three (bytes : List ℕ) (at : ℕ) (t₁ t₂ t₃ : List ℕ) : Type 0 where
  pub room : Room bytes at (t₁ ++ (t₂ ++ t₃))

-- each has room where the one before ends, and together they are one text
module _ {bytes : List ℕ} {at : ℕ} {t₁ t₂ t₃ : List ℕ} (three : Three bytes at t₁ t₂ t₃) where
  pub three-first : Room bytes at t₁
  three-first = room-first (t₂ ++ t₃) three.room

  module _ {mid₁ : List ℕ} {next₁ : ℕ} (put₁ : Put bytes at t₁ mid₁ next₁) where
    rest : Room mid₁ next₁ (t₂ ++ t₃)
    rest = room-rest put₁ three.room

    pub three-second : Room mid₁ next₁ t₂
    three-second = room-first t₃ rest

    module _ {mid₂ : List ℕ} {next₂ : ℕ} (put₂ : Put mid₁ next₁ t₂ mid₂ next₂) where
      pub three_third : Room mid₂ next₂ t₃
      three_third = room-rest put₂ rest

      pub three-put : {after : List ℕ} {end : ℕ} → Put mid₂ next₂ t₃ after end
          → Put bytes at (t₁ ++ (t₂ ++ t₃)) after end
      three-put put₃ = put-join put₁ (put-join put₂ put₃ rest) three.room
