-- Four texts written one right after the other: each has room where their whole has, and together they are one text.
use mathlib.Core.Path.{sym}
use mathlib.Core.List.{List, [], ◌++◌, append-nil}
use Prim.Native.Nat.{ℕ}
use Rattle.text_printing.specs.code.Put.{Room, Put}
use Rattle.text_printing.specs.laws.PutLaws.{put_as, room-first, room-rest, put-join}
use Rattle.text_printing.specs.laws.PutLaws.{Three, three-first, three-second, three_third, three-put}

pub record Four (bytes : List ℕ) (at : ℕ) (t₁ t₂ t₃ t₄ : List ℕ) : Type 0 where
  pub room : Room bytes at (t₁ ++ (t₂ ++ (t₃ ++ (t₄ ++ []))))

module _ {bytes : List ℕ} {at : ℕ} {t₁ t₂ t₃ t₄ : List ℕ} (four : Four bytes at t₁ t₂ t₃ t₄) where
  -- the first two, and the others together
  three : Three bytes at t₁ t₂ (t₃ ++ (t₄ ++ []))
  three = record { room = four.room }

  pub room-one : Room bytes at t₁
  room-one = three-first three

  module _ {mid₁ : List ℕ} {next₁ : ℕ} (put₁ : Put bytes at t₁ mid₁ next₁) where
    pub room-two : Room mid₁ next₁ t₂
    room-two = three-second three put₁

    module _ {mid₂ : List ℕ} {next₂ : ℕ} (put₂ : Put mid₁ next₁ t₂ mid₂ next₂) where
      rest : Room mid₂ next₂ (t₃ ++ (t₄ ++ []))
      rest = three_third three put₁ put₂

      pub room-three : Room mid₂ next₂ t₃
      room-three = room-first (t₄ ++ []) rest

      module _ {mid₃ : List ℕ} {next₃ : ℕ} (put₃ : Put mid₂ next₂ t₃ mid₃ next₃) where
        pub room-four : Room mid₃ next₃ t₄
        room-four = room-first [] (room-rest put₃ rest)

        pub put_four : {after : List ℕ} {end : ℕ} → Put mid₃ next₃ t₄ after end
            → Put bytes at (t₁ ++ (t₂ ++ (t₃ ++ (t₄ ++ [])))) after end
        put_four put₄ = three-put three put₁ put₂ (put-join put₃ (put_as (sym (append-nil t₄)) put₄) rest)
