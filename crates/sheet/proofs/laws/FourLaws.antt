-- Reading two lines, and four: the first that is malformed decides, or all are read.
use Rattle.std.specs.Prelude.{◌≡◌, refl, ℕ, List, [], ◌∷◌, ◌++◌, ℤ}
use Rattle.std.proofs.Common.{◌∙◌}
use Rattle.text_tokens.specs.Text.{Parse, malformed, taken}
use Rattle.sheet.specs.Sheet.{read_line, read_lines}
use Rattle.text_tokens.specs.laws.Steps.{goes, stops}

-- the values, and then those that are read
abbrev pub after : List ℤ → Parse (List ℤ) → Parse (List ℤ)
after vs q = elim q [ malformed ↦ malformed | taken us rest ↦ taken (vs ++ us) rest ]

-- the first line is malformed, or it is read
pub first-malformed : (k : List ℕ) (ks : List (List ℕ)) (bs : List ℕ) → read_line k bs ≡ malformed → read_lines (k ∷ ks) bs ≡ malformed
unfolding read_lines
first-malformed k ks bs e = stops _ e

first_taken : (k : List ℕ) (ks : List (List ℕ)) (bs : List ℕ) {v : ℤ} {rest : List ℕ} → read_line k bs ≡ taken v rest
    → read_lines (k ∷ ks) bs ≡ after (v ∷ []) (read_lines ks rest)
unfolding read_lines
first_taken k ks bs e = goes _ e

none_left : (bs : List ℕ) → read_lines [] bs ≡ taken [] bs
unfolding read_lines
none_left bs = refl

module _ (k₀ k₁ bs : List ℕ) {v₀ : ℤ} {b₀ : List ℕ} (e₀ : read_line k₀ bs ≡ taken v₀ b₀) where
  pub two-malformed : read_line k₁ b₀ ≡ malformed → read_lines (k₀ ∷ k₁ ∷ []) bs ≡ malformed
  two-malformed e = first_taken k₀ _ bs e₀ ∙ rw (first-malformed k₁ [] b₀ e)

  pub two-taken : {v₁ : ℤ} {b₁ : List ℕ} → read_line k₁ b₀ ≡ taken v₁ b₁
      → read_lines (k₀ ∷ k₁ ∷ []) bs ≡ taken (v₀ ∷ v₁ ∷ []) b₁
  two-taken {b₁} e = first_taken k₀ _ bs e₀ ∙ rw (first_taken k₁ [] b₀ e, none_left b₁)

module _ (k₀ k₁ k₂ k₃ bs : List ℕ) where
  pub four-malformed₀ : read_line k₀ bs ≡ malformed → read_lines (k₀ ∷ k₁ ∷ k₂ ∷ k₃ ∷ []) bs ≡ malformed
  four-malformed₀ e = first-malformed k₀ _ bs e

  module _ {v₀ : ℤ} {b₀ : List ℕ} (e₀ : read_line k₀ bs ≡ taken v₀ b₀) where
    pub four-malformed₁ : read_line k₁ b₀ ≡ malformed → read_lines (k₀ ∷ k₁ ∷ k₂ ∷ k₃ ∷ []) bs ≡ malformed
    four-malformed₁ e = first_taken k₀ _ bs e₀ ∙ rw (first-malformed k₁ (k₂ ∷ k₃ ∷ []) b₀ e)

    module _ {v₁ : ℤ} {b₁ : List ℕ} (e₁ : read_line k₁ b₀ ≡ taken v₁ b₁) where
      pub four-malformed₂ : read_line k₂ b₁ ≡ malformed → read_lines (k₀ ∷ k₁ ∷ k₂ ∷ k₃ ∷ []) bs ≡ malformed
      four-malformed₂ e =
          first_taken k₀ _ bs e₀ ∙ rw (first_taken k₁ (k₂ ∷ k₃ ∷ []) b₀ e₁, first-malformed k₂ (k₃ ∷ []) b₁ e)

      module _ {v₂ : ℤ} {b₂ : List ℕ} (e₂ : read_line k₂ b₁ ≡ taken v₂ b₂) where
        pub four-malformed₃ : read_line k₃ b₂ ≡ malformed → read_lines (k₀ ∷ k₁ ∷ k₂ ∷ k₃ ∷ []) bs ≡ malformed
        four-malformed₃ e =
            first_taken k₀ _ bs e₀
            ∙ rw (first_taken k₁ (k₂ ∷ k₃ ∷ []) b₀ e₁, first_taken k₂ (k₃ ∷ []) b₁ e₂, first-malformed k₃ [] b₂ e)

        pub four-taken : {v₃ : ℤ} {b₃ : List ℕ} → read_line k₃ b₂ ≡ taken v₃ b₃
            → read_lines (k₀ ∷ k₁ ∷ k₂ ∷ k₃ ∷ []) bs ≡ taken (v₀ ∷ v₁ ∷ v₂ ∷ v₃ ∷ []) b₃
        four-taken {b₃} e =
            first_taken k₀ _ bs e₀
            ∙ rw (
              first_taken k₁ (k₂ ∷ k₃ ∷ []) b₀ e₁,
              first_taken k₂ (k₃ ∷ []) b₁ e₂,
              first_taken k₃ [] b₂ e,
              none_left b₃,
            )
