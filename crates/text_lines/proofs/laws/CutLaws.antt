-- Bytes that are lines from end to end: a text of n lines, each closed by its line feed, is the first n lines of whatever
-- begins with it.
use Rattle.std.specs.Prelude.{◌≡◌, refl, Bool, true, false, ◌&&◌, List, [], ◌∷◌, ◌++◌, ℕ, suc, T, eqb, ltb}
use Rattle.std.proofs.Common.{ap, ◌∙◌, append_assoc, arith, ne_eqb, ltb→lt}
use Rattle.std.specs.Float.Ieee.Fits.{and_i, and_l, and_r}
use Rattle.text_lines.specs.Lines.{line_feed, first_line, after_line, first_lines}
use Rattle.text_lines.proofs.laws.AfterLines.{after_lines}
use Rattle.text_lines.proofs.laws.LineLaws.{first-feed, first_more, after-feed, after_more}

-- ---- definitions

-- every byte lies above the line feed
abbrev pub above : List ℕ → Bool
above [] = true
above (b ∷ bs) = ltb line_feed b && above bs

-- n lines from end to end
pub record Cuts (n : ℕ) (text : List ℕ) : Type 0 where
  pub first : (rest : List ℕ) → first_lines n (text ++ rest) ≡ text
  pub after : (rest : List ℕ) → after_lines n (text ++ rest) ≡ rest

-- ---- laws

pub above-append : (a b : List ℕ) → T (above a) → T (above b) → T (above (a ++ b))
above-append [] b t u = u
above-append (c ∷ a) b t u =
    and_i (ltb line_feed c) (above (a ++ b)) (and_l (ltb line_feed c) (above a) t)
    (above-append a b (and_r (ltb line_feed c) (above a) t) u)

-- the first byte is no line feed
not-feed : (b : ℕ) (bs : List ℕ) → T (above (b ∷ bs)) → eqb b line_feed ≡ false
not-feed b bs t = ne_eqb b line_feed (λ e. absurd (omega (arith, ltb→lt line_feed b (and_l (ltb line_feed b) (above bs) t), e)))

first-line : (l rest : List ℕ) → T (above l) → first_line (l ++ (line_feed ∷ rest)) ≡ l ++ (line_feed ∷ [])
first-line [] rest t = first-feed line_feed rest refl
first-line (b ∷ l) rest t =
    first_more b (l ++ (line_feed ∷ rest)) (not-feed b l t)
    ∙ ap (◌∷◌ b) (first-line l rest (and_r (ltb line_feed b) (above l) t))

after-line : (l rest : List ℕ) → T (above l) → after_line (l ++ (line_feed ∷ rest)) ≡ rest
after-line [] rest t = after-feed line_feed rest refl
after-line (b ∷ l) rest t =
    after_more b (l ++ (line_feed ∷ rest)) (not-feed b l t) ∙ after-line l rest (and_r (ltb line_feed b) (above l) t)

pub cuts-none : Cuts 0 []
unfolding first_lines after_lines
cuts-none = record { first = λ rest. refl; after = λ rest. refl }

-- a line more at the front
pub cuts-line : {n : ℕ} (l text : List ℕ) → T (above l) → Cuts n text → Cuts (suc n) (l ++ (line_feed ∷ text))
unfolding first_lines after_lines
cuts-line l text t c =
    record {
      first = λ rest.
          rw (append_assoc l (line_feed ∷ text) rest, first-line l (text ++ rest) t, after-line l (text ++ rest) t, c.first rest)
          (append_assoc l (line_feed ∷ []) text);
      after = λ rest. rw (append_assoc l (line_feed ∷ text) rest, after-line l (text ++ rest) t) (c.after rest);
    }
