-- Laws of lines: the first line and what follows it make up the bytes, and the lines are the first and those after it.
use Rattle.std.specs.Prelude.{◌≡◌, refl, ℕ, zero, suc, ◌+◌, ◌-◌, ◌≤◌, ◌<◌, Bool, true, false, List, [], ◌∷◌, ◌++◌, eqb, length, get_or, take, drop, cond, min, ltb, Some, None, position}
use Rattle.std.proofs.Common.{sym, ap, ◌∙◌, arith, append_assoc, eq-eqb, ne_eqb, length-append, length-drop, take_all, drop_of_length-le, drop-cons}
use Rattle.std.proofs.Math.Seq.{take-append_seam, drop-append_seam}
use borrow.Author.Tests.{ltb-true, ltb-false}
use Rattle.std.proofs.lemmas.Option.{none-some}
use Rattle.std.specs.List.{position_or_len}
use Rattle.text_lines.specs.Lines.{line_feed, first_line, after_line, first_lines, ahead, lines}
use Rattle.text_lines.proofs.laws.AfterLines.{after_lines}

-- ---- one byte

pub first-feed : (b : ℕ) (bs : List ℕ) → eqb b line_feed ≡ true → first_line (b ∷ bs) ≡ b ∷ []
unfolding first_line
first-feed b bs e = rw (e, first_line)

pub first_more : (b : ℕ) (bs : List ℕ) → eqb b line_feed ≡ false → first_line (b ∷ bs) ≡ b ∷ first_line bs
unfolding first_line
first_more b bs e = rw (e, first_line)

pub after-feed : (b : ℕ) (bs : List ℕ) → eqb b line_feed ≡ true → after_line (b ∷ bs) ≡ bs
unfolding after_line
after-feed b bs e = rw (e, after_line)

pub after_more : (b : ℕ) (bs : List ℕ) → eqb b line_feed ≡ false → after_line (b ∷ bs) ≡ after_line bs
unfolding after_line
after_more b bs e = rw (e, after_line)

-- ---- the first line

-- it and what follows it make up the bytes
pub line-split : (bs : List ℕ) → first_line bs ++ after_line bs ≡ bs
unfolding first_line after_line
line-split [] = refl
line-split (b ∷ bs) = go (eqb b line_feed) refl (line-split bs)
  where
    go : (x : Bool) → eqb b line_feed ≡ x → first_line bs ++ after_line bs ≡ bs
        → first_line (b ∷ bs) ++ after_line (b ∷ bs) ≡ b ∷ bs
    go true e ih = rw (first-feed b bs e, after-feed b bs e)
    go false e ih = rw (first_more b bs e, after_more b bs e) (ap (◌∷◌ b) ih)

pub after-drop : (bs : List ℕ) → after_line bs ≡ drop (length (first_line bs)) bs
after-drop bs = sym (drop-append_seam (first_line bs) (after_line bs)) ∙ ap (drop (length (first_line bs))) (line-split bs)

pub line-length : (bs : List ℕ) → length (first_line bs) + length (after_line bs) ≡ length bs
line-length bs = sym (length-append (first_line bs) (after_line bs)) ∙ ap length (line-split bs)

pub line-take : (bs : List ℕ) → take (length (first_line bs)) bs ≡ first_line bs
line-take bs = ap (take (length (first_line bs))) (sym (line-split bs)) ∙ take-append_seam (first_line bs) (after_line bs)

-- a line has a byte
pub line-some : (b : ℕ) (bs : List ℕ) → 1 ≤ length (first_line (b ∷ bs))
line-some b bs = go (eqb b line_feed) refl
  where
    go : (x : Bool) → eqb b line_feed ≡ x → 1 ≤ length (first_line (b ∷ bs))
    go true e = rw (first-feed b bs e) (omega arith)
    go false e = rw (first_more b bs e) (omega arith)

-- ---- all lines

lines-feed : (b : ℕ) (bs : List ℕ) → eqb b line_feed ≡ true → lines (b ∷ bs) ≡ (b ∷ []) ∷ lines bs
unfolding lines
lines-feed b bs e = rw (e, lines)

lines_more : (b : ℕ) (bs : List ℕ) → eqb b line_feed ≡ false → lines (b ∷ bs) ≡ ahead b (lines bs)
unfolding lines
lines_more b bs e = rw (e, lines)

-- no line, or the first and those after it
pub lines_none : lines [] ≡ []
unfolding lines
lines_none = refl

last_line : (b : ℕ) → ahead b (lines []) ≡ (b ∷ first_line []) ∷ lines (after_line [])
unfolding lines ahead first_line after_line
last_line b = refl

longer : (b : ℕ) (l : List ℕ) (ls : List (List ℕ)) → ahead b (l ∷ ls) ≡ (b ∷ l) ∷ ls
unfolding ahead
longer b l ls = refl

pub lines-first : (b : ℕ) (bs : List ℕ) → lines (b ∷ bs) ≡ first_line (b ∷ bs) ∷ lines (after_line (b ∷ bs))
lines-first b [] = go (eqb b line_feed) refl
  where
    go : (x : Bool) → eqb b line_feed ≡ x → lines (b ∷ []) ≡ first_line (b ∷ []) ∷ lines (after_line (b ∷ []))
    go true e = rw (lines-feed b [] e, first-feed b [] e, after-feed b [] e)
    go false e = lines_more b [] e ∙ last_line b ∙ rw (first_more b [] e, after_more b [] e)
lines-first b (c ∷ cs) = go (eqb b line_feed) refl (lines-first c cs)
  where
    go : (x : Bool) → eqb b line_feed ≡ x → lines (c ∷ cs) ≡ first_line (c ∷ cs) ∷ lines (after_line (c ∷ cs))
        → lines (b ∷ c ∷ cs) ≡ first_line (b ∷ c ∷ cs) ∷ lines (after_line (b ∷ c ∷ cs))
    go true e ih = rw (lines-feed b (c ∷ cs) e, first-feed b (c ∷ cs) e, after-feed b (c ∷ cs) e)
    go false e ih =
        lines_more b (c ∷ cs) e ∙ ap (ahead b) ih ∙ longer b (first_line (c ∷ cs)) (lines (after_line (c ∷ cs)))
        ∙ rw (first_more b (c ∷ cs) e, after_more b (c ∷ cs) e)

-- ---- the first n lines

-- they and what follows them make up the bytes
pub lines_split : (n : ℕ) (bs : List ℕ) → first_lines n bs ++ after_lines n bs ≡ bs
unfolding first_lines after_lines
lines_split zero bs = refl
lines_split (suc n) bs =
    append_assoc (first_line bs) (first_lines n (after_line bs)) (after_lines n (after_line bs))
    ∙ ap (λ (r : List ℕ). first_line bs ++ r) (lines_split n (after_line bs)) ∙ line-split bs

-- how long they are: the first, and those after it
pub lines-length : (n : ℕ) (bs : List ℕ)
    → length (first_lines (suc n) bs) ≡ length (first_line bs) + length (first_lines n (after_line bs))
unfolding first_lines
lines-length n bs = length-append (first_line bs) (first_lines n (after_line bs))

-- they end within the bytes
pub lines-within : (n : ℕ) (bs : List ℕ) → length (first_lines n bs) ≤ length bs
unfolding first_lines
lines-within zero bs = omega arith
lines-within (suc n) bs = omega (arith, lines-length n bs, lines-within n (after_line bs), line-length bs)

-- ---- by the place of the first line feed

-- how many bytes stand before it
abbrev before_feed : List ℕ → ℕ
before_feed bs = position_or_len (λ (b : ℕ). eqb b line_feed) bs

feed-place : (bs : List ℕ) → length (first_line bs) ≡ min (suc (before_feed bs)) (length bs)
unfolding first_line
feed-place [] = refl
feed-place (b ∷ bs) = go (eqb b line_feed) refl (feed-place bs)
  where
    go : (x : Bool) → eqb b line_feed ≡ x → length (first_line bs) ≡ min (suc (before_feed bs)) (length bs)
        → length (first_line (b ∷ bs)) ≡ min (suc (before_feed (b ∷ bs))) (length (b ∷ bs))
    go true e ih = rw (first-feed b bs e, e) (omega arith)
    go false e ih = rw (first_more b bs e, e) (omega arith)

-- it stands at i, or nowhere
module _ (bs : List ℕ) where
  feed-found : {i : ℕ} → Some i ≡ position (λ (b : ℕ). eqb b line_feed) bs → length (first_line bs) ≡ i + 1
  feed-found {i} = go (ltb (before_feed bs) (length bs)) refl
    where
      go : (x : Bool) → ltb (before_feed bs) (length bs) ≡ x → Some i ≡ cond x (Some (before_feed bs)) None
          → length (first_line bs) ≡ i + 1
      go true e f = let is : i ≡ before_feed bs = cc in omega (arith, feed-place bs, ltb-true)
      go false e f = absurd (none-some i (sym f))

  no_feed : None ≡ position (λ (b : ℕ). eqb b line_feed) bs → length (first_line bs) ≡ length bs
  no_feed = go (ltb (before_feed bs) (length bs)) refl
    where
      go : (x : Bool) → ltb (before_feed bs) (length bs) ≡ x → None ≡ cond x (Some (before_feed bs)) None
          → length (first_line bs) ≡ length bs
      go true e f = absurd (none-some _ f)
      go false e f = omega (arith, feed-place bs, ltb-false)

-- the same of the bytes from a place on, as a slice of the code gives them
module _ (bytes : List ℕ) (at : ℕ) where
  rest-all : take (length bytes - at) (drop at bytes) ≡ drop at bytes
  rest-all = take_all (length bytes - at) (drop at bytes) (omega (arith, length-drop at bytes))

  pub place-found : {i : ℕ} → Some i ≡ position (λ (b : ℕ). eqb b line_feed) (take (length bytes - at) (drop at bytes))
      → length (first_line (drop at bytes)) ≡ i + 1
  place-found e = feed-found (drop at bytes) (rw rest-all at e)

  pub place-none : None ≡ position (λ (b : ℕ). eqb b line_feed) (take (length bytes - at) (drop at bytes))
      → length (first_line (drop at bytes)) ≡ length bytes - at
  place-none e = no_feed (drop at bytes) (rw rest-all at e) ∙ length-drop at bytes

-- ---- at a place

module _ (bytes : List ℕ) (i : ℕ) where
  -- at a line feed, before it, and at the end
  pub place-feed : i < length bytes → get_or bytes i 0 ≡ line_feed → length (first_line (drop i bytes)) ≡ 1
  place-feed h e = rw (drop-cons bytes i 0 h, first-feed _ (drop (suc i) bytes) (eq-eqb _ line_feed e))

  pub place-more : i < length bytes → (get_or bytes i 0 ≡ line_feed → ⊥)
      → length (first_line (drop i bytes)) ≡ suc (length (first_line (drop (suc i) bytes)))
  place-more h e = rw (drop-cons bytes i 0 h, first_more _ (drop (suc i) bytes) (ne_eqb _ line_feed e))

  pub place_end : length bytes ≤ i → length (first_line (drop i bytes)) ≡ 0
  unfolding first_line
  place_end h = rw (drop_of_length-le bytes h)

  -- a line that begins within the bytes ends within them
  pub place-within : i ≤ length bytes → i + length (first_line (drop i bytes)) ≤ length bytes
  place-within h = omega (arith, line-length (drop i bytes), length-drop i bytes)
