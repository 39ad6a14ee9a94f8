-- Laws of a text written over a list of bytes: the length stays, texts written side by side are one text, and one
-- stored byte is a text of one byte.
use Rattle.std.specs.Prelude.{◌≡◌, List, [], ◌∷◌, ◌++◌, ℕ, suc, ◌+◌, ◌≤◌, ◌<◌, length, take, drop, set}
use Rattle.std.proofs.Common.{sym, ap, ◌∙◌, append_assoc, add-zero, zero-add, add_assoc, add-one, arith, length-append, length-take, length-drop, take-append-drop, length-take-le, take_at, take-take, drop_at, drop-drop}
use Rattle.std.proofs.lemmas.List.{set_split, take-append-le}
use Rattle.std.proofs.Math.Seq.{drop-append-add}
use Rattle.text_printing.specs.code.Overwritten.{overwritten}

-- a text that has room leaves the length as it was
pub overwritten-length : (l : List ℕ) (at : ℕ) (t : List ℕ) → at + length t ≤ length l
    → length (overwritten l at t) ≡ length l
unfolding overwritten
overwritten-length l at t room = simp (length-append, length-take, length-drop) (omega arith)

-- no text changes nothing
pub overwritten-none : (l : List ℕ) (at : ℕ) → overwritten l at [] ≡ l
unfolding overwritten
overwritten-none l at = rw add-zero (take-append-drop at l)

-- a text written from the front on, and what it leaves of the bytes
pub overwritten-front : (l t : List ℕ) → overwritten l 0 t ≡ t ++ drop (length t) l
unfolding overwritten
overwritten-front l t = rw zero-add

-- one stored byte
pub overwritten-one : (l : List ℕ) (at b : ℕ) → at < length l → set l at b ≡ overwritten l at (b ∷ [])
unfolding overwritten
overwritten-one l at b h = rw (set_split l at b h, ← add-one at)

-- what stands before a place, with a text after it
lead-length : (l : List ℕ) (at : ℕ) (t : List ℕ) → at ≤ length l → length (take at l ++ t) ≡ at + length t
lead-length l at t h = simp (length-append, length-take-le)

-- a text, and another right after it
pub overwritten-after : (l : List ℕ) (at : ℕ) (t u : List ℕ) → at ≤ length l
    → overwritten (overwritten l at t) (at + length t) u ≡ overwritten l at (t ++ u)
unfolding overwritten
overwritten-after l at t u h =
    let p = take at l ++ t in
    let r = drop (at + length t) l in
    let e : length p ≡ at + length t = lead-length l at t h in
    let f : take (at + length t) (p ++ r) ≡ p = take_at p r (at + length t) e in
    let g : drop (at + length t + length u) (p ++ r) ≡ drop (length u) r =
    ap (λ (k : ℕ). drop (k + length u) (p ++ r)) (sym e) ∙ drop-append-add p r (length u) in
    rw (← append_assoc (take at l) t r, f, g, drop-drop, length-append, add_assoc) (simp append_assoc)

-- a text, and another right before it
pub overwritten-before : (l : List ℕ) (at : ℕ) (t u : List ℕ) → at + length t ≤ length l
    → overwritten (overwritten l (at + length t) u) at t ≡ overwritten l at (t ++ u)
unfolding overwritten
overwritten-before l at t u h =
    let k = at + length t in
    let q = take k l in
    let w = u ++ drop (k + length u) l in
    let n : at ≤ length q = simp length-take-le (omega arith) in
    let f : take at (q ++ w) ≡ take at l = take-append-le at q w n ∙ take-take at k l (omega arith) in
    let g : drop k (q ++ w) ≡ w = drop_at q w k (length-take-le k l h) in
    rw (f, g, length-append, ← add_assoc, append_assoc)

-- one byte stored right after a text, and one right before it
pub overwritten-next : (l : List ℕ) (at : ℕ) (t : List ℕ) (b : ℕ) → at + length t < length l
    → set (overwritten l at t) (at + length t) b ≡ overwritten l at (t ++ (b ∷ []))
overwritten-next l at t b h =
    let n : at + length t < length (overwritten l at t) = omega (arith, overwritten-length l at t (omega arith)) in
    overwritten-one (overwritten l at t) (at + length t) b n ∙ overwritten-after l at t (b ∷ []) (omega arith)

pub overwritten-previous : (l : List ℕ) (at : ℕ) (t : List ℕ) (b : ℕ) → suc at + length t ≤ length l
    → set (overwritten l (suc at) t) at b ≡ overwritten l at (b ∷ t)
overwritten-previous l at t b h =
    let n : at < length (overwritten l (suc at) t) = omega (arith, overwritten-length l (suc at) t h) in
    overwritten-one (overwritten l (suc at) t) at b n
    ∙ (rw (← add-one) (overwritten-before l at (b ∷ []) t (omega arith)))

-- a text written right after a stored byte
pub overwritten-behind : (l : List ℕ) (at b : ℕ) (t : List ℕ) → at < length l
    → overwritten (set l at b) (at + 1) t ≡ overwritten l at (b ∷ t)
overwritten-behind l at b t h = rw (overwritten-one l at b h) (overwritten-after l at (b ∷ []) t (omega arith))
