-- The width over a part of a list of factors is at most that over the whole list, so that it is computed once, for the
-- longest path.
use Rattle.std.specs.Prelude.{List, [], ◌∷◌, ℕ, zero, suc, ◌≤◌, take, drop}
use Rattle.std.proofs.Common.{zero-le, le_refl, le_trans, arith}
use Rattle.number_folds.proofs.laws.Width.{spread}

-- the first n factors, and those after them
spread-take : (n : ℕ) (ws : List ℕ) → spread (take n ws) ≤ spread ws
unfolding spread
spread-take zero ws = zero-le
spread-take (suc n) [] = zero-le
spread-take (suc n) (w ∷ ws) = omega (arith, spread-take n ws)

spread-drop : (n : ℕ) (ws : List ℕ) → spread (drop n ws) ≤ spread ws
unfolding spread
spread-drop zero ws = le_refl (spread ws)
spread-drop (suc n) [] = zero-le
spread-drop (suc n) (w ∷ ws) = omega (arith, spread-drop n ws)

-- n factors after the first x
pub spread-part : (x n : ℕ) (ws : List ℕ) → spread (take n (drop x ws)) ≤ spread ws
spread-part x n ws = le_trans (spread-take n (drop x ws)) (spread-drop x ws)
