-- What the code makes on its way: the marks on the bytes that are no digit, and the number of a word that holds a
-- digit's value in each byte.
use Rattle.std.specs.Prelude.{ℕ, ◌+◌, ◌*◌, cond, List, [], ◌∷◌}
use Rattle.text_tokens.specs.Number.{is_digit}

-- a byte's mark: none for a digit, and the top bit for any other byte
unfoldable pub mark : ℕ → ℕ
mark x = cond (is_digit x) 0 128

-- the number with these digits to the base p, after those of n
unfoldable pub numeral : ℕ → ℕ → List ℕ → ℕ
numeral p n [] = n
numeral p n (x ∷ xs) = numeral p (n * p + x) xs

-- neighbours joined: two digits to the base p are one to the base p²
unfoldable pub pairs : ℕ → List ℕ → List ℕ
pairs p [] = []
pairs p (x ∷ []) = []
pairs p (x ∷ y ∷ xs) = (x * p + y) ∷ pairs p xs
