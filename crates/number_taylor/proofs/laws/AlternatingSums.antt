-- The sums of the terms of even order and of odd order at x = p/q, by h, the number of pairs of terms, over the one denominator
-- q^(2h)·(2h)!.
use Rattle.std.specs.Prelude.{ℕ, zero, suc, ◌+◌, ◌*◌, ◌^◌}
use Rattle.number_taylor.specs.Alternating.{double}

-- the numerator of the sum of x^(2i)/(2i)! for i ≤ h
unfoldable pub even_num : ℕ → ℕ → ℕ → ℕ
even_num p q zero = 1
even_num p q (suc h) = even_num p q h * ((q * suc (double h)) * (q * suc (suc (double h)))) + p ^ suc (suc (double h))

-- the numerator of the sum of x^(2i+1)/(2i+1)! for i < h
unfoldable pub odd_num : ℕ → ℕ → ℕ → ℕ
odd_num p q zero = 0
odd_num p q (suc h) =
    odd_num p q h * ((q * suc (double h)) * (q * suc (suc (double h)))) + p ^ suc (double h) * (q * suc (suc (double h)))
