-- The sum of z^i/i! for i to j, at z = p/q, over the one denominator q^j·j!; and the sum with the remainder r added.
use Rattle.std.specs.Prelude.{ℕ, zero, suc, ◌+◌, ◌-◌, ◌*◌, ◌^◌}

-- q^j·j!
unfoldable pub taylor_den : ℕ → ℕ → ℕ
taylor_den q zero = 1
taylor_den q (suc j) = taylor_den q j * (q * suc j)

-- the numerator of s: what z^(j+1)/(j+1)! adds, over q^(j+1)·(j+1)!, is p^(j+1)
unfoldable pub taylor_num : ℕ → ℕ → ℕ → ℕ
taylor_num p q zero = 1
taylor_num p q (suc j) = taylor_num p q j * (q * suc j) + p ^ suc j

-- j + 2 − z, over q: none from z = j + 2 on
unfoldable pub gap : ℕ → ℕ → ℕ → ℕ
gap p q j = suc (suc j) * q - p

-- the denominator of s + r, with r = z^(j+1)/(j+1)!·(j+2)/(j+2−z): 0 where the gap is, and then r has no bound
unfoldable pub stretched_den : ℕ → ℕ → ℕ → ℕ
stretched_den p q j = taylor_den q j * (suc j * gap p q j)

-- the numerator of s + r
unfoldable pub stretched_num : ℕ → ℕ → ℕ → ℕ
stretched_num p q j = taylor_num p q j * (suc j * gap p q j) + p ^ suc j * suc (suc j)
