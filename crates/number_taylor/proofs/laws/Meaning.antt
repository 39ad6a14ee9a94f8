-- The definitions say what the words do: the denominator is q^j·j!, s is the sum of z^i/i! for i to j, order j's upper
-- end is 1/s, and its lower end is 1/(s + r), or 0 from z = j + 2 on.
use Rattle.std.specs.Prelude.{ℕ, zero, suc, ◌+◌, ◌*◌, ◌^◌, ◌<◌, ◌≡◌}
use Rattle.std.proofs.Common.{ap, pow-suc, arith}
use Rattle.std.proofs.Math.Nat.{pow-zero}
use Rattle.number_fraction.specs.Ratio.{Ratio, ◌≤/◌, ◌+/◌, ◌*/◌, whole/}
use Rattle.number_fraction.proofs.laws.RatioTerms.{◌≈/◌}
use Rattle.number_fraction.proofs.laws.RatioLaws.{≈/-iff}
use Rattle.number_taylor.specs.Taylor.{taylor_num, taylor_den, gap, stretched_num, stretched_den}
use Rattle.number_taylor.proofs.laws.Factorial.{factorial}
use Rattle.number_taylor.specs.Order.{order_lower, order_upper}
use Rattle.number_taylor.proofs.laws.Terms.{exp_sum, exp_term, exp_remainder}

-- the denominator of s is q^j·j!
pub taylor_den-factorial : (q j : ℕ) → taylor_den q j ≡ q ^ j * factorial j
unfolding taylor_den factorial
taylor_den-factorial q zero = rw (pow-zero q)
taylor_den-factorial q (suc j) = rw (pow-suc q j)
    (omega (arith, ap (λ (x : ℕ). x * (q * suc j)) (taylor_den-factorial q j)))

-- s at order 0 is z^0/0!
pub sum_first : (z : Ratio) → exp_sum z zero ≈/ exp_term z zero
unfolding exp_sum exp_term taylor_num taylor_den factorial
sum_first z = omega (arith, pow-zero z.num, pow-zero z.den)

-- s at order j + 1 is s at order j and z^(j+1)/(j+1)!
next-algebra : (n d t c f : ℕ) → d * c ≡ f → (n * c + t) * (d * f) ≡ (n * f + t * d) * (d * c)
next-algebra n d t c f e = rw (← e) (omega arith)

pub sum-next : (z : Ratio) (j : ℕ) → exp_sum z (suc j) ≈/ exp_sum z j +/ exp_term z (suc j)
unfolding exp_sum exp_term ◌+/◌ taylor_num taylor_den
sum-next z j = ≈/-iff.1
    (next-algebra (taylor_num z.num z.den j) (taylor_den z.den j) (z.num ^ suc j) (z.den * suc j)
    (z.den ^ suc j * factorial (suc j)) (taylor_den-factorial z.den (suc j)))

-- the upper end is 1/s
pub upper-reciprocal : (z : Ratio) (j : ℕ) → order_upper z j */ exp_sum z j ≈/ whole/ 1
unfolding order_upper exp_sum ◌*/◌ whole/
upper-reciprocal z j = omega arith

-- the lower end is 1/(s + r) for z < j + 2
reciprocal-algebra : (n d t m k g q f : ℕ) → d * (q * k) ≡ f →
    d * (k * g) * (n * (f * g) + t * (m * q) * d) * 1 ≡ 1 * ((n * (k * g) + t * m) * (d * (f * g)))
reciprocal-algebra n d t m k g q f e = rw (← e) (omega arith)

pub lower-reciprocal : (z : Ratio) (j : ℕ) (h : 0 < gap z.num z.den j) →
    order_lower z j */ (exp_sum z j +/ exp_remainder z j h) ≈/ whole/ 1
unfolding order_lower exp_sum exp_remainder exp_term ◌*/◌ ◌+/◌ whole/ stretched_num stretched_den taylor_den
lower-reciprocal z j h = ≈/-iff.1
    (reciprocal-algebra (taylor_num z.num z.den j) (taylor_den z.den j) (z.num ^ suc j) (suc (suc j)) (suc j)
    (gap z.num z.den j) z.den (z.den ^ suc j * factorial (suc j)) (taylor_den-factorial z.den (suc j)))

-- from z = j + 2 on the lower end is 0
pub lower-zero : (z : Ratio) (j : ℕ) → whole/ (suc (suc j)) ≤/ z → order_lower z j ≈/ whole/ 0
unfolding order_lower stretched_den gap whole/
lower-zero z j h =
    let g : gap z.num z.den j ≡ 0 = omega arith in
    let e = ap (λ (x : ℕ). taylor_den z.den j * (suc j * x)) g in
    ≈/-iff.1 (omega (arith, e))
