-- The sum s, its terms and the remainder r as fractions, by which the laws say what order j is.
use Rattle.std.specs.Prelude.{ℕ, zero, suc, ◌*◌, ◌^◌, ◌<◌}
use Rattle.std.proofs.Common.{mul-pos, le_refl, zero-lt-suc}
use Rattle.std.proofs.Math.Nat.{one-le-pow}
use Rattle.number_fraction.specs.Ratio.{Ratio, ◌*/◌}
use Rattle.number_taylor.specs.Taylor.{taylor_num, taylor_den, gap}
use Rattle.number_taylor.proofs.laws.Factorial.{factorial}
use Rattle.number_taylor.specs.Positive.{taylor_den-positive}

-- s
unfoldable pub exp_sum : Ratio → ℕ → Ratio
exp_sum z j = record {
  num = taylor_num z.num z.den j;
  den = taylor_den z.den j;
  positive = taylor_den-positive z.den j z.positive;
}

-- 0 < j!
pub factorial-positive : (j : ℕ) → 0 < factorial j
unfolding factorial
factorial-positive zero = le_refl 1
factorial-positive (suc j) = mul-pos (factorial-positive j) (zero-lt-suc j)

-- z^j/j!
unfoldable pub exp_term : Ratio → ℕ → Ratio
exp_term z j = record {
  num = z.num ^ j;
  den = z.den ^ j * factorial j;
  positive = mul-pos (one-le-pow j z.den z.positive) (factorial-positive j);
}

-- r = z^(j+1)/(j+1)!·(j+2)/(j+2−z), for z < j + 2
unfoldable pub exp_remainder : (z : Ratio) (j : ℕ) → 0 < gap z.num z.den j → Ratio
exp_remainder z j h =
    exp_term z (suc j) */ record { num = suc (suc j) * z.den; den = gap z.num z.den j; positive = h }
