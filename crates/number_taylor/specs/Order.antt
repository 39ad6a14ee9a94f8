-- The exact value of e^−z, for a fraction z: order j brackets it between 1/(s + r) and 1/s, where s is the sum of
-- z^i/i! for i to j, and r = z^(j+1)/(j+1)!·(j+2)/(j+2−z).
use Rattle.std.specs.Prelude.{ℕ}
use Rattle.number_fraction.specs.Ratio.{Ratio}
use Rattle.number_taylor.specs.Taylor.{taylor_num, taylor_den, stretched_num, stretched_den}
use Rattle.number_taylor.specs.Positive.{taylor_num-positive, stretched_num-positive}

-- the orders that count begin here
unfoldable pub least_order : ℕ
least_order = 400

-- 1/(s + r): 0 from z = j + 2 on
unfoldable pub order_lower : Ratio → ℕ → Ratio
order_lower z j = record {
  num = stretched_den z.num z.den j;
  den = stretched_num z.num z.den j;
  positive = stretched_num-positive z.num z.den j z.positive;
}

-- 1/s
unfoldable pub order_upper : Ratio → ℕ → Ratio
order_upper z j = record {
  num = taylor_den z.den j;
  den = taylor_num z.num z.den j;
  positive = taylor_num-positive z.num z.den j z.positive;
}
