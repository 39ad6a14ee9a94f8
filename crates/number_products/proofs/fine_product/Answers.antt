-- `fine_product` meets its contract: each product of parts fits, and with the two numbers put together from their parts the
-- whole is that of the product.
use mathlib.Core.Path.{◌≡◌, ap₂}
use Prim.Native.Nat.{ℕ, ◌+◌, ◌*◌, ◌/◌, ◌%◌, ◌≤◌}
use native.Mathlib.Nat.{mul-le-mul}
use native.Mathlib.Omega.{arith}
use Rattle.number_exponential.specs.Units.{ten_trillionths}
use Rattle.number_products.proofs.fine_product.Goals as goal

abbrev part : ℕ
part = 10000000

below : {x y : ℕ} (m n : ℕ) → x ≤ m → y ≤ n → x * y ≤ m * n
below m n h k = mul-le-mul h k

-- the products of the parts of a and b
record Parts (a b : ℕ) : Type 0 where
  high : a / part * (b / part) ≤ 1000000 * 1000000
  left : a / part * (b % part) ≤ 1000000 * part
  right : a % part * (b / part) ≤ part * 1000000
  low : a % part * (b % part) ≤ part * part
  whole : a * b ≡ (a / part * part + a % part) * (b / part * part + b % part)

parts : (a b : ℕ) → a ≤ ten_trillionths.unit → b ≤ ten_trillionths.unit → Parts a b
parts a b h k =
    record {
      high = below 1000000 1000000 (omega arith) (omega arith);
      left = below 1000000 part (omega arith) (omega arith);
      right = below part 1000000 (omega arith) (omega arith);
      low = below part part (omega arith) (omega arith);
      whole = ap₂ ◌*◌ (omega arith) (omega arith);
    }

of : (c : goal.Start) → Parts c.args.a c.args.b
of c = parts _ _ c.requires.0 c.requires.1

pub overflow_mul-mid : goal.overflow_mul-mid
overflow_mul-mid c = omega (arith, of c)

pub overflow_mul-mid-2 : goal.overflow_mul-mid-2
overflow_mul-mid-2 c = omega (arith, of c)

pub overflow_add-mid : goal.overflow_add-mid
overflow_add-mid c = omega (arith, of c)

pub overflow_mul-whole : goal.overflow_mul-whole
overflow_mul-whole c = omega (arith, of c)

pub overflow_mul-whole-2 : goal.overflow_mul-whole-2
overflow_mul-whole-2 c = omega (arith, of c)

pub overflow_add-whole : goal.overflow_add-whole
overflow_add-whole c = omega (arith, of c)

pub overflow_mul-result : goal.overflow_mul-result
overflow_mul-result c = omega (arith, of c)

pub overflow_mul-result-2 : goal.overflow_mul-result-2
overflow_mul-result-2 c = omega (arith, of c)

pub overflow_add-result : goal.overflow_add-result
overflow_add-result c = omega (arith, of c)

pub overflow_add-result-2 : goal.overflow_add-result-2
overflow_add-result-2 c = omega (arith, of c)

pub overflow_add-result-3 : goal.overflow_add-result-3
overflow_add-result-3 c = omega (arith, of c)

pub returns : goal.returns
returns c = omega (arith, of c)
