-- `age_len` meets its contract: an age has one digit or two, the four lines have at most 23 bytes each, and their sum
-- is the length of them all.
use mathlib.Core.Path.{◌≡◌, ap}
use Prim.Native.Nat.{ℕ, ◌+◌, ◌≤◌}
use native.Mathlib.Omega.{arith}
use lib.IntN.{ℤ}
use lib.ListN.{length}
use Rattle.text_tokens.specs.Number.{unsigned_text, number_text}
use Rattle.text_tokens.specs.laws.DecimalLaws.{text-small, text-two}
use Rattle.sheet_length.specs.code.Parts.{line_length}
use Rattle.sheet_length.specs.laws.PartsLaws.{age-length}
use Rattle.sheet_length.specs.laws.Held.{AgeHeld, age-held}
use Rattle.sheet_length.proofs.age_len.Goals as goal
use Rattle.sheet_length.proofs.age_len.Goals.{then-x-lt10, else-x-lt10}

-- ---- the four values, and how long their lines are

-- a line whose key has k bytes before the age
line : (k x : ℕ) {d n : ℕ} {v z : ℤ} → d ≡ length (unsigned_text x) → n ≡ line_length (k + d) v → v ≡ z
    → n ≡ line_length (k + length (unsigned_text x)) z
line k x f e h = omega (arith, e, f, ap (λ (v : ℤ). length (number_text v)) h)

-- ---- the needs

pub overflow_add-digits : goal.overflow_add-digits
overflow_add-digits c =
    let digits : (c.if-x-lt10.digits ≡ length (unsigned_text c.args.x)) × (c.if-x-lt10.digits ≤ 2) =
    elim c.if-x-lt10.branch [
      | then-x-lt10 w ↦ omega (arith, w.digits-is, ap length (text-small c.args.x (omega arith)))
      | else-x-lt10 w ↦ omega (arith, w.digits-is, ap length (text-two c.args.x (omega arith) (omega arith)))
    ] in
    omega (arith, digits.1)

pub line_len-requires : goal.line_len-requires
line_len-requires c =
    let digits : (c.if-x-lt10.digits ≡ length (unsigned_text c.args.x)) × (c.if-x-lt10.digits ≤ 2) =
    elim c.if-x-lt10.branch [
      | then-x-lt10 w ↦ omega (arith, w.digits-is, ap length (text-small c.args.x (omega arith)))
      | else-x-lt10 w ↦ omega (arith, w.digits-is, ap length (text-two c.args.x (omega arith) (omega arith)))
    ] in
    let values : AgeHeld c.args.a = age-held c.args.a c.requires.0 in
    (omega (arith, digits.1), values.level.small)

pub line_len-requires-2 : goal.line_len-requires-2
line_len-requires-2 c =
    let digits : (c.if-x-lt10.digits ≡ length (unsigned_text c.args.x)) × (c.if-x-lt10.digits ≤ 2) =
    elim c.if-x-lt10.branch [
      | then-x-lt10 w ↦ omega (arith, w.digits-is, ap length (text-small c.args.x (omega arith)))
      | else-x-lt10 w ↦ omega (arith, w.digits-is, ap length (text-two c.args.x (omega arith) (omega arith)))
    ] in
    let values : AgeHeld c.args.a = age-held c.args.a c.requires.0 in
    (omega (arith, digits.1), values.slope.small)

pub line_len-requires-3 : goal.line_len-requires-3
line_len-requires-3 c =
    let digits : (c.if-x-lt10.digits ≡ length (unsigned_text c.args.x)) × (c.if-x-lt10.digits ≤ 2) =
    elim c.if-x-lt10.branch [
      | then-x-lt10 w ↦ omega (arith, w.digits-is, ap length (text-small c.args.x (omega arith)))
      | else-x-lt10 w ↦ omega (arith, w.digits-is, ap length (text-two c.args.x (omega arith) (omega arith)))
    ] in
    let values : AgeHeld c.args.a = age-held c.args.a c.requires.0 in
    (omega (arith, digits.1), values.alpha.small)

pub line_len-requires-4 : goal.line_len-requires-4
line_len-requires-4 c =
    let digits : (c.if-x-lt10.digits ≡ length (unsigned_text c.args.x)) × (c.if-x-lt10.digits ≤ 2) =
    elim c.if-x-lt10.branch [
      | then-x-lt10 w ↦ omega (arith, w.digits-is, ap length (text-small c.args.x (omega arith)))
      | else-x-lt10 w ↦ omega (arith, w.digits-is, ap length (text-two c.args.x (omega arith) (omega arith)))
    ] in
    let values : AgeHeld c.args.a = age-held c.args.a c.requires.0 in
    (omega (arith, digits.1), values.beta.small)

pub returns : goal.returns
returns c =
    let digits : (c.if-x-lt10.digits ≡ length (unsigned_text c.args.x)) × (c.if-x-lt10.digits ≤ 2) =
    elim c.if-x-lt10.branch [
      | then-x-lt10 w ↦ omega (arith, w.digits-is, ap length (text-small c.args.x (omega arith)))
      | else-x-lt10 w ↦ omega (arith, w.digits-is, ap length (text-two c.args.x (omega arith) (omega arith)))
    ] in
    let values : AgeHeld c.args.a = age-held c.args.a c.requires.0 in
    let level-line : let s = c.args in c.line_len.result ≡ line_length (2 + length (unsigned_text s.x)) s.a.level = line 2 _ digits.0 c.line_len.ensures.0 values.level.is in
    let slope-line : let s = c.args in c.line_len-2.result ≡ line_length (2 + length (unsigned_text s.x)) s.a.slope = line 2 _ digits.0 c.line_len-2.ensures.0 values.slope.is in
    let alpha-line : let s = c.args in c.line_len-3.result ≡ line_length (3 + length (unsigned_text s.x)) s.a.alpha = line 3 _ digits.0 c.line_len-3.ensures.0 values.alpha.is in
    let beta-line : let s = c.args in c.line_len-4.result ≡ line_length (3 + length (unsigned_text s.x)) s.a.beta = line 3 _ digits.0 c.line_len-4.ensures.0 values.beta.is in
    let s = c.args in
    omega (arith, level-line, slope-line, alpha-line, beta-line, age-length s.a s.x)
