-- Operations that work on each lane of a word by itself.
use Rattle.std.specs.Prelude.{◌≡◌, refl, ℕ, ◌+◌, ◌*◌, ◌^◌, ◌<◌, List, [], ◌∷◌, map, length, replicate}
use Rattle.std.proofs.Common.{sym, ap₂, ◌∙◌, arith}
use Rattle.std.proofs.Math.Path.{ap}
use Rattle.std.specs.Int.Bits.{bit_and, bit_or, bit_xor, and_lt}
use Rattle.std.proofs.lemmas.Nat.{and_block, or_block, xor_block, or_lt, xor_lt}
use Rattle.text_words.specs.code.Word.{lane_sum, Below, none, more}

-- n lanes of k bits, each m
abbrev pub spread : ℕ → ℕ → ℕ → ℕ
spread k n m = lane_sum k (replicate n m)

-- two rules that agree below b make the same of numbers below b
pub map-agree : {b : ℕ} {xs : List ℕ} (f g : ℕ → ℕ) → Below b xs → ((x : ℕ) → x < b → f x ≡ g x) → map f xs ≡ map g xs
map-agree f g none e = refl
map-agree f g (more {x} l h) e = ap₂ ◌∷◌ (e x l) (map-agree f g h e)

pub map_below : {b c : ℕ} {xs : List ℕ} (f : ℕ → ℕ) → Below b xs → ((x : ℕ) → x < b → f x < c) → Below c (map f xs)
map_below f none e = none
map_below f (more {x} l h) e = more (e x l) (map_below f h e)

-- v is the word with the lane f x for each lane x of xs
pub record Lanewise (k : ℕ) (xs : List ℕ) (f : ℕ → ℕ) (v : ℕ) : Type 0 where
  pub sum : v ≡ lane_sum k (map f xs)
  pub small : (x : ℕ) → x < 2 ^ k → f x < 2 ^ k

map_same : (xs : List ℕ) → map (λ (x : ℕ). x) xs ≡ xs
map_same [] = refl
map_same (x ∷ xs) = ap (◌∷◌ x) (map_same xs)

map-one : (m : ℕ) (xs : List ℕ) → map (λ (x : ℕ). m) xs ≡ replicate (length xs) m
map-one m [] = refl
map-one m (x ∷ xs) = ap (◌∷◌ m) (map-one m xs)

-- the word itself, and the word of one number in each lane
pub itself : (k : ℕ) (xs : List ℕ) → Lanewise k xs (λ x. x) (lane_sum k xs)
itself k xs = record { sum = ap (lane_sum k) (sym (map_same xs)); small = λ x l. l }

pub constant : (k n : ℕ) {xs : List ℕ} → length xs ≡ n → (m : ℕ) → m < 2 ^ k → Lanewise k xs (λ x. m) (spread k n m)
constant k n {xs} e m l = record { sum = rw (sym e) (ap (lane_sum k) (sym (map-one m xs))); small = λ x h. l }

-- an operation that works on each lane by itself, where what it makes of two lanes is a lane
module _ (k : ℕ) (op : ℕ → ℕ → ℕ) (empty : op 0 0 ≡ 0)
    (block : (a b r s : ℕ) → r < 2 ^ k → s < 2 ^ k → op (a * 2 ^ k + r) (b * 2 ^ k + s) ≡ op a b * 2 ^ k + op r s) where
  each : {xs : List ℕ} (f g : ℕ → ℕ) → ((x : ℕ) → x < 2 ^ k → f x < 2 ^ k) → ((x : ℕ) → x < 2 ^ k → g x < 2 ^ k)
      → Below (2 ^ k) xs → op (lane_sum k (map f xs)) (lane_sum k (map g xs)) ≡ lane_sum k (map (λ x. op (f x) (g x)) xs)
  unfolding lane_sum
  each f g u v none = empty
  each f g u v (more {x} {xs} l h) =
      block (lane_sum k (map f xs)) (lane_sum k (map g xs)) (f x) (g x) (u x l) (v x l)
      ∙ ap (λ (n : ℕ). n * 2 ^ k + op (f x) (g x)) (each f g u v h)

  by-lanes : {xs : List ℕ} {f g : ℕ → ℕ} {v w : ℕ} → Below (2 ^ k) xs → Lanewise k xs f v → Lanewise k xs g w
      → ((x : ℕ) → x < 2 ^ k → op (f x) (g x) < 2 ^ k) → Lanewise k xs (λ x. op (f x) (g x)) (op v w)
  by-lanes {f = f} {g = g} b p q s =
      record { sum = ap₂ op p.sum q.sum ∙ each f g p.small q.small b; small = s }

add-block : (w a b r s : ℕ) → (a * w + r) + (b * w + s) ≡ (a + b) * w + (r + s)
add-block w a b r s = omega arith

module _ {k : ℕ} {xs : List ℕ} {f g : ℕ → ℕ} {v w : ℕ}
    (b : Below (2 ^ k) xs) (p : Lanewise k xs f v) (q : Lanewise k xs g w) where
  pub and-lanes : Lanewise k xs (λ x. bit_and (f x) (g x)) (bit_and v w)
  and-lanes = by-lanes k bit_and refl (and_block k) b p q (λ x l. and_lt k (f x) (g x) (p.small x l) (q.small x l))

  pub or-lanes : Lanewise k xs (λ x. bit_or (f x) (g x)) (bit_or v w)
  or-lanes = by-lanes k bit_or refl (or_block k) b p q (λ x l. or_lt k (f x) (g x) (p.small x l) (q.small x l))

  pub xor-lanes : Lanewise k xs (λ x. bit_xor (f x) (g x)) (bit_xor v w)
  xor-lanes = by-lanes k bit_xor refl (xor_block k) b p q (λ x l. xor_lt k (f x) (g x) (p.small x l) (q.small x l))

  -- a sum, where no lane's runs over
  pub add-lanes : ((x : ℕ) → x < 2 ^ k → f x + g x < 2 ^ k) → Lanewise k xs (λ x. f x + g x) (v + w)
  add-lanes s = by-lanes k ◌+◌ refl (λ a b r s h l. add-block (2 ^ k) a b r s) b p q s
