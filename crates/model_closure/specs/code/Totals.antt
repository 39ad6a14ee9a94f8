-- How great the weights at an age are: each of them, and their sizes together.
use Rattle.std.specs.Prelude.{ℕ, zero, suc, ◌+◌, nat_abs}
use Rattle.model_closure.specs.Weights.{weight}

-- no weight is greater in size, and no age's sizes total more
abbrev pub weight_limit : ℕ
weight_limit = 185

abbrev pub most_size : ℕ
most_size = 1060

-- the total of the sizes of the first n weights at age x
unfoldable pub size_total : ℕ → ℕ → ℕ
size_total x zero = 0
size_total x (suc n) = size_total x n + nat_abs (weight x n)
