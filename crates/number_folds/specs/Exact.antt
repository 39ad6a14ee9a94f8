-- The same folds over an order's brackets of the factors (paper 01, "The exact value"), with nothing rounded.
use Rattle.std.specs.Prelude.{List, [], ◌∷◌, ℕ, zero, suc, length, take}
use Rattle.std.proofs.Common.{lit<}
use Rattle.number_fraction.specs.Ratio.{Ratio, whole/, quotient/, ◌+/◌, ◌*/◌}
use Rattle.number_fraction.specs.Bracket.{Bracket}

-- a value that is known exactly
unfoldable pub exactly : Ratio → Bracket
exactly x = record { least = x; most = x }

-- one half
unfoldable pub half/ : Ratio
half/ = quotient/ (whole/ 1) 2 (lit< tt)

-- a survival with one factor more
unfoldable pub order_with_factor : Bracket → Bracket → Bracket
order_with_factor s p = record { least = s.least */ p.least; most = s.most */ p.most }

-- the factors one after the other, from a survival s, and from 1
unfoldable pub order_survival_from : Bracket → List Bracket → Bracket
order_survival_from s [] = s
order_survival_from s (p ∷ ps) = order_survival_from (order_with_factor s p) ps

unfoldable pub order_survival_over : List Bracket → Bracket
order_survival_over ps = order_survival_from (exactly (whole/ 1)) ps

-- the sum of two values, and of the first n of f
unfoldable pub order_plus : Bracket → Bracket → Bracket
order_plus a b = record { least = a.least +/ b.least; most = a.most +/ b.most }

unfoldable pub order_sum_over : (ℕ → Bracket) → ℕ → Bracket
order_sum_over f zero = exactly (whole/ 0)
order_sum_over f (suc n) = order_plus (order_sum_over f n) (f n)

-- the survivals over k + 1 years
abbrev pub order_survivals_over : List Bracket → ℕ → Bracket
order_survivals_over ps = λ k. order_survival_over (take (suc k) ps)

-- one half, and the survivals over k + 1 years, one k for each factor
unfoldable pub order_expectancy_over : List Bracket → Bracket
order_expectancy_over ps = order_plus (exactly half/) (order_sum_over (order_survivals_over ps) (length ps))
