-- Of exact values, at every order: the chance that both live and the chance that at least one does add up to the two single
-- survivals, end for end.
use Rattle.std.specs.Prelude.{◌≡◌, List, [], ◌∷◌, ℕ, ◌+◌, ◌-◌, ◌*◌}
use Rattle.std.proofs.Common.{ap, add-sub_of_le, arith}
use Rattle.number_fraction.specs.Ratio.{Ratio, ◌≤/◌, whole/, ◌+/◌, ◌*/◌, complement}
use Rattle.number_fraction.proofs.laws.RatioTerms.{◌≈/◌}
use Rattle.number_fraction.proofs.laws.RatioLaws.{≈/-iff, ≤/-one, ≤/-trans, ≤/-+/, +/-comm}
use Rattle.number_fraction.specs.Bracket.{Bracket}
use Rattle.number_folds.specs.Exact.{order_with_factor, order_survival_over}
use Rattle.number_folds.proofs.laws.Narrowing.{OrderChance, survival-narrow}
use Rattle.number_folds.specs.laws.Each.{Each, none, also}
use Rattle.model_mortality.proofs.laws.Narrowing.{survival-least-one, survival-most-one}
use Rattle.set_params.specs.declared.Params.{Params}
use Rattle.quote_paths.specs.Path.{Place, order_factors}
use Rattle.quote_paths.specs.Values.{order_death_of}
use Rattle.quote_couple_kinds.specs.declared.Status.TheVariants.{JointLife, LastSurvivor}
use Rattle.quote_two_lives.specs.Exact.{order_status_chance}

-- a·c + ((a + b)(c + d) − b·d) = a·(c + d) + c·(a + b), and so with a factor m in each place
parts : (a b c d : ℕ) → a * c + ((a + b) * (c + d) - b * d) ≡ a * (c + d) + c * (a + b)
parts a b c d = omega arith

scaled : (q r s m : ℕ) → q + r ≡ s → (q * m + r * m) * m ≡ s * (m * m)
scaled q r s m e = omega (arith, ap (λ (z : ℕ). z * (m * m)) e)

-- x·y and 1 − (1 − x)(1 − y) add up to x + y
total : (x y : Ratio) → x ≤/ whole/ 1 → y ≤/ whole/ 1 → x */ y +/ complement (complement x */ complement y) ≈/ x +/ y
unfolding ◌+/◌ ◌*/◌ complement
total x y h k =
    let b = x.den - x.num in
    let d = y.den - y.num in
    let e : x.num + b ≡ x.den = add-sub_of_le (≤/-one.1 h) in
    let f : y.num + d ≡ y.den = add-sub_of_le (≤/-one.1 k) in
    let p : x.num * y.num + (x.den * y.den - b * d) ≡ x.num * y.den + y.num * x.den =
    rw (e, f) at (parts x.num b y.num d) in
    ≈/-iff.1 (scaled (x.num * y.num) (x.den * y.den - b * d) (x.num * y.den + y.num * x.den) (x.den * y.den) p)

-- of two lives' survivals, as an order has them
pub record Totals (s s' : Bracket) : Type 0 where
  pub least : (order_status_chance JointLife s s').least +/ (order_status_chance LastSurvivor s s').least ≈/ s.least +/ s'.least
  pub most : (order_status_chance JointLife s s').most +/ (order_status_chance LastSurvivor s s').most ≈/ s.most +/ s'.most

chances-total : {d e : Ratio} {s s' : Bracket} → OrderChance d s → OrderChance e s' → Totals s s'
unfolding order_status_chance order_with_factor order_death_of
chances-total {s = s} {s'} h h' =
    record {
      least = total s.least s'.least h.least h'.least;
      most = total s.most s'.most h.most h'.most;
    }

-- no order's factor is above 1, whichever the cell
factors-one : (p : Params) (path : List Place) (j : ℕ) → Each (OrderChance (whole/ 1)) (order_factors p path j)
unfolding order_factors
factors-one p [] j = none
factors-one p (c ∷ path) j =
    let most = survival-most-one p c.age c.year c.part j in
    also (record {
      least = survival-least-one p c.age c.year c.part j;
      most = most;
      width = ≤/-trans most (≤/-trans (≤/-+/ (whole/ 1) _) (+/-comm (whole/ 1) _).below);
    }) (factors-one p path j)

-- of any two lives, at any order
pub totals : (p p' : Params) (path path' : List Place) (j : ℕ)
    → Totals (order_survival_over (order_factors p path j)) (order_survival_over (order_factors p' path' j))
totals p p' path path' j =
    chances-total (survival-narrow (whole/ 1) (factors-one p path j)) (survival-narrow (whole/ 1) (factors-one p' path' j))
