-- The orders of the values of two lives narrow: with n factors of the one and n' of the other, each at most e wide, a status's
-- chance is at most n + n' of them wide, and its expectancy at most n times as many.
use Rattle.std.specs.Prelude.{List, ℕ, suc, ◌+◌, ◌*◌, ◌≤◌, ◌<◌}
use Rattle.std.proofs.Common.{arith}
use Rattle.std.proofs.Math.ListN.{length}
use Rattle.number_fraction.specs.Ratio.{Ratio, ◌≤/◌, whole/, quotient/, ◌+/◌, complement}
use Rattle.number_fraction.proofs.laws.RatioLaws.{≤/-refl, ≤/-trans, +/-mono, +/-assoc}
use Rattle.number_fraction.proofs.laws.Multiples.{times, times-plus, times-times, times-part}
use Rattle.number_fraction.specs.Bracket.{Bracket}
use Rattle.set_params.specs.declared.Params.{Params}
use Rattle.number_exact.specs.Value.{Narrows}
use Rattle.number_folds.specs.Exact.{exactly, half/, order_plus, order_sum_over}
use Rattle.number_folds.specs.laws.Each.{Each}
use Rattle.number_folds.proofs.laws.Narrowing.{OrderChance, wider, with-factor-narrow, survival-narrow, beginning-narrow, sum-narrow}
use Rattle.model_mortality.proofs.laws.Narrowing.{death_order, death_order-counts, complement-narrow}
use Rattle.quote_paths.specs.Path.{Place, order_factors}
use Rattle.quote_paths.specs.Values.{order_death_of}
use Rattle.quote_paths.proofs.laws.Answers.{AnsweredPath}
use Rattle.quote_paths.proofs.laws.Narrowing.{parts, parts-positive, part, order-length, factors-narrow}
use Rattle.quote_couple_kinds.specs.declared.Status.{Status}
use Rattle.quote_couple_kinds.specs.declared.Status.TheVariants.{JointLife, LastSurvivor}
use Rattle.quote_couple_kinds.specs.declared.CoupleKind.{CoupleKind}
use Rattle.quote_couple_kinds.specs.declared.CoupleKind.TheVariants as kind
use Rattle.quote_two_lives.specs.Exact.{
  order_status_chance,
  order_status_over,
  order_statuses_over,
  order_status_expectancy_over,
  order_couple_over,
}

-- ---- a status

complement-one : (x : Ratio) → complement x ≤/ whole/ 1
unfolding complement whole/
complement-one x = record { cross = omega arith }

-- 1 less a chance is as wide
death-narrow : {e : Ratio} {b : Bracket} → OrderChance e b → OrderChance e (order_death_of b)
unfolding order_death_of
death-narrow {e} {b} h =
    record {
      least = complement-one b.most;
      most = complement-one b.least;
      width = complement-narrow b.least b.most e h.least h.most h.width;
    }

status-narrow : (status : Status) {d e : Ratio} {s s' : Bracket} → OrderChance d s → OrderChance e s'
    → OrderChance (d +/ e) (order_status_chance status s s')
unfolding order_status_chance
status-narrow JointLife h h' = with-factor-narrow h h'
status-narrow LastSurvivor h h' = death-narrow (with-factor-narrow (death-narrow h) (death-narrow h'))

-- ---- over the factors

module _ (e : Ratio) (status : Status) {ps ps' : List Bracket} (h : Each (OrderChance e) ps) (h' : Each (OrderChance e) ps') where
  over-narrow : OrderChance (times (length ps + length ps') e) (order_status_over status ps ps')
  unfolding order_status_over
  over-narrow =
      wider (times-plus (length ps) (length ps') e) (status-narrow status (survival-narrow e h) (survival-narrow e h'))

  -- after k years it is no wider than after all
  beginnings-narrow : (k : ℕ) → OrderChance (times (length ps + length ps') e) (order_statuses_over status ps ps' k)
  unfolding order_status_over
  beginnings-narrow k =
      wider (times-plus (length ps) (length ps') e)
      (status-narrow status (beginning-narrow e (suc k) h) (beginning-narrow e (suc k) h'))

  expectancy-narrow : (order_status_expectancy_over status ps ps').most
      ≤/ (order_status_expectancy_over status ps ps').least +/ times (length ps * (length ps + length ps')) e
  unfolding order_status_expectancy_over order_plus exactly times
  expectancy-narrow =
      let n = length ps in
      let m = length ps + length ps' in
      let f = order_statuses_over status ps ps' in
      let w : (order_sum_over f n).most ≤/ (order_sum_over f n).least +/ times (n * m) e =
      ≤/-trans (sum-narrow f (times m e) n (λ k l. (beginnings-narrow k).width))
      (+/-mono (≤/-refl (order_sum_over f n).least) (times-times n m e)) in
      ≤/-trans (+/-mono (≤/-refl half/) w) (+/-assoc half/ (order_sum_over f n).least (times (n * m) e)).above

-- each at most one part wide, of the parts for the factors of both
module _ {ps ps' : List Bracket} (M : ℕ) (l : 0 < M)
    (h : Each (OrderChance (part (length ps + length ps') M l)) ps)
    (h' : Each (OrderChance (part (length ps + length ps') M l)) ps') where
  abbrev both : ℕ
  both = length ps + length ps'

  -- so many parts are at most 1/M
  few : (a : Ratio) (m : ℕ) → m ≤ both * suc both → a +/ times m (part both M l) ≤/ a +/ quotient/ (whole/ 1) M l
  few a m k = +/-mono (≤/-refl a) (times-part m (both * suc both) M l (parts-positive both M l) k)

  chance-most : (status : Status)
      → (order_status_over status ps ps').most ≤/ (order_status_over status ps ps').least +/ quotient/ (whole/ 1) M l
  chance-most status =
      ≤/-trans (over-narrow (part both M l) status h h').width (few (order_status_over status ps ps').least both (omega arith))

  expectancy-most : (status : Status) → (order_status_expectancy_over status ps ps').most
      ≤/ (order_status_expectancy_over status ps ps').least +/ quotient/ (whole/ 1) M l
  expectancy-most status =
      ≤/-trans (expectancy-narrow (part both M l) status h h')
      (few (order_status_expectancy_over status ps ps').least (length ps * both) (omega arith))

  couple-narrow : (k : CoupleKind) → (order_couple_over k ps ps').most ≤/ (order_couple_over k ps ps').least +/ quotient/ (whole/ 1) M l
  unfolding order_couple_over
  couple-narrow kind.JointLife = chance-most JointLife
  couple-narrow kind.LastSurvivor = chance-most LastSurvivor
  couple-narrow kind.JointExpectancy = expectancy-most JointLife
  couple-narrow kind.LastExpectancy = expectancy-most LastSurvivor

-- of two lives along answered paths
pub value-narrows : {p p' : Params} {path path' : List Place} → AnsweredPath p path → AnsweredPath p' path' → (k : CoupleKind)
    → Narrows (λ (j : ℕ). order_couple_over k (order_factors p path j) (order_factors p' path' j))
value-narrows {p} {p'} {path} {path'} a a' k =
    let n = length path + length path' in
    record {
      order = λ M. death_order (parts n M);
      counts = λ M. death_order-counts (parts n M);
      narrow = λ M h j l.
          couple-narrow {ps = order_factors p path j} {ps' = order_factors p' path' j} M h
          (rw (order-length p path j, order-length p' path' j) (factors-narrow a n M h j l))
          (rw (order-length p path j, order-length p' path' j) (factors-narrow a' n M h j l)) k;
    }
