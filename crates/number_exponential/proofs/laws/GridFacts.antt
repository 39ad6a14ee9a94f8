-- Both grids have what the laws ask of a grid. The constants are tested against Taylor brackets of one order, all of a grid's by
-- one computed test.
use Rattle.std.specs.Prelude.{◌≡◌, refl, Bool, T, leb, length}
use Prim.Native.Nat.{ℕ, zero, suc, ◌*◌, ◌/◌, ◌≤◌, ◌<◌}
use Rattle.std.proofs.Math.Dec.{leb→le}
use Rattle.std.proofs.Common.{lit≤, lit<}
use Rattle.number_whole.proofs.laws.Table.{every, at}
use Rattle.number_taylor.specs.Taylor.{taylor_den, taylor_num, stretched_den, stretched_num, gap}
use Rattle.number_taylor.proofs.laws.Factorial.{factorial}
use Rattle.number_taylor.specs.Alternating.{double}
use Rattle.number_exponential.specs.Grid.{Grid}
use Rattle.number_exponential.specs.Exponential.{step, constant_lower, constant_upper, total}
use Rattle.number_exponential.specs.Units.{whole_parts, fine_parts, ten_trillionths, grid_of}
use Rattle.number_exponential.specs.declared.GridUnit.{GridUnit}
use Rattle.number_exponential.specs.declared.GridUnit.TheVariants.{Coarse, Fine}
use Rattle.number_exponential.proofs.laws.Facts.{Sound}
use Rattle.number_exponential.proofs.laws.Terms.{slack}
use Rattle.number_exponential.proofs.laws.WidthFacts.{Narrow, slack_upper, slack_lower, exp_width}

-- the order of the test
abbrev tested : ℕ
tested = 60

-- ---- the test of a grid's constants

module _ (g : Grid) where
  -- c is at most unit/(s + r) at n steps, and what stands for its upper end, the unit at n = 0 and c + 1 after it, at least
  -- unit/s
  unfoldable holds_below : ℕ → ℕ → Bool
  holds_below n c = leb (c * stretched_num n g.steps tested) (g.unit * stretched_den n g.steps tested)

  unfoldable upper_of : ℕ → ℕ → ℕ
  upper_of zero c = g.unit
  upper_of (suc n) c = suc c

  unfoldable holds_above : ℕ → ℕ → Bool
  holds_above n c = leb (g.unit * taylor_den g.steps tested) (upper_of n c * taylor_num n g.steps tested)

  below : T (every holds_below 0 g.constants) → (n : ℕ) → n < length g.constants
      → constant_lower g n * stretched_num n g.steps tested ≤ g.unit * stretched_den n g.steps tested
  unfolding holds_below constant_lower
  below t n l = leb→le _ _ (at holds_below 0 g.constants t n l)

  above : T (every holds_above 0 g.constants) → (n : ℕ) → n < length g.constants
      → g.unit * taylor_den g.steps tested ≤ constant_upper g n * taylor_num n g.steps tested
  unfolding holds_above upper_of constant_lower constant_upper
  above t zero l = leb→le _ _ (at holds_above 0 g.constants t zero l)
  above t (suc n) l = leb→le _ _ (at holds_above 0 g.constants t (suc n) l)

-- ---- both grids

pub unit-sound : (u : GridUnit) → Sound (grid_of u)
unfolding grid_of whole_parts fine_parts constant_lower holds_below upper_of holds_above stretched_den stretched_num gap taylor_den taylor_num double
unit-sound u =
    record {
      steps-positive = elim u as (λ v. 0 < (grid_of v).steps) [ Coarse ↦ lit< tt | Fine ↦ lit< tt ];
      whole-step = elim u as (λ v. (grid_of v).steps * step (grid_of v) ≡ (grid_of v).unit) [ Coarse ↦ refl | Fine ↦ refl ];
      upper_pairs = (grid_of u).last_upper / 2;
      upper-last = elim u as (λ v. (grid_of v).last_upper ≡ double ((grid_of v).last_upper / 2)) [ Coarse ↦ refl | Fine ↦ refl ];
      lower_pairs = (grid_of u).last_lower / 2;
      lower_last = elim u as (λ v. (grid_of v).last_lower ≡ suc (double ((grid_of v).last_lower / 2))) [ Coarse ↦ refl | Fine ↦ refl ];
      order = tested;
      upper-order = elim u as (λ v. double ((grid_of v).last_upper / 2) ≤ tested) [ Coarse ↦ lit≤ tt | Fine ↦ lit≤ tt ];
      constants-all = elim u as (λ v. length (grid_of v).constants ≡ (grid_of v).cutoff * (grid_of v).steps) [ Coarse ↦ refl | Fine ↦ refl ];
      constant-first = elim u as (λ v. constant_lower (grid_of v) 0 ≡ (grid_of v).unit) [ Coarse ↦ refl | Fine ↦ refl ];
      constant-below = below (grid_of u) (elim u as (λ v. T (every (holds_below (grid_of v)) 0 (grid_of v).constants)) [ Coarse ↦ tt | Fine ↦ tt ]);
      constant-above = above (grid_of u) (elim u as (λ v. T (every (holds_above (grid_of v)) 0 (grid_of v).constants)) [ Coarse ↦ tt | Fine ↦ tt ]);
      cutoff-far = elim u as (λ v. (grid_of v).unit * taylor_den 1 tested ≤ taylor_num (grid_of v).cutoff 1 tested) [ Coarse ↦ lit≤ tt | Fine ↦ lit≤ tt ];
    }

pub unit-narrow : (u : GridUnit) → Narrow (grid_of u) (unit-sound u)
unfolding grid_of unit-sound slack_upper slack_lower slack total taylor_den taylor_num factorial double
unit-narrow u =
    record {
      upper-rest = elim u as (λ v. 3 * (grid_of v).unit ≤ factorial (suc (double (unit-sound v).upper_pairs))) [ Coarse ↦ lit≤ tt | Fine ↦ lit≤ tt ];
      lower-rest = elim u as (λ v. 3 * (grid_of v).unit ≤ factorial (double (suc (unit-sound v).lower_pairs))) [ Coarse ↦ lit≤ tt | Fine ↦ lit≤ tt ];
      lower-order = elim u as (λ v. double (suc (unit-sound v).lower_pairs) ≤ (unit-sound v).order) [ Coarse ↦ lit≤ tt | Fine ↦ lit≤ tt ];
      upper-slack = elim u as (λ v. 9 * suc (grid_of v).steps ≤ slack_upper (grid_of v)) [ Coarse ↦ lit≤ tt | Fine ↦ lit≤ tt ];
      lower-slack = elim u as (λ v. 9 * suc (grid_of v).steps ≤ slack_lower (grid_of v)) [ Coarse ↦ lit≤ tt | Fine ↦ lit≤ tt ];
      fine = elim u as (λ v. slack_lower (grid_of v) * taylor_num 1 1 (unit-sound v).order < 3 * (grid_of v).unit * taylor_den 1 (unit-sound v).order) [ Coarse ↦ lit< tt | Fine ↦ lit< tt ];
    }

-- the ends at one z lie at most 41 units apart
pub unit-width : (u : GridUnit) → exp_width (grid_of u) ≤ 41
unfolding grid_of exp_width slack_upper slack_lower slack total
unit-width u = elim u as (λ v. exp_width (grid_of v) ≤ 41) [ Coarse ↦ lit≤ tt | Fine ↦ lit≤ tt ]

-- no unit is smaller than the fine one
pub unit-most : (u : GridUnit) → (grid_of u).unit ≤ ten_trillionths.unit
unfolding grid_of
unit-most u = elim u as (λ v. (grid_of v).unit ≤ ten_trillionths.unit) [ Coarse ↦ lit≤ tt | Fine ↦ lit≤ tt ]
