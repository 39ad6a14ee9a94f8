-- A life that is sure to live: the other life decides whether both do, and at least one is sure to. So over no years both chances
-- are 1.
use Rattle.std.specs.Prelude.{◌≡◌, [], ℕ, ℤ, pos}
use Rattle.std.proofs.Math.Path.{ap}
use Rattle.std.proofs.Common.{ap₂, ◌∙◌, zero-mul}
use Rattle.std.proofs.Math.Nat.{sub_self, sub-zero, mul-zero}
use Rattle.number_exponential.specs.Grid.{Grid}
use Rattle.number_exponential.specs.declared.Ends.{Ends}
use Rattle.number_exponential.specs.declared.GridUnit.{GridUnit}
use Rattle.number_exponential.specs.Units.{grid_of}
use Rattle.number_whole.specs.Listed.{listed}
use Rattle.number_whole.proofs.laws.DivisionLaws.{floorℕ-exact, ceilℕ-exact}
use Rattle.number_exponential.specs.Outward.{outward_over}
use Rattle.number_folds.specs.Folds.{one, survival_from, survival_over, with_factor}
use Rattle.number_folds.proofs.laws.Steps.{one-with-factor}
use Rattle.set_params.specs.declared.Params.{Params}
use Rattle.quote_paths.specs.Path.{factors, path_of}
use Rattle.quote_kinds.specs.Kinds.{rule_of, count_of}
use Rattle.quote_couple_kinds.specs.declared.Status.TheVariants.{JointLife, LastSurvivor}
use Rattle.quote_couple_kinds.specs.declared.CoupleKind.TheVariants as kind
use Rattle.quote_couple_kinds.specs.CoupleKinds.{single_of}
use Rattle.model_force.specs.Force.{death_of}
use Rattle.quote_two_lives.specs.TwoLives.{status_chance, status_over, couple_over}
use Rattle.quote_couple.specs.Couple.{life_path, couple_ends}
use Rattle.quote_couple.proofs.laws.CoupleTests.{life-path}
use Rattle.quote_couple.proofs.laws.Exchanged.{factors-exchanged}

module _ (g : Grid) where
  -- nobody dies who is sure to live, and nothing times any chance is nothing
  abbrev nothing : Ends
  nothing = record { lower = 0; upper = 0 }

  sure-lives : death_of g (one g) ≡ nothing
  unfolding death_of one
  sure-lives = rw (sub_self g.unit)

  nothing-dies : death_of g nothing ≡ one g
  unfolding death_of one
  nothing-dies = rw (sub-zero g.unit)

  times-nothing : (s : Ends) → with_factor g s nothing ≡ nothing
  unfolding with_factor outward_over
  times-nothing s =
      rw (mul-zero s.lower, mul-zero s.upper)
      (ap₂ (λ (l u : ℕ). record { lower = l; upper = u }) (rw (zero-mul g.unit) at (floorℕ-exact 0 g.positive))
      (rw (zero-mul g.unit) at (ceilℕ-exact 0 g.positive)))

  pub joint-with-sure : (s : Ends) → status_chance JointLife g s (one g) ≡ s
  unfolding status_chance
  joint-with-sure s = factors-exchanged g s (one g) ∙ one-with-factor g g.positive s

  pub last-with-sure : (s : Ends) → status_chance LastSurvivor g s (one g) ≡ one g
  unfolding status_chance
  last-with-sure s =
      ap (death_of g) (ap (with_factor g (death_of g s)) sure-lives ∙ times-nothing (death_of g s)) ∙ nothing-dies

-- over no years, of any two lives
no-factors : (g : Grid) (p : Params) (age year : ℤ) → factors g p (life_path p kind.JointLife age year (pos 0)) ≡ []
unfolding factors path_of listed rule_of single_of count_of
no-factors g p age year = ap (factors g p) (life-path p kind.JointLife age year (pos 0))

module _ (u : GridUnit) (p p' : Params) (age age' year : ℤ) where
  pub joint-over-none : couple_ends p p' kind.JointLife age age' year (pos 0) u ≡ one (grid_of u)
  unfolding couple_ends couple_over status_over survival_over survival_from single_of
  joint-over-none =
      let g = grid_of u in rw (no-factors g p age year, no-factors g p' age' year) (joint-with-sure g (one g))

  pub last-over-none : couple_ends p p' kind.LastSurvivor age age' year (pos 0) u ≡ one (grid_of u)
  unfolding couple_ends couple_over status_over survival_over survival_from single_of
  last-over-none =
      let g = grid_of u in rw (no-factors g p age year, no-factors g p' age' year) (last-with-sure g (one g))
