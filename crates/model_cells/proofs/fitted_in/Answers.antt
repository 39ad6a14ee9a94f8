-- `fitted_in` meets its contract, for any set that lends the runs.
use Rattle.std.proofs.Common.{◌≡◌, refl, ap, sym, ◌∙◌, true, not, ℕ, ◌+◌, arith}
use borrow.Author.Tests.{not-true, not-false}
use Rattle.number_whole.specs.declared.SignedEnds.{SignedEnds}
use Rattle.number_exponential.specs.Units.{grid_of}
use Rattle.number_exponential.specs.Exponential.{exp_between}
use Rattle.set_params.specs.Set.{age_of}
use Rattle.set_params.specs.laws.SetLaws.{four-age}
use Rattle.model_log_force.specs.LogForce.{log_force, in_range}
use Rattle.model_log_force.proofs.laws.RangeLaws.{log_force-negated}
use Rattle.model_logarithm.specs.Logarithm.{inverse_logistic}
use Rattle.model_closure.specs.Weights.{first_fitted, fitted}
use Rattle.model_force.specs.Force.{negated}
use Rattle.model_mortality.specs.Cell.{young_force, fitted_ends}
use Rattle.model_log_force.proofs.laws.YearLaws.{cell-within, year-force}
use Rattle.model_cells.specs.code.Fitted.{LentIn}
use Rattle.model_cells.proofs.Fitting.{fitted_none, fitted-more, fitted-out, fitted-all}
use Rattle.model_cells.proofs.fitted_in.Goals as goal
use Rattle.model_cells.proofs.fitted_in.Goals.{After-age_of_runs, After-log_force_at-m, Else-not-in_range}
use Rattle.model_cells.proofs.fitted_in.Tie as tie
use Rattle.model_cells.proofs.fitted_in.Lts as lts
use Rattle.model_cells.proofs.fitted_in.Reads as reads

-- a set that lends the runs
abbrev Lender : After-age_of_runs → Type 0
Lender c = let a = c.args in LentIn (grid_of a.grid) a.level.now a.slope.now a.alpha.now a.beta.now a.y

-- the age of this turn
abbrev age : After-age_of_runs → ℕ
age c = first_fitted + c.loop-i.i

-- the age's parameters, and the log force, are the set's
age-read : (c : After-age_of_runs) (o : Lender c) → c.age_of_runs.result ≡ age_of o.set (age c)
age-read c o = rw (o.level, o.slope, o.alpha, o.beta) at c.age_of_runs.ensures ∙ four-age o.set (age c)

forced : (c : After-log_force_at-m) (o : Lender c.before)
    → c.log_force_at-m.result ≡ log_force (grid_of c.args.grid) o.set (age c.before) c.args.y.number
forced c o = rw (age-read c.before o, year-force o.year (age c.before)) at c.log_force_at-m.ensures

-- the code's test, of the definition's log force
tested : (c : lts.After-in_range tie.the-claims reads.Pre reads.Post goal.the-invariant-loop-i goal.the-decreases-loop-i) (o : Lender c.before.before)
    → c.in_range.result ≡ in_range (grid_of c.args.grid) (log_force (grid_of c.args.grid) o.set (first_fitted + c.loop-i.i) c.args.y.number)
tested c o = c.in_range.ensures ∙ ap (in_range (grid_of c.args.grid)) (forced c.before o)

in-range : (c : Else-not-in_range) (o : Lender c.before.before.before)
    → in_range (grid_of c.args.grid) (log_force (grid_of c.args.grid) o.set (first_fitted + c.loop-i.i) c.args.y.number) ≡ true
in-range c o = sym (tested c.before o) ∙ not-false _ (ap not c.if-not-in_range.false)

pub loop-i-init : goal.loop-i-init
loop-i-init c o = fitted_none (grid_of c.args.grid) o.set c.args.y.number refl

pub log_force_at-m-requires : goal.log_force_at-m-requires
log_force_at-m-requires c =
    let o = c.requires in
    rw (age-read c o) (cell-within o.year {x = age c} (omega (arith, c.loop-i-test.true))).limits

pub returns-then-not-in_range : goal.returns-then-not-in_range
returns-then-not-in_range c o =
    fitted-out (grid_of c.args.grid) o.set c.args.y.number c.loop-i.i c.loop-i-test.true
    (sym (tested c.before o) ∙ not-true _ (ap not c.if-not-in_range.true))

pub inverse_logistic-requires : goal.inverse_logistic-requires
inverse_logistic-requires c =
    let o = c.requires in
    rw (forced c.before.before o)
    (log_force-negated (grid_of c.args.grid) o.set o.year.limits (omega (arith, c.loop-i-test.true)) o.year.year (rw (in-range c o) tt))

pub loop-i-preserved : goal.loop-i-preserved
unfolding fitted_ends young_force
loop-i-preserved c o =
    let e = c.before in
    fitted-more (c.loop-i.invariant o) c.loop-i-test.true (rw (in-range e o) tt)
    (c.inverse_logistic.ensures
    ∙ ap (λ (k : SignedEnds). inverse_logistic (grid_of c.args.grid) k (exp_between (grid_of c.args.grid) (negated k))) (forced e.before.before o))

pub returns : goal.returns
returns c o =
    let f = c.loop-i.invariant o in
    let i : c.loop-i.i ≡ fitted = omega (arith, f.count, c.loop-i-test.false) in
    fitted-all c.args.grid o.set c.args.y.number c.loop-i.ends o.year.limits o.year.year (rw i at f)
