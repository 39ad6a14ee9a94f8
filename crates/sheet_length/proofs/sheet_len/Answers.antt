-- `sheet_len` meets its contract. The loop's invariant: the length of the parts up to the ages before x.
use mathlib.Core.Path.{◌≡◌, sym, ap, ap₂, subst, ◌∙◌}
use Prim.Native.Nat.{suc}
use native.Mathlib.Numerals.{add-one}
use native.Mathlib.Omega.{arith}
use lib.IntN.{ℤ}
use lib.ListN.{length}
use Rattle.set_params.specs.declared.Params.{Params}
use Rattle.set_params.specs.declared.Age.{Age}
use Rattle.set_params.specs.Set.{ages, age_of}
use Rattle.set_params.specs.laws.SetLaws.{four-age}
use Rattle.set_params.specs.code.Within.{AgeWithin}
use Rattle.set_limits.specs.laws.LimitsLaws.{in-limits-age}
use Rattle.sheet.proofs.laws.SheetTrip.{sheet-length}
use Rattle.sheet_length.specs.code.Parts.{start_text, age_text}
use Rattle.sheet_length.specs.laws.PartsLaws.{ages-none, ages-step, ages-grow, sheet-sum}
use Rattle.sheet_length.specs.laws.Held.{SeriesHeld, series-held}
use Rattle.sheet_length.proofs.sheet_len.Goals as goal

-- ---- the needs

pub overflow_add-len : goal.overflow_add-len
overflow_add-len c = let p = c.args.p in omega (arith, c.table_len.ensures, sheet-length p, sheet-sum p)

pub overflow_add-len-2 : goal.overflow_add-len-2
overflow_add-len-2 c =
    let p = c.args.p in
    omega (arith, c.table_len.ensures, c.series_len.ensures, sheet-length p, sheet-sum p)

pub start_len-requires : goal.start_len-requires
start_len-requires c =
    let values : SeriesHeld c.args.p = series-held c.args.p c.requires in
    let v = values in (v.start.small, v.c.small)

pub overflow_add-len-3 : goal.overflow_add-len-3
overflow_add-len-3 c =
    let values : SeriesHeld c.args.p = series-held c.args.p c.requires in
    let start : let p = c.args.p in c.start_len.result ≡ length (start_text p.table p.start p.c) =
    let p = c.args.p in
    c.start_len.ensures
    ∙ ap₂ (λ (z w : ℤ). length (start_text p.table z w)) values.start.is values.c.is in
    let p = c.args.p in
    omega (arith, c.table_len.ensures, c.series_len.ensures, start, sheet-length p, sheet-sum p)

pub loop-x-init : goal.loop-x-init
loop-x-init c =
    let values : SeriesHeld c.args.p = series-held c.args.p c.requires in
    let start : let p = c.args.p in c.start_len.result ≡ length (start_text p.table p.start p.c) =
    let p = c.args.p in
    c.start_len.ensures
    ∙ ap₂ (λ (z w : ℤ). length (start_text p.table z w)) values.start.is values.c.is in
    omega (arith, c.table_len.ensures, c.series_len.ensures, start, ap length (ages-none c.args.p))

pub age_len-len-requires : goal.age_len-len-requires
age_len-len-requires c =
    let set : Params = c.args.p in
    let read : c.age_of_runs-age.result ≡ age_of set c.loop-x.x = c.age_of_runs-age.ensures ∙ four-age _ _ in
    let w = in-limits-age set c.requires c.loop-x.x (omega arith) in
    (subst AgeWithin (sym read) w, omega arith)

pub overflow_add-len-in-loop-x : goal.overflow_add-len-in-loop-x
overflow_add-len-in-loop-x c =
    let set : Params = c.args.p in
    let read : c.age_of_runs-age.result ≡ age_of set c.loop-x.x = c.age_of_runs-age.ensures ∙ four-age _ _ in
    let told : c.age_len-len.result ≡ length (age_text (age_of set c.loop-x.x) c.loop-x.x) =
    let x = c.loop-x.x in
    c.age_len-len.ensures ∙ ap (λ (a : Age). length (age_text a x)) read in
    let n = ages-grow set (suc c.loop-x.x) ages (omega arith) in
    omega (arith, told, ages-step set c.loop-x.x, sheet-length set, sheet-sum set)

pub loop-x-preserved : goal.loop-x-preserved
loop-x-preserved c =
    let set : Params = c.args.p in
    let read : c.age_of_runs-age.result ≡ age_of set c.loop-x.x = c.age_of_runs-age.ensures ∙ four-age _ _ in
    let told : c.age_len-len.result ≡ length (age_text (age_of set c.loop-x.x) c.loop-x.x) =
    let x = c.loop-x.x in
    c.age_len-len.ensures ∙ ap (λ (a : Age). length (age_text a x)) read in
    let x = c.loop-x.x in
    rw (add-one x) (omega (arith, told, ages-step set x, c.loop-x.invariant))

pub returns : goal.returns
returns c =
    let set : Params = c.args.p in
    let e : c.loop-x.x ≡ ages = omega arith in
    omega (arith, sheet-sum set, rw e at c.loop-x.invariant)
