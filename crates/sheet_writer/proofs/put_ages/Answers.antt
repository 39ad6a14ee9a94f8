-- `put_ages` meets its contract. The loop's invariant: the lines of the ages passed are written.
use mathlib.Core.Path.{◌≡◌, sym, ap, subst, ◌∙◌}
use mathlib.Core.List.{◌++◌}
use Prim.Native.Nat.{ℕ, suc, ◌<◌}
use native.Mathlib.Numerals.{add-one}
use native.Mathlib.Omega.{arith}
use Rattle.set_params.specs.declared.Age.{Age}
use Rattle.set_params.specs.Set.{ages, age_of}
use Rattle.set_params.specs.laws.SetLaws.{four-age}
use Rattle.set_params.specs.code.Within.{AgeWithin}
use Rattle.set_limits.specs.laws.LimitsLaws.{in-limits-age}
use Rattle.text_printing.specs.code.Put.{Room, Put}
use Rattle.text_printing.specs.laws.PutLaws.{put-none, put_as, room_as, put-length, room-rest, put-join}
use Rattle.sheet_length.specs.code.Parts.{age_text, ages_text}
use Rattle.sheet_length.specs.laws.PartsLaws.{ages-none, ages-more, ages-grow}
use Rattle.sheet_writer.proofs.put_ages.Goals as goal

pub loop-age-init : goal.loop-age-init
loop-age-init c =
    let s = c.args in
    put_as (sym (ages-none s.p)) (put-none s.buffer.now s.at)

pub put_age-place-requires : goal.put_age-place-requires
put_age-place-requires c =
    let within : c.loop-age.age < ages = omega arith in
    let read : c.age_of_runs-four.result ≡ age_of c.args.p c.loop-age.age = c.age_of_runs-four.ensures ∙ four-age _ _ in
    let text : let x = c.loop-age.age in age_text c.age_of_runs-four.result x ≡ age_text (age_of c.args.p x) x = ap (λ (a : Age). age_text a c.loop-age.age) read in
    let room : (x : ℕ) → x < ages → let p = c.args.p in Room c.args.buffer.now c.args.at (ages_text p x ++ age_text (age_of p x) x) =
    λ x h. let p = c.args.p in
    room_as (ages-more p x) (record { fits = omega (arith, c.requires.1.fits, ages-grow p (suc x) ages (omega arith)) }) in
    let x = c.loop-age.age in
    let h : x < ages = within in
    let w = subst AgeWithin (sym read) (in-limits-age c.args.p c.requires.0 x h) in
    (w, h, room_as (sym text) (room-rest c.loop-age.invariant (room x h)))

pub loop-age-preserved : goal.loop-age-preserved
loop-age-preserved c =
    let within : c.loop-age.age < ages = omega arith in
    let read : c.age_of_runs-four.result ≡ age_of c.args.p c.loop-age.age = c.age_of_runs-four.ensures ∙ four-age _ _ in
    let text : let x = c.loop-age.age in age_text c.age_of_runs-four.result x ≡ age_text (age_of c.args.p x) x = ap (λ (a : Age). age_text a c.loop-age.age) read in
    let room : (x : ℕ) → x < ages → let p = c.args.p in Room c.args.buffer.now c.args.at (ages_text p x ++ age_text (age_of p x) x) =
    λ x h. let p = c.args.p in
    room_as (ages-more p x) (record { fits = omega (arith, c.requires.1.fits, ages-grow p (suc x) ages (omega arith)) }) in
    let x = c.loop-age.age in
    let h : x < ages = within in
    let more = put-join c.loop-age.invariant (put_as text c.put_age-place.ensures) (room x h) in
    rw (add-one x) (put_as (sym (ages-more c.args.p x)) more)

pub shape_of-buffer : goal.shape_of-buffer
shape_of-buffer c =
    let all : let s = c.args in let l = c.loop-age in Put s.buffer.now s.at (ages_text s.p ages) l.buffer l.place = let l = c.loop-age in let e : l.age ≡ ages = omega arith in rw (← e) l.invariant in
    put-length all c.requires.1

pub returns : goal.returns
returns c =
    let all : let s = c.args in let l = c.loop-age in Put s.buffer.now s.at (ages_text s.p ages) l.buffer l.place = let l = c.loop-age in let e : l.age ≡ ages = omega arith in rw (← e) l.invariant in
    all
