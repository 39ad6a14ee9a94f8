-- `put_figure` meets its contract: `open`, or the whole part, the point and the decimals, one right after the other.
use mathlib.Core.Path.{◌≡◌, sym, ap, subst, ◌∙◌}
use Prim.Native.Nat.{ℕ, ◌/◌, ◌^◌, ◌<◌}
use native.Mathlib.Nat.{div-le_self}
use native.Mathlib.Omega.{arith}
use lib.IntN.{pos}
use mir.Syntax.{w64}
use mir.Val.{to_z}
use mir.Facts.{to_z_pos}
use Rattle.text_tokens.specs.Text.{bytes_of}
use Rattle.text_tokens.specs.Number.{most_digits, unsigned_text, number_text}
use Rattle.text_printing.specs.code.Put.{Put}
use Rattle.text_printing.specs.laws.PutLaws.{put_of, put_as, room_as, Three, three-first, three-second, three_third, three-put}
use Rattle.run_figure_text.specs.FigureText.{last_digits, steps_text, figure_text}
use Rattle.run_figure_text.specs.code.Sizes.{Printable}
use Rattle.run_figure_text.proofs.put_figure.Goals as goal

-- ---- the needs

pub put_text-requires : goal.put_text-requires
unfolding bytes_of figure_text
put_text-requires c =
    let open-text : let s = c.args in figure_text s.decimals s.figure ≡ bytes_of "open" = let s = c.args in ap (figure_text s.decimals) c.in_default.is in
    (room_as open-text c.requires.1).fits

pub returns-in_default : goal.returns-in_default
unfolding bytes_of figure_text
returns-in_default c =
    let open-text : let s = c.args in figure_text s.decimals s.figure ≡ bytes_of "open" = let s = c.args in ap (figure_text s.decimals) c.in_default.is in
    put_as (sym open-text) (put_of c.put_text.ensures)

pub overflow_cast-whole : goal.overflow_cast-whole
unfolding Printable
overflow_cast-whole c =
    let steps : ℕ = c.in-Printed.steps in
    let small : steps < 10 ^ most_digits = subst Printable c.in-Printed.is c.requires.0 in
    let decimals : ℕ = c.args.decimals in
    let whole-small : c.without_last-whole.result < 10 ^ most_digits = omega (arith, c.without_last-whole.ensures, small, div-le_self steps (10 ^ decimals)) in
    omega (arith, whole-small)

pub put_number-point-requires : goal.put_number-point-requires
unfolding Printable number_text figure_text steps_text
put_number-point-requires c =
    let steps : ℕ = c.in-Printed.steps in
    let small : steps < 10 ^ most_digits = subst Printable c.in-Printed.is c.requires.0 in
    let decimals : ℕ = c.args.decimals in
    let whole-small : c.without_last-whole.result < 10 ^ most_digits = omega (arith, c.without_last-whole.ensures, small, div-le_self steps (10 ^ decimals)) in
    let whole : to_z w64 c.without_last-whole.result ≡ pos (steps / 10 ^ decimals) = to_z_pos w64 (omega (arith, whole-small)) ∙ ap pos c.without_last-whole.ensures in
    let whole-text : number_text (to_z w64 c.without_last-whole.result) ≡ unsigned_text (steps / 10 ^ decimals) = ap number_text whole in
    let steps-text : figure_text decimals c.args.figure ≡ steps_text decimals steps = ap (figure_text decimals) c.in-Printed.is in
    let texts : Three c.args.buffer.now c.args.at (unsigned_text (steps / 10 ^ decimals)) (bytes_of ".") (last_digits decimals steps) = record { room = room_as steps-text c.requires.1 } in (
      rw whole (omega (arith, whole-small, c.without_last-whole.ensures)),
      (room_as (sym whole-text) (three-first texts)).fits,
    )

pub put_text-first-requires : goal.put_text-first-requires
unfolding bytes_of Printable number_text figure_text steps_text
put_text-first-requires c =
    let steps : ℕ = c.in-Printed.steps in
    let small : steps < 10 ^ most_digits = subst Printable c.in-Printed.is c.requires.0 in
    let decimals : ℕ = c.args.decimals in
    let whole-small : c.without_last-whole.result < 10 ^ most_digits = omega (arith, c.without_last-whole.ensures, small, div-le_self steps (10 ^ decimals)) in
    let whole : to_z w64 c.without_last-whole.result ≡ pos (steps / 10 ^ decimals) = to_z_pos w64 (omega (arith, whole-small)) ∙ ap pos c.without_last-whole.ensures in
    let whole-text : number_text (to_z w64 c.without_last-whole.result) ≡ unsigned_text (steps / 10 ^ decimals) = ap number_text whole in
    let steps-text : figure_text decimals c.args.figure ≡ steps_text decimals steps = ap (figure_text decimals) c.in-Printed.is in
    let texts : Three c.args.buffer.now c.args.at (unsigned_text (steps / 10 ^ decimals)) (bytes_of ".") (last_digits decimals steps) = record { room = room_as steps-text c.requires.1 } in
    let number : Put c.args.buffer.now c.args.at (unsigned_text (steps / 10 ^ decimals)) c.put_number-point.new.buffer c.put_number-point.result = put_as whole-text (put_of c.put_number-point.ensures) in
    (three-second texts number).fits

pub put_last_digits-requires : goal.put_last_digits-requires
unfolding Printable number_text figure_text steps_text bytes_of
put_last_digits-requires c =
    let steps : ℕ = c.in-Printed.steps in
    let small : steps < 10 ^ most_digits = subst Printable c.in-Printed.is c.requires.0 in
    let decimals : ℕ = c.args.decimals in
    let whole-small : c.without_last-whole.result < 10 ^ most_digits = omega (arith, c.without_last-whole.ensures, small, div-le_self steps (10 ^ decimals)) in
    let whole : to_z w64 c.without_last-whole.result ≡ pos (steps / 10 ^ decimals) = to_z_pos w64 (omega (arith, whole-small)) ∙ ap pos c.without_last-whole.ensures in
    let whole-text : number_text (to_z w64 c.without_last-whole.result) ≡ unsigned_text (steps / 10 ^ decimals) = ap number_text whole in
    let steps-text : figure_text decimals c.args.figure ≡ steps_text decimals steps = ap (figure_text decimals) c.in-Printed.is in
    let texts : Three c.args.buffer.now c.args.at (unsigned_text (steps / 10 ^ decimals)) (bytes_of ".") (last_digits decimals steps) = record { room = room_as steps-text c.requires.1 } in
    let number : Put c.args.buffer.now c.args.at (unsigned_text (steps / 10 ^ decimals)) c.put_number-point.new.buffer c.put_number-point.result = put_as whole-text (put_of c.put_number-point.ensures) in
    let point : let b = c.put_number-point in Put b.new.buffer b.result (bytes_of ".") c.put_text-first.new.buffer c.put_text-first.result = put_of c.put_text-first.ensures in
    three_third texts number point

pub returns : goal.returns
unfolding steps_text Printable number_text figure_text bytes_of
returns c =
    let steps : ℕ = c.in-Printed.steps in
    let small : steps < 10 ^ most_digits = subst Printable c.in-Printed.is c.requires.0 in
    let decimals : ℕ = c.args.decimals in
    let whole-small : c.without_last-whole.result < 10 ^ most_digits = omega (arith, c.without_last-whole.ensures, small, div-le_self steps (10 ^ decimals)) in
    let whole : to_z w64 c.without_last-whole.result ≡ pos (steps / 10 ^ decimals) = to_z_pos w64 (omega (arith, whole-small)) ∙ ap pos c.without_last-whole.ensures in
    let whole-text : number_text (to_z w64 c.without_last-whole.result) ≡ unsigned_text (steps / 10 ^ decimals) = ap number_text whole in
    let steps-text : figure_text decimals c.args.figure ≡ steps_text decimals steps = ap (figure_text decimals) c.in-Printed.is in
    let texts : Three c.args.buffer.now c.args.at (unsigned_text (steps / 10 ^ decimals)) (bytes_of ".") (last_digits decimals steps) = record { room = room_as steps-text c.requires.1 } in
    let number : Put c.args.buffer.now c.args.at (unsigned_text (steps / 10 ^ decimals)) c.put_number-point.new.buffer c.put_number-point.result = put_as whole-text (put_of c.put_number-point.ensures) in
    let point : let b = c.put_number-point in Put b.new.buffer b.result (bytes_of ".") c.put_text-first.new.buffer c.put_text-first.result = put_of c.put_text-first.ensures in
    put_as (sym steps-text) (three-put texts number point c.put_last_digits.ensures)
