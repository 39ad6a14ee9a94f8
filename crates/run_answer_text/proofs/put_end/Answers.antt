-- `put_end` meets its contract: one digit, or the digits of the tenth and right after them the last one.
use borrow.Author.Rules.{rules}
use mathlib.Core.Path.{◌≡◌, sym, ◌∙◌}
use mathlib.Core.List.{List, [], ◌∷◌, ◌++◌}
use Prim.Native.Nat.{ℕ, ◌+◌, ◌/◌, ◌%◌, ◌≤◌, ◌<◌}
use native.Mathlib.Omega.{arith}
use lib.ListN.{length, set}
use Rattle.text_tokens.specs.Number.{zero_digit, unsigned_text}
use Rattle.text_tokens.specs.laws.DecimalLaws.{decimal-last, decimal-more, text-small}
use Rattle.text_printing.specs.laws.OverwrittenLaws.{overwritten-one}
use Rattle.text_printing.specs.code.Put.{Room, Put}
use Rattle.text_printing.specs.laws.PutLaws.{put_of, put_as, room_as, room-first, room-rest, put-join}
use Rattle.run_answer_text.specs.AnswerText.{end_text}
use Rattle.run_answer_text.proofs.put_end.Goals as goal
use Rattle.run_answer_text.proofs.put_end.Goals.{After-put_digits-arg-2-1, After-put_digits-last}

-- ---- the text

one-digit : (n : ℕ) → n < 10 → end_text n ≡ unsigned_text n
unfolding end_text
one-digit n h = decimal-last 15 n h ∙ sym (text-small n h)

more-digits : (n : ℕ) → 10 ≤ n → end_text n ≡ unsigned_text (n / 10) ++ ((zero_digit + n % 10) ∷ [])
unfolding end_text unsigned_text
more-digits n h = decimal-more 15 n h

-- ---- more than one digit

put_one : (bytes : List ℕ) (at b : ℕ) → at < length bytes → Put bytes at (b ∷ []) (set bytes at b) (at + 1)
put_one bytes at b h = record { place = omega arith; whole = overwritten-one bytes at b h }

room : (c : After-put_digits-arg-2-1) → let s = c.args in
    Room s.buffer.now s.at (unsigned_text (s.n / 10) ++ ((zero_digit + s.n % 10) ∷ []))
room c = let s = c in room_as (more-digits s.args.n c.if-n-lt10.false) s.requires.1

tenth : (c : After-put_digits-last) → let s = c.args in
    Put s.buffer.now s.at (unsigned_text (s.n / 10)) c.put_digits-last.new.buffer c.put_digits-last.result
tenth c = put_of c.put_digits-last.ensures

place : (c : After-put_digits-last) → c.put_digits-last.result < length c.put_digits-last.new.buffer
place c = omega (arith, (room-rest (tenth c) (room c.before)).fits)

-- ---- the needs

pub put_digits-requires : goal.put_digits-requires
put_digits-requires c =
    let s = c in
    (omega (arith, c.if-n-lt10.true), (room_as (one-digit s.args.n c.if-n-lt10.true) s.requires.1).fits)

pub returns-then-n-lt10 : goal.returns-then-n-lt10
returns-then-n-lt10 c =
    let p = c.before.before in
    let t = p in
    put_as (sym (one-digit t.args.n t.if-n-lt10.true)) (put_of p.put_digits.ensures)

pub put_digits-last-requires : goal.put_digits-last-requires
put_digits-last-requires c =
    let t = c in
    let n = t.args.n in
    (omega (arith, t.requires.0), (room-first {t = unsigned_text (n / 10)} ((zero_digit + n % 10) ∷ []) (room t)).fits)

pub bounds-buffer-last : goal.bounds-buffer-last
bounds-buffer-last c = place c.before.before

pub overflow_add-result : goal.overflow_add-result
overflow_add-result c = omega (arith, place c.before.before)

pub returns : goal.returns
returns c =
    let p = c.before.before in
    let t = p.before in
    let n = t.args.n in
    put_as (sym (more-digits n t.if-n-lt10.false)) (put-join (tenth p) (put_one _ _ _ (place p)) (room t))
