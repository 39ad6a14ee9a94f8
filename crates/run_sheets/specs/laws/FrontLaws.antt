-- Laws of the front of an input: what it is, by the input's length and its sheets; it ends within the input, and where it is not
-- refused its sets are within the limits.
use Rattle.std.specs.Prelude.{◌≡◌, refl, Bool, true, false, cond, ◌&&◌, List, ℕ, ◌+◌, ◌-◌, ◌≤◌, ◌<◌, T, eqb, ltb, leb, length, take}
use Rattle.std.proofs.Math.Path.{sym}
use Rattle.std.proofs.Common.{◌∙◌, arith, take_all}
use borrow.Author.Tests.{le-leb, lt-leb, eqb-true, eqb-false}
use Rattle.std.proofs.Math.ListN.{drop, length-drop}
use Rattle.number_whole.proofs.laws.Clash.{clash}
use Rattle.text_tokens.specs.Text.{Parse, malformed, taken}
use Rattle.set_params.specs.declared.Params.{Params}
use Rattle.set_refusal.specs.declared.Refusal.{Refusal}
use Rattle.set_refusal.specs.declared.Refusal.TheVariants.{Accepted, Malformed, OutOfLimits}
use Rattle.set_refusal.specs.Refusals.{refusal_number}
use Rattle.set_limits.specs.InLimits.{in_limits}
use Rattle.sheet.specs.declared.Reading.{Reading}
use Rattle.sheet.specs.Sheet.{most_bytes, refused, read_set, reading_of, read_sheet}
use Rattle.run_sheets.specs.declared.Front.{Front}
use Rattle.sheet_reader.specs.Front.{front_lines, sheet_of, sheet_end}
use Rattle.sheet_reader.specs.laws.FirstLaws.{sheet-within}
use Rattle.run_sheets.specs.declared.Sheets.{Sheets}
use Rattle.run_sheets.specs.declared.Sheets.TheVariants.{One, InTurn, ByNumber}
use Rattle.run_sheets.specs.Front.{in_turn, by_number, stopped, one_sheet, both_sheets, two_sheets, sheets_of, front_of}
use Rattle.run_sheets.specs.code.Two.{two_by}

-- ---- an accepted sheet's set is within the limits

abbrev ReadWell : Reading → Type 0
ReadWell sheet = refusal_number sheet.refusal ≡ 0 → T (in_limits sheet.set)

reading-well : (q : Parse Params) → ReadWell (reading_of q)
unfolding reading_of refused refusal_number
reading-well malformed e = absurd (omega arith)
reading-well (taken p rest) e = go (in_limits p) refl e
  where
    go : (b : Bool) → in_limits p ≡ b
        → refusal_number (cond b (record { refusal = Accepted; set = p }) (refused OutOfLimits)).refusal ≡ 0
        → T (in_limits (cond b (record { refusal = Accepted; set = p }) (refused OutOfLimits)).set)
    go true l f = rw l tt
    go false l f = absurd (omega arith)

sheet-well : (input : List ℕ) → ReadWell (sheet_of input)
unfolding sheet_of read_sheet refused refusal_number
sheet-well input e =
    let sheet = front_lines input in
    go (leb (length sheet) most_bytes) (reading_of (read_set sheet)) (reading-well (read_set sheet)) e
  where
    go : (b : Bool) (r : Reading) → ReadWell r → ReadWell (cond b r (refused Malformed))
    go true r h e = h e
    go false r h e = absurd (omega arith)

-- ---- what is left of an input from a place on

pub rest_from : (input : List ℕ) (at : ℕ) → take (length input - at) (drop at input) ≡ drop at input
rest_from input at = take_all (length input - at) (drop at input) (omega (arith, length-drop at input))

-- ---- two sheets, as they are read

module _ (input : List ℕ) {one : Reading} {end : ℕ} (e : one ≡ sheet_of input) (f : end ≡ sheet_end input) (numbered : Bool)
    {other : Reading} (g : other ≡ sheet_of (drop end input)) {given : Bool}
    (h : given ≡ cond numbered (by_number (refusal_number one.refusal) (refusal_number other.refusal))
    (in_turn (refusal_number one.refusal) (refusal_number other.refusal))) where
  -- the first is named
  pub two-first : given ≡ false → stopped 1 one.refusal end ≡ two_by numbered input
  unfolding two_by two_sheets
  two-first n = let t = sym h ∙ n in rw (e, f) (sym (rw (← f, ← g, ← e, t)))

  -- the second's answer is given
  pub two-second : given ≡ true → {len : ℕ} → len ≡ sheet_end (drop end input)
      → ◌≡◌ {A = Front}
      (record { refusal = other.refusal; named = 2; first = one.set; second = other.set; next = end + len })
      (two_by numbered input)
  unfolding two_by two_sheets both_sheets
  two-second n k = let t = sym h ∙ n in rw (k, g, e, f) (sym (rw (← f, ← g, ← e, t)))

-- ---- as it is read

module _ (input : List ℕ) {end : ℕ} (f : end ≡ sheet_end input) where
  pub front_long : (sheets : Sheets) → most_bytes < length input → stopped 0 Malformed end ≡ front_of sheets input
  unfolding front_of
  front_long sheets h = rw (lt-leb (length input) most_bytes h, f)

module _ (input : List ℕ) (h : length input ≤ most_bytes) {sheets : Sheets} where
  front_by : {form : Sheets} → sheets ≡ form → front_of sheets input ≡ sheets_of form input
  unfolding front_of
  front_by t = rw (t, le-leb (length input) most_bytes h)

  pub front-one : sheets ≡ One → {one : Reading} {end : ℕ} → one ≡ sheet_of input → end ≡ sheet_end input
      → ◌≡◌ {A = Front} (record { refusal = one.refusal; named = 0; first = one.set; second = one.set; next = end })
      (front_of sheets input)
  unfolding sheets_of one_sheet
  front-one t e f = rw (e, f) (sym (front_by t))

  pub front-turn : sheets ≡ InTurn → two_by false input ≡ front_of sheets input
  unfolding sheets_of two_by
  front-turn t = sym (front_by t)

  pub front-number : sheets ≡ ByNumber → two_by true input ≡ front_of sheets input
  unfolding sheets_of two_by
  front-number t = sym (front_by t)

-- ---- it may be used: it ends within the input, names a sheet by one digit, and its sets are within the limits

pub record Usable (input : List ℕ) (f : Front) : Type 0 where
  pub within : f.next ≤ length input
  pub named : f.named < 10
  pub first : refusal_number f.refusal ≡ 0 → T (in_limits f.first)
  pub second : refusal_number f.refusal ≡ 0 → T (in_limits f.second)

either : {input : List ℕ} (b : Bool) {f g : Front} → Usable input f → Usable input g → Usable input (cond b f g)
either true h k = h
either false h k = k

module _ (input : List ℕ) where
  stopped-usable : (named : ℕ) → named < 10 → (r : Refusal) → (refusal_number r ≡ 0 → ⊥)
      → Usable input (stopped named r (sheet_end input))
  unfolding stopped
  stopped-usable named h r n =
      record { within = sheet-within input; named = h; first = λ q. absurd (n q); second = λ q. absurd (n q) }

  one-usable : Usable input (one_sheet input)
  unfolding one_sheet
  one-usable = record { within = sheet-within input; named = omega arith; first = sheet-well input; second = sheet-well input }

  -- the second's answer, where it is not accepted unless the first is
  both-usable : let rest = drop (sheet_end input) input in
      (refusal_number (sheet_of rest).refusal ≡ 0 → refusal_number (sheet_of input).refusal ≡ 0)
      → Usable input (both_sheets input rest)
  unfolding both_sheets
  both-usable n =
      let rest = drop (sheet_end input) input in
      record {
        within = omega (arith, sheet-within input, sheet-within rest, length-drop (sheet_end input) input);
        named = omega arith;
        first = λ q. sheet-well input (n q);
        second = sheet-well rest;
      }

-- the second's answer is given: of an accepted second sheet only where the first is accepted; it is not: only where the first
-- is refused
record Gives (given : ℕ → ℕ → Bool) : Type 0 where
  accepted : (a b : ℕ) → given a b ≡ true → b ≡ 0 → a ≡ 0
  refused : (a b : ℕ) → given a b ≡ false → a ≡ 0 → ⊥

gives-turn : Gives in_turn
unfolding in_turn
gives-turn = record { accepted = λ a b t e. eqb-true a 0 t; refused = λ a b t. eqb-false a 0 t }

gives-number : Gives by_number
unfolding by_number
gives-number =
    record { accepted = λ a b t e. go a b (eqb a 0) refl t e; refused = λ a b t e. let f = rw e at t in clash cc }
  where
    go : (a b : ℕ) (z : Bool) → eqb a 0 ≡ z → cond z true (ltb 0 b && ltb b a) ≡ true → b ≡ 0 → a ≡ 0
    go a b true z t e = eqb-true a 0 z
    go a b false z t e = let f = rw e at t in clash cc

two-usable : (input : List ℕ) {given : ℕ → ℕ → Bool} → Gives given
    → Usable input (two_sheets given input (drop (sheet_end input) input))
unfolding two_sheets
two-usable input {given} g = go (given a b) refl
  where
    rest : List ℕ
    rest = drop (sheet_end input) input

    a : ℕ
    a = refusal_number (sheet_of input).refusal

    b : ℕ
    b = refusal_number (sheet_of rest).refusal

    go : (t : Bool) → given a b ≡ t
        → Usable input (cond t (both_sheets input rest) (stopped 1 (sheet_of input).refusal (sheet_end input)))
    go true t = both-usable input (g.accepted a b t)
    go false t = stopped-usable input 1 (omega arith) (sheet_of input).refusal (g.refused a b t)

sheets-usable : (sheets : Sheets) (input : List ℕ) → Usable input (sheets_of sheets input)
unfolding sheets_of
sheets-usable One input = one-usable input
sheets-usable InTurn input = two-usable input gives-turn
sheets-usable ByNumber input = two-usable input gives-number

pub front-usable : (sheets : Sheets) (input : List ℕ) → Usable input (front_of sheets input)
unfolding front_of refusal_number
front-usable sheets input =
    either (leb (length input) most_bytes) (sheets-usable sheets input)
    (stopped-usable input 0 (omega arith) Malformed (λ q. absurd (omega arith)))
