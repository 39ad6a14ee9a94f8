-- `age_at` meets its contract: each head is a name and then the age, one word of at most six bytes.
use native.Mathlib.Omega.{arith}
use Rattle.text_tokens.specs.Text.{bytes_of}
use Rattle.sheet.specs.Sheet.{age_keys}
use Rattle.sheet_set.proofs.AgeText.{age-joins, age-sized, age-head}
use Rattle.sheet_set.proofs.age_at.Goals as goal

pub joined-level-requires : goal.joined-level-requires
joined-level-requires c =
    age-joins _ (omega arith) c.age_text-age.ensures c.two.ensures (omega arith)

pub joined-slope-requires : goal.joined-slope-requires
joined-slope-requires c =
    age-joins _ (omega arith) c.age_text-age.ensures c.two-2.ensures (omega arith)

pub joined-alpha-requires : goal.joined-alpha-requires
joined-alpha-requires c =
    age-joins _ (omega arith) c.age_text-age.ensures c.three.ensures (omega arith)

pub joined-beta-requires : goal.joined-beta-requires
joined-beta-requires c =
    age-joins _ (omega arith) c.age_text-age.ensures c.three-2.ensures (omega arith)

pub four_at-requires : goal.four_at-requires
four_at-requires c =
    let e = c.age_text-age.ensures in (
      age-sized _ (omega arith) e c.two.ensures c.joined-level.ensures,
      age-sized _ (omega arith) e c.two-2.ensures c.joined-slope.ensures,
      age-sized _ (omega arith) e c.three.ensures c.joined-alpha.ensures,
      age-sized _ (omega arith) e c.three-2.ensures c.joined-beta.ensures,
    )

pub returns : goal.returns
unfolding age_keys bytes_of
returns c =
    let e = c.age_text-age.ensures in
    c.four_at.ensures _ _ _ _
    (age-head _ (omega arith) e c.two.ensures c.joined-level.ensures)
    (age-head _ (omega arith) e c.two-2.ensures c.joined-slope.ensures)
    (age-head _ (omega arith) e c.three.ensures c.joined-alpha.ensures)
    (age-head _ (omega arith) e c.three-2.ensures c.joined-beta.ensures)
