-- `put_sheet` meets its contract: the five parts, one right after the other.
use mathlib.Core.Path.{◌≡◌, sym, ap₂}
use mathlib.Core.List.{◌++◌}
use lib.IntN.{ℤ}
use mir.Syntax.{w64}
use mir.Val.{to_z, of_z}
use Rattle.set_params.specs.Set.{ages}
use Rattle.sheet.specs.Sheet.{table_text, sex_text}
use Rattle.text_printing.specs.code.Put.{Room, Put}
use Rattle.text_printing.specs.laws.PutLaws.{put_as, room_as, room-first, room-rest, put-join}
use Rattle.sheet_length.specs.code.Parts.{start_text, ages_text}
use Rattle.sheet_length.specs.laws.Held.{SeriesHeld, series-held}
use Rattle.sheet_length.specs.laws.PartsLaws.{lines_of, sheet-parts}
use Rattle.sheet_writer.proofs.put_sheet.Goals as goal

-- ---- the needs

pub put_table-second-requires : goal.put_table-second-requires
put_table-second-requires c =
    let room : let p = c.args.p in Room c.args.buffer.now 0 (table_text p.table ++ (sex_text p.sex ++ lines_of p)) = room_as (sheet-parts c.args.p) c.requires.1 in
    room-first _ room

pub put_sex-series-requires : goal.put_sex-series-requires
put_sex-series-requires c =
    let room : let p = c.args.p in Room c.args.buffer.now 0 (table_text p.table ++ (sex_text p.sex ++ lines_of p)) = room_as (sheet-parts c.args.p) c.requires.1 in
    let room₁ : let p = c.args.p in Room c.put_table-second.new.buffer c.put_table-second.result (sex_text p.sex ++ lines_of p) = room-rest c.put_table-second.ensures room in
    room-first _ room₁

pub put_series-start-requires : goal.put_series-start-requires
put_series-start-requires c =
    let room : let p = c.args.p in Room c.args.buffer.now 0 (table_text p.table ++ (sex_text p.sex ++ lines_of p)) = room_as (sheet-parts c.args.p) c.requires.1 in
    let room₁ : let p = c.args.p in Room c.put_table-second.new.buffer c.put_table-second.result (sex_text p.sex ++ lines_of p) = room-rest c.put_table-second.ensures room in
    let room₂ : Room c.put_sex-series.new.buffer c.put_sex-series.result (lines_of c.args.p) = room-rest c.put_sex-series.ensures room₁ in
    (c.requires.0, room-first _ room₂)

pub put_start-first-requires : goal.put_start-first-requires
put_start-first-requires c =
    let room : let p = c.args.p in Room c.args.buffer.now 0 (table_text p.table ++ (sex_text p.sex ++ lines_of p)) = room_as (sheet-parts c.args.p) c.requires.1 in
    let room₁ : let p = c.args.p in Room c.put_table-second.new.buffer c.put_table-second.result (sex_text p.sex ++ lines_of p) = room-rest c.put_table-second.ensures room in
    let room₂ : Room c.put_sex-series.new.buffer c.put_sex-series.result (lines_of c.args.p) = room-rest c.put_sex-series.ensures room₁ in
    let room₃ : let p = c.args.p in Room c.put_series-start.new.buffer c.put_series-start.result (start_text p.table p.start p.c ++ ages_text p ages) = room-rest c.put_series-start.ensures room₂ in
    let values : SeriesHeld c.args.p = series-held c.args.p c.requires.0 in
    let text : let p = c.args.p in start_text p.table (to_z w64 (of_z w64 p.start)) (to_z w64 (of_z w64 p.c)) ≡ start_text p.table p.start p.c = ap₂ (λ (z w : ℤ). start_text c.args.p.table z w) values.start.is values.c.is in
    (values.start.small, values.c.small, room_as (sym text) (room-first _ room₃))

pub put_ages-requires : goal.put_ages-requires
put_ages-requires c =
    let room : let p = c.args.p in Room c.args.buffer.now 0 (table_text p.table ++ (sex_text p.sex ++ lines_of p)) = room_as (sheet-parts c.args.p) c.requires.1 in
    let room₁ : let p = c.args.p in Room c.put_table-second.new.buffer c.put_table-second.result (sex_text p.sex ++ lines_of p) = room-rest c.put_table-second.ensures room in
    let room₂ : Room c.put_sex-series.new.buffer c.put_sex-series.result (lines_of c.args.p) = room-rest c.put_sex-series.ensures room₁ in
    let room₃ : let p = c.args.p in Room c.put_series-start.new.buffer c.put_series-start.result (start_text p.table p.start p.c ++ ages_text p ages) = room-rest c.put_series-start.ensures room₂ in
    let values : SeriesHeld c.args.p = series-held c.args.p c.requires.0 in
    let text : let p = c.args.p in start_text p.table (to_z w64 (of_z w64 p.start)) (to_z w64 (of_z w64 p.c)) ≡ start_text p.table p.start p.c = ap₂ (λ (z w : ℤ). start_text c.args.p.table z w) values.start.is values.c.is in
    let start-put : let b = c.put_series-start in let p = c.args.p in Put b.new.buffer b.result (start_text p.table p.start p.c) c.put_start-first.new.buffer c.put_start-first.result = put_as text c.put_start-first.ensures in
    (c.requires.0, room-rest start-put room₃)

pub returns : goal.returns
returns c =
    let room : let p = c.args.p in Room c.args.buffer.now 0 (table_text p.table ++ (sex_text p.sex ++ lines_of p)) = room_as (sheet-parts c.args.p) c.requires.1 in
    let room₁ : let p = c.args.p in Room c.put_table-second.new.buffer c.put_table-second.result (sex_text p.sex ++ lines_of p) = room-rest c.put_table-second.ensures room in
    let room₂ : Room c.put_sex-series.new.buffer c.put_sex-series.result (lines_of c.args.p) = room-rest c.put_sex-series.ensures room₁ in
    let room₃ : let p = c.args.p in Room c.put_series-start.new.buffer c.put_series-start.result (start_text p.table p.start p.c ++ ages_text p ages) = room-rest c.put_series-start.ensures room₂ in
    let values : SeriesHeld c.args.p = series-held c.args.p c.requires.0 in
    let text : let p = c.args.p in start_text p.table (to_z w64 (of_z w64 p.start)) (to_z w64 (of_z w64 p.c)) ≡ start_text p.table p.start p.c = ap₂ (λ (z w : ℤ). start_text c.args.p.table z w) values.start.is values.c.is in
    let start-put : let b = c.put_series-start in let p = c.args.p in Put b.new.buffer b.result (start_text p.table p.start p.c) c.put_start-first.new.buffer c.put_start-first.result = put_as text c.put_start-first.ensures in
    put_as (sym (sheet-parts c.args.p))
    (put-join c.put_table-second.ensures
    (put-join c.put_sex-series.ensures
    (put-join c.put_series-start.ensures
    (put-join start-put c.put_ages.ensures room₃) room₂) room₁) room)
