-- `writer::put_fields` meets its contract, level by level.
use mathlib.Core.List.{[], ◌∷◌}
use native.Mathlib.Omega.{arith}
use Rattle.tree.specs.Coding.{fields_code, total_width}
use Rattle.pen.proofs.Writing.{wrote_none, wrote_then, room_left}
use Rattle.writer.proofs.Parts.{length-row, level1-code, level2-code, level5-code, weight_held}
use Rattle.writer.proofs.put_fields.Goals as goal

pub put_row-requires : goal.put_row-requires
unfolding total_width
put_row-requires c =
    let g = c.in-Level1 in
    let room = rw g.is at c.requires.0 in
    (omega (arith, room, length-row 12 (g.min_pq ∷ g.max_pq ∷ g.avg_pq ∷ [])), omega arith)

pub put_row-requires-in-Level2 : goal.put_row-requires-in-Level2
unfolding total_width
put_row-requires-in-Level2 c =
    let g = c.in-Level2 in
    let room = rw g.is at c.requires.0 in
    (omega (arith, room, length-row 12 (g.target_max_pq ∷ g.trim_slope ∷ g.trim_offset ∷ g.trim_power ∷ g.trim_chroma_weight ∷ g.trim_saturation_gain ∷ [])), omega arith)

pub put_i-requires : goal.put_i-requires
unfolding total_width
put_i-requires c =
    let g = c.in-Level2 in
    let room = rw g.is at c.requires.0 in
    let w = weight_held g.target_max_pq g.trim_slope g.trim_offset g.trim_power g.trim_chroma_weight g.trim_saturation_gain g.ms_weight (rw g.is at c.requires.1) in (
      room_left c.put_row-in-Level2.ensures 13
          (omega (arith, room, length-row 12 (g.target_max_pq ∷ g.trim_slope ∷ g.trim_offset ∷ g.trim_power ∷ g.trim_chroma_weight ∷ g.trim_saturation_gain ∷ []))),
      omega arith,
      omega arith,
      rw w.1 w.0,
    )

pub put_row-requires-in-Level5 : goal.put_row-requires-in-Level5
unfolding total_width
put_row-requires-in-Level5 c =
    let g = c.in-Level5 in
    let room = rw g.is at c.requires.0 in
    (omega (arith, room, length-row 13 (g.left_offset ∷ g.right_offset ∷ g.top_offset ∷ g.bottom_offset ∷ [])), omega arith)

pub returns-in-Nothing : goal.returns-in-Nothing
unfolding fields_code
returns-in-Nothing c = rw c.in-Nothing.is (wrote_none c.args.out.now c.args.pen)

pub returns-in-Level1 : goal.returns-in-Level1
returns-in-Level1 c =
    let g = c.in-Level1 in
    rw (g.is, level1-code g.min_pq g.max_pq g.avg_pq) c.put_row.ensures

pub returns-in-Level2 : goal.returns-in-Level2
returns-in-Level2 c =
    let g = c.in-Level2 in
    let w = weight_held g.target_max_pq g.trim_slope g.trim_offset g.trim_power g.trim_chroma_weight g.trim_saturation_gain g.ms_weight (rw g.is at c.requires.1) in
    let put = rw w.1 at c.put_i.ensures in
    rw (g.is, level2-code g.target_max_pq g.trim_slope g.trim_offset g.trim_power g.trim_chroma_weight g.trim_saturation_gain g.ms_weight)
    (wrote_then c.put_row-in-Level2.ensures put)

pub returns-in-Level5 : goal.returns-in-Level5
returns-in-Level5 c =
    let g = c.in-Level5 in
    rw (g.is, level5-code g.left_offset g.right_offset g.top_offset g.bottom_offset) c.put_row-in-Level5.ensures
