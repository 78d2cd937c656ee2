-- `tables::put_point` meets its contract: the picture, the segment, then the record.
use Rattle.std.proofs.Common.{◌≡◌, ◌+◌, ℤ, pos, set, ap, ◌∙◌, w32, SFits, to_z, of_z, to_z-of_z, rules}
use Rattle.std.proofs.Math.Seq.{paste}
use Rattle.flat.specs.Flat.{flat, flat_length}
use Rattle.tables.proofs.Laws.{point_pasted}
use Rattle.tables.proofs.put_point.Goals as goal

pub returns : goal.returns
returns c =
    let d = c.args.row.now in
    let at = c.args.at in
    let p = c.args.point in
    let f : SFits w32 p.picture = search rules in
    let g : SFits w32 c.from.result = search rules in
    let segment : to_z w32 (of_z w32 c.from.result) ≡ pos p.segment = to_z-of_z g ∙ c.from.ensures in
    c.put_record.ensures
    ∙ ap (λ (z : ℤ). paste (set (set d at z) (at + 1) (to_z w32 (of_z w32 c.from.result))) (at + 2) (flat p.«record») flat_length) (to_z-of_z f)
    ∙ ap (λ (z : ℤ). paste (set (set d at p.picture) (at + 1) z) (at + 2) (flat p.«record») flat_length) segment
    ∙ point_pasted d at p c.requires
