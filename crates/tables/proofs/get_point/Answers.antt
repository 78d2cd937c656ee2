-- `tables::get_point` meets its contract.
use Rattle.std.proofs.Common.{◌≡◌, ◌+◌, ◌*◌, Bool, ℤ, take, drop, ap, ◌∙◌, w32, SFits, to_z, of_z, to_z-of_z, rules}
use Rattle.track.proofs.Tracks.{same_point}
use Rattle.flat.specs.Flat.{flat_length, number_at, unsigned_in, record_beside}
use Rattle.tables.specs.Table.{point_length, point_in}
use Rattle.tables.proofs.Laws.{segment_test}
use Rattle.tables.proofs.get_point.Goals as goal

pub returns : goal.returns
unfolding point_in
returns c =
    let l = c.args.table.now in
    let at = point_length * c.args.i in
    let given : ℤ = number_at l (at + 1) in
    let said : c.unsigned-segment.result ≡ unsigned_in 16 (to_z w32 (of_z w32 given)) = c.unsigned-segment.ensures in
    let fits : SFits w32 given = search rules in
    let held : c.unsigned-segment.result ≡ unsigned_in 16 given = said ∙ ap (unsigned_in 16) (to_z-of_z fits) in
    let picture_fits : SFits w32 (number_at l at) = search rules in
    same_point (to_z-of_z picture_fits) held
    (c.get_beside.ensures ∙ ap (λ (t : Bool). record_beside t (take flat_length (drop (at + 2) l))) (segment_test given c.from.result c.unsigned-segment.result fits c.from.ensures held))
