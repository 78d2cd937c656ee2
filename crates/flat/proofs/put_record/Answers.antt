-- `flat::put_record` meets its contract: the flag, the count, then the places.
use Rattle.std.proofs.Common.{◌∙◌, w32, SFits, to_z, of_z, to_z-of_z, rules}
use Rattle.flat.proofs.Places.{record_pasted}
use Rattle.flat.proofs.put_record.Goals as goal

pub returns : goal.returns
returns c =
    let x = c.from.result in
    let y = c.from-2.result in
    let f : SFits w32 x = search rules in
    let g : SFits w32 y = search rules in
    c.put_places.ensures
    ∙ record_pasted c.args.row.now c.args.at c.args.r c.requires (to_z w32 (of_z w32 x)) (to_z w32 (of_z w32 y)) (to_z-of_z f ∙ c.from.ensures) (to_z-of_z g ∙ c.from-2.ensures)
