-- `writer::put_blocks` meets its contract: the first blocks are written, and there is room for the next.
use native.Mathlib.Omega.{arith}
use lib.ListN.{get_or}
use Rattle.std.proofs.lemmas.List.Folds.{length-flat_map-take}
use Rattle.tree.specs.Meaning.{sum_of_widths}
use Rattle.tree.proofs.Meaning.{length-all}
use Rattle.pen.proofs.Writing.{wrote_then, room_left}
use Rattle.record.specs.Blocks.{empty_place, in_range}
use Rattle.syntax.specs.Element.{block_elements}
use Rattle.writer.specs.Writing.{block_code}
use Rattle.writer.proofs.Room.{every_at}
use Rattle.writer.proofs.Parts.{flat_map_next}
use Rattle.writer.proofs.put_blocks.Goals as goal

pub put_block-p-requires : goal.put_block-p-requires
put_block-p-requires c =
    let ps = c.args.places.now in
    let l = c.loop-place in
    let es = block_elements (get_or ps l.place-index empty_place).block in (
      room_left l.invariant (sum_of_widths es) (omega (arith, c.requires.0, length-flat_map-take block_code ps l.place-index empty_place (omega arith), length-all es)),
      every_at in_range ps l.place-index (omega arith) c.requires.1,
    )

pub loop-place-preserved : goal.loop-place-preserved
loop-place-preserved c =
    let l = c.loop-place in
    rw (flat_map_next block_code c.args.places.now l.place-index empty_place (omega arith)) (wrote_then l.invariant c.put_block-p.ensures)
