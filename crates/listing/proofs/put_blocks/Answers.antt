-- `listing::put_blocks` meets its contract: the block that is typed is the next one.
use Prim.Native.Nat.{◌<◌}
use mathlib.Core.Path.{◌≡◌, ap}
use native.Mathlib.Omega.{arith}
use lib.ListN.{length, get_or, take, length-take}
use lib.Seq.{get_or-take}
use Rattle.text.proofs.Typing.{typed_on_then}
use Rattle.text.proofs.Lines.{typed_none}
use Rattle.record.specs.Blocks.{empty_place}
use Rattle.record.proofs.Laws.{block_at}
use Rattle.listing.specs.Listing.{blocks_lines}
use Rattle.listing.proofs.Blocks.{text_more, room_next}
use Rattle.listing.proofs.put_blocks.Goals as goal
use Rattle.listing.proofs.put_blocks.Goals.{In-loop-place}

-- the loop is at one of the first blocks, and at which
this_one : (c : In-loop-place) →
    let r = c.args.r in
    let i = c.loop-place.place-index in
    (i < r.count) × (i < length r.places) × ((get_or (take r.count r.places) i empty_place).block ≡ block_at r i)
this_one c =
    let r = c.args.r in
    let i = c.loop-place.place-index in
    let few = length-take r.count r.places in
    let below : i < r.count = omega (arith, few, c.loop-place-test.true) in
    (below, omega (arith, few, c.loop-place-test.true), ap (λ p. p.block) (get_or-take r.count r.places i empty_place below))

pub loop-place-init : goal.loop-place-init
unfolding blocks_lines
loop-place-init c = typed_none _

pub put_block-requires : goal.put_block-requires
put_block-requires c =
    let at = this_one (goal.at.put_block-requires c).In-loop-place in
    rw at.2 (room_next c.args.r c.loop-place.place-index c.args.r.count at.0 at.1 c.loop-place.invariant c.requires.0)

pub loop-place-preserved : goal.loop-place-preserved
loop-place-preserved c =
    let at = this_one (goal.at.loop-place-preserved c).In-loop-place in
    rw (text_more c.args.r c.loop-place.place-index at.1) (typed_on_then c.loop-place.invariant (rw at.2 at c.put_block.ensures))
