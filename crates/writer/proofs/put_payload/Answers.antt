-- `writer::put_payload` meets its contract: what stands before the blocks, the blocks, and zero bits to the byte.
use Prim.Native.Nat.{◌*◌}
use mathlib.Core.Path.{◌≡◌}
use mathlib.Core.List.{◌++◌, map}
use mathlib.Core.Bool.{true}
use native.Mathlib.Omega.{arith}
use lib.ListN.{length, take}
use Rattle.std.proofs.Common.{rules}
use Rattle.std.proofs.lemmas.List.{take-map}
use Rattle.tree.specs.Meaning.{all_bits}
use Rattle.tree.proofs.Meaning.{length-all, all_bits-append}
use Rattle.pen.specs.Writing.{Wrote, start_pen}
use Rattle.pen.proofs.Writing.{wrote_then}
use Rattle.record.specs.Blocks.{block_in, blocks, in_range}
use Rattle.valid.specs.Valid.{every}
use Rattle.valid.proofs.Clauses.{valid_means}
use Rattle.syntax.specs.Element.{open_elements, blocks_elements, elements}
use Rattle.writer.proofs.Room.{blocks_code, data_room}
use Rattle.writer.proofs.Parts.{byte_wrote}
use Rattle.writer.proofs.put_payload.Goals as goal

pub shared_ref_as_front-blocks : goal.shared_ref_as_front-blocks
shared_ref_as_front-blocks c = omega (arith, (valid_means c.args.r.now c.requires.1).few)

pub put_open-p-requires : goal.put_open-p-requires
put_open-p-requires c =
    let r = c.args.r.now in
    omega (arith, data_room r (8 * length c.args.out.now) c.requires.0, length-all (open_elements r.refresh r.count))

pub put_blocks-q-requires : goal.put_blocks-q-requires
unfolding every
put_blocks-q-requires c =
    let r = c.args.r.now in
    let ranges : every in_range (map block_in (take r.count r.places)) ≡ true =
    rw (take-map block_in r.count r.places) at (valid_means r c.requires.1).ranges in
    (omega (arith, data_room r (8 * length c.args.out.now) c.requires.0), search rules)

pub returns : goal.returns
unfolding elements
returns c =
    let r = c.args.r.now in
    let es = open_elements r.refresh r.count in
    let bs = blocks_elements (blocks r) in
    let both : Wrote c.args.out.now start_pen (all_bits (es ++ bs)) c.put_blocks-q.new.out c.put_blocks-q.result =
    rw (all_bits-append es bs, ← blocks_code r) (wrote_then c.put_open-p.ensures c.put_blocks-q.ensures) in
    byte_wrote (es ++ bs) both c.put_to_byte.ensures
