-- `writer::put_block` meets its contract: the length, the level, the fields and the zero bits, one behind the other.
use mathlib.Core.List.{◌++◌}
use native.Mathlib.Omega.{arith}
use lib.ListN.{length-append}
use Rattle.tree.specs.Bits.{code}
use Rattle.tree.specs.Codes.{ue_code}
use Rattle.tree.specs.Coding.{fields_code, total_width}
use Rattle.tree.proofs.Bits.{length-code}
use Rattle.tree.proofs.Elements.{length_fields}
use Rattle.pen.proofs.Writing.{wrote_then, room_left}
use Rattle.record.specs.Level.{level, codings, padding, level_of, values_of}
use Rattle.writer.proofs.Parts.{block_bits_lem, block_parts, padding_small}
use Rattle.writer.proofs.put_block.Goals as goal

pub put_fields-requires : goal.put_fields-requires
put_fields-requires c =
    let b = c.args.b in
    let length-is = rw c.level_of-l.ensures at c.bytes_of-bytes.ensures in
    let length-put = rw length-is at c.put_ue.ensures in
    let level-put = rw c.level_of-l.ensures at c.put_u-p.ensures in
    let l = length-append (ue_code (level (level_of b)).bytes) (code 8 (level_of b)) in
    (room_left (wrote_then length-put level-put) (total_width (codings (level_of b))) (omega (arith, c.requires.0, block_parts b, l, length-code 8 (level_of b))), c.requires.1)

pub put_zeros-requires : goal.put_zeros-requires
put_zeros-requires c =
    let b = c.args.b in
    let length-is = rw c.level_of-l.ensures at c.bytes_of-bytes.ensures in
    let zeros-are = rw c.level_of-l.ensures at c.padding_of-zeros.ensures in
    let length-put = rw length-is at c.put_ue.ensures in
    let level-put = rw c.level_of-l.ensures at c.put_u-p.ensures in
    let all = wrote_then (wrote_then length-put level-put) c.put_fields.ensures in
    let k = length-append (ue_code (level (level_of b)).bytes ++ code 8 (level_of b)) (fields_code (codings (level_of b)) (values_of b)) in
    let l = length-append (ue_code (level (level_of b)).bytes) (code 8 (level_of b)) in
    rw zeros-are (
      room_left all (padding (level_of b)) (omega (arith, c.requires.0, block_parts b, k, l, length-code 8 (level_of b), length_fields (codings (level_of b)) (values_of b) c.requires.1)),
      padding_small b,
    )

pub returns : goal.returns
returns c =
    let b = c.args.b in
    let length-is = rw c.level_of-l.ensures at c.bytes_of-bytes.ensures in
    let zeros-are = rw c.level_of-l.ensures at c.padding_of-zeros.ensures in
    let length-put = rw length-is at c.put_ue.ensures in
    let level-put = rw c.level_of-l.ensures at c.put_u-p.ensures in
    let zeros-put = rw zeros-are at c.put_zeros.ensures in
    rw (block_bits_lem b) (wrote_then length-put (wrote_then level-put (wrote_then c.put_fields.ensures zeros-put)))
