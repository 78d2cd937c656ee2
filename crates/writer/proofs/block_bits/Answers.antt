-- `writer::block_bits` meets its contract.
use native.Mathlib.Omega.{arith}
use Rattle.writer.proofs.Room.{block_width, block_small}
use Rattle.writer.proofs.block_bits.Goals as goal

pub returns-clause-bound : goal.returns-clause-bound
returns-clause-bound c =
    let b = c.args.b in
    let e = rw c.level_of.ensures at c.bytes_of-bytes.ensures in
    let u = rw e at c.ue_bits.ensures.width in
    omega (arith, block_width b, block_small b)
