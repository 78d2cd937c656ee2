-- `writer::put_row` meets its contract: the first fields are written, and there is room for the next.
use native.Mathlib.Omega.{arith}
use Rattle.tree.specs.Bits.{code}
use Rattle.pen.proofs.Writing.{wrote_then}
use Rattle.writer.proofs.Parts.{flat_map_next}
use Rattle.writer.proofs.put_row.Goals as goal

pub loop-value-preserved : goal.loop-value-preserved
loop-value-preserved c =
    let a = c.args in
    let l = c.loop-value in
    rw (flat_map_next (code a.n) a.values.now l.value-index 0 (omega arith)) (wrote_then l.invariant c.put_u-p.ensures)
