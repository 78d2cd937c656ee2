-- `writer::put_head` meets its contract.
use Rattle.pen.proofs.Writing.{wrote_then}
use Rattle.writer.proofs.Parts.{head_bits_lem}
use Rattle.writer.proofs.put_head.Goals as goal

pub returns : goal.returns
returns c =
    let first = rw c.start.ensures at c.put_ue.ensures in
    rw (head_bits_lem c.args.refresh c.args.count) (wrote_then first (wrote_then c.put_ue-p.ensures c.put_flag.ensures))
