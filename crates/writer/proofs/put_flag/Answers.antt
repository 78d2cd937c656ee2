-- `writer::put_flag` meets its contract.
use Rattle.pen.proofs.Writing.{wrote_then}
use Rattle.writer.proofs.put_flag.Goals as goal

pub returns-then-refresh : goal.returns-then-refresh
returns-then-refresh c = rw c.if-refresh.true (wrote_then c.put_u.ensures c.put_ue.ensures)
