-- `pen::Pen::put_ue` meets its contract: the zeros of v's code, and v + 1 in one bit more.
use Rattle.pen.proofs.Writing.{wrote_then, ue_whole}
use Rattle.pen.proofs.Pen.put_ue.Goals as goal

pub returns : goal.returns
returns c = rw (ue_whole c.args.v, ← c.zeros_of-k.ensures) (wrote_then c.put_zeros.ensures c.put_u.ensures)
