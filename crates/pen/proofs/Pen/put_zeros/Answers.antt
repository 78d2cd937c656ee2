-- `pen::Pen::put_zeros` meets its contract: zero bits are the code of 0.
use Rattle.tree.proofs.Bits.{code-zero}
use Rattle.pen.proofs.Pen.put_zeros.Goals as goal

pub returns : goal.returns
returns c = rw (← code-zero c.args.n) c.put_u.ensures
