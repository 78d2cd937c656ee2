-- `pen::Pen::put_u` meets its contract: k bits are written, which are v without its last n - k bits.
use native.Mathlib.Omega.{arith}
use Rattle.pen.proofs.Writing.{next_bit}
use Rattle.pen.proofs.Pen.put_u.Goals as goal

pub loop-k-preserved : goal.loop-k-preserved
loop-k-preserved c =
    let l = c.loop-k in
    let put = c.put_bit-pen in
    next_bit c.args.out.now l.out c.args.self l.pen c.args.n l.k c.args.v l.invariant put.new.out put.result (omega arith) put.ensures
