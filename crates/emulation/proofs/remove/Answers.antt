-- `emulation::remove` meets its contract: the bytes written and those to come from the next byte on are the whole.
use Rattle.std.proofs.Common.{◌<◌, length, get_or, true, false, arith}
use lib.ListN.{drop_of_length-le}
use Rattle.emulation.specs.Emulation.{removed_behind}
use Rattle.emulation.proofs.Loops.{removed_shorter, removed_step, one_more_zero, none_filled, one_filled, all_filled}
use Rattle.emulation.proofs.remove.Goals as goal
use Rattle.emulation.proofs.remove.Goals.{then-zeros-b, else-zeros-b}

pub loop-b-init : goal.loop-b-init
loop-b-init c = record { few = omega arith; filled = none_filled (omega (arith, removed_shorter 0 c.args.s.now)) }

pub bounds-out-n : goal.bounds-out-n
bounds-out-n c =
    let l = c.loop-b in
    let f = rw (removed_step c.args.s.now l.b-index (omega arith) l.zeros true c.if-zeros-b.true) at l.invariant.filled in omega arith

pub loop-b-preserved : goal.loop-b-preserved
loop-b-preserved c =
    let l = c.loop-b in
    let s = c.args.s.now in
    let h : l.b-index < length s = omega arith in
    record {
      few = omega (arith, c.zeros_behind-zeros.ensures, one_more_zero l.zeros (get_or s l.b-index 0));
      filled = rw c.zeros_behind-zeros.ensures (elim c.if-zeros-b.branch [
        | then-zeros-b w ↦ rw (w.out-is, w.n-is) (one_filled (rw (removed_step s l.b-index h l.zeros true w.if-zeros-b.true) at l.invariant.filled))
        | else-zeros-b w ↦ rw (w.out-is, w.n-is) (rw (removed_step s l.b-index h l.zeros false w.if-zeros-b.false) at l.invariant.filled)
      ]);
    }

pub returns : goal.returns
unfolding removed_behind
returns c =
    let f = all_filled (rw (drop_of_length-le c.args.s.now c.loop-b-test.false) at c.loop-b.invariant.filled) in
    record { result = f.0; buffer = f.1 }
