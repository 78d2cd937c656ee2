use Rattle.bits.proofs.Zeros.{Checked}
use Rattle.bits.proofs.read_zeros.Given as goal

abbrev pub invariant-loop-have : goal.invariant-loop-have
invariant-loop-have l = Checked l.s l.at l.n l.i l.have l.v l.left

abbrev pub decreases-loop-have : goal.decreases-loop-have
decreases-loop-have l = l.left
