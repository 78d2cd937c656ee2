use Rattle.tree.specs.Bits.{bits_of}
use Rattle.reader.proofs.Laws.{Reached}
use Rattle.reader.proofs.read_blocks.Given as goal

abbrev pub invariant-loop-i : goal.invariant-loop-i
invariant-loop-i l = Reached l.refresh (bits_of l.s) l.start l.n l.r l.seen l.width l.skipped l._i
