use lib.ListN.{take}
use Rattle.std.specs.List.{flat_map}
use Rattle.tree.specs.Bits.{code}
use Rattle.pen.specs.Writing.{Wrote}
use Rattle.writer.proofs.put_row.Given as goal

abbrev pub invariant-loop-value : goal.invariant-loop-value
invariant-loop-value l = Wrote l.initial.out l.initial.p (flat_map (code l.n) (take l.value-index l.values)) l.out l.p
