use Prim.Native.Nat.{◌+◌, ◌-◌}
use lib.ListN.{length}
use Rattle.plan.specs.Limit.{most_points}
use Rattle.plan.specs.Planning.{tags_from, merged}
use Rattle.plan.proofs.Merging.{Merging}
use Rattle.plan.proofs.merge.Given as goal

abbrev pub invariant-loop-i : goal.invariant-loop-i
invariant-loop-i l = Merging (merged l.a l.b) (tags_from 0 l.a) (tags_from most_points l.b) l.out l.i l.j l.k

abbrev pub decreases-loop-i : goal.decreases-loop-i
decreases-loop-i l = length l.a + length l.b - (l.i + l.j)
