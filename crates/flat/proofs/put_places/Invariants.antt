use Rattle.std.proofs.Common.{◌≡◌, ◌+◌, ◌*◌}
use Rattle.std.proofs.Math.Seq.{paste}
use Rattle.flat.specs.Flat.{flat_places}
use Rattle.flat.proofs.put_places.Given as goal

abbrev pub invariant-loop-i : goal.invariant-loop-i
invariant-loop-i l = l.row ≡ paste l.initial.row (l.at + 2) (flat_places l.place-items) (8 * l.i)
