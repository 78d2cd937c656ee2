use Rattle.std.proofs.Common.{◌≡◌, ◌*◌}
use Rattle.std.proofs.Math.Seq.{paste}
use Rattle.tables.specs.Table.{point_length}
use Rattle.tables.proofs.Laws.{laid_out}
use Rattle.tables.proofs.fill_entries.Given as goal

abbrev pub invariant-loop-k : goal.invariant-loop-k
invariant-loop-k l = l.res ≡ paste l.initial.res 0 (laid_out l.first l.second l.layout.sources) (point_length * l.k)
