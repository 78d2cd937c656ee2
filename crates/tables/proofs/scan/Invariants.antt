use Rattle.std.proofs.Common.{◌≡◌}
use Rattle.plan.specs.Limit.{most_points}
use Rattle.plan.specs.Scanning.{begun}
use Rattle.track.specs.Inner.{scanned_to}
use Rattle.tables.specs.Table.{table_in}
use Rattle.tables.proofs.scan.Given as goal

abbrev pub invariant-loop-i : goal.invariant-loop-i
invariant-loop-i l = l.seen ≡ scanned_to (begun most_points l.count) (table_in l.table) l.i
