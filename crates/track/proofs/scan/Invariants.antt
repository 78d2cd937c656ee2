use mathlib.Core.Path.{◌≡◌}
use lib.ListN.{length}
use Rattle.plan.specs.Scanning.{begun}
use Rattle.track.specs.Inner.{scanned_to}
use Rattle.track.proofs.scan.Given as goal

abbrev pub invariant-loop-i : goal.invariant-loop-i
invariant-loop-i l = l.seen ≡ scanned_to (begun (length l.table) l.count) l.table l.i
