use Prim.Native.Nat.{◌+◌, ◌-◌, ◌*◌, ◌<◌, ◌≤◌}
use mathlib.Core.Path.{◌≡◌}
use lib.ListN.{length, take, drop}
use Rattle.tree.specs.Bits.{bits_of, value}
use Rattle.bits.proofs.read_lead.Given as goal

abbrev pub invariant-loop-v : goal.invariant-loop-v
invariant-loop-v l = (l.v ≡ value (take l.have (drop l.at (bits_of l.s)))) × (l.at + l.have ≡ 8 * (l.i + 1)) × (l.i < length l.s) × (l.have ≤ l.most + 8)

abbrev pub decreases-loop-v : goal.decreases-loop-v
decreases-loop-v l = l.most + 8 - l.have
