use Prim.Native.Nat.{◌+◌, ◌*◌}
use mathlib.Core.Path.{◌≡◌}
use lib.ListN.{take, drop}
use Rattle.tree.specs.Bits.{bits_of, value}
use Rattle.bits.proofs.read_code.Given as goal

abbrev pub invariant-loop-byte : goal.invariant-loop-byte
invariant-loop-byte l = l.v ≡ value (take (l.lead.width + 8 * l.byte-index) (drop l.at (bits_of l.s)))
