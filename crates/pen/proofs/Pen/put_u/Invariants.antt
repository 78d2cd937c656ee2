use Prim.Native.Nat.{◌-◌, ◌/◌, ◌^◌}
use Rattle.tree.specs.Bits.{code}
use Rattle.pen.specs.Writing.{Wrote}
use Rattle.pen.proofs.Pen.put_u.Given as goal

abbrev pub invariant-loop-k : goal.invariant-loop-k
invariant-loop-k l = Wrote l.initial.out l.initial.pen (code l.k (l.v / 2 ^ (l.n - l.k))) l.out l.pen
