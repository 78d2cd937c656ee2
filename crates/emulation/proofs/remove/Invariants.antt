use Rattle.std.proofs.Common.{◌≤◌, drop}
use Rattle.emulation.specs.Emulation.{removed, removed_behind}
use Rattle.emulation.proofs.Loops.{Filled}
use Rattle.emulation.proofs.remove.Given as goal

abbrev pub invariant-loop-b : goal.invariant-loop-b
invariant-loop-b l = record {
  few : l.zeros ≤ l.b-index;
  filled : Filled l.initial.out (removed l.s) l.out l.n (removed_behind l.zeros (drop l.b-index l.s));
}
