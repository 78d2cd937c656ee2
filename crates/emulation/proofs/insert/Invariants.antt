use Rattle.std.proofs.Common.{◌≤◌, drop}
use Rattle.emulation.specs.Emulation.{escaped, escaped_behind}
use Rattle.emulation.proofs.Loops.{Filled}
use Rattle.emulation.proofs.insert.Given as goal

abbrev pub invariant-loop-b : goal.invariant-loop-b
invariant-loop-b l = record {
  few : l.zeros ≤ l.b-index;
  filled : Filled l.initial.out (escaped l.s) l.out l.n (escaped_behind l.zeros (drop l.b-index l.s));
}
