use Rattle.std.proofs.Common.{◌≡◌, ◌+◌, ◌*◌, ◌≤◌, length, drop}
use Rattle.emulation.specs.Emulation.{escaped, escaped_behind}
use Rattle.emulation.proofs.escaped_length.Given as goal

abbrev pub invariant-loop-b : goal.invariant-loop-b
invariant-loop-b l = record {
  few : l.zeros ≤ l.b-index;
  short : l.n ≤ 2 * l.b-index;
  counted : l.n + length (escaped_behind l.zeros (drop l.b-index l.s)) ≡ length (escaped l.s);
}
