use Rattle.std.proofs.Common.{◌≡◌, ◌++◌, take, drop}
use Rattle.flat.proofs.eight_at.Given as goal

abbrev pub invariant-loop-k : goal.invariant-loop-k
invariant-loop-k l = l.eight ≡ take l.k (drop l.at l.row) ++ drop l.k l.initial.eight
