use Rattle.std.proofs.Common.{◌≡◌, not, ◌≤◌, map, take}
use Rattle.record.specs.Blocks.{block_in}
use Rattle.valid.specs.Valid.{many, new_target}
use Rattle.valid.proofs.follows.Given as goal

abbrev pub invariant-loop-place : goal.invariant-loop-place
invariant-loop-place l = record {
  few : l.seen ≤ l.place-index;
  seen : l.seen ≡ many l.l (map block_in (take l.place-index l.before));
  met : not l.met ≡ new_target (map block_in (take l.place-index l.before)) l.b;
}
