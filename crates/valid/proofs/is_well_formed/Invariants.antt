use Rattle.std.proofs.Common.{◌≡◌, [], map, take, drop}
use Rattle.record.specs.Blocks.{block_in}
use Rattle.valid.specs.Valid.{well_formed}
use Rattle.valid.proofs.is_well_formed.Given as goal

abbrev pub invariant-loop-i : goal.invariant-loop-i
invariant-loop-i l = well_formed (map block_in (take l.i l.places)) (map block_in (drop l.i l.places)) ≡ well_formed [] (map block_in l.places)
