use lib.ListN.{take}
use Rattle.std.specs.List.{flat_map}
use Rattle.pen.specs.Writing.{Wrote}
use Rattle.writer.specs.Writing.{block_code}
use Rattle.writer.proofs.put_blocks.Given as goal

abbrev pub invariant-loop-place : goal.invariant-loop-place
invariant-loop-place l = Wrote l.initial.out l.initial.p (flat_map block_code (take l.place-index l.places)) l.out l.p
