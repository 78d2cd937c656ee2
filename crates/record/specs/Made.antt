-- A record made of a flag and blocks.
use Rattle.std.specs.Prelude.{◌-◌, ◌+◌, List, ◌++◌, map, Bool, length, replicate}
use Rattle.record.specs.declared.Block.{Block}
use Rattle.record.specs.declared.Place.{Place}
use Rattle.record.specs.declared.Record.{Record}
use Rattle.record.specs.Blocks.{most_blocks, empty_place}

abbrev pub place_with : Block → Place
place_with b = record { block = b }

-- the blocks in the first places, in their order, and nothing in the others
abbrev pub record_of : Bool → List Block → Record
record_of flag bs = record { refresh = flag; count = length bs; places = map place_with bs ++ replicate (most_blocks - length bs) empty_place }
