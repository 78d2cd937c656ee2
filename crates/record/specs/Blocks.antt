-- The blocks of a record: which places hold them, and what holds of one block by itself (01, The record; The data, bit by bit).
use Rattle.std.specs.Prelude.{ℕ, List, map, Bool, true, false, ◌&&◌, leb, take, drop, replicate}
use Rattle.tree.specs.Coding.{hold_all}
use Rattle.record.specs.declared.Block.{Block}
use Rattle.record.specs.declared.Block.TheVariants.{Nothing, Level1, Level2, Level5}
use Rattle.record.specs.declared.Place.{Place}
use Rattle.record.specs.declared.Record.{Record}
use Rattle.record.specs.Level.{codings, level_of, values_of}

-- ours: at most 18 blocks in a record
abbrev pub most_blocks : ℕ
most_blocks = 18

abbrev pub empty_place : Place
empty_place = record { block = Nothing }

-- a record with the flag and no block; the empty record has flag 0
abbrev pub no_blocks : Bool → Record
no_blocks flag = record { refresh = flag; count = 0; places = replicate most_blocks empty_place }

abbrev pub empty_record : Record
empty_record = no_blocks false

abbrev pub block_in : Place → Block
block_in p = p.block

abbrev pub all_blocks : Record → List Block
all_blocks r = map block_in r.places

-- the blocks of a record, in their order in the payload
abbrev pub blocks : Record → List Block
blocks r = take r.count (all_blocks r)

-- what lies in the places behind them
abbrev pub beyond : Record → List Block
beyond r = drop r.count (all_blocks r)

-- each field holds a number that its width holds
abbrev pub in_range : Block → Bool
in_range b = hold_all (codings (level_of b)) (values_of b)

-- ours: in level 1, min ≤ avg ≤ max, equality allowed
abbrev pub in_order : Block → Bool
in_order Nothing = true
in_order (Level1 min max avg) = leb min avg && leb avg max
in_order (Level2 t s o p c g m) = true
in_order (Level5 l r t b) = true
