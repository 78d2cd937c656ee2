-- A record with the largest payload: one level 1 block, sixteen of level 2 and one of level 5. And data with the longest, reserved blocks only.
use Rattle.std.specs.Prelude.{ℕ, zero, suc, ◌*◌, List, [], ◌∷◌, ◌++◌, true, pos, negsuc, replicate}
use Rattle.record.specs.declared.Block.{Block}
use Rattle.record.specs.declared.Block.TheVariants.{Level1, Level2, Level5}
use Rattle.record.specs.declared.Record.{Record}
use Rattle.record.specs.Made.{record_of}
use Rattle.syntax.specs.Data.{most_announced, most_reserved, passed, Data}

-- n level 2 blocks with the targets below n
unfoldable pub trims : ℕ → List Block
trims zero = []
trims (suc n) = Level2 n 2048 2048 2048 2048 2048 (negsuc 0) ∷ trims n

unfoldable pub largest : Record
largest = record_of true (Level1 0 4095 2048 ∷ (trims 16 ++ (Level5 0 0 276 276 ∷ [])))

-- data with the longest payload: as many reserved blocks as may be announced, each as long as may be
unfoldable pub longest_data : Data
longest_data = record { refresh = true; items = replicate most_announced (passed 0 most_reserved (replicate (8 * most_reserved) (pos 0))) }
