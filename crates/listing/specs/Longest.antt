-- A reading with the longest listing.
use Rattle.std.specs.Prelude.{ℕ, zero, suc, ◌+◌, ◌-◌, ◌^◌, List, [], ◌∷◌, ◌++◌, true, false, negsuc}
use Rattle.record.specs.declared.Block.{Block}
use Rattle.record.specs.declared.Block.TheVariants.{Level1, Level2, Level5}
use Rattle.record.specs.Level.{level}
use Rattle.record.specs.Made.{record_of}
use Rattle.cause.specs.Cause.{nothing}
use Rattle.reader.specs.declared.Reading.{Reading}

-- n level 2 blocks, all numbers of four digits
unfoldable pub wide_trims : ℕ → List Block
wide_trims zero = []
wide_trims (suc n) = Level2 (1000 + n) 4095 4095 4095 4095 4095 (negsuc 4095) ∷ wide_trims n

-- any 32 bits may stand for the bits read
unfoldable pub longest : Reading
longest = record { result = 0; bits = 2 ^ 32 - 1; skipped = 0; offset = 0; in_wrapper = false; cause = nothing; «record» = record_of true (Level1 4095 4095 4095 ∷ (wide_trims (level 2).most ++ (Level5 8191 8191 8191 8191 ∷ []))) }
