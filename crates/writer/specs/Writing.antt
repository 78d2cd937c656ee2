-- What writing a record answers, and what the buffer holds then.
use Rattle.std.specs.Prelude.{ℕ, List, [], ◌++◌, Bool, cond}
use Rattle.tree.specs.Bits.{bit, code}
use Rattle.tree.specs.Codes.{ue_code}
use Rattle.tree.specs.Meaning.{all_bits}
use Rattle.output.specs.declared.Written.{Written}
use Rattle.output.specs.Output.{written_as, buffer_as}
use Rattle.record.specs.declared.Place.{Place}
use Rattle.record.specs.declared.Record.{Record}
use Rattle.valid.specs.Valid.{valid}
use Rattle.syntax.specs.Element.{payload, block_elements}

-- write_data: the answer, and the buffer afterwards
abbrev pub write_bare : Record → List ℕ → Written
write_bare r out = written_as (payload r) (valid r) out

abbrev pub bare_buffer : Record → List ℕ → List ℕ
bare_buffer r out = buffer_as (payload r) (valid r) out

-- metadata_refresh_flag, and if it is 1, num_ext_blocks
abbrev pub flag_code : Bool → ℕ → List Bool
flag_code flag n = code 1 (bit flag) ++ cond flag (ue_code n) []

-- the bits of the block that a place holds
abbrev pub block_code : Place → List Bool
block_code p = all_bits (block_elements p.block)
