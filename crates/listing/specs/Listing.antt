-- The listing of a reading (01, Payloads and their outcome: what show prints).
use Rattle.std.specs.Prelude.{ℕ, Bool, cond, not, ◌||◌, List, [], ◌∷◌, ◌++◌, eqb, ℤ, pos}
use Prim.Native.String.{String}
use Rattle.tree.specs.Bits.{bit}
use Rattle.tree.specs.Syntax.{Field}
use Rattle.output.specs.declared.Written.{Written}
use Rattle.output.specs.Output.{written_as, buffer_as}
use Rattle.text.specs.Text.{Line, line, text}
use Rattle.record.specs.declared.Block.{Block}
use Rattle.record.specs.declared.Record.{Record}
use Rattle.record.specs.Name.{Name, app_identifier, app_version, metadata_refresh_flag, num_ext_blocks, dm_alignment_zero_bit, ext_block_length, ext_block_level, min_PQ, max_PQ, avg_PQ, target_max_PQ, trim_slope, trim_offset, trim_power, trim_chroma_weight, trim_saturation_gain, ms_weight, active_area_left_offset, active_area_right_offset, active_area_top_offset, active_area_bottom_offset, ext_dm_alignment_zero_bit, «end», «wrapper»}
use Rattle.record.specs.Level.{level, level_of, values_of}
use Rattle.record.specs.Blocks.{blocks}
use Rattle.valid.specs.Valid.{valid}
use Rattle.reader.specs.declared.Reading.{Reading}

-- the key of an element that has a line of its own; the others have none
abbrev pub key : Name → String
key app_identifier = ""
key app_version = ""
key metadata_refresh_flag = "refresh"
key num_ext_blocks = "blocks"
key dm_alignment_zero_bit = ""
key ext_block_length = ""
key ext_block_level = "level"
key min_PQ = "min"
key max_PQ = "max"
key avg_PQ = "avg"
key target_max_PQ = "target"
key trim_slope = "slope"
key trim_offset = "offset"
key trim_power = "power"
key trim_chroma_weight = "chroma"
key trim_saturation_gain = "saturation"
key ms_weight = "ms"
key active_area_left_offset = "left"
key active_area_right_offset = "right"
key active_area_top_offset = "top"
key active_area_bottom_offset = "bottom"
key ext_dm_alignment_zero_bit = ""
key «end» = ""
key «wrapper» = ""

-- the fields of a level, in syntax order, with their values
unfoldable pub field_lines : List (Field Name) → List ℤ → List Line
field_lines [] vs = []
field_lines (f ∷ fs) [] = []
field_lines (f ∷ fs) (v ∷ vs) = line (key f.name) v ∷ field_lines fs vs

abbrev pub block_lines : Block → List Line
block_lines b = line (key ext_block_level) (pos (level_of b)) ∷ field_lines (level (level_of b)).fields (values_of b)

unfoldable pub blocks_lines : List Block → List Line
blocks_lines [] = []
blocks_lines (b ∷ bs) = block_lines b ++ blocks_lines bs

-- result, flag, bits read, block count
abbrev pub head_lines : Bool → ℕ → ℕ → List Line
head_lines flag bits count =
    line "result" (pos 0) ∷ line (key metadata_refresh_flag) (pos (bit flag)) ∷ line "bits" (pos bits) ∷ line (key num_ext_blocks) (pos count) ∷ []

abbrev pub accepted_lines : Record → ℕ → List Line
accepted_lines r bits = head_lines r.refresh bits r.count ++ blocks_lines (blocks r)

-- a refusal is its result line only
abbrev pub refused_lines : ℕ → List Line
refused_lines result = line "result" (pos result) ∷ []

abbrev pub lines : Reading → List Line
lines q = cond (eqb q.result 0) (accepted_lines q.«record» q.bits) (refused_lines q.result)

unfoldable pub listing : Reading → List ℕ
listing q = text (lines q)

-- a refusal, or a record that is valid: every answer of the reader is one of these
abbrev pub listable : Reading → Bool
listable q = not (eqb q.result 0) || valid q.«record»

-- write_listing: the answer, and the buffer afterwards
abbrev pub write_listing : Reading → List ℕ → Written
write_listing q out = written_as (listing q) (listable q) out

abbrev pub listing_buffer : Reading → List ℕ → List ℕ
listing_buffer q out = buffer_as (listing q) (listable q) out
