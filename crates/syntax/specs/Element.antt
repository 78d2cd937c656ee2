-- The syntax elements of a payload: tables E.1.1 to E.1.3 of A/341, applied to a record, and to data that holds reserved blocks too.
use Rattle.std.specs.Prelude.{ℕ, ◌*◌, ◌≤◌, ◌≡◌, List, [], ◌∷◌, ◌++◌, map, Bool, true, false, cond, not, ◌&&◌, eqb, leb, ltb, length, replicate, pos}
use Rattle.tree.specs.Bits.{bit, pack}
use Rattle.tree.specs.Coding.{unsigned, variable, fixed, hold_all}
use Rattle.tree.specs.Meaning.{Element, element, zero_bit, field_elements, sum_of_widths, all_bits}
use Rattle.tree.specs.Parts.{padded_to_byte}
use Rattle.record.specs.declared.Block.{Block}
use Rattle.record.specs.declared.Record.{Record}
use Rattle.record.specs.Name.{Name, app_identifier, app_version, metadata_refresh_flag, num_ext_blocks, dm_alignment_zero_bit, ext_block_length, ext_block_level, ext_dm_alignment_zero_bit}
use Rattle.record.specs.Level.{level, known, level_of, values_of, padding, fields_of}
use Rattle.record.specs.Blocks.{blocks}
use Rattle.valid.specs.Valid.{valid_block, may_follow}
use Rattle.syntax.specs.Data.{most_announced, most_reserved, Item, kept, passed, kept_in, reserved_bits, Data}

-- an element coded ue(v), and one coded u(w)
abbrev pub variable_element : Name → ℕ → Element Name
variable_element n v = element n variable (pos v)

abbrev pub fixed_element : ℕ → Name → ℕ → Element Name
fixed_element w n v = element n (fixed (unsigned w)) (pos v)

-- while( !byte_aligned() ) dm_alignment_zero_bit
abbrev pub to_byte : List (Element Name) → List (Element Name)
to_byte es = padded_to_byte dm_alignment_zero_bit es

-- tables E.1.2 and E.1.3: the length, the level, the fields, and zero bits until 8 × length bits have passed since the level
abbrev pub block_elements : Block → List (Element Name)
block_elements b =
    variable_element ext_block_length (level (level_of b)).bytes ∷ fixed_element 8 ext_block_level (level_of b)
    ∷ (field_elements (fields_of (level_of b)) (values_of b) ++ replicate (padding (level_of b)) (zero_bit ext_dm_alignment_zero_bit))

unfoldable pub blocks_elements : List Block → List (Element Name)
blocks_elements [] = []
blocks_elements (b ∷ bs) = block_elements b ++ blocks_elements bs

-- table E.1.1, as far as num_ext_blocks, for a flag and a number of blocks
abbrev pub head_elements : Bool → ℕ → List (Element Name)
head_elements flag n =
    variable_element app_identifier 1 ∷ variable_element app_version 0 ∷ fixed_element 1 metadata_refresh_flag (bit flag)
    ∷ cond flag (variable_element num_ext_blocks n ∷ []) []

-- if( num_ext_blocks ): zero bits to the next byte boundary
abbrev pub open_elements : Bool → ℕ → List (Element Name)
open_elements flag n = cond (eqb n 0) (head_elements flag n) (to_byte (head_elements flag n))

-- table E.1.1
unfoldable pub elements : Record → List (Element Name)
elements r = to_byte (open_elements r.refresh r.count ++ blocks_elements (blocks r))

-- the one payload of a record
abbrev pub payload : Record → List ℕ
payload r = pack (all_bits (elements r))

-- the bits read of it: the sum of the widths of all elements and zero bits
abbrev pub bits_of_data : Record → ℕ
bits_of_data r = sum_of_widths (elements r)

-- ---- data that holds reserved blocks too

-- of a reserved block each bit behind the level is an element of its own
abbrev pub item_elements : Item → List (Element Name)
item_elements (kept b) = block_elements b
item_elements (passed l n zs) = variable_element ext_block_length n ∷ fixed_element 8 ext_block_level l ∷ field_elements (reserved_bits n) zs

unfoldable pub items_elements : List Item → List (Element Name)
items_elements [] = []
items_elements (i ∷ is) = item_elements i ++ items_elements is

-- table E.1.1
unfoldable pub data_elements : Data → List (Element Name)
data_elements d = to_byte (open_elements d.refresh (length d.items) ++ items_elements d.items)

-- the one payload of data, and the bits read: the sum of the widths of all elements and zero bits, those of reserved blocks with them
abbrev pub data_payload : Data → List ℕ
data_payload d = pack (all_bits (data_elements d))

abbrev pub data_width : Data → ℕ
data_width d = sum_of_widths (data_elements d)

-- a known block that meets the clauses for one block; a reserved one has a level that is none of the known, and no more than 1,023 bytes, of any bits
abbrev pub item_fits : Item → Bool
item_fits (kept b) = valid_block b
item_fits (passed l n zs) = not (known l) && ltb l 256 && leb n most_reserved && hold_all (replicate (8 * n) (unsigned 1)) zs

-- a known block that may stand behind the known ones before it; a reserved one may stand anywhere
abbrev pub item_follows : List Block → Item → Bool
item_follows before (kept b) = may_follow before b
item_follows before (passed l n zs) = true

-- blocks behind known ones, of which each fits and may follow
unfoldable pub all_fit : List Block → List Item → Bool
all_fit before [] = true
all_fit before (i ∷ is) = item_fits i && item_follows before i && all_fit (before ++ kept_in (i ∷ [])) is

-- the clauses of well-formed data: never more than 254 blocks, with the flag 0 none, and each fits
pub record WellFormedData (d : Data) : Type 0 where
  pub few : length d.items ≤ most_announced
  pub flag : d.refresh ≡ false → length d.items ≡ 0
  pub fit : all_fit [] d.items ≡ true

-- a record as data: its blocks, and nothing passed over
abbrev pub data_of : Record → Data
data_of r = record { refresh = r.refresh; items = map kept (blocks r) }
