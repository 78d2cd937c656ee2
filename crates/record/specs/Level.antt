-- What a level is, as data: its length, its fields, how many blocks of it a record may hold, and the refusal of one more. And a block's
-- level and values.
use Rattle.std.specs.Prelude.{ℕ, ◌-◌, ◌*◌, List, [], ◌∷◌, map, Bool, cond, ◌||◌, eqb, ℤ, pos}
use Rattle.refusals.specs.Refusals.{second_level1, second_level5, seventeenth_level2}
use Rattle.tree.specs.Coding.{Coding, unsigned, signed, total_width}
use Rattle.tree.specs.Syntax.{Field, coding_of}
use Rattle.record.specs.declared.Block.{Block}
use Rattle.record.specs.declared.Block.TheVariants.{Nothing, Level1, Level2, Level5}
use Rattle.record.specs.Name.{Name, min_PQ, max_PQ, avg_PQ, target_max_PQ, trim_slope, trim_offset, trim_power, trim_chroma_weight, trim_saturation_gain, ms_weight, active_area_left_offset, active_area_right_offset, active_area_top_offset, active_area_bottom_offset}

abbrev u12 : Name → Field Name
u12 n = record { name = n; coding = unsigned 12 }

abbrev u13 : Name → Field Name
u13 n = record { name = n; coding = unsigned 13 }

abbrev i13 : Name → Field Name
i13 n = record { name = n; coding = signed 13 }

-- `bytes` is the level's ext_block_length
pub record Level : Type 0 where
  pub bytes : ℕ
  pub fields : List (Field Name)
  pub most : ℕ
  pub surplus : ℕ

-- 01, The data, bit by bit: the table of levels, and "at most one of level 1, one of level 5, sixteen of level 2"; 02, e: which
-- number one more of each gets
abbrev pub level1 : Level
level1 = record { bytes = 5; fields = u12 min_PQ ∷ u12 max_PQ ∷ u12 avg_PQ ∷ []; most = 1; surplus = second_level1 }

abbrev pub level2 : Level
level2 = record {
  bytes = 11;
  fields = u12 target_max_PQ ∷ u12 trim_slope ∷ u12 trim_offset ∷ u12 trim_power ∷ u12 trim_chroma_weight ∷ u12 trim_saturation_gain ∷ i13 ms_weight ∷ [];
  most = 16;
  surplus = seventeenth_level2;
}

abbrev pub level5 : Level
level5 = record { bytes = 7; fields = u13 active_area_left_offset ∷ u13 active_area_right_offset ∷ u13 active_area_top_offset ∷ u13 active_area_bottom_offset ∷ []; most = 1; surplus = second_level5 }

-- a level that A/341 reserves (table E.1.4): no block of it is known, and none is one too many
abbrev pub reserved : Level
reserved = record { bytes = 0; fields = []; most = 0; surplus = 0 }

abbrev pub level : ℕ → Level
level l = cond (eqb l 1) level1 (cond (eqb l 2) level2 (cond (eqb l 5) level5 reserved))

abbrev pub known : ℕ → Bool
known l = eqb l 1 || eqb l 2 || eqb l 5

abbrev pub fields_of : ℕ → List (Field Name)
fields_of l = (level l).fields

abbrev pub codings : ℕ → List Coding
codings l = map coding_of (level l).fields

-- zero bits until 8 × length bits have passed since the level
abbrev pub padding : ℕ → ℕ
padding l = 8 * (level l).bytes - total_width (codings l)

-- a block's level, 0 for nothing
abbrev pub level_of : Block → ℕ
level_of Nothing = 0
level_of (Level1 min max avg) = 1
level_of (Level2 t s o p c g m) = 2
level_of (Level5 l r t b) = 5

-- a block's values, in the order of its level's fields
abbrev pub values_of : Block → List ℤ
values_of Nothing = []
values_of (Level1 min max avg) = pos min ∷ pos max ∷ pos avg ∷ []
values_of (Level2 t s o p c g m) = pos t ∷ pos s ∷ pos o ∷ pos p ∷ pos c ∷ pos g ∷ m ∷ []
values_of (Level5 l r t b) = pos l ∷ pos r ∷ pos t ∷ pos b ∷ []
