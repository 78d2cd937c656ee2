-- The names of what a refusal is about: A/341's, tables E.1.1 to E.1.3, and 02, f's words end and wrapper.
use Rattle.std.specs.Prelude.{ℕ, List, [], ◌∷◌}
use Prim.Native.String.{String}
use Rattle.element.specs.declared.Element.{Element}
use Rattle.element.specs.declared.Element.TheVariants.{Nothing, AppIdentifier, AppVersion, MetadataRefreshFlag, NumExtBlocks, DmAlignmentZeroBit, ExtBlockLength, ExtBlockLevel, MinPq, MaxPq, AvgPq, TargetMaxPq, TrimSlope, TrimOffset, TrimPower, TrimChromaWeight, TrimSaturationGain, MsWeight, ActiveAreaLeftOffset, ActiveAreaRightOffset, ActiveAreaTopOffset, ActiveAreaBottomOffset, ExtDmAlignmentZeroBit, End, Wrapper}

abbrev pub name_of : Element → String
name_of Nothing = ""
name_of AppIdentifier = "app_identifier"
name_of AppVersion = "app_version"
name_of MetadataRefreshFlag = "metadata_refresh_flag"
name_of NumExtBlocks = "num_ext_blocks"
name_of DmAlignmentZeroBit = "dm_alignment_zero_bit"
name_of ExtBlockLength = "ext_block_length"
name_of ExtBlockLevel = "ext_block_level"
name_of MinPq = "min_PQ"
name_of MaxPq = "max_PQ"
name_of AvgPq = "avg_PQ"
name_of TargetMaxPq = "target_max_PQ"
name_of TrimSlope = "trim_slope"
name_of TrimOffset = "trim_offset"
name_of TrimPower = "trim_power"
name_of TrimChromaWeight = "trim_chroma_weight"
name_of TrimSaturationGain = "trim_saturation_gain"
name_of MsWeight = "ms_weight"
name_of ActiveAreaLeftOffset = "active_area_left_offset"
name_of ActiveAreaRightOffset = "active_area_right_offset"
name_of ActiveAreaTopOffset = "active_area_top_offset"
name_of ActiveAreaBottomOffset = "active_area_bottom_offset"
name_of ExtDmAlignmentZeroBit = "ext_dm_alignment_zero_bit"
name_of End = "end"
name_of Wrapper = "wrapper"

-- where each name begins, if all stand in a row with a blank behind each, and where the row ends: a row from which the names can be taken
-- (name/Laws: stands)
abbrev pub starts : List ℕ
starts = 0 ∷ 1 ∷ 16 ∷ 28 ∷ 50 ∷ 65 ∷ 87 ∷ 104 ∷ 120 ∷ 127 ∷ 134 ∷ 141 ∷ 155 ∷ 166 ∷ 178 ∷ 189 ∷ 208 ∷ 229 ∷ 239 ∷ 263 ∷ 288 ∷ 311 ∷ 337 ∷ 363 ∷ 367 ∷ 375 ∷ []
