-- The names of the syntax elements of A/341, tables E.1.1 to E.1.3, in their order there; then of what a refusal can be about that is none of them: the end of the data, and the wrapper.
use Rattle.std.specs.Prelude.{Bool, true, false}
use Rattle.element.specs.declared.Element.{Element}
use Rattle.element.specs.declared.Element.TheVariants.{AppIdentifier, AppVersion, MetadataRefreshFlag, NumExtBlocks, DmAlignmentZeroBit, ExtBlockLength, ExtBlockLevel, MinPq, MaxPq, AvgPq, TargetMaxPq, TrimSlope, TrimOffset, TrimPower, TrimChromaWeight, TrimSaturationGain, MsWeight, ActiveAreaLeftOffset, ActiveAreaRightOffset, ActiveAreaTopOffset, ActiveAreaBottomOffset, ExtDmAlignmentZeroBit, End, Wrapper}

pub data Name : Type 0 where
  app_identifier : Name
  app_version : Name
  metadata_refresh_flag : Name
  num_ext_blocks : Name
  dm_alignment_zero_bit : Name
  ext_block_length : Name
  ext_block_level : Name
  min_PQ : Name
  max_PQ : Name
  avg_PQ : Name
  target_max_PQ : Name
  trim_slope : Name
  trim_offset : Name
  trim_power : Name
  trim_chroma_weight : Name
  trim_saturation_gain : Name
  ms_weight : Name
  active_area_left_offset : Name
  active_area_right_offset : Name
  active_area_top_offset : Name
  active_area_bottom_offset : Name
  ext_dm_alignment_zero_bit : Name
  «end» : Name
  «wrapper» : Name

-- what a refusal is about is a byte of the wrapper
abbrev pub is_wrapper : Name → Bool
is_wrapper app_identifier = false
is_wrapper app_version = false
is_wrapper metadata_refresh_flag = false
is_wrapper num_ext_blocks = false
is_wrapper dm_alignment_zero_bit = false
is_wrapper ext_block_length = false
is_wrapper ext_block_level = false
is_wrapper min_PQ = false
is_wrapper max_PQ = false
is_wrapper avg_PQ = false
is_wrapper target_max_PQ = false
is_wrapper trim_slope = false
is_wrapper trim_offset = false
is_wrapper trim_power = false
is_wrapper trim_chroma_weight = false
is_wrapper trim_saturation_gain = false
is_wrapper ms_weight = false
is_wrapper active_area_left_offset = false
is_wrapper active_area_right_offset = false
is_wrapper active_area_top_offset = false
is_wrapper active_area_bottom_offset = false
is_wrapper ext_dm_alignment_zero_bit = false
is_wrapper «end» = false
is_wrapper «wrapper» = true

-- by which the code tells it
abbrev pub element_of : Name → Element
element_of app_identifier = AppIdentifier
element_of app_version = AppVersion
element_of metadata_refresh_flag = MetadataRefreshFlag
element_of num_ext_blocks = NumExtBlocks
element_of dm_alignment_zero_bit = DmAlignmentZeroBit
element_of ext_block_length = ExtBlockLength
element_of ext_block_level = ExtBlockLevel
element_of min_PQ = MinPq
element_of max_PQ = MaxPq
element_of avg_PQ = AvgPq
element_of target_max_PQ = TargetMaxPq
element_of trim_slope = TrimSlope
element_of trim_offset = TrimOffset
element_of trim_power = TrimPower
element_of trim_chroma_weight = TrimChromaWeight
element_of trim_saturation_gain = TrimSaturationGain
element_of ms_weight = MsWeight
element_of active_area_left_offset = ActiveAreaLeftOffset
element_of active_area_right_offset = ActiveAreaRightOffset
element_of active_area_top_offset = ActiveAreaTopOffset
element_of active_area_bottom_offset = ActiveAreaBottomOffset
element_of ext_dm_alignment_zero_bit = ExtDmAlignmentZeroBit
element_of «end» = End
element_of «wrapper» = Wrapper
