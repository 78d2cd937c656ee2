-- The names stand in their row where `starts` says.
use Prim.Native.Nat.{ℕ, ◌+◌, ◌-◌, ◌≤◌}
use mathlib.Core.Path.{◌≡◌, refl}
use mathlib.Core.List.{List}
use mathlib.Core.Bool.{true}
use borrow.Author.Tests.{leb-true}
use lib.Dec.{leb}
use lib.ListN.{length, get_or, take, drop}
use Rattle.text.specs.Text.{ascii}
use Rattle.element.specs.declared.Element.{Element}
use Rattle.element.specs.declared.Element.TheVariants.{Nothing, AppIdentifier, AppVersion, MetadataRefreshFlag, NumExtBlocks, DmAlignmentZeroBit, ExtBlockLength, ExtBlockLevel, MinPq, MaxPq, AvgPq, TargetMaxPq, TrimSlope, TrimOffset, TrimPower, TrimChromaWeight, TrimSaturationGain, MsWeight, ActiveAreaLeftOffset, ActiveAreaRightOffset, ActiveAreaTopOffset, ActiveAreaBottomOffset, ExtDmAlignmentZeroBit, End, Wrapper}
use Rattle.element.specs.Element.{number_of}
use Rattle.name.specs.Name.{name_of, starts}

-- all names, with a blank behind each
abbrev pub row : List ℕ
row = ascii " app_identifier app_version metadata_refresh_flag num_ext_blocks dm_alignment_zero_bit ext_block_length ext_block_level min_PQ max_PQ avg_PQ target_max_PQ trim_slope trim_offset trim_power trim_chroma_weight trim_saturation_gain ms_weight active_area_left_offset active_area_right_offset active_area_top_offset active_area_bottom_offset ext_dm_alignment_zero_bit end wrapper "

abbrev from : Element → ℕ
from e = get_or starts (number_of e) 0

abbrev next : Element → ℕ
next e = get_or starts (number_of e + 1) 0

pub record Stands (e : Element) : Type 0 where
  pub few : number_of e ≤ 24
  pub begins : from e + 1 ≤ next e
  pub ends : next e ≤ length row
  pub is : take (next e - 1 - from e) (drop (from e) row) ≡ ascii (name_of e)

-- what is computed of it
stands_if : (e : Element) → leb (number_of e) 24 ≡ true → leb (from e + 1) (next e) ≡ true → leb (next e) (length row) ≡ true → take (next e - 1 - from e) (drop (from e) row) ≡ ascii (name_of e) → Stands e
stands_if e f b n i = record { few = leb-true (number_of e) 24 f; begins = leb-true (from e + 1) (next e) b; ends = leb-true (next e) (length row) n; is = i }

-- each of them
pub stands : (e : Element) → Stands e
unfolding ascii
stands Nothing = stands_if Nothing refl refl refl refl
stands AppIdentifier = stands_if AppIdentifier refl refl refl refl
stands AppVersion = stands_if AppVersion refl refl refl refl
stands MetadataRefreshFlag = stands_if MetadataRefreshFlag refl refl refl refl
stands NumExtBlocks = stands_if NumExtBlocks refl refl refl refl
stands DmAlignmentZeroBit = stands_if DmAlignmentZeroBit refl refl refl refl
stands ExtBlockLength = stands_if ExtBlockLength refl refl refl refl
stands ExtBlockLevel = stands_if ExtBlockLevel refl refl refl refl
stands MinPq = stands_if MinPq refl refl refl refl
stands MaxPq = stands_if MaxPq refl refl refl refl
stands AvgPq = stands_if AvgPq refl refl refl refl
stands TargetMaxPq = stands_if TargetMaxPq refl refl refl refl
stands TrimSlope = stands_if TrimSlope refl refl refl refl
stands TrimOffset = stands_if TrimOffset refl refl refl refl
stands TrimPower = stands_if TrimPower refl refl refl refl
stands TrimChromaWeight = stands_if TrimChromaWeight refl refl refl refl
stands TrimSaturationGain = stands_if TrimSaturationGain refl refl refl refl
stands MsWeight = stands_if MsWeight refl refl refl refl
stands ActiveAreaLeftOffset = stands_if ActiveAreaLeftOffset refl refl refl refl
stands ActiveAreaRightOffset = stands_if ActiveAreaRightOffset refl refl refl refl
stands ActiveAreaTopOffset = stands_if ActiveAreaTopOffset refl refl refl refl
stands ActiveAreaBottomOffset = stands_if ActiveAreaBottomOffset refl refl refl refl
stands ExtDmAlignmentZeroBit = stands_if ExtDmAlignmentZeroBit refl refl refl refl
stands End = stands_if End refl refl refl refl
stands Wrapper = stands_if Wrapper refl refl refl refl
