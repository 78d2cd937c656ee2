-- The numbers for C of what a refusal is about.
use Rattle.std.specs.Prelude.{ℕ}
use Rattle.element.specs.declared.Element.{Element}
use Rattle.element.specs.declared.Element.TheVariants.{Nothing, AppIdentifier, AppVersion, MetadataRefreshFlag, NumExtBlocks, DmAlignmentZeroBit, ExtBlockLength, ExtBlockLevel, MinPq, MaxPq, AvgPq, TargetMaxPq, TrimSlope, TrimOffset, TrimPower, TrimChromaWeight, TrimSaturationGain, MsWeight, ActiveAreaLeftOffset, ActiveAreaRightOffset, ActiveAreaTopOffset, ActiveAreaBottomOffset, ExtDmAlignmentZeroBit, End, Wrapper}

-- 0 for nothing, then in the order of the tables
abbrev pub number_of : Element → ℕ
number_of Nothing = 0
number_of AppIdentifier = 1
number_of AppVersion = 2
number_of MetadataRefreshFlag = 3
number_of NumExtBlocks = 4
number_of DmAlignmentZeroBit = 5
number_of ExtBlockLength = 6
number_of ExtBlockLevel = 7
number_of MinPq = 8
number_of MaxPq = 9
number_of AvgPq = 10
number_of TargetMaxPq = 11
number_of TrimSlope = 12
number_of TrimOffset = 13
number_of TrimPower = 14
number_of TrimChromaWeight = 15
number_of TrimSaturationGain = 16
number_of MsWeight = 17
number_of ActiveAreaLeftOffset = 18
number_of ActiveAreaRightOffset = 19
number_of ActiveAreaTopOffset = 20
number_of ActiveAreaBottomOffset = 21
number_of ExtDmAlignmentZeroBit = 22
number_of End = 23
number_of Wrapper = 24
