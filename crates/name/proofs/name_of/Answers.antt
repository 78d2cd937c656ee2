-- `name::name_of` meets its contract, name by name.
use mathlib.Core.Path.{refl}
use Rattle.text.specs.Text.{ascii}
use Rattle.name.proofs.name_of.Goals as goal

pub returns-in-Nothing : goal.returns-in-Nothing
unfolding ascii
returns-in-Nothing c = rw c.in-Nothing.is refl

pub returns-in-AppIdentifier : goal.returns-in-AppIdentifier
unfolding ascii
returns-in-AppIdentifier c = rw c.in-AppIdentifier.is refl

pub returns-in-AppVersion : goal.returns-in-AppVersion
unfolding ascii
returns-in-AppVersion c = rw c.in-AppVersion.is refl

pub returns-in-MetadataRefreshFlag : goal.returns-in-MetadataRefreshFlag
unfolding ascii
returns-in-MetadataRefreshFlag c = rw c.in-MetadataRefreshFlag.is refl

pub returns-in-NumExtBlocks : goal.returns-in-NumExtBlocks
unfolding ascii
returns-in-NumExtBlocks c = rw c.in-NumExtBlocks.is refl

pub returns-in-DmAlignmentZeroBit : goal.returns-in-DmAlignmentZeroBit
unfolding ascii
returns-in-DmAlignmentZeroBit c = rw c.in-DmAlignmentZeroBit.is refl

pub returns-in-ExtBlockLength : goal.returns-in-ExtBlockLength
unfolding ascii
returns-in-ExtBlockLength c = rw c.in-ExtBlockLength.is refl

pub returns-in-ExtBlockLevel : goal.returns-in-ExtBlockLevel
unfolding ascii
returns-in-ExtBlockLevel c = rw c.in-ExtBlockLevel.is refl

pub returns-in-MinPq : goal.returns-in-MinPq
unfolding ascii
returns-in-MinPq c = rw c.in-MinPq.is refl

pub returns-in-MaxPq : goal.returns-in-MaxPq
unfolding ascii
returns-in-MaxPq c = rw c.in-MaxPq.is refl

pub returns-in-AvgPq : goal.returns-in-AvgPq
unfolding ascii
returns-in-AvgPq c = rw c.in-AvgPq.is refl

pub returns-in-TargetMaxPq : goal.returns-in-TargetMaxPq
unfolding ascii
returns-in-TargetMaxPq c = rw c.in-TargetMaxPq.is refl

pub returns-in-TrimSlope : goal.returns-in-TrimSlope
unfolding ascii
returns-in-TrimSlope c = rw c.in-TrimSlope.is refl

pub returns-in-TrimOffset : goal.returns-in-TrimOffset
unfolding ascii
returns-in-TrimOffset c = rw c.in-TrimOffset.is refl

pub returns-in-TrimPower : goal.returns-in-TrimPower
unfolding ascii
returns-in-TrimPower c = rw c.in-TrimPower.is refl

pub returns-in-TrimChromaWeight : goal.returns-in-TrimChromaWeight
unfolding ascii
returns-in-TrimChromaWeight c = rw c.in-TrimChromaWeight.is refl

pub returns-in-TrimSaturationGain : goal.returns-in-TrimSaturationGain
unfolding ascii
returns-in-TrimSaturationGain c = rw c.in-TrimSaturationGain.is refl

pub returns-in-MsWeight : goal.returns-in-MsWeight
unfolding ascii
returns-in-MsWeight c = rw c.in-MsWeight.is refl

pub returns-in-ActiveAreaLeftOffset : goal.returns-in-ActiveAreaLeftOffset
unfolding ascii
returns-in-ActiveAreaLeftOffset c = rw c.in-ActiveAreaLeftOffset.is refl

pub returns-in-ActiveAreaRightOffset : goal.returns-in-ActiveAreaRightOffset
unfolding ascii
returns-in-ActiveAreaRightOffset c = rw c.in-ActiveAreaRightOffset.is refl

pub returns-in-ActiveAreaTopOffset : goal.returns-in-ActiveAreaTopOffset
unfolding ascii
returns-in-ActiveAreaTopOffset c = rw c.in-ActiveAreaTopOffset.is refl

pub returns-in-ActiveAreaBottomOffset : goal.returns-in-ActiveAreaBottomOffset
unfolding ascii
returns-in-ActiveAreaBottomOffset c = rw c.in-ActiveAreaBottomOffset.is refl

pub returns-in-ExtDmAlignmentZeroBit : goal.returns-in-ExtDmAlignmentZeroBit
unfolding ascii
returns-in-ExtDmAlignmentZeroBit c = rw c.in-ExtDmAlignmentZeroBit.is refl

pub returns-in-End : goal.returns-in-End
unfolding ascii
returns-in-End c = rw c.in-End.is refl

pub returns-in-Wrapper : goal.returns-in-Wrapper
unfolding ascii
returns-in-Wrapper c = rw c.in-Wrapper.is refl
