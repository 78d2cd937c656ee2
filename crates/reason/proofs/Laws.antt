-- The texts of the parts, and the test for an element.
use Prim.Native.Nat.{ℕ, ◌≤◌}
use denote.Enum.Bare.{sameb}
use mathlib.Core.Path.{◌≡◌, refl, sym, ap, ◌∙◌}
use mathlib.Core.List.{◌++◌}
use mathlib.Core.Bool.{Bool, true, false, not}
use borrow.Author.Tests.{le-leb}
use lib.Dec.{eqb}
use Rattle.text.specs.Text.{ascii, decimal}
use Rattle.element.specs.declared.Element.{Element}
use Rattle.element.specs.declared.Element.TheVariants.{Nothing, AppIdentifier, AppVersion, MetadataRefreshFlag, NumExtBlocks, DmAlignmentZeroBit, ExtBlockLength, ExtBlockLevel, MinPq, MaxPq, AvgPq, TargetMaxPq, TrimSlope, TrimOffset, TrimPower, TrimChromaWeight, TrimSaturationGain, MsWeight, ActiveAreaLeftOffset, ActiveAreaRightOffset, ActiveAreaTopOffset, ActiveAreaBottomOffset, ExtDmAlignmentZeroBit, End, Wrapper}
use Rattle.element.specs.contracts.Element.{the_type}
use Rattle.element.specs.Element.{number_of}
use Rattle.cause.specs.declared.Cause.{Cause}
use Rattle.reason.specs.Reason.{keyed, range_text, placed, reason}

pub some_range : (low high : ℕ) → low ≤ high → range_text low high ≡ decimal low ++ (ascii "-" ++ decimal high)
some_range low high h = rw (le-leb low high h)

-- an element is none exactly where its number is 0
none_is_0 : (e : Element) → sameb the_type e Nothing ≡ eqb (number_of e) 0
none_is_0 = elim [ Nothing ↦ refl | AppIdentifier ↦ refl | AppVersion ↦ refl | MetadataRefreshFlag ↦ refl | NumExtBlocks ↦ refl | DmAlignmentZeroBit ↦ refl | ExtBlockLength ↦ refl | ExtBlockLevel ↦ refl | MinPq ↦ refl | MaxPq ↦ refl | AvgPq ↦ refl | TargetMaxPq ↦ refl | TrimSlope ↦ refl | TrimOffset ↦ refl | TrimPower ↦ refl | TrimChromaWeight ↦ refl | TrimSaturationGain ↦ refl | MsWeight ↦ refl | ActiveAreaLeftOffset ↦ refl | ActiveAreaRightOffset ↦ refl | ActiveAreaTopOffset ↦ refl | ActiveAreaBottomOffset ↦ refl | ExtDmAlignmentZeroBit ↦ refl | End ↦ refl | Wrapper ↦ refl ]

-- what the test for an element says where there is one
pub some : (e : Element) {other : Bool} → other ≡ not (sameb the_type e Nothing) → other ≡ true → eqb (number_of e) 0 ≡ false
some e p h = go (eqb (number_of e) 0) (sym (p ∙ ap not (none_is_0 e)) ∙ h)
  where
    go : (t : Bool) → not t ≡ true → t ≡ false
    go true h = sym h
    go false h = refl

pub result_then : (result at : ℕ) (c : Cause) → eqb (number_of c.element) 0 ≡ false → reason result at c ≡ keyed "result=" (decimal result) ++ placed at c
unfolding reason
result_then result at c h = rw h refl
