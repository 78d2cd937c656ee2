-- A refusal and its number name each other.
use Rattle.std.proofs.Common.{◌≡◌, ℕ, refl}
use Rattle.refusals.specs.Numbered.{number_of, refusal_of}
use Rattle.refusals.specs.declared.Refusal.{Refusal}
use Rattle.refusals.specs.declared.Refusal.TheVariants.{PastEnd, TooManyZeros, WrapperDiffers, WrongIdentifier, WrongVersion, TooManyBlocks, NotZero, WrongLength, NotInOrder, RepeatedTarget, BytesRemain, UnfitOutput, NotValid, TooManyPoints, NotATrack, SecondLevel1, SecondLevel5, SeventeenthLevel2, WrongUnit, StartCodeInside, BrokenMessages, NoneOfOurs}

pub each_has_its_own_number : (r : Refusal) → refusal_of (number_of r) ≡ r
each_has_its_own_number = elim [ PastEnd ↦ refl | TooManyZeros ↦ refl | WrapperDiffers ↦ refl | WrongIdentifier ↦ refl | WrongVersion ↦ refl | TooManyBlocks ↦ refl | NotZero ↦ refl | WrongLength ↦ refl | NotInOrder ↦ refl | RepeatedTarget ↦ refl | BytesRemain ↦ refl | UnfitOutput ↦ refl | NotValid ↦ refl | TooManyPoints ↦ refl | NotATrack ↦ refl | SecondLevel1 ↦ refl | SecondLevel5 ↦ refl | SeventeenthLevel2 ↦ refl | WrongUnit ↦ refl | StartCodeInside ↦ refl | BrokenMessages ↦ refl | NoneOfOurs ↦ refl ]
