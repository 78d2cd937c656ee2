-- 01, Refusal numbers: which number each refusal of the code has, and which refusal a number is.
use Rattle.std.specs.Prelude.{ℕ, List, [], ◌∷◌, get_or}
use Rattle.refusals.specs.Refusals.{past_end, too_many_zeros, wrapper_differs, wrong_identifier, wrong_version, too_many_blocks, not_zero, wrong_length, not_in_order, repeated_target, bytes_remain, unfit_output, not_valid, too_many_points, not_a_track, second_level1, second_level5, seventeenth_level2, wrong_unit, start_code_inside, broken_messages, none_of_ours}
use Rattle.refusals.specs.declared.Refusal.{Refusal}
use Rattle.refusals.specs.declared.Refusal.TheVariants.{PastEnd, TooManyZeros, WrapperDiffers, WrongIdentifier, WrongVersion, TooManyBlocks, NotZero, WrongLength, NotInOrder, RepeatedTarget, BytesRemain, UnfitOutput, NotValid, TooManyPoints, NotATrack, SecondLevel1, SecondLevel5, SeventeenthLevel2, WrongUnit, StartCodeInside, BrokenMessages, NoneOfOurs}

abbrev pub number_of : Refusal → ℕ
number_of PastEnd = past_end
number_of TooManyZeros = too_many_zeros
number_of WrapperDiffers = wrapper_differs
number_of WrongIdentifier = wrong_identifier
number_of WrongVersion = wrong_version
number_of TooManyBlocks = too_many_blocks
number_of NotZero = not_zero
number_of WrongLength = wrong_length
number_of NotInOrder = not_in_order
number_of RepeatedTarget = repeated_target
number_of BytesRemain = bytes_remain
number_of UnfitOutput = unfit_output
number_of NotValid = not_valid
number_of TooManyPoints = too_many_points
number_of NotATrack = not_a_track
number_of SecondLevel1 = second_level1
number_of SecondLevel5 = second_level5
number_of SeventeenthLevel2 = seventeenth_level2
number_of WrongUnit = wrong_unit
number_of StartCodeInside = start_code_inside
number_of BrokenMessages = broken_messages
number_of NoneOfOurs = none_of_ours

-- by number; PastEnd stands where a number is none of these
abbrev pub by_number : List Refusal
by_number =
    PastEnd ∷ PastEnd ∷ TooManyZeros ∷ WrapperDiffers ∷ WrongIdentifier ∷ WrongVersion ∷ TooManyBlocks ∷ NotZero ∷ PastEnd
    ∷ WrongLength ∷ NotInOrder ∷ RepeatedTarget ∷ BytesRemain ∷ UnfitOutput ∷ NotValid ∷ TooManyPoints ∷ NotATrack ∷ SecondLevel1 ∷ SecondLevel5 ∷ SeventeenthLevel2
    ∷ PastEnd ∷ PastEnd ∷ PastEnd ∷ PastEnd ∷ PastEnd ∷ PastEnd ∷ PastEnd ∷ PastEnd ∷ PastEnd ∷ PastEnd
    ∷ WrongUnit ∷ StartCodeInside ∷ BrokenMessages ∷ NoneOfOurs
    ∷ []

abbrev pub refusal_of : ℕ → Refusal
refusal_of n = get_or by_number n PastEnd
