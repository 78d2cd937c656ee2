-- The longest reason: none of numbers that their types hold is longer than `longest`, which has 110 bytes.
use Prim.Native.Nat.{ℕ, ◌+◌, ◌^◌, ◌<◌, ◌≤◌}
use Prim.Native.String.{String}
use mathlib.Core.Path.{◌≡◌, refl}
use mathlib.Core.List.{List, [], ◌++◌}
use mathlib.Core.Bool.{Bool, true, false, cond}
use native.Mathlib.Omega.{arith}
use borrow.Author.Tests.{leb-true}
use lib.Dec.{eqb, leb}
use lib.ListN.{length, length-append}
use Rattle.text.specs.Text.{ascii, size_within, digits, decimal}
use Rattle.text.proofs.Decimals.{few_digits, length-decimal}
use Rattle.element.specs.declared.Element.{Element}
use Rattle.element.specs.declared.Element.TheVariants.{Nothing, AppIdentifier, AppVersion, MetadataRefreshFlag, NumExtBlocks, DmAlignmentZeroBit, ExtBlockLength, ExtBlockLevel, MinPq, MaxPq, AvgPq, TargetMaxPq, TrimSlope, TrimOffset, TrimPower, TrimChromaWeight, TrimSaturationGain, MsWeight, ActiveAreaLeftOffset, ActiveAreaRightOffset, ActiveAreaTopOffset, ActiveAreaBottomOffset, ExtDmAlignmentZeroBit, End, Wrapper}
use Rattle.element.specs.Element.{number_of}
use Rattle.name.specs.Name.{name_of}
use Rattle.cause.specs.declared.Kind.{Kind}
use Rattle.cause.specs.declared.Kind.TheVariants.{Untold, Range, Other}
use Rattle.cause.specs.declared.Cause.{Cause}
use Rattle.reason.specs.Reason.{keyed, range_text, valued, placed, reason, longest}

pub longest_bytes : length longest ≡ 110
unfolding longest reason ascii size_within digits
longest_bytes = refl

keyed-length : (key : String) (word : List ℕ) → length (keyed key word) ≡ length (ascii key) + (length word + 1)
unfolding ascii
keyed-length key word = omega (arith, length-append (ascii key) (word ++ ascii "\n"), length-append word (ascii "\n"))

-- no name has more than 25 bytes
short_name : (e : Element) → length (ascii (name_of e)) ≤ 25
unfolding ascii
short_name e = leb-true (length (ascii (name_of e))) 25 (go e)
  where
    go : (e : Element) → leb (length (ascii (name_of e))) 25 ≡ true
    go Nothing = refl
    go AppIdentifier = refl
    go AppVersion = refl
    go MetadataRefreshFlag = refl
    go NumExtBlocks = refl
    go DmAlignmentZeroBit = refl
    go ExtBlockLength = refl
    go ExtBlockLevel = refl
    go MinPq = refl
    go MaxPq = refl
    go AvgPq = refl
    go TargetMaxPq = refl
    go TrimSlope = refl
    go TrimOffset = refl
    go TrimPower = refl
    go TrimChromaWeight = refl
    go TrimSaturationGain = refl
    go MsWeight = refl
    go ActiveAreaLeftOffset = refl
    go ActiveAreaRightOffset = refl
    go ActiveAreaTopOffset = refl
    go ActiveAreaBottomOffset = refl
    go ExtDmAlignmentZeroBit = refl
    go End = refl
    go Wrapper = refl

short_range : (low high : ℕ) → low < 2 ^ 16 → high < 2 ^ 16 → length (range_text low high) ≤ 11
unfolding ascii
short_range low high l h = go (leb low high)
  where
    go : (b : Bool) → length (cond b (decimal low ++ (ascii "-" ++ decimal high)) (ascii "none")) ≤ 11
    go true =
        omega (
          arith,
          length-append (decimal low) (ascii "-" ++ decimal high),
          length-append (ascii "-") (decimal high),
          length-decimal low,
          length-decimal high,
          few_digits 4 low (omega arith),
          few_digits 4 high (omega arith),
        )
    go false = omega arith

short_value : (k : Kind) (v low high : ℕ) → v < 2 ^ 64 → low < 2 ^ 16 → high < 2 ^ 16 → length (valued k v low high) ≤ 47
unfolding ascii
short_value Untold v low high x l h = omega arith
short_value Range v low high x l h =
    omega (
      arith,
      length-append (keyed "value=" (decimal v)) (keyed "allowed=" (range_text low high)),
      keyed-length "value=" (decimal v),
      keyed-length "allowed=" (range_text low high),
      length-decimal v,
      few_digits 19 v (omega arith),
      short_range low high l h,
    )
short_value Other v low high x l h =
    omega (
      arith,
      length-append (keyed "value=" (decimal v)) (keyed "allowed=" (ascii "other")),
      keyed-length "value=" (decimal v),
      keyed-length "allowed=" (ascii "other"),
      length-decimal v,
      few_digits 19 v (omega arith),
    )

short_place : (at : ℕ) (c : Cause) → at < 2 ^ 32 → c.value < 2 ^ 64 → c.lowest < 2 ^ 16 → c.highest < 2 ^ 16 → length (placed at c) ≤ 99
unfolding ascii
short_place at c a x l h =
    let name = keyed "element=" (ascii (name_of c.element)) in
    let value = valued c.kind c.value c.lowest c.highest in
    omega (
      arith,
      length-append (keyed "offset=" (decimal at)) (name ++ value),
      length-append name value,
      keyed-length "offset=" (decimal at),
      keyed-length "element=" (ascii (name_of c.element)),
      length-decimal at,
      few_digits 9 at (omega arith),
      short_name c.element,
      short_value c.kind c.value c.lowest c.highest x l h,
    )

pub no_reason_is_longer : (result at : ℕ) (c : Cause) → result < 2 ^ 8 → at < 2 ^ 32 → c.value < 2 ^ 64 → c.lowest < 2 ^ 16 → c.highest < 2 ^ 16 → length (reason result at c) ≤ length longest
unfolding reason ascii
no_reason_is_longer result at c r a x l h = go (eqb (number_of c.element) 0)
  where
    go : (b : Bool) → length (keyed "result=" (decimal result) ++ cond b [] (placed at c)) ≤ length longest
    go true = omega (arith, longest_bytes, length-append (keyed "result=" (decimal result)) [], keyed-length "result=" (decimal result), length-decimal result, few_digits 2 result (omega arith))
    go false = omega (arith, longest_bytes, length-append (keyed "result=" (decimal result)) (placed at c), keyed-length "result=" (decimal result), length-decimal result, few_digits 2 result (omega arith), short_place at c a x l h)
