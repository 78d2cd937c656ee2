-- 02, e and f: what is wrong with an input, where and why, in the words of the elements that stand in it.
use Rattle.std.specs.Prelude.{ℕ, ◌/◌, ◌<◌, ◌≤◌, ◌≡◌, List, [], ◌∷◌, ◌++◌, Bool, true, false, cond, length, get_or, take}
use Rattle.tree.specs.Bits.{bits_of}
use Rattle.tree.specs.Reading.{Rule}
use Rattle.tree.specs.Coding.{Descriptor, natural}
use Rattle.tree.specs.Meaning.{Element, sum_of_widths, all_bits, awaits, broken, Follow, CutOff, TooMany}
use Rattle.element.specs.declared.Element.TheVariants.{End, Wrapper}
use Rattle.record.specs.Name.{Name, element_of, ext_block_length}
use Rattle.valid.specs.Valid.{among}
use Rattle.syntax.specs.Data.{Data, ST2094-10_data}
use Rattle.syntax.specs.Element.{data_elements, data_width, WellFormedData}
use Rattle.syntax.specs.Wrapper.{wrapper_bytes}
use Rattle.syntax.specs.Reason.{About}
use Rattle.cause.specs.declared.Cause.{Cause}
use Rattle.cause.specs.Cause.{nothing, untold, range, cause_by}
use Rattle.rbsp.specs.Message.{Message}
use Rattle.sei.specs.Units.{Thirty, ThirtyOne, ThirtyTwo, ThirtyThree, HoldsOurs}

-- Data of the bits s gets the number, and the offset is the sum of the widths of the elements es: they are the first bits of s, follow A/341's
-- tables, and meet every rule that stands before the one named. The cause is of the element that fails, with the value that it has there and
-- those that its rule allows there (the rules are in the table of reasons, syntax/specs/Reason)
pub data Fails (s : List Bool) : (number offset : ℕ) → Cause → Type 0 where
  -- 1: the element that comes next is not whole when the input ends
  cut_off_next : (es : List (Element Name)) (name : Name) (d : Descriptor) (t : List Bool) → Follow ST2094-10_data 0 es (awaits name d) → s ≡ all_bits es ++ t → CutOff d t → Fails s 1 (sum_of_widths es) (untold (element_of name))
  -- 2: the code that comes next has a 32nd zero
  overlong_next : (es : List (Element Name)) (name : Name) (d : Descriptor) (t : List Bool) → Follow ST2094-10_data 0 es (awaits name d) → s ≡ all_bits es ++ t → TooMany d t → Fails s 2 (sum_of_widths es) (untold (element_of name))
  -- 4 to 7, 9 to 11, 17 to 19: the elements `theirs`, which begin behind es, break a rule of the table of reasons
  rule_broken : (es theirs : List (Element Name)) (r : Rule Name) (t : List Bool) → Follow ST2094-10_data 0 (es ++ theirs) (broken r) → About es theirs r → r.offset ≡ sum_of_widths es
      → s ≡ all_bits (es ++ theirs) ++ t → Fails s r.number (sum_of_widths es) (cause_by (element_of r.element) (natural r.value) r.allowed)
  -- 12: bytes are left over behind the whole payload of data, and it is their number that is told
  bytes_over : (d : Data) (t : List Bool) → WellFormedData d → s ≡ all_bits (data_elements d) ++ t → 8 ≤ length t → Fails s 12 (data_width d) (range End (length t / 8) 0 0)

-- a length that is refused, and a fault that is found after a block: these point at the block's length
abbrev pub block_numbers : List ℕ
block_numbers = 9 ∷ 10 ∷ 11 ∷ 17 ∷ 18 ∷ 19 ∷ []

-- the name of the element at which a broken rule points
abbrev pub points_at : Rule Name → Name
points_at r = cond (among r.number block_numbers) ext_block_length r.element

-- Wrapped data s gets the number, at a byte's offset from the wrapper's first byte, marked, or at a bit offset in the data
pub data WrappedFails (s : List ℕ) : (number offset : ℕ) → (wrapper : Bool) → Cause → Type 0 where
  -- 1: of the wrapper there are only the first n bytes
  wrapper_cut : (n : ℕ) → n < 8 → s ≡ take n wrapper_bytes → WrappedFails s 1 n true (untold Wrapper)
  -- 3: the first n bytes are the wrapper's, and the next is another
  wrapper_byte : (n b : ℕ) (t : List ℕ) → n < 8 → s ≡ take n wrapper_bytes ++ (b ∷ t) → (b ≡ get_or wrapper_bytes n 0 → ⊥) → WrappedFails s 3 n true (range Wrapper b (get_or wrapper_bytes n 0) (get_or wrapper_bytes n 0))
  -- the wrapper is there, and the data behind it fails
  data_behind : (t : List ℕ) {number offset : ℕ} {c : Cause} → s ≡ wrapper_bytes ++ t → Fails (bits_of t) number offset c → WrappedFails s number offset false c

-- A unit u gets the number: as a unit, without a place and a cause, or by the data in our first message
pub data UnitFails (u : List ℕ) : (number offset : ℕ) → Cause → Type 0 where
  by30 : Thirty u → UnitFails u 30 0 nothing
  by31 : ThirtyOne u → UnitFails u 31 0 nothing
  by32 : ThirtyTwo u → UnitFails u 32 0 nothing
  by33 : ThirtyThree u → UnitFails u 33 0 nothing
  in_our_message : (m : Message) (t : List ℕ) {number offset : ℕ} {c : Cause} → HoldsOurs u m → m.content ≡ wrapper_bytes ++ t → Fails (bits_of t) number offset c → UnitFails u number offset c
