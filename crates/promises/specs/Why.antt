-- 02, f: why an input is refused, as a text, in its own words: "every earlier element meets its rule, the named one does not, the value is the
-- one there", and allowed is what its rule allows there.
use Rattle.std.specs.Prelude.{ℕ, ◌/◌, ◌<◌, ◌≤◌, ◌≡◌, List, ◌∷◌, ◌++◌, Bool, false, ℤ, pos, length, get_or, take}
use Rattle.tree.specs.Bits.{bits_of}
use Rattle.tree.specs.Reading.{Allowed, between, Rule, meets}
use Rattle.tree.specs.Coding.{Descriptor}
use Rattle.tree.specs.Meaning.{Element, sum_of_widths, all_bits, awaits, broken, Follow, CutOff, TooMany}
use Rattle.text.specs.Text.{ascii, line, line_text}
use Rattle.name.specs.Name.{name_of}
use Rattle.record.specs.Name.{Name, element_of, «end», «wrapper»}
use Rattle.syntax.specs.Data.{Data, ST2094-10_data}
use Rattle.syntax.specs.Element.{data_elements, data_width, WellFormedData}
use Rattle.syntax.specs.Wrapper.{wrapper_bytes}
use Rattle.syntax.specs.Reason.{About, Named}
use Rattle.reason.specs.Reason.{allowed, word_text}

-- result, offset and element
abbrev pub place_text : (number offset : ℕ) → Name → List ℕ
place_text number offset name = line_text (line "result" (pos number)) ++ (line_text (line "offset" (pos offset)) ++ word_text "element" (ascii (name_of (element_of name))))

-- and value and allowed
abbrev pub value_text : ℤ → Allowed → List ℕ
value_text z a = line_text (line "value" z) ++ word_text "allowed" (allowed a)

-- THE TEXT IS TRUE OF DATA: behind the elements es, which are its first bits, follow A/341's tables and meet every rule that stands before,
-- the named element fails
pub data TrueOfData (s : List Bool) : List ℕ → Type 0 where
  -- 1: it comes next, and the input ends within it
  cut_short : (es : List (Element Name)) (name : Name) (d : Descriptor) (t : List Bool) → Follow ST2094-10_data 0 es (awaits name d) → s ≡ all_bits es ++ t → CutOff d t → TrueOfData s (place_text 1 (sum_of_widths es) name)
  -- 2: it comes next, and its code has a 32nd zero
  too_many_zeros : (es : List (Element Name)) (name : Name) (d : Descriptor) (t : List Bool) → Follow ST2094-10_data 0 es (awaits name d) → s ≡ all_bits es ++ t → TooMany d t → TrueOfData s (place_text 2 (sum_of_widths es) name)
  -- else it is among the elements `theirs`, which begin behind es, with the value that is told; they are those that a row of the table of reasons has a rule for, and the rule does not allow it
  not_allowed : (es theirs : List (Element Name)) (r : Rule Name) (t : List Bool) → Follow ST2094-10_data 0 (es ++ theirs) (broken r) → About es theirs r → Named r theirs → meets r ≡ false → r.offset ≡ sum_of_widths es
      → s ≡ all_bits (es ++ theirs) ++ t → TrueOfData s (place_text r.number (sum_of_widths es) r.element ++ value_text r.value r.allowed)
  -- 12: bytes are left over behind a whole payload, so many
  left_over_bytes : (d : Data) (t : List Bool) → WellFormedData d → s ≡ all_bits (data_elements d) ++ t → 8 ≤ length t
      → TrueOfData s (place_text 12 (data_width d) «end» ++ value_text (pos (length t / 8)) (between (pos 0) (pos 0)))

-- THE TEXT IS TRUE OF WRAPPED DATA
pub data TrueOfWrapped (s : List ℕ) : List ℕ → Type 0 where
  -- 1: of the wrapper there are only the first n bytes
  wrapper_ends : (n : ℕ) → n < 8 → s ≡ take n wrapper_bytes → TrueOfWrapped s (place_text 1 n «wrapper»)
  -- 3: the first n bytes are the wrapper's, and the next is the byte b, where another is due
  wrapper_other : (n b : ℕ) (t : List ℕ) → n < 8 → s ≡ take n wrapper_bytes ++ (b ∷ t) → (b ≡ get_or wrapper_bytes n 0 → ⊥)
      → TrueOfWrapped s (place_text 3 n «wrapper» ++ value_text (pos b) (between (pos (get_or wrapper_bytes n 0)) (pos (get_or wrapper_bytes n 0))))
  -- the wrapper is there, and the text is true of the data behind it
  of_the_data : (t : List ℕ) {text : List ℕ} → s ≡ wrapper_bytes ++ t → TrueOfData (bits_of t) text → TrueOfWrapped s text
