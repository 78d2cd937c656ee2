-- Why a reading was refused (02, f: what why prints): of numbers, as the library gives them, and of a fault of the theory.
use Rattle.std.specs.Prelude.{ℕ, ◌-◌, ◌^◌, true, cond, List, [], ◌++◌, eqb, leb, pos}
use Prim.Native.String.{String}
use Rattle.std.specs.Int.Signed.{le_z}
use Rattle.tree.specs.Reading.{Allowed, between, other_than, Fault, cut_off, overlong, breaks, number_in, element_in, Out, ok, no}
use Rattle.output.specs.declared.Written.{Written}
use Rattle.output.specs.Output.{written_as, buffer_as}
use Rattle.text.specs.Text.{ascii, decimal, numeral, line, line_text}
use Rattle.element.specs.declared.Element.TheVariants.{ExtDmAlignmentZeroBit}
use Rattle.element.specs.Element.{number_of}
use Rattle.name.specs.Name.{name_of}
use Rattle.record.specs.Name.{Name, element_of}
use Rattle.syntax.specs.Wrapper.{told_at}
use Rattle.cause.specs.declared.Kind.{Kind}
use Rattle.cause.specs.declared.Kind.TheVariants.{Untold, Range, Other}
use Rattle.cause.specs.declared.Cause.{Cause}
use Rattle.cause.specs.Cause.{range}
use Rattle.reader.specs.declared.Reading.{Reading}

-- ---- of a fault

-- 02, f: "allowed gives the lowest and the highest number with a hyphen between", the word none where the lowest is above, and the word other
abbrev pub allowed : Allowed → List ℕ
allowed (between low high) = cond (le_z low high) (numeral low ++ (ascii "-" ++ numeral high)) (ascii "none")
allowed (other_than zs) = ascii "other"

-- a key and a word
abbrev pub word_text : String → List ℕ → List ℕ
word_text key word = ascii key ++ (ascii "=" ++ (word ++ ascii "\n"))

-- for 1 and 2 the value and allowed lines are absent
abbrev pub value_of : Fault Name → List ℕ
value_of (cut_off at n) = []
value_of (overlong at n) = []
value_of (breaks r) = line_text (line "value" r.value) ++ word_text "allowed" (allowed r.allowed)

-- result, offset, element, value and allowed, in that order
abbrev pub reason_of : Fault Name → List ℕ
reason_of f = line_text (line "result" (pos (number_in f))) ++ (line_text (line "offset" (pos (told_at f))) ++ (word_text "element" (ascii (name_of (element_of (element_in f)))) ++ value_of f))

-- for an accepted payload result=0 only
abbrev pub why_text : {A : Type 0} → Out Name A → List ℕ
why_text (ok a n) = line_text (line "result" (pos 0))
why_text (no f) = reason_of f

-- ---- of numbers

-- a key with its equals sign, and a word
abbrev pub keyed : String → List ℕ → List ℕ
keyed key word = ascii key ++ (word ++ ascii "\n")

abbrev pub range_text : ℕ → ℕ → List ℕ
range_text low high = cond (leb low high) (decimal low ++ (ascii "-" ++ decimal high)) (ascii "none")

abbrev pub valued : Kind → (value lowest highest : ℕ) → List ℕ
valued Untold v low high = []
valued Range v low high = keyed "value=" (decimal v) ++ keyed "allowed=" (range_text low high)
valued Other v low high = keyed "value=" (decimal v) ++ keyed "allowed=" (ascii "other")

abbrev pub placed : ℕ → Cause → List ℕ
placed at c = keyed "offset=" (decimal at) ++ (keyed "element=" (ascii (name_of c.element)) ++ valued c.kind c.value c.lowest c.highest)

-- a reading that is accepted, or refused for no element, is its result line only
unfoldable pub reason : (result offset : ℕ) → Cause → List ℕ
reason result at c = keyed "result=" (decimal result) ++ cond (eqb (number_of c.element) 0) [] (placed at c)

abbrev pub reason_text : Reading → List ℕ
reason_text q = reason q.result q.offset q.cause

-- no text is longer: the largest of each number that the types hold, and the longest name
unfoldable pub longest : List ℕ
longest = reason (2 ^ 8 - 1) (2 ^ 32 - 1) (range ExtDmAlignmentZeroBit (2 ^ 64 - 1) (2 ^ 16 - 1) (2 ^ 16 - 1))

-- write_reason: the answer, and the buffer afterwards
abbrev pub write_reason : Reading → List ℕ → Written
write_reason q out = written_as (reason_text q) true out

abbrev pub reason_buffer : Reading → List ℕ → List ℕ
reason_buffer q out = buffer_as (reason_text q) true out
