-- The text of the numbers is that of the fault: what `write_reason` writes of a reading is what 02, f has of its refusal.
use Prim.Native.Nat.{ℕ}
use mathlib.Core.Path.{◌≡◌, refl}
use mathlib.Core.List.{List, ◌++◌}
use mathlib.Core.Bool.{Bool, false}
use lib.Dec.{eqb}
use lib.IntN.{ℤ, pos, negsuc}
use Rattle.tree.specs.Reading.{Allowed, between, other_than, Fault, cut_off, overlong, breaks, number_in, Out, ok, no}
use Rattle.tree.specs.Coding.{natural}
use Rattle.tree.proofs.Truth.{clash}
use Rattle.text.specs.Text.{ascii, size_within, digits, line, line_text}
use Rattle.element.specs.Element.{number_of}
use Rattle.name.specs.Name.{name_of}
use Rattle.record.specs.Name.{Name, element_of, app_identifier, app_version, metadata_refresh_flag, num_ext_blocks, dm_alignment_zero_bit, ext_block_length, ext_block_level, min_PQ, max_PQ, avg_PQ, target_max_PQ, trim_slope, trim_offset, trim_power, trim_chroma_weight, trim_saturation_gain, ms_weight, active_area_left_offset, active_area_right_offset, active_area_top_offset, active_area_bottom_offset, ext_dm_alignment_zero_bit, «end», «wrapper»}
use Rattle.syntax.specs.Data.{Data, bare_data}
use Rattle.syntax.specs.Wrapper.{told_at, wrapped_data}
use Rattle.cause.specs.Cause.{cause_by, cause_of}
use Rattle.cause.proofs.Plain.{Unsigned, PlainLimits, Plain, a_fault_is_plain, a_wrapped_fault_is_plain}
use Rattle.reader.specs.Reading.{reading_of}
use Rattle.reason.specs.Reason.{allowed, word_text, reason_of, why_text, reason, reason_text}

-- each name of the tables is an element's
named : (n : Name) → eqb (number_of (element_of n)) 0 ≡ false
named app_identifier = refl
named app_version = refl
named metadata_refresh_flag = refl
named num_ext_blocks = refl
named dm_alignment_zero_bit = refl
named ext_block_length = refl
named ext_block_level = refl
named min_PQ = refl
named max_PQ = refl
named avg_PQ = refl
named target_max_PQ = refl
named trim_slope = refl
named trim_offset = refl
named trim_power = refl
named trim_chroma_weight = refl
named trim_saturation_gain = refl
named ms_weight = refl
named active_area_left_offset = refl
named active_area_right_offset = refl
named active_area_top_offset = refl
named active_area_bottom_offset = refl
named ext_dm_alignment_zero_bit = refl
named «end» = refl
named «wrapper» = refl

-- a value and what is allowed
of_a_value : (number at : ℕ) (n : Name) (z : ℤ) (a : Allowed) → Unsigned z → PlainLimits a
    → reason number at (cause_by (element_of n) (natural z) a)
    ≡ line_text (line "result" (pos number)) ++ (line_text (line "offset" (pos at)) ++ (word_text "element" (ascii (name_of (element_of n))) ++ (line_text (line "value" z) ++ word_text "allowed" (allowed a))))
unfolding reason ascii
of_a_value number at n (pos v) (between (pos low) (pos high)) u p = rw (named n) refl
of_a_value number at n (pos v) (between (negsuc low) high) u (p, q) = let z : ◌≡◌ {A = ℕ} 0 1 = cc in clash z
of_a_value number at n (pos v) (between (pos low) (negsuc high)) u (p, q) = let z : ◌≡◌ {A = ℕ} 0 1 = cc in clash z
of_a_value number at n (pos v) (other_than zs) u p = rw (named n) refl
of_a_value number at n (negsuc v) a u p = let z : ◌≡◌ {A = ℕ} 0 1 = cc in clash z

of_a_fault : (f : Fault Name) → Plain f → reason (number_in f) (told_at f) (cause_of f) ≡ reason_of f
unfolding reason ascii
of_a_fault (cut_off at n) p = rw (named n) refl
of_a_fault (overlong at n) p = rw (named n) refl
of_a_fault (breaks r) p = of_a_value r.number (told_at (breaks r)) r.element r.value r.allowed p.0 p.1

of_an_answer : (o : Out Name Data) → ((f : Fault Name) → o ≡ no f → Plain f) → reason_text (reading_of o) ≡ why_text o
unfolding reason ascii size_within digits
of_an_answer (ok d n) p = refl
of_an_answer (no f) p = of_a_fault f (p f refl)

-- THE LAW, of bare and of wrapped data
pub the_text_is_that_of_the_answer : (s : List Bool) → reason_text (reading_of (bare_data s)) ≡ why_text (bare_data s)
the_text_is_that_of_the_answer s = of_an_answer (bare_data s) (a_fault_is_plain s)

pub the_text_is_that_of_the_wrapped_answer : (s : List Bool) → reason_text (reading_of (wrapped_data s)) ≡ why_text (wrapped_data s)
the_text_is_that_of_the_wrapped_answer s = of_an_answer (wrapped_data s) (a_wrapped_fault_is_plain s)
