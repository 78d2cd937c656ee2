-- What reading answers, and on the way to it; and the table as far as the last block.
use Rattle.std.specs.Prelude.{ℕ, Result, Ok, Err, List, [], Bool, false, cond}
use Rattle.tree.specs.Bits.{bits_of}
use Rattle.tree.specs.Reading.{meets, breaks, number_in, Out, ok, no, and_then}
use Rattle.tree.specs.Syntax.{Syntax, done, ◌>>=◌, read, alignment, left_over}
use Rattle.record.specs.declared.Record.{Record}
use Rattle.element.specs.declared.Refused.{Refused}
use Rattle.record.specs.Name.{Name, dm_alignment_zero_bit, «end»}
use Rattle.record.specs.Made.{record_of}
use Rattle.record.specs.Blocks.{empty_record}
use Rattle.syntax.specs.Data.{Item, kept_in, passed_in, Data, record_from, blocks_after, bare_data}
use Rattle.syntax.specs.Wrapper.{inside_wrapper, told_at}
use Rattle.syntax.specs.Told.{refused_as}
use Rattle.head.specs.Opening.{opening}
use Rattle.cause.specs.declared.Cause.{Cause}
use Rattle.cause.specs.Cause.{nothing, cause_of}
use Rattle.reader.specs.declared.Reading.{Reading}

-- 01, The record: an accepted reading gives the record and the bits read, and by 02, b the number of blocks passed over; on a refusal
-- these are the empty record, 0 and 0. By 02, e a refusal gives where the failing element begins, and whether that is counted from the
-- wrapper, and by 02, f why; an accepted reading has 0 there, no mark and no cause
abbrev pub accepted_reading : (bits skipped : ℕ) → Record → Reading
accepted_reading n k r = record { result = 0; bits = n; skipped = k; offset = 0; in_wrapper = false; cause = nothing; «record» = r }

abbrev pub refused_reading : (number offset : ℕ) → (wrapper : Bool) → Cause → Reading
refused_reading k at mark c = record { result = k; bits = 0; skipped = 0; offset = at; in_wrapper = mark; cause = c; «record» = empty_record }

-- a refusal of no element has no place and no cause
abbrev pub unplaced : ℕ → Reading
unplaced k = refused_reading k 0 false nothing

abbrev pub reading_of : Out Name Data → Reading
reading_of (ok d n) = accepted_reading n (passed_in d.items) (record_from d)
reading_of (no f) = refused_reading (number_in f) (told_at f) (inside_wrapper f) (cause_of f)

-- what read_data answers
abbrev pub read_bare : List ℕ → Reading
read_bare s = reading_of (bare_data (bits_of s))

-- ---- on the way to it

-- what blocks come to: the record of the known ones, and how many are passed over
pub record Summary : Type 0 where
  pub «record» : Record
  pub skipped : ℕ

abbrev pub summary : Record → ℕ → Summary
summary r n = record { «record» = r; skipped = n }

abbrev pub summary_of : Bool → List Item → Summary
summary_of flag is = summary (record_of flag (kept_in is)) (passed_in is)

abbrev pub summary_in : Data → Summary
summary_in d = summary_of d.refresh d.items

-- behind the last block: zero bits to the next byte boundary, and there the input ends; its value is the position there
abbrev pub end_from : ℕ → List Bool → Out Name ℕ
end_from at s = and_then (read (alignment dm_alignment_zero_bit) at s) (λ z q t. cond (meets (left_over «end» q t)) (ok q 0) (no (breaks (left_over «end» q t)))) at s

-- by what the code tells of it
abbrev pub end_of : Out Name ℕ → Result ℕ Refused
end_of (ok bits n) = Ok bits
end_of (no f) = Err (refused_as f)

-- what stands before the blocks, and the blocks
unfoldable pub head_and_blocks : Syntax Name Summary
head_and_blocks = do
  h ← opening
  is ← blocks_after [] h.count
  done (summary_of h.refresh is)
