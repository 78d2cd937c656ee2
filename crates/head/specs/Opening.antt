-- What the functions that read what stands before the blocks answer, and the parts of the table that they read.
use Rattle.std.specs.Prelude.{ℕ, ◌+◌, false, cond, eqb, pos, Result, Ok, Err}
use Rattle.refusals.specs.Refusals.{wrong_version}
use Rattle.tree.specs.Reading.{Out, ok, no}
use Rattle.tree.specs.Coding.{unsigned, variable, fixed, natural}
use Rattle.tree.specs.Syntax.{Syntax, done, any, ranged, ◌>>=◌, ◌>>◌}
use Rattle.element.specs.declared.Refused.{Refused}
use Rattle.record.specs.Name.{Name, app_version, metadata_refresh_flag}
use Rattle.syntax.specs.Data.{Head, announced, block_count, head, first_alignment}
use Rattle.syntax.specs.Told.{refused_as}
use Rattle.head.specs.declared.Opening.{Opening}

-- what stands before the blocks, or why there is none
abbrev pub opening_of : Out Name Head → Result Opening Refused
opening_of (ok h n) = Ok (record { refresh = h.refresh; count = h.count; width = n })
opening_of (no f) = Err (refused_as f)

-- the same, behind n bits that are taken already
abbrev pub opening_behind : ℕ → Opening → Opening
opening_behind n o = record { refresh = o.refresh; count = o.count; width = n + o.width }

-- the table `head` from metadata_refresh_flag on, and from app_version on
unfoldable pub from_flag : Syntax Name Head
from_flag = do
  f ← any metadata_refresh_flag (fixed (unsigned 1))
  cond (eqb (natural f) 1) block_count (done (announced false 0))

unfoldable pub from_version : Syntax Name Head
from_version = do
  v ← ranged app_version variable wrong_version (pos 0) (pos 0)
  from_flag

-- what was read before the blocks, and zero bits to the next byte boundary if there are blocks
unfoldable pub aligned_head : Head → Syntax Name Head
aligned_head h = first_alignment h.count >> done h

-- all that stands before the blocks
unfoldable pub opening : Syntax Name Head
opening = head >>= aligned_head
