-- What the functions that read a block answer, and the parts of a block's table that some of them read.
use Rattle.std.specs.Prelude.{ℕ, ◌+◌, cond, ℤ, Result, Ok, Err}
use Rattle.tree.specs.Reading.{Out, ok, no}
use Rattle.tree.specs.Coding.{unsigned, fixed, natural}
use Rattle.tree.specs.Syntax.{Syntax, done, must, any, row, zero_bits, ◌>>=◌}
use Rattle.element.specs.declared.Refused.{Refused}
use Rattle.record.specs.declared.Block.{Block}
use Rattle.record.specs.Name.{Name, ext_block_level, ext_dm_alignment_zero_bit}
use Rattle.record.specs.Level.{known, fields_of, padding}
use Rattle.syntax.specs.Data.{Item, kept, passed, block_of, length_rule, order_rules, reserved_content}
use Rattle.syntax.specs.Told.{refused_as}
use Rattle.block.specs.declared.Part.{Part}
use Rattle.block.specs.declared.Part.TheVariants.{Kept, Passed}

-- of a block that is passed over only the width is told
abbrev pub part_of : Out Name Item → Result Part Refused
part_of (ok (kept b) n) = Ok (Kept n b)
part_of (ok (passed l m zs) n) = Ok (Passed n)
part_of (no f) = Err (refused_as f)

-- the same, behind n bits that are taken already
abbrev pub part_behind : ℕ → Part → Part
part_behind n (Kept width b) = Kept (n + width) b
part_behind n (Passed width) = Passed (n + width)

-- how many bits it took
abbrev pub part_took : Part → ℕ
part_took (Kept width b) = width
part_took (Passed width) = width

-- what follows the fields of a block of level l that began at `start`: its zero bits, then the order of level 1
abbrev pub after_fields : (start l : ℕ) → Block → Syntax Name Item
after_fields start l b = zero_bits ext_dm_alignment_zero_bit (padding l) >>= λ z. order_rules start (kept b) >>= λ o. done (kept b)

-- the fields of a known level l and what follows them, in a block that began at `start`
abbrev pub content_from : (start l : ℕ) → Syntax Name Item
content_from start l = row (fields_of l) >>= λ zs. after_fields start l (block_of l zs)

-- what follows the length n and the level l of a block that began at `start`
abbrev pub body : (start : ℕ) → (n l : ℤ) → Syntax Name Item
body start n l = must (length_rule start n (natural l)) >>= λ own. cond (known (natural l)) (content_from start (natural l)) (reserved_content (natural l) (natural n))

-- what follows the length n of a block that began at `start`: its level, and the rest
abbrev pub after_length : ℕ → ℤ → Syntax Name Item
after_length start n = any ext_block_level (fixed (unsigned 8)) >>= body start n
