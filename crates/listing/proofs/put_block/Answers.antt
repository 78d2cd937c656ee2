-- `listing::put_block` meets its contract: the level, then the fields.
use lib.IntN.{pos}
use Rattle.text.specs.Text.{ascii, line}
use Rattle.text.proofs.Lines.{typed_one}
use Rattle.record.specs.Level.{level, level_of, values_of}
use Rattle.listing.specs.Listing.{field_lines}
use Rattle.listing.proofs.put_block.Goals as goal

pub returns : goal.returns
unfolding ascii
returns c =
    let b = c.args.b in
    typed_one (line "level" (pos (level_of b))) (field_lines (level (level_of b)).fields (values_of b)) (rw c.level_of.ensures at c.put_line.ensures) c.put_fields.ensures
