-- `reader::read_data` meets its contract: no head, or a head and what follows it.
use mathlib.Core.Path.{◌∙◌, sym}
use Rattle.tree.specs.Bits.{bits_of}
use Rattle.tree.specs.Syntax.{read}
use Rattle.head.specs.Opening.{opening}
use Rattle.head.proofs.Laws.{opening_ok, opening_no}
use Rattle.reader.proofs.Laws.{told_on, no_head}
use Rattle.reader.proofs.read_data.Goals as goal

pub refused_data-requires : goal.refused_data-requires
refused_data-requires c =
    let s = bits_of c.args.input.now in
    told_on s (read opening 0 s) c.in-Err.why (opening_no (read opening 0 s) c.in-Err.why (sym c.in-Err.is ∙ c.read_head.ensures)) (no_head s)

pub read_blocks-requires : goal.read_blocks-requires
read_blocks-requires c = opening_ok (read opening 0 (bits_of c.args.input.now)) c.in-Ok.opening (sym c.in-Ok.is ∙ c.read_head.ensures)
