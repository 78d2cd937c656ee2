-- `writer::bytes_needed` meets its contract.
use mathlib.Core.Path.{◌∙◌}
use Rattle.writer.proofs.Room.{blocks_width, needed}
use Rattle.writer.proofs.bytes_needed.Goals as goal

pub returns : goal.returns
returns c =
    let a = c.open_bits in
    let b = c.blocks_bits in
    c.div_ceil.ensures ∙ needed c.args.r a.result b.result a.ensures.width (b.ensures ∙ blocks_width c.args.r)
