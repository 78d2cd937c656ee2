-- `listing::put_accepted` meets its contract: the head, then the blocks.
use Rattle.text.proofs.Typing.{typed_on_then}
use Rattle.text.proofs.Lines.{text-append}
use Rattle.record.specs.Blocks.{blocks}
use Rattle.listing.specs.Listing.{head_lines, blocks_lines}
use Rattle.listing.proofs.put_accepted.Goals as goal

pub returns : goal.returns
returns c =
    let r = c.args.r in
    rw (text-append (head_lines r.refresh c.args.bits r.count) (blocks_lines (blocks r))) (typed_on_then c.put_head.ensures c.put_blocks.ensures)
