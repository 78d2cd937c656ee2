-- `writer::put_open` meets its contract.
use native.Mathlib.Omega.{arith}
use borrow.Author.Tests.{ne_eqb}
use Rattle.tree.proofs.Meaning.{length-all}
use Rattle.pen.proofs.Writing.{room_left}
use Rattle.syntax.specs.Element.{head_elements}
use Rattle.writer.proofs.Room.{open_least}
use Rattle.writer.proofs.Parts.{byte_wrote}
use Rattle.writer.proofs.put_open.Goals as goal

pub put_to_byte-requires : goal.put_to_byte-requires
put_to_byte-requires c =
    let a = c.args in
    room_left c.put_head-p.ensures 0 (omega (arith, open_least a.refresh a.count, length-all (head_elements a.refresh a.count)))

pub returns : goal.returns
returns c =
    let a = c.args in
    rw (ne_eqb a.count 0 c.if-count-eq0.false) (byte_wrote (head_elements a.refresh a.count) c.put_head-p.ensures c.put_to_byte.ensures)
