-- `reason::put_placed` meets its contract: the offset, the element, the value and what is allowed.
use Rattle.text.specs.Text.{ascii}
use Rattle.text.proofs.Typing.{typed_on_then}
use Rattle.reason.proofs.put_placed.Goals as goal

pub returns : goal.returns
unfolding ascii
returns c =
    typed_on_then c.put_line.ensures
    (typed_on_then (typed_on_then c.put_text.ensures (typed_on_then c.put_name.ensures c.put_text-2.ensures)) c.put_valued.ensures)
