-- `reason::put_valued` meets its contract: by the kind.
use Rattle.text.specs.Text.{ascii}
use Rattle.text.proofs.Typing.{typed_on_then}
use Rattle.reason.proofs.put_valued.Goals as goal

pub returns-in-Range : goal.returns-in-Range
unfolding ascii
returns-in-Range c = rw c.in-Range.is (typed_on_then c.put_line.ensures (typed_on_then c.put_text.ensures (typed_on_then c.put_range.ensures c.put_text-in-Range.ensures)))

pub returns-in-Other : goal.returns-in-Other
unfolding ascii
returns-in-Other c = rw c.in-Other.is (typed_on_then c.put_line-in-Other.ensures c.put_text-in-Other.ensures)
