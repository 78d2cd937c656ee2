-- `text::Page::put_line` meets its contract: the key, the number, the line's end.
use Rattle.text.specs.Text.{ascii}
use Rattle.text.proofs.Typing.{typed_on_then}
use Rattle.text.proofs.Page.put_line.Goals as goal

pub returns : goal.returns
unfolding ascii
returns c = typed_on_then c.put_text.ensures (typed_on_then c.put_decimal.ensures c.put_text-2.ensures)
