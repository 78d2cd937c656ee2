-- `text::Page::put_two` meets its contract.
use Rattle.text.proofs.Typing.{typed_on_then}
use Rattle.text.proofs.Page.put_two.Goals as goal

pub returns : goal.returns
returns c = typed_on_then c.put_line.ensures c.put_line-2.ensures
