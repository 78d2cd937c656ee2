-- `reason::put_reason` meets its contract: the result, and what is told of the element if there is one.
use Rattle.text.specs.Text.{ascii}
use Rattle.text.proofs.Typing.{typed_on_then}
use Rattle.reason.proofs.Laws.{some, result_then}
use Rattle.reason.proofs.put_reason.Goals as goal

pub returns-then-ne : goal.returns-then-ne
unfolding ascii
returns-then-ne c =
    let a = c.args in
    rw (result_then a.res a.offset a.c (some a.c.element c.ne.ensures c.if-ne.true)) (typed_on_then c.put_line.ensures c.put_placed.ensures)
