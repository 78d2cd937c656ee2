-- `messages::read_message` meets its contract.
use Rattle.messages.proofs.Reading.{no_type, no_size, cut, whole}
use Rattle.messages.proofs.read_message.Goals as goal

pub returns-in_err-kind : goal.returns-in_err-kind
returns-in_err-kind c = rw c.from_residual.ensures (no_type c.args.s.now c.in_err-kind.ensures)

pub returns-in_err-size : goal.returns-in_err-size
returns-in_err-size c =
    let k = c.in_ok-kind in
    rw c.from_residual-in_err-size.ensures (no_size c.args.s.now k.kind k.sized.now k.ensures c.in_err-size.ensures)

pub returns-in_err-content : goal.returns-in_err-content
returns-in_err-content c =
    let k = c.in_ok-kind in
    let n = c.in_ok-size in
    rw c.from_residual-in_err-content.ensures (cut c.args.s.now k.kind k.sized.now k.ensures n.size n.left.now n.ensures c.in_err-content.ensures.cases)

pub returns : goal.returns
returns c =
    let k = c.in_ok-kind in
    let n = c.in_ok-size in
    let h = c.in_ok-content.ensures.cases in
    rw (h.1, h.2) (whole c.args.s.now k.kind k.sized.now k.ensures n.size n.left.now n.ensures h.0)
