-- `block::after_fields` meets its contract: the zero bits, then the order of level 1.
use Rattle.std.proofs.Common.{rules}
use Rattle.block.proofs.Laws.{zeros_no, ordered_is, out_of_order}
use Rattle.block.proofs.after_fields.Goals as goal

pub returns-in_err-zeros : goal.returns-in_err-zeros
returns-in_err-zeros c = search (rules, zeros_no)

pub returns-then-not-in_order : goal.returns-then-not-in_order
returns-then-not-in_order c = search (rules, out_of_order)

pub returns : goal.returns
returns c = search (rules, ordered_is)
