-- `head::read_count` meets its contract: the number of blocks is checked when its code is complete.
use Rattle.std.proofs.Common.{rules}
use Rattle.head.proofs.Laws.{count_no, count_is, count_many}
use Rattle.head.proofs.read_count.Goals as goal

pub returns-in_err-count : goal.returns-in_err-count
returns-in_err-count c = search (rules, count_no)

pub returns-then-count-gt-MOST_ANNOUNCED : goal.returns-then-count-gt-MOST_ANNOUNCED
returns-then-count-gt-MOST_ANNOUNCED c = search (rules, count_many)

pub returns : goal.returns
returns c = search (rules, count_is)
