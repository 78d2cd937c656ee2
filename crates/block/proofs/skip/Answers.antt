-- `block::skip` meets its contract: the bits are there, or one is missing.
use Rattle.std.proofs.Common.{rules}
use Rattle.block.proofs.Laws.{passed_over, cut_short}
use Rattle.block.proofs.skip.Goals as goal

pub returns-then-s-at : goal.returns-then-s-at
returns-then-s-at c l = search (rules, cut_short)

pub returns : goal.returns
returns c l = search (rules, passed_over)
