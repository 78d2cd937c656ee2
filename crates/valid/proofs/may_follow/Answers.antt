-- `valid::may_follow` meets its contract.
use Rattle.std.proofs.Common.{◌∙◌}
use Rattle.std.specs.List.{take-map}
use Rattle.record.specs.Blocks.{block_in}
use Rattle.valid.proofs.may_follow.Goals as goal

pub returns : goal.returns
returns c = c.follows.ensures ∙ rw (take-map block_in)
