-- `messages::is_ours` meets its contract.
use Rattle.std.proofs.Common.{◌∙◌}
use Rattle.messages.proofs.Reading.{not_ours}
use Rattle.messages.proofs.is_ours.Goals as goal

pub returns-else-kind-short : goal.returns-else-kind-short
returns-else-kind-short c = c.if-kind-short.false ∙ not_ours c.args.kind c.args.content.now c.if-kind-short.false
