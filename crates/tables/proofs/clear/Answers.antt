-- `tables::clear` meets its contract.
use Rattle.std.proofs.Common.{ap, ◌∙◌, ℕ, pos, replicate}
use Rattle.tables.specs.Table.{zero_row}
use Rattle.tables.proofs.clear.Goals as goal

pub returns : goal.returns
unfolding zero_row
returns c = c.fill.ensures.after (λ y e. e) ∙ ap (λ (n : ℕ). replicate n (pos 0)) c.requires
