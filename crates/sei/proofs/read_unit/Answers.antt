-- `sei::read_unit` meets its contract.
use Rattle.std.proofs.Common.{◌∙◌}
use Rattle.sei.proofs.Functions.{unit_refused}
use Rattle.sei.proofs.read_unit.Goals as goal

pub returns-in-Err : goal.returns-in-Err
returns-in-Err c = c.unplaced.ensures ∙ rw c.number.ensures (unit_refused c.args.input.now c.in-Err.refusal c.in-Err.ensures)
