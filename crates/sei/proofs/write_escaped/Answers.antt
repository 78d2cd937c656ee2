-- `sei::write_escaped` meets its contract: the header is stored, and the escaped bytes behind it.
use Rattle.std.proofs.Common.{arith}
use Rattle.emulation.proofs.Laws.{escaped_fits}
use Rattle.sei.proofs.write_escaped.Goals as goal

pub overflow_add-n : goal.overflow_add-n
overflow_add-n c = omega (arith, c.escaped_length-n.ensures, escaped_fits c.args.body.now, c.requires)
