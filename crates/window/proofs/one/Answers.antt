-- `window::one` meets its contract: the number of a byte is the byte.
use native.Mathlib.Omega.{arith}
use Rattle.window.proofs.Laws.{number_one}
use Rattle.window.proofs.one.Goals as goal

pub overflow_cast-result : goal.overflow_cast-result
overflow_cast-result c = omega (arith, c.type_inv.s c.args.i)

pub returns : goal.returns
returns c = number_one c.args.s.now c.args.i
