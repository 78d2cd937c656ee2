-- `bits::field` meets its contract: 32 bits hold the number.
use native.Mathlib.Omega.{arith}
use lib.ListN.{drop}
use Rattle.tree.specs.Bits.{bits_of}
use Rattle.tree.proofs.Bits.{value-take_lt}
use Rattle.bits.proofs.field.Goals as goal

pub overflow_cast-result : goal.overflow_cast-result
overflow_cast-result c = let a = c.args in omega (arith, value-take_lt (drop a.at (bits_of a.s.now)) a.n 32 (omega arith))
