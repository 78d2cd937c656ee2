-- `pen::Pen::put_bit` meets its contract: the bit waits, or the eight are written.
use mathlib.Core.Path.{refl}
use native.Mathlib.Omega.{arith}
use Rattle.pen.proofs.Writing.{held_bit, stored_bit}
use Rattle.pen.proofs.Pen.put_bit.Goals as goal

pub returns-then-self-lt7 : goal.returns-then-self-lt7
returns-then-self-lt7 c = held_bit c.args.out.now c.args.self _ c.args.b c.requires.1 refl refl refl

pub returns : goal.returns
returns c = stored_bit c.args.out.now c.args.self _ c.args.b c.requires.1 (omega arith) (omega arith) refl refl refl
