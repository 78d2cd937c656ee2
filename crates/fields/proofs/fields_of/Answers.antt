-- `fields::fields_of` meets its contract, level by level.
use native.Mathlib.Omega.{arith}
use lib.ListN.{drop}
use Rattle.tree.specs.Bits.{bits_of}
use Rattle.fields.proofs.Laws.{fields_none}
use Rattle.fields.proofs.fields_of.Goals as goal

pub returns-in_default : goal.returns-in_default
returns-in_default c = fields_none c.args.level c.args.at (drop c.args.at (bits_of c.args.s.now)) (λ e. omega arith) (λ e. omega arith) (λ e. omega arith)
