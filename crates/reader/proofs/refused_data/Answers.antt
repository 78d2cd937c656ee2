-- `reader::refused_data` meets its contract.
use mathlib.Core.Path.{sym, ◌∙◌}
use native.Mathlib.Omega.{arith}
use Rattle.tree.specs.Bits.{bits_of}
use Rattle.syntax.proofs.Near.{told_near}
use Rattle.reader.proofs.Laws.{by_refusal}
use Rattle.reader.proofs.refused_data.Goals as goal

pub overflow_cast-why : goal.overflow_cast-why
overflow_cast-why c = omega (arith, told_near (bits_of c.args.s.now) c.args.why c.requires)

pub returns : goal.returns
returns c =
    let a = c.args in
    c.refused.ensures ∙ rw (sym c.number.ensures) at (by_refusal (bits_of a.s.now) a.why c.requires c.cause_at-cause.result c.cause_at-cause.ensures)
