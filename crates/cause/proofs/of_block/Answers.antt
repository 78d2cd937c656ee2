-- `cause::of_block` meets its contract: the level, or the fields that the refusal is about.
use Prim.Native.Nat.{◌+◌}
use mathlib.Core.Path.{sym}
use native.Mathlib.Omega.{arith}
use lib.ListN.{drop}
use Rattle.tree.specs.Bits.{bits_of}
use Rattle.tree.proofs.Bits.{length_rest, value-take_lt}
use Rattle.cause.proofs.Laws.{further}
use Rattle.cause.proofs.of_block.Goals as goal

pub field-level-requires : goal.field-level-requires
field-level-requires c = (omega (arith, c.requires.1.0, length_rest c.args.s.now c.args.at), omega arith)

pub overflow_cast-level : goal.overflow_cast-level
overflow_cast-level c = omega (arith, value-take_lt (drop c.args.at (bits_of c.args.s.now)) 8 8 (omega arith))

pub field-min-requires : goal.field-min-requires
field-min-requires c =
    let shown = rw c.in-NotInOrder.is at c.requires.1 in
    (omega (arith, shown.1.0, length_rest c.args.s.now c.args.at), omega arith)

pub overflow_cast-min : goal.overflow_cast-min
overflow_cast-min c = omega (arith, value-take_lt (drop (c.args.at + 8) (bits_of c.args.s.now)) 12 12 (omega arith))

pub field-max-requires : goal.field-max-requires
field-max-requires c =
    let shown = rw c.in-NotInOrder.is at c.requires.1 in
    (omega (arith, shown.1.0, length_rest c.args.s.now c.args.at), omega arith)

pub overflow_cast-max : goal.overflow_cast-max
overflow_cast-max c = omega (arith, value-take_lt (drop (c.args.at + 20) (bits_of c.args.s.now)) 12 12 (omega arith))

pub field-avg-requires : goal.field-avg-requires
field-avg-requires c =
    let shown = rw c.in-NotInOrder.is at c.requires.1 in
    (omega (arith, shown.1.0, length_rest c.args.s.now c.args.at), omega arith)

pub returns-in-NotInOrder : goal.returns-in-NotInOrder
returns-in-NotInOrder c =
    let shown = rw c.in-NotInOrder.is at c.requires.1 in
    rw (c.range.ensures, c.field-min.ensures, c.field-max.ensures, c.field-avg.ensures) (sym (rw (further 8 12 c.args.at (bits_of c.args.s.now), further 20 12 c.args.at (bits_of c.args.s.now), further 32 12 c.args.at (bits_of c.args.s.now)) at shown.1.1))

pub field-requires : goal.field-requires
field-requires c =
    let shown = rw c.in-RepeatedTarget.is at c.requires.1 in
    (omega (arith, shown.1.0, length_rest c.args.s.now c.args.at), omega arith)

pub returns-in-RepeatedTarget : goal.returns-in-RepeatedTarget
returns-in-RepeatedTarget c =
    let shown = rw c.in-RepeatedTarget.is at c.requires.1 in
    rw (c.other.ensures, c.field.ensures) (sym (rw (further 8 12 c.args.at (bits_of c.args.s.now)) at shown.1.1))
