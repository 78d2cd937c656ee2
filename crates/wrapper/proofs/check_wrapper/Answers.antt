-- `wrapper::check_wrapper` meets its contract: the answer from byte i on is the answer from the start.
use Prim.Native.Nat.{◌≤◌, ◌<◌}
use mathlib.Core.Path.{◌≡◌, sym, ◌∙◌}
use native.Mathlib.Omega.{arith}
use lib.ListN.{length, get_or}
use Rattle.std.proofs.Common.{rules}
use Rattle.tree.specs.Syntax.{read}
use Rattle.tree.specs.Wrapper.{wrapper_table}
use Rattle.wrapper.proofs.Laws.{missing, other, agrees}
use Rattle.wrapper.proofs.check_wrapper.Goals as goal

pub returns-in_default : goal.returns-in_default
returns-in_default c =
    let l = c.loop-i in
    let short : length c.args.input.now ≤ l.i = search rules in
    rw c.untold.ensures (missing c.args.input.now l.i (omega arith) short ∙ l.invariant)

pub returns-then-byte-due : goal.returns-then-byte-due
returns-then-byte-due c =
    let l = c.loop-i in
    let there : l.i < length c.args.input.now = search rules in
    let byte : c.in-Some.field-0.now ≡ get_or c.args.input.now l.i 0 = search rules in
    rw (c.range.ensures, byte) (other c.args.input.now l.i (omega arith) there (c.type_inv.input l.i).fits (rw byte at c.if-byte-due.true) ∙ l.invariant)

pub loop-i-preserved : goal.loop-i-preserved
loop-i-preserved c =
    let l = c.loop-i in
    let there : l.i < length c.args.input.now = search rules in
    let byte : c.in-Some.field-0.now ≡ get_or c.args.input.now l.i 0 = search rules in
    sym (agrees c.args.input.now l.i (omega arith) there (c.type_inv.input l.i).fits (sym byte ∙ c.if-byte-due.false)) ∙ l.invariant

pub returns : goal.returns
unfolding wrapper_table read
returns c =
    let e : c.loop-i.i ≡ 8 = omega arith in
    rw e at c.loop-i.invariant
