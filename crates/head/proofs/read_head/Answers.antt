-- `head::read_head` meets its contract: what stands before the blocks, and its padding.
use Prim.Native.Nat.{◌≤◌}
use native.Mathlib.Omega.{arith}
use Rattle.std.proofs.Common.{rules}
use Rattle.head.proofs.Laws.{head_no, head_few, open_no, open_few, open_is}
use Rattle.head.proofs.read_head.Goals as goal

pub returns-in_err-head : goal.returns-in_err-head
returns-in_err-head c = search (rules, head_no)

pub read_zeros-gap-requires : goal.read_zeros-gap-requires
read_zeros-gap-requires c =
    let few : c.in_ok-head.head.width ≤ 20 = search (rules, head_few) in
    omega arith

pub returns-in_err-zeros : goal.returns-in_err-zeros
returns-in_err-zeros c = search (rules, open_no)

pub overflow_add-result : goal.overflow_add-result
overflow_add-result c =
    let few : c.in_ok-head.head.width ≤ 20 = search (rules, head_few) in
    let zeros : c.in_ok-zeros.zeros.width ≤ 7 = search (rules, open_few) in
    omega arith

pub returns : goal.returns
returns c = search (rules, open_is)
