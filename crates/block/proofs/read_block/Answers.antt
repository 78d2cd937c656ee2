-- `block::read_block` meets its contract: the length, then what follows it.
use Prim.Native.Nat.{◌+◌, ◌*◌, ◌≤◌}
use native.Mathlib.Omega.{arith}
use Rattle.std.proofs.Common.{rules}
use Rattle.tree.specs.Coding.{most_zeros}
use Rattle.block.specs.Parts.{part_took}
use Rattle.block.proofs.Laws.{content_bits, size_no, size_few, size_then_no, size_then, level_few}
use Rattle.block.proofs.read_block.Goals as goal

pub returns-in_err-size : goal.returns-in_err-size
returns-in_err-size c = search (rules, size_no)

pub overflow_add-at : goal.overflow_add-at
overflow_add-at c =
    let short : c.in_ok-size.size.width ≤ 2 * most_zeros + 1 = search (rules, size_few) in
    omega arith

pub after_length-requires : goal.after_length-requires
after_length-requires c =
    let short : c.in_ok-size.size.width ≤ 2 * most_zeros + 1 = search (rules, size_few) in
    omega arith

pub returns-in_err-rest : goal.returns-in_err-rest
returns-in_err-rest c = search (rules, size_then_no)

pub behind-requires : goal.behind-requires
behind-requires c =
    let short : c.in_ok-size.size.width ≤ 2 * most_zeros + 1 = search (rules, size_few) in
    let few : part_took c.in_ok-rest.rest ≤ 8 + content_bits = search (rules, level_few) in
    omega arith

pub returns : goal.returns
returns c = search (rules, size_then)
