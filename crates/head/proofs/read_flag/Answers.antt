-- `head::read_flag` meets its contract: the flag, then the number of blocks if it is 1.
use Prim.Native.Nat.{◌≤◌}
use mathlib.Core.Path.{◌≡◌}
use native.Mathlib.Omega.{arith}
use Rattle.std.proofs.Common.{rules}
use Rattle.syntax.specs.Data.{block_count}
use Rattle.head.proofs.Laws.{longest, took_few, brief_count, flag_no, flag_one, flag_off, flag_then_no, flag_then}
use Rattle.head.proofs.read_flag.Goals as goal

pub returns-in_err-flag : goal.returns-in_err-flag
returns-in_err-flag c = search (rules, flag_no)

pub returns-then-flag-ne1 : goal.returns-then-flag-ne1
returns-then-flag-ne1 c = search (rules, flag_off)

pub overflow_add-at : goal.overflow_add-at
overflow_add-at c =
    let one : c.in_ok-flag.flag.width ≡ 1 = search (rules, flag_one) in
    omega arith

pub read_count-requires : goal.read_count-requires
read_count-requires c =
    let one : c.in_ok-flag.flag.width ≡ 1 = search (rules, flag_one) in
    omega arith

pub returns-in_err-read_count : goal.returns-in_err-read_count
returns-in_err-read_count c = search (rules, flag_then_no)

pub behind-requires : goal.behind-requires
behind-requires c =
    let one : c.in_ok-flag.flag.width ≡ 1 = search (rules, flag_one) in
    let few : c.in_ok-read_count.field-0.width ≤ longest = search (rules, took_few longest block_count brief_count) in
    omega arith

pub returns : goal.returns
returns c = search (rules, flag_then)
