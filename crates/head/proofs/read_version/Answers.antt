-- `head::read_version` meets its contract: the version is checked, then what follows it is read.
use Prim.Native.Nat.{◌+◌, ◌≤◌}
use native.Mathlib.Omega.{arith}
use Rattle.std.proofs.Common.{rules}
use Rattle.refusals.specs.Refusals.{wrong_version}
use Rattle.record.specs.Name.{app_version}
use Rattle.head.specs.Opening.{from_flag, from_version}
use Rattle.head.proofs.Laws.{longest, ue_short, took_few, brief_flag, one_no, one_other, one_then_no, one_then}
use Rattle.head.proofs.read_version.Goals as goal

pub returns-in_err-version : goal.returns-in_err-version
unfolding from_version
returns-in_err-version c = search (rules, one_no app_version wrong_version 0 from_flag)

pub returns-then-version-ne-VERSION : goal.returns-then-version-ne-VERSION
unfolding from_version
returns-then-version-ne-VERSION c = search (rules, one_other app_version wrong_version 0 from_flag)

pub overflow_add-at : goal.overflow_add-at
overflow_add-at c =
    let short : c.in_ok-version.version.width ≤ longest = search (rules, ue_short) in
    omega arith

pub read_flag-requires : goal.read_flag-requires
read_flag-requires c =
    let short : c.in_ok-version.version.width ≤ longest = search (rules, ue_short) in
    omega arith

pub returns-in_err-read_flag : goal.returns-in_err-read_flag
unfolding from_version
returns-in_err-read_flag c = search (rules, one_then_no app_version wrong_version 0 from_flag)

pub behind-requires : goal.behind-requires
behind-requires c =
    let short : c.in_ok-version.version.width ≤ longest = search (rules, ue_short) in
    let few : c.in_ok-read_flag.field-0.width ≤ 1 + longest = search (rules, took_few (1 + longest) from_flag brief_flag) in
    omega arith

pub returns : goal.returns
unfolding from_version
returns c = search (rules, one_then app_version wrong_version 0 from_flag)
