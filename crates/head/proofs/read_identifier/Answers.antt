-- `head::read_identifier` meets its contract: the identifier is checked, then what follows it is read.
use Prim.Native.Nat.{◌+◌, ◌≤◌}
use native.Mathlib.Omega.{arith}
use Rattle.std.proofs.Common.{rules}
use Rattle.refusals.specs.Refusals.{wrong_identifier}
use Rattle.record.specs.Name.{app_identifier}
use Rattle.syntax.specs.Data.{head}
use Rattle.head.specs.Opening.{from_flag, from_version}
use Rattle.head.proofs.Laws.{longest, ue_short, took_few, brief_version, one_no, one_other, one_then_no, one_then}
use Rattle.head.proofs.read_identifier.Goals as goal

pub returns-in_err-identifier : goal.returns-in_err-identifier
unfolding head from_version from_flag
returns-in_err-identifier c = search (rules, one_no app_identifier wrong_identifier 1 from_version 0)

pub returns-then-identifier-ne-IDENTIFIER : goal.returns-then-identifier-ne-IDENTIFIER
unfolding head from_version from_flag
returns-then-identifier-ne-IDENTIFIER c = search (rules, one_other app_identifier wrong_identifier 1 from_version 0)

pub read_version-requires : goal.read_version-requires
read_version-requires c =
    let short : c.in_ok-identifier.identifier.width ≤ longest = search (rules, ue_short) in
    omega arith

pub returns-in_err-read_version : goal.returns-in_err-read_version
unfolding head from_version from_flag
returns-in_err-read_version c = search (rules, one_then_no app_identifier wrong_identifier 1 from_version 0)

pub behind-requires : goal.behind-requires
behind-requires c =
    let short : c.in_ok-identifier.identifier.width ≤ longest = search (rules, ue_short) in
    let few : c.in_ok-read_version.field-0.width ≤ longest + (1 + longest) = search (rules, took_few (longest + (1 + longest)) from_version brief_version) in
    omega arith

pub returns : goal.returns
unfolding head from_version from_flag
returns c = search (rules, one_then app_identifier wrong_identifier 1 from_version 0)
