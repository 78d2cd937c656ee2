-- `block::read_content` meets its contract: the fields, then what follows them.
use Prim.Native.Nat.{◌≤◌}
use native.Mathlib.Omega.{arith}
use Rattle.std.proofs.Common.{rules}
use Rattle.block.specs.Parts.{part_took}
use Rattle.block.proofs.Laws.{content_bits, fields_no, fields_few, fields_then_no, fields_then, closing_few}
use Rattle.block.proofs.read_content.Goals as goal

pub returns-in_err-fields : goal.returns-in_err-fields
returns-in_err-fields c = search (rules, fields_no)

pub overflow_add-at : goal.overflow_add-at
overflow_add-at c =
    let few : c.in_ok-fields.fields.width ≤ content_bits = search (rules, fields_few) in
    omega arith

pub after_fields-requires : goal.after_fields-requires
after_fields-requires c =
    let few : c.in_ok-fields.fields.width ≤ content_bits = search (rules, fields_few) in
    search rules

pub returns-in_err-rest : goal.returns-in_err-rest
returns-in_err-rest c = search (rules, fields_then_no)

pub behind-requires : goal.behind-requires
behind-requires c =
    let few : c.in_ok-fields.fields.width ≤ content_bits = search (rules, fields_few) in
    let rest : part_took c.in_ok-rest.rest ≤ content_bits = search (rules, closing_few) in
    omega arith

pub returns : goal.returns
returns c = search (rules, fields_then)
