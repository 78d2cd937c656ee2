-- `block::after_length` meets its contract: the level, then the body.
use Prim.Native.Nat.{◌+◌, ◌*◌, ◌^◌, ◌<◌, ◌≤◌}
use mathlib.Core.Path.{◌≡◌}
use native.Mathlib.Omega.{arith}
use lib.ListN.{length}
use Rattle.std.proofs.Common.{rules}
use Rattle.block.specs.Parts.{part_took}
use Rattle.block.proofs.Laws.{content_bits, level_no, level_fits, level_then_no, level_then, body_few}
use Rattle.block.proofs.after_length.Goals as goal

pub returns-in_err-level : goal.returns-in_err-level
returns-in_err-level c = search (rules, level_no)

pub overflow_add-at : goal.overflow_add-at
overflow_add-at c =
    let fits : (c.in_ok-level.level.value < 2 ^ 8) × (c.in_ok-level.level.width ≡ 8) × (c.args.at + 8 ≤ 8 * length c.args.s.now) = search (rules, level_fits c.args.start c.args.size) in
    omega arith

pub overflow_cast-level : goal.overflow_cast-level
overflow_cast-level c =
    let fits : (c.in_ok-level.level.value < 2 ^ 8) × (c.in_ok-level.level.width ≡ 8) × (c.args.at + 8 ≤ 8 * length c.args.s.now) = search (rules, level_fits c.args.start c.args.size) in
    omega arith

pub read_body-requires : goal.read_body-requires
read_body-requires c =
    let fits : (c.in_ok-level.level.value < 2 ^ 8) × (c.in_ok-level.level.width ≡ 8) × (c.args.at + 8 ≤ 8 * length c.args.s.now) = search (rules, level_fits c.args.start c.args.size) in
    omega arith

pub returns-in_err-rest : goal.returns-in_err-rest
returns-in_err-rest c = search (rules, level_then_no)

pub behind-requires : goal.behind-requires
behind-requires c =
    let fits : (c.in_ok-level.level.value < 2 ^ 8) × (c.in_ok-level.level.width ≡ 8) × (c.args.at + 8 ≤ 8 * length c.args.s.now) = search (rules, level_fits c.args.start c.args.size) in
    let few : part_took c.in_ok-rest.rest ≤ content_bits = search (rules, body_few) in
    omega arith

pub returns : goal.returns
returns c = search (rules, level_then)
