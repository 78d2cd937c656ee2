-- `valid::is_valid` meets its contract.
use Rattle.std.proofs.Common.{◌≡◌, sym, ◌∙◌, List, [], map, take, drop, arith}
use borrow.Author.Tests.{lt-leb}
use Rattle.std.specs.List.{take-map, drop-map}
use Rattle.record.specs.declared.Place.{Place}
use Rattle.record.specs.declared.Record.{Record}
use Rattle.record.specs.Blocks.{most_blocks, block_in, blocks, beyond}
use Rattle.valid.specs.Valid.{every, is_nothing, well_formed}
use Rattle.valid.proofs.Clauses.{valid_is_walk, walk_fails, rest_fails, flag_decides}
use Rattle.valid.proofs.is_valid.Goals as goal
use Rattle.valid.proofs.is_valid.Goals.{then-is_well_formed, else-is_well_formed}

-- what the two walks say, of the record
walked : (r : Record) (front : List Place) → front ≡ take r.count r.places → well_formed [] (map block_in front) ≡ well_formed [] (blocks r)
walked r front e = rw (e, take-map block_in)

empty : (r : Record) (back : List Place) → back ≡ drop r.count r.places → every is_nothing (map block_in back) ≡ every is_nothing (beyond r)
empty r back e = rw (e, drop-map block_in)

pub returns-then-n-gt-BLOCKS : goal.returns-then-n-gt-BLOCKS
returns-then-n-gt-BLOCKS c =
    let r = c.args.r in
    rw (valid_is_walk r, lt-leb r.count most_blocks (omega arith))

pub returns-then-is_empty : goal.returns-then-is_empty
returns-then-is_empty c =
    let r = c.args.r in
    let k = walked r c.split_at.result.0.now c.split_at.ensures.front in
    let z = empty r c.split_at.result.1.now c.split_at.ensures.back in
    elim c.if-is_well_formed.branch [
      | then-is_well_formed w ↦ flag_decides r (omega arith) (sym w.if-is_well_formed.true ∙ c.is_well_formed.ensures ∙ k) (sym c.if-is_empty.true ∙ w.value-is ∙ w.is_empty.ensures ∙ z)
      | else-is_well_formed w ↦ cc
    ]

pub returns-else-is_empty : goal.returns-else-is_empty
returns-else-is_empty c =
    let r = c.args.r in
    let k = walked r c.split_at.result.0.now c.split_at.ensures.front in
    let z = empty r c.split_at.result.1.now c.split_at.ensures.back in
    c.if-is_empty.false ∙ elim c.if-is_well_formed.branch [
      | then-is_well_formed w ↦ rest_fails r (sym c.if-is_empty.false ∙ w.value-is ∙ w.is_empty.ensures ∙ z)
      | else-is_well_formed w ↦ walk_fails r (sym w.if-is_well_formed.false ∙ c.is_well_formed.ensures ∙ k)
    ]
