-- `valid::is_well_formed` meets its contract: the walk from place i on says what the walk from the first says.
use Rattle.std.proofs.Common.{◌<◌, length, arith}
use mathlib.Core.Bool.{and-false}
use lib.ListN.{drop_of_length-le}
use Rattle.valid.specs.Valid.{well_formed}
use Rattle.valid.proofs.Laws.{walk_more}
use Rattle.valid.proofs.is_well_formed.Goals as goal
use Rattle.valid.proofs.is_well_formed.Goals.{then-is_fine, else-is_fine}

pub returns-then-not-follows : goal.returns-then-not-follows
returns-then-not-follows c =
    let ps = c.args.places.now in
    let i = c.loop-i.i in
    let h : i < length ps = omega arith in
    elim c.if-is_fine.branch [
      | then-is_fine w ↦ rw (walk_more ps i h, ← c.is_fine.ensures, ← w.follows.ensures, ← w.value-is, c.if-not-follows.true, and-false c.is_fine.result) at c.loop-i.invariant
      | else-is_fine w ↦ rw (walk_more ps i h, ← c.is_fine.ensures, w.if-is_fine.false) at c.loop-i.invariant
    ]

pub loop-i-preserved : goal.loop-i-preserved
loop-i-preserved c =
    let ps = c.args.places.now in
    let i = c.loop-i.i in
    let h : i < length ps = omega arith in
    elim c.if-is_fine.branch [
      | then-is_fine w ↦ rw (walk_more ps i h, ← c.is_fine.ensures, w.if-is_fine.true, ← w.follows.ensures, ← w.value-is, c.if-not-follows.false) at c.loop-i.invariant
      | else-is_fine w ↦ cc
    ]

pub returns : goal.returns
unfolding well_formed
returns c = rw (drop_of_length-le c.args.places.now c.loop-i-test.false) at c.loop-i.invariant
