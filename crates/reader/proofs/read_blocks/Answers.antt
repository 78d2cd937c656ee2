-- `reader::read_blocks` meets its contract. The invariant: the record holds the known blocks met, what is kept of them is theirs, the others
-- are counted, and the answer from here is the answer from the start.
use Prim.Native.Nat.{◌+◌}
use mathlib.Core.Path.{◌≡◌, refl, ◌∙◌, sym}
use mathlib.Core.List.{List}
use mathlib.Core.Bool.{false}
use native.Mathlib.Omega.{arith}
use lib.ListN.{drop}
use Rattle.std.proofs.Common.{Option, Ok, Some, rules}
use Rattle.refusals.specs.declared.Refusal.{Refusal}
use Rattle.tree.specs.Bits.{bits_of}
use Rattle.tree.specs.Syntax.{read}
use Rattle.record.specs.declared.Block.{Block}
use Rattle.valid.specs.Valid.{many, targets, may_follow}
use Rattle.met.specs.declared.Met.{Met}
use Rattle.met.specs.Met.{Counts, met_of, repeat_of}
use Rattle.syntax.specs.Data.{announced, block}
use Rattle.block.specs.Parts.{part_of}
use Rattle.block.specs.declared.Part.TheVariants.{Kept, Passed}
use Rattle.reader.specs.Reading.{summary, end_from}
use Rattle.reader.proofs.Laws.{reached_none, reached_near, reached_counted, reached_all, reached_no, reached_past, reached_range, reached_told, reached_repeated, reached_room, reached_more, blocks_from, told_on, end_told, end_there, no_blocks_lem, no_end, at_the_end}
use Rattle.reader.proofs.read_blocks.Goals.{In-Passed, In-Kept, in-Passed, in-Kept+else-not-admits}
use Rattle.reader.proofs.read_blocks.Goals as goal

pub loop-i-init : goal.loop-i-init
unfolding many targets
loop-i-init c =
    let a = c.args in
    rw (c.without_blocks-r.ensures, c.nothing-seen.ensures) (reached_none a.refresh (bits_of a.s.now) a.start a.n)

-- ---- the next block

pub overflow_add-at : goal.overflow_add-at
overflow_add-at c = omega (arith, reached_near c.loop-i.invariant c.requires)

pub read_block-requires : goal.read_block-requires
read_block-requires c = omega (arith, reached_near c.loop-i.invariant c.requires)

pub refused_data-requires : goal.refused_data-requires
refused_data-requires c =
    let a = c.args in
    told_on (bits_of a.s.now) (blocks_from (announced a.refresh a.n) a.start (drop a.start (bits_of a.s.now))) c.in-Err.why
    (reached_no c.loop-i.invariant c.loop-i-test.true (sym c.in-Err.is ∙ c.read_block.ensures))
    (no_blocks_lem (bits_of a.s.now) (announced a.refresh a.n) a.start c.requires)

-- ---- one that is passed over

passed : (c : In-Passed)
    → Ok (Passed c.in-Passed.w) ≡ part_of (read block (c.args.start + c.loop-i.width) (drop (c.args.start + c.loop-i.width) (bits_of c.args.s.now)))
passed c = rw c.in-Passed.is at (sym c.in-Ok.is ∙ c.read_block.ensures)

pub overflow_add-skipped : goal.overflow_add-skipped
overflow_add-skipped c = omega (arith, reached_near c.loop-i.invariant c.requires)

pub overflow_add-width : goal.overflow_add-width
overflow_add-width c =
    let x = reached_past c.loop-i.invariant c.loop-i-test.true (passed (goal.at.overflow_add-width c).In-Passed) in
    omega (arith, reached_near x c.requires)

-- ---- one that is known

known : (c : In-Kept)
    → Ok (Kept c.in-Kept.m c.in-Kept.block) ≡ part_of (read block (c.args.start + c.loop-i.width) (drop (c.args.start + c.loop-i.width) (bits_of c.args.s.now)))
known c = rw c.in-Kept.is at (sym c.in-Ok.is ∙ c.read_block.ensures)

-- what hangs on the counts alone holds of what is kept of the blocks
by_counts : (m : Met) (b : Block) {told : Option Refusal} → ((before : List Block) → Counts m before → may_follow before b ≡ false → told ≡ repeat_of before b)
    → (before : List Block) → m ≡ met_of before → may_follow before b ≡ false → told ≡ repeat_of before b
by_counts m b h before e f = h before (rw e (refl, refl, refl)) f

pub admits-requires : goal.admits-requires
admits-requires c = reached_range c.loop-i.invariant c.loop-i-test.true (known (goal.at.admits-requires c).In-Kept)

pub unwrap-refusal-requires : goal.unwrap-refusal-requires
unwrap-refusal-requires c =
    let t = reached_told c.loop-i.invariant c.loop-i-test.true (known (goal.at.unwrap-refusal-requires c).In-Kept) c.admits.ensures c.if-not-admits.true (by_counts c.loop-i.seen c.in-Kept.block c.repeat_of.ensures) in
    rw t refl

pub refused_data-requires-then-not-admits : goal.refused_data-requires-then-not-admits
refused_data-requires-then-not-admits c =
    let a = c.args in
    let is : c.repeat_of.result ≡ Some c.unwrap-refusal.result = search rules in
    rw c.at.ensures
    (told_on (bits_of a.s.now) (blocks_from (announced a.refresh a.n) a.start (drop a.start (bits_of a.s.now))) _
    (reached_repeated c.loop-i.invariant c.loop-i-test.true (known (goal.at.refused_data-requires-then-not-admits c).In-Kept) c.admits.ensures c.if-not-admits.true (by_counts c.loop-i.seen c.in-Kept.block c.repeat_of.ensures) is c.repeated.ensures)
    (no_blocks_lem (bits_of a.s.now) (announced a.refresh a.n) a.start c.requires))

pub include-requires : goal.include-requires
include-requires c = reached_counted c.loop-i.invariant

pub overflow_cast-r : goal.overflow_cast-r
overflow_cast-r c =
    let room = reached_room c.loop-i.invariant c.loop-i-test.true (known (goal.at.overflow_cast-r c).In-Kept) c.admits.ensures c.if-not-admits.false in
    omega (arith, room)

pub offset_bounds-r-r : goal.offset_bounds-r-r
offset_bounds-r-r c =
    let room = reached_room c.loop-i.invariant c.loop-i-test.true (known (goal.at.offset_bounds-r-r c).In-Kept) c.admits.ensures c.if-not-admits.false in
    omega (arith, room)

pub bounds-r-r : goal.bounds-r-r
bounds-r-r c = reached_room c.loop-i.invariant c.loop-i-test.true (known (goal.at.bounds-r-r c).In-Kept) c.admits.ensures c.if-not-admits.false

pub overflow_add-r : goal.overflow_add-r
overflow_add-r c =
    let room = reached_room c.loop-i.invariant c.loop-i-test.true (known (goal.at.overflow_add-r c).In-Kept) c.admits.ensures c.if-not-admits.false in
    omega (arith, room)

pub overflow_add-width-in-Kept : goal.overflow_add-width-in-Kept
overflow_add-width-in-Kept c =
    let x = reached_more c.loop-i.invariant c.loop-i-test.true (known (goal.at.overflow_add-width-in-Kept c).In-Kept) c.admits.ensures c.if-not-admits.false c.include.ensures.kept in
    omega (arith, reached_near x c.requires)

pub loop-i-preserved : goal.loop-i-preserved
loop-i-preserved c =
    let x = c.loop-i.invariant in
    let i = c.loop-i-test.true in
    let o = sym c.in-Ok.is ∙ c.read_block.ensures in
    elim c.match-part.branch [
      | in-Passed w ↦ rw (w.r-is, w.seen-is, w.width-is, w.skipped-is) (reached_past x i (rw w.in-Passed.is at o))
      | in-Kept+else-not-admits w ↦
          rw (w.r-is, w.seen-is, w.width-is, w.skipped-is) (reached_more x i (rw w.in-Kept.is at o) w.admits.ensures w.if-not-admits.false w.include.ensures.kept)
    ]

-- ---- the end

pub overflow_add-start : goal.overflow_add-start
overflow_add-start c = omega (arith, reached_near c.loop-i.invariant c.requires)

pub read_end-requires : goal.read_end-requires
read_end-requires c = omega (arith, reached_near c.loop-i.invariant c.requires)

pub refused_data-requires-in-Err-read_end : goal.refused_data-requires-in-Err-read_end
refused_data-requires-in-Err-read_end c =
    let a = c.args in
    let l = c.loop-i in
    let o = end_from (a.start + l.width) (drop (a.start + l.width) (bits_of a.s.now)) in
    told_on (bits_of a.s.now) o c.in-Err-read_end.why (end_told o c.in-Err-read_end.why (sym c.in-Err-read_end.is ∙ c.read_end.ensures))
    (no_end (bits_of a.s.now) (announced a.refresh a.n) a.start c.requires (summary l.r l.skipped) l.width (reached_all l.invariant (omega arith)))

pub returns-in-Ok-read_end : goal.returns-in-Ok-read_end
returns-in-Ok-read_end c =
    let a = c.args in
    let l = c.loop-i in
    let f = end_there (end_from (a.start + l.width) (drop (a.start + l.width) (bits_of a.s.now))) c.in-Ok-read_end.bits (sym c.in-Ok-read_end.is ∙ c.read_end.ensures) in
    rw c.nothing.ensures (at_the_end (bits_of a.s.now) (announced a.refresh a.n) a.start c.requires (summary l.r l.skipped) l.width (reached_all l.invariant (omega arith)) c.in-Ok-read_end.bits f.0 f.1)
