-- `emulation::insert` meets its contract: the bytes written and those to come from the next byte on are the whole.
use Rattle.std.proofs.Common.{◌<◌, ◌∷◌, length, get_or, drop, ◌+◌, sym, ◌∙◌, true, false, arith}
use lib.ListN.{drop_of_length-le}
use Rattle.emulation.specs.Emulation.{escaped, escaped_behind, needs_emulation}
use Rattle.emulation.proofs.Loops.{escaped_step, few_zeros, Filled, one_filled, all_filled}
use Rattle.emulation.proofs.insert.Goals as goal
use Rattle.emulation.proofs.insert.Goals.{Joined-put, then-put, else-put}

pub bounds-out-n : goal.bounds-out-n
bounds-out-n c =
    let l = c.loop-b in
    let e = c.escape-put in
    let h : l.b-index < length c.args.s.now = omega arith in
    let f = rw (escaped_step c.args.s.now l.b-index h l.zeros true e.result.1 (sym c.if-put.true ∙ e.ensures.put) e.ensures.zeros) at l.invariant.filled in omega arith

-- behind the emulation byte, or where none is needed, the byte itself comes
joined : (c : Joined-put) →
    let i = c.loop-b.b-index in
    let s = c.args.s.now in
    Filled c.args.out.now (escaped s) c.if-put.out c.if-put.n (get_or s i 0 ∷ escaped_behind c.escape-put.result.1 (drop (i + 1) s))
joined c =
    let l = c.loop-b in
    let s = c.args.s.now in
    let e = c.escape-put in
    let h : l.b-index < length s = omega arith in
    elim c.if-put.branch [
      | then-put w ↦ rw (w.out-is, w.n-is) (one_filled (rw (escaped_step s l.b-index h l.zeros true e.result.1 (sym w.if-put.true ∙ e.ensures.put) e.ensures.zeros) at l.invariant.filled))
      | else-put w ↦ rw (w.out-is, w.n-is) (rw (escaped_step s l.b-index h l.zeros false e.result.1 (sym w.if-put.false ∙ e.ensures.put) e.ensures.zeros) at l.invariant.filled)
    ]

pub bounds-out-n-in-loop-b : goal.bounds-out-n-in-loop-b
bounds-out-n-in-loop-b c = let j = joined (goal.at.bounds-out-n-in-loop-b c).Joined-put in omega arith

pub loop-b-preserved : goal.loop-b-preserved
loop-b-preserved c =
    let l = c.loop-b in
    let b = get_or c.args.s.now l.b-index 0 in
    record {
      few = omega (arith, c.escape-put.ensures.zeros, few_zeros l.zeros (needs_emulation l.zeros b) b);
      filled = one_filled (joined (goal.at.loop-b-preserved c).Joined-put);
    }

pub returns : goal.returns
unfolding escaped_behind
returns c =
    record { buffer = (all_filled (rw (drop_of_length-le c.args.s.now c.loop-b-test.false) at c.loop-b.invariant.filled)).1 }
