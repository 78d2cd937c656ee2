-- `emulation::escaped_length` meets its contract: the bytes counted and those to come from the next byte on are all of them.
use Rattle.std.proofs.Common.{◌≡◌, ℕ, ◌+◌, ◌<◌, ◌≤◌, List, [], length, get_or, Bool, true, false, arith}
use lib.ListN.{drop_of_length-le}
use mir.Val.{bool_byte}
use Rattle.emulation.specs.Emulation.{needs_emulation, put_before, escaped_behind}
use Rattle.emulation.proofs.Loops.{escaped_step, few_zeros}
use Rattle.emulation.proofs.escaped_length.Goals as goal

-- the emulation byte counts one
length_put : (put : Bool) (s : List ℕ) → (length (put_before put s) ≡ bool_byte put + length s) × (bool_byte put ≤ 1)
length_put true s = (omega arith, omega arith)
length_put false s = (omega arith, omega arith)

pub loop-b-preserved : goal.loop-b-preserved
loop-b-preserved c =
    let l = c.loop-b in
    let s = c.args.s.now in
    let b = get_or s l.b-index 0 in
    let e = c.escape-put in
    let h : l.b-index < length s = omega arith in
    let p = length_put e.result.0 [] in
    record {
      few = omega (arith, e.ensures.zeros, few_zeros l.zeros (needs_emulation l.zeros b) b);
      short = omega (arith, c.from.ensures);
      counted =
          let f = rw (escaped_step s l.b-index h l.zeros e.result.0 e.result.1 e.ensures.put e.ensures.zeros, (length_put e.result.0 _).0) at l.invariant.counted in
          omega (arith, c.from.ensures);
    }

pub returns : goal.returns
unfolding escaped_behind
returns c =
    let f = rw (drop_of_length-le c.args.s.now c.loop-b-test.false) at c.loop-b.invariant.counted in omega arith
