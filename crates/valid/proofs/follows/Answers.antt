-- `valid::follows` meets its contract: `seen` and `met` are what the places so far make them.
use Rattle.std.proofs.Common.{◌≡◌, refl, sym, ◌<◌, ◌≤◌, length, take_all, Bool, true, false, [], arith}
use mathlib.Core.Bool.{not-not}
use lib.Dec.{eqb}
use mir.Val.{bool_byte}
use Rattle.tree.specs.Bits.{bit}
use Rattle.record.proofs.Laws.{not_or}
use Rattle.valid.specs.Valid.{many, targets, may_follow}
use Rattle.valid.proofs.Laws.{many_places, new_target_places, new_target_none}
use Rattle.valid.proofs.follows.Goals as goal

-- a test as the number that the code counts
byte : (t : Bool) → (bool_byte t ≡ bit t) × (bool_byte t ≤ 1)
byte true = (refl, omega arith)
byte false = (refl, omega arith)

pub loop-place-init : goal.loop-place-init
unfolding many targets
loop-place-init c = record { few = omega arith; seen = refl; met = sym (new_target_none [] c.args.b refl) }

pub overflow_add-seen : goal.overflow_add-seen
overflow_add-seen c = let b = byte (eqb c.level_of.result c.level_of-l.result) in let l = c.requires in omega arith

pub loop-place-preserved : goal.loop-place-preserved
loop-place-preserved c =
    let l = c.loop-place in
    let h : l.place-index < length c.args.before.now = omega arith in
    let t = byte (eqb c.level_of.result c.level_of-l.result) in
    let m = many_places c.args.before.now l.place-index h c.level_of-l.result in
    let n = new_target_places c.args.before.now l.place-index h c.args.b in
    record {
      few = omega arith;
      seen = rw (m, c.from-seen.ensures, t.0, l.invariant.seen, c.level_of.ensures);
      met = rw (n, not_or, c.same_target-met.ensures, not-not, l.invariant.met);
    }

pub returns : goal.returns
unfolding may_follow
returns c =
    let l = c.loop-place in
    rw (c.most_of.ensures, l.invariant.seen, l.invariant.met, c.level_of-l.ensures, take_all l.place-index c.args.before.now c.loop-place-test.false)
