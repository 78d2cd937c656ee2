-- `bits::read_lead` meets its contract: while all bits are zeros, the next byte is all that counts.
use Prim.Native.Nat.{◌+◌, ◌-◌, ◌/◌, ◌%◌}
use mathlib.Core.Path.{◌≡◌, refl, ap, sym}
use native.Mathlib.Omega.{arith}
use lib.ListN.{take, drop}
use Rattle.tree.specs.Bits.{bits_of, value, value_from}
use Rattle.tree.proofs.Bits.{length_rest}
use Rattle.window.proofs.Laws.{shl_one, shl_some}
use Rattle.bits.specs.Answer.{number_of}
use Rattle.bits.proofs.Reading.{rest_of_byte, byte_more, ue_end, ue_overlong}
use Rattle.bits.proofs.read_lead.Goals as goal

pub returns-then-s-i : goal.returns-then-s-i
unfolding value_from
returns-then-s-i c =
    let a = c.args in
    rw c.at.ensures (sym (ap number_of (ue_end a.most a.at (drop a.at (bits_of a.s.now)) 0 (omega (arith, length_rest a.s.now a.at)) (omega arith) refl)))

pub overflow_cast-v : goal.overflow_cast-v
overflow_cast-v c = omega (arith, c.type_inv.s (c.args.at / 8))

pub nonzero_rem-v : goal.nonzero_rem-v
nonzero_rem-v c = shl_some _ (omega arith)

pub loop-v-init : goal.loop-v-init
loop-v-init c =
    let a = c.args in
    (rest_of_byte a.s.now (λ j. (c.type_inv.s j).fits) a.at (omega arith) _ (shl_one (8 - a.at % 8) 64 (omega arith)), omega arith, omega arith, omega arith)

pub returns-then-most-have : goal.returns-then-most-have
returns-then-most-have c =
    let a = c.args in
    let l = c.loop-v in
    let z : value (take l.have (drop a.at (bits_of a.s.now))) ≡ 0 = omega arith in
    rw c.at-then-most-have.ensures (sym (ap number_of (ue_overlong a.most a.at (drop a.at (bits_of a.s.now)) l.have (omega arith) (omega (arith, length_rest a.s.now a.at)) z)))

pub returns-then-s-i-2 : goal.returns-then-s-i-2
returns-then-s-i-2 c =
    let a = c.args in
    let l = c.loop-v in
    let z : value (take l.have (drop a.at (bits_of a.s.now))) ≡ 0 = omega arith in
    rw c.at-then-s-i-2.ensures (sym (ap number_of (ue_end a.most a.at (drop a.at (bits_of a.s.now)) l.have (omega (arith, length_rest a.s.now a.at)) (omega arith) z)))

pub overflow_cast-v-in-loop-v : goal.overflow_cast-v-in-loop-v
overflow_cast-v-in-loop-v c = omega (arith, c.type_inv.s (c.loop-v.i + 1))

pub loop-v-preserved : goal.loop-v-preserved
loop-v-preserved c =
    let a = c.args in
    let l = c.loop-v in
    let m = byte_more a.s.now (λ j. (c.type_inv.s j).fits) a.at l.have (l.i + 1) (omega arith) (omega arith) in
    (omega (arith, m), omega arith, omega arith, omega arith)

pub returns : goal.returns
returns c = let l = c.loop-v in (l.invariant.0, omega arith, l.invariant.1, omega arith, l.invariant.3)
