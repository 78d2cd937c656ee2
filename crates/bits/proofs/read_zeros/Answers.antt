-- `bits::read_zeros` meets its contract: behind zero bits, the answer for those that are left is the answer for all.
use Prim.Native.Nat.{ℕ, ◌+◌, ◌-◌, ◌/◌, ◌^◌, ◌<◌}
use mathlib.Core.Path.{◌≡◌, refl, ◌∙◌, sym, ap}
use native.Mathlib.Omega.{arith}
use native.Mathlib.Nat.{add-zero, zero-div, pos_of_ne-zero}
use lib.ListN.{drop}
use Rattle.tree.specs.Bits.{bits_of, value_from}
use Rattle.tree.specs.Syntax.{read, zero_bits}
use Rattle.tree.proofs.Bits.{length_rest}
use Rattle.std.specs.Prelude.{Err}
use Rattle.refusals.specs.declared.Refusal.TheVariants.{PastEnd}
use Rattle.bits.specs.Answer.{unread, span_of}
use Rattle.bits.proofs.Reading.{zeros_end}
use Rattle.bits.proofs.Zeros.{checked_none, checked_broken, checked_end, checked_more, checked_last_broken, checked_all}
use Rattle.bits.proofs.read_zeros.Goals as goal

pub returns-then-n-eq0 : goal.returns-then-n-eq0
unfolding read zero_bits
returns-then-n-eq0 c = let n : c.args.n ≡ 0 = omega arith in rw n

pub returns-then-s-i : goal.returns-then-s-i
unfolding value_from
returns-then-s-i c =
    let a = c.args in
    ap Err c.at.ensures ∙ ap (λ (w : ℕ). Err (unread PastEnd w)) (sym (add-zero a.at))
    ∙ sym (ap span_of (zeros_end a.n a.at (drop a.at (bits_of a.s.now)) 0 (omega (arith, length_rest a.s.now a.at)) (omega arith) refl))

pub overflow_cast-v : goal.overflow_cast-v
overflow_cast-v c = omega (arith, c.type_inv.s (c.args.at / 8))

pub loop-have-init : goal.loop-have-init
loop-have-init c =
    let a = c.args in
    checked_none a.s.now (λ j. (c.type_inv.s j).fits) a.at a.n (omega arith) (omega arith)

pub overflow_sub-n : goal.overflow_sub-n
overflow_sub-n c = let x = c.loop-have.invariant in omega (arith, x.few)

pub refuse_one-requires : goal.refuse_one-requires
refuse_one-requires c = let x = c.loop-have.invariant in (omega (arith, x.unread), omega arith, x.byte)

pub returns-then-v-ne0 : goal.returns-then-v-ne0
returns-then-v-ne0 c =
    let a = c.args in
    let l = c.loop-have in
    let r = c.refuse_one.ensures in
    ap Err r.3 ∙ checked_broken a.s.now (λ j. (c.type_inv.s j).fits) a.at a.n l.i l.have l.v l.left l.invariant (omega arith) (λ e. omega arith) r.0 r.1 r.2

pub overflow_mul-i : goal.overflow_mul-i
overflow_mul-i c = let x = c.loop-have.invariant in omega (arith, x.ends, x.few)

pub returns-then-s-i-2 : goal.returns-then-s-i-2
returns-then-s-i-2 c =
    let a = c.args in
    let l = c.loop-have in
    ap Err c.at-then-s-i-2.ensures ∙ checked_end a.s.now (λ j. (c.type_inv.s j).fits) a.at a.n l.i l.have l.v l.left l.invariant (omega arith) (omega arith) (omega arith)

pub overflow_cast-v-in-loop-have : goal.overflow_cast-v-in-loop-have
overflow_cast-v-in-loop-have c = omega (arith, c.type_inv.s (c.loop-have.i + 1))

pub loop-have-preserved : goal.loop-have-preserved
loop-have-preserved c =
    let a = c.args in
    let l = c.loop-have in
    checked_more a.s.now (λ j. (c.type_inv.s j).fits) a.at a.n l.i l.have l.v l.left l.invariant (omega arith) (omega arith) (omega arith)

pub overflow_sub-n-then-v-left-ne0 : goal.overflow_sub-n-then-v-left-ne0
overflow_sub-n-then-v-left-ne0 c = let x = c.loop-have.invariant in omega (arith, x.few)

-- a number whose first digits are not 0 is above 0
some_digit : (v k : ℕ) → (v / 2 ^ k ≡ 0 → ⊥) → 0 < v
some_digit v k h = pos_of_ne-zero (λ (e : v ≡ 0). h (rw e (zero-div (2 ^ k))))

pub refuse_one-requires-then-v-left-ne0 : goal.refuse_one-requires-then-v-left-ne0
refuse_one-requires-then-v-left-ne0 c = let l = c.loop-have in (omega (arith, l.invariant.unread), some_digit l.v (8 - l.left) c.if-v-left-ne0.true, l.invariant.byte)

pub returns-then-v-left-ne0 : goal.returns-then-v-left-ne0
returns-then-v-left-ne0 c =
    let a = c.args in
    let l = c.loop-have in
    let r = c.refuse_one-then-v-left-ne0.ensures in
    ap Err r.3 ∙ checked_last_broken a.s.now (λ j. (c.type_inv.s j).fits) a.at a.n l.i l.have l.v l.left l.invariant (omega arith) c.if-v-left-ne0.true r.0 r.1 r.2

pub returns : goal.returns
returns c =
    let a = c.args in
    let l = c.loop-have in
    checked_all a.s.now (λ j. (c.type_inv.s j).fits) a.at a.n l.i l.have l.v l.left l.invariant (omega arith) (omega arith)
