-- `bits::read_u` meets its contract: the field's last byte is in the slice exactly if its last bit is.
use Prim.Native.Nat.{ℕ, ◌≤◌}
use mathlib.Core.Path.{◌≡◌, ◌∙◌, sym, ap}
use native.Mathlib.Omega.{arith}
use lib.ListN.{length, drop}
use Rattle.tree.specs.Bits.{bits_of, value_from}
use Rattle.tree.proofs.Bits.{length_rest}
use Rattle.tree.proofs.Elements.{u_ok, u_short}
use Rattle.std.specs.Prelude.{Ok, Err}
use Rattle.bits.specs.Answer.{nameless, read_as, number_of}
use Rattle.bits.proofs.read_u.Goals as goal

pub returns-then-n-eq0 : goal.returns-then-n-eq0
unfolding value_from
returns-then-n-eq0 c =
    let a = c.args in
    let n : a.n ≡ 0 = omega arith in
    rw n (sym (ap number_of (u_ok nameless 0 a.at (drop a.at (bits_of a.s.now)) (omega arith))))

pub returns-then-s-at : goal.returns-then-s-at
returns-then-s-at c =
    let a = c.args in
    ap Err c.at.ensures ∙ sym (ap number_of (u_short nameless a.n a.at (drop a.at (bits_of a.s.now)) (omega (arith, length_rest a.s.now a.at))))

pub returns : goal.returns
returns c =
    let a = c.args in
    let l = drop a.at (bits_of a.s.now) in
    let h : a.n ≤ length l = omega (arith, length_rest a.s.now a.at) in
    ap (λ (v : ℕ). Ok (read_as v a.n)) c.field.ensures ∙ sym (ap number_of (u_ok nameless a.n a.at l h))
