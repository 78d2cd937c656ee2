-- `bits::read_ue` meets its contract: the byte that holds the first one tells how many zeros there are, and so how wide the code is.
use Prim.Native.Nat.{ℕ, ◌+◌, ◌-◌, ◌/◌, ◌^◌, ◌<◌, ◌≤◌}
use mathlib.Core.Path.{◌≡◌, ap, sym, ◌∙◌}
use native.Mathlib.Omega.{arith}
use mathlib.Core.List.{List}
use mathlib.Core.Bool.{Bool}
use lib.ListN.{length, take, drop}
use Rattle.tree.specs.Bits.{bits_of, value}
use Rattle.tree.proofs.Bits.{length_rest, value-take_lt}
use Rattle.window.proofs.Laws.{front}
use Rattle.std.specs.Prelude.{Err}
use Rattle.bits.specs.Answer.{number_of}
use Rattle.bits.proofs.Reading.{ue_overlong}
use Rattle.bits.proofs.read_ue.Goals as goal

-- where the number of n bits says that z zeros stand before their first one, so do the bits
first_one : (l : List Bool) (n v z : ℕ) → v ≡ value (take n l) → z < n → n ≤ length l → v / 2 ^ (n - (z + 1)) ≡ 1 → value (take (z + 1) l) ≡ 1
first_one l n v z e h t o = sym (front l n (z + 1) (omega arith) t) ∙ ap (λ (x : ℕ). x / 2 ^ (n - (z + 1))) (sym e) ∙ o

pub zeros_before-zeros-requires : goal.zeros_before-zeros-requires
zeros_before-zeros-requires c =
    let l = c.in_ok-lead.ensures in
    let n = c.in_ok-lead.lead.width in
    (l.1, rw l.0 (value-take_lt (drop c.args.at (bits_of c.args.s.now)) n n (omega arith)))

pub read_code-requires : goal.read_code-requires
read_code-requires c =
    let l = c.in_ok-lead.ensures in
    let z = c.zeros_before-zeros.ensures in
    let r = length_rest c.args.s.now c.args.at in
    let one = first_one (drop c.args.at (bits_of c.args.s.now)) c.in_ok-lead.lead.width c.in_ok-lead.lead.value c.zeros_before-zeros.result l.0 z.0 (omega (arith, r, l)) z.1 in
    (l.0, l.2, l.3, z.0, omega (arith, l.4), one, omega arith, omega arith)

pub returns-then-too_many : goal.returns-then-too_many
returns-then-too_many c =
    let a = c.args in
    let b = drop a.at (bits_of a.s.now) in
    let l = c.in_ok-lead.ensures in
    let z = c.zeros_before-zeros.ensures in
    let k = c.zeros_before-zeros.result in
    let r = length_rest a.s.now a.at in
    let one = first_one b c.in_ok-lead.lead.width c.in_ok-lead.lead.value k l.0 z.0 (omega (arith, r, l)) z.1 in
    let h : k + 1 - k ≡ 1 = omega arith in
    let none : value (take k b) ≡ 0 = sym (front b (k + 1) k (omega arith) (omega (arith, r, l, z.0))) ∙ rw (one, h) in
    ap Err c.at.ensures ∙ sym (ap number_of (ue_overlong a.most a.at b k (omega arith) (omega (arith, r, l, z.0)) none))

pub returns : goal.returns
returns c = c.read_code.ensures c.args.most (omega arith)
