-- `cause::cause_at` meets its contract: what stands at the offset shows the cause.
use Prim.Native.Nat.{ℕ}
use mathlib.Core.Path.{◌≡◌, ap, sym, ◌∙◌}
use mathlib.Core.Logic.{inl, inr}
use native.Mathlib.Omega.{arith}
use Rattle.tree.specs.Bits.{bits_of}
use Rattle.tree.proofs.Bits.{length_rest}
use Rattle.bits.specs.declared.Number.{Number}
use Rattle.syntax.proofs.Near.{told_near}
use Rattle.cause.specs.Cause.{range}
use Rattle.cause.proofs.Laws.{told_is_shown, a_code}
use Rattle.cause.proofs.cause_at.Goals as goal

pub returns-in-PastEnd : goal.returns-in-PastEnd
returns-in-PastEnd c =
    let shown = told_is_shown (bits_of c.args.s.now) c.args.why c.requires in
    c.untold.ensures ∙ elim c.in-PastEnd.is [ inl e ↦ sym (rw e at shown) | inr e ↦ sym (rw e at shown) ]

pub returns-in-NotZero : goal.returns-in-NotZero
returns-in-NotZero c = c.range.ensures ∙ sym (rw c.in-NotZero.is at (told_is_shown (bits_of c.args.s.now) c.args.why c.requires))

pub overflow_add-at : goal.overflow_add-at
overflow_add-at c = let near = told_near (bits_of c.args.s.now) c.args.why c.requires in omega arith

pub overflow_sub-s : goal.overflow_sub-s
overflow_sub-s c =
    let over = rw c.in-BytesRemain.is at (told_is_shown (bits_of c.args.s.now) c.args.why c.requires) in
    omega (arith, over.0, length_rest c.args.s.now c.args.why.offset)

pub returns-in-BytesRemain : goal.returns-in-BytesRemain
returns-in-BytesRemain c =
    let over = rw c.in-BytesRemain.is at (told_is_shown (bits_of c.args.s.now) c.args.why c.requires) in
    c.range-in-BytesRemain.ensures ∙ ap (λ (v : ℕ). range c.args.why.element v 0 0) (omega (arith, over.0, length_rest c.args.s.now c.args.why.offset)) ∙ sym over.1

pub read_ue-requires : goal.read_ue-requires
read_ue-requires c = let near = told_near (bits_of c.args.s.now) c.args.why c.requires in omega arith

pub unreachable-requires : goal.unreachable-requires
unreachable-requires c =
    let d = c.in_default in
    let k = a_code (bits_of c.args.s.now) c.args.why c.requires d.not-PastEnd d.not-TooManyZeros d.not-NotZero d.not-BytesRemain in
    c.in_default-read_ue.not-Ok k.code (c.read_ue.ensures ∙ k.again)

pub overflow_add-at-in_default : goal.overflow_add-at-in_default
overflow_add-at-in_default c =
    let d = c.in_default in
    let k = a_code (bits_of c.args.s.now) c.args.why c.requires d.not-PastEnd d.not-TooManyZeros d.not-NotZero d.not-BytesRemain in
    let e : c.in-Ok.code ≡ k.code = cc in
    omega (arith, k.short, ap (λ (n : Number). n.width) e, told_near (bits_of c.args.s.now) c.args.why c.requires)

pub of_code-requires : goal.of_code-requires
of_code-requires c =
    let d = c.in_default in
    let k = a_code (bits_of c.args.s.now) c.args.why c.requires d.not-PastEnd d.not-TooManyZeros d.not-NotZero d.not-BytesRemain in
    let e : c.in-Ok.code ≡ k.code = cc in
    rw e (omega (arith, k.short, told_near (bits_of c.args.s.now) c.args.why c.requires), k.shown)
