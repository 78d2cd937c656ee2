-- `text::Page::put_signed` meets its contract: the key, the sign, then the digits and the line's end.
use mathlib.Core.Path.{sym, subst}
use mathlib.Core.List.{List}
use Prim.Native.Nat.{ℕ}
use mir.Syntax.{w16}
use mir.ValLaws.{to_z-of_z}
use Rattle.text.specs.Text.{ascii, sign}
use Rattle.text.specs.Page.{TypedOn}
use Rattle.text.proofs.Typing.{typed_on_then, typed_on_nothing}
use Rattle.text.proofs.Signs.{minus_sign_lem, no_sign, signed_entry}
use Rattle.text.proofs.Page.put_signed.Goals as goal
use Rattle.text.proofs.Page.put_signed.Goals.{After-put_text, Joined-n-lt0, then-n-lt0, else-n-lt0}

-- the sign was typed, where there is one
signed : (c : Joined-n-lt0) → TypedOn c.put_text.new.self (sign c.args.n) c.if-n-lt0.self
unfolding ascii
signed c =
    let p = c.put_text.new.self in
    elim c.if-n-lt0.branch [
      | then-n-lt0 w ↦ rw w.self-is (subst (λ (t : List ℕ). TypedOn p t w.put_text-then-n-lt0.new.self) (sym (minus_sign_lem c.args.n c.ranges.n w.if-n-lt0.true)) w.put_text-then-n-lt0.ensures)
      | else-n-lt0 w ↦ rw (w.self-is, no_sign c.args.n c.ranges.n w.if-n-lt0.false) (typed_on_nothing p)
    ]

pub returns : goal.returns
returns c =
    let a = goal.at.returns c in
    let line = rw (c.unsigned_abs.ensures.value, to_z-of_z w16 c.args.n c.ranges.n) at c.put_line.ensures in
    subst (λ (t : List ℕ). TypedOn c.args.self.now t c.put_line.new.self) (sym (signed_entry c.args.key.now c.args.n))
    (typed_on_then c.put_text.ensures (typed_on_then (signed a.Joined-n-lt0) line))
