-- `pen::Pen::put_i` meets its contract: the last n bits of v in 32.
use mathlib.Core.Path.{◌≡◌, ◌∙◌, ap}
use mir.Syntax.{w32}
use mir.Val.{of_z}
use mir.ValLaws.{to_z-of_z}
use Rattle.pen.proofs.Writing.{code_signed}
use Rattle.pen.proofs.Pen.put_i.Goals as goal

pub returns : goal.returns
returns c =
    let a = c.args in
    let e : c.cast_unsigned.result ≡ of_z w32 a.v = c.cast_unsigned.ensures ∙ ap (of_z w32) (to_z-of_z w32 a.v c.ranges.v) in
    rw (e, code_signed a.n a.v c.requires.2 c.requires.3) at c.put_u.ensures
