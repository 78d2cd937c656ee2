-- `text::Page::put_text` meets its contract: the text is copied to the part of the buffer from the place on.
use Prim.Native.Nat.{◌+◌, ◌-◌}
use mathlib.Core.Path.{◌≡◌, refl}
use native.Mathlib.Omega.{arith}
use lib.ListN.{length}
use Rattle.text.proofs.Typing.{typed_mid}
use Rattle.text.proofs.Page.put_text.Goals as goal

pub returns : goal.returns
returns c =
    let page = c.args.self.now in
    let k : page.at + length c.args.s.now - page.at ≡ length c.args.s.now = omega arith in
    record { typed = rw (k, c.copy_from_slice.ensures.after) (typed_mid page.out.now c.args.s.now page.at c.requires); same = refl }
