-- `text::fill_with_digits` meets its contract: the digit that is stored is the last one of the rest.
use Prim.Native.Nat.{◌+◌, ◌-◌}
use mathlib.Core.Path.{◌≡◌, ◌∙◌}
use mathlib.Core.List.{◌++◌}
use native.Mathlib.Omega.{arith}
use lib.ListN.{length, drop, length-set}
use Rattle.text.specs.Text.{digits}
use Rattle.text.proofs.Decimals.{digit_stored}
use Rattle.text.proofs.fill_with_digits.Goals as goal

pub loop-i-preserved : goal.loop-i-preserved
loop-i-preserved c =
    let l = c.loop-i in
    let i = l.i - 1 in
    let e : i + 1 ≡ l.i = omega arith in
    let standing : digits (i + 1) l.rest ++ drop (i + 1) l.place ≡ digits (length l.place) c.args.n = rw e l.invariant in
    rw (length-set l.place i _) (digit_stored i l.rest l.place (omega arith) ∙ standing)

pub returns : goal.returns
unfolding digits
returns c =
    let l = c.loop-i in
    let e : l.i ≡ 0 = omega arith in
    rw (e, l.auto.place) at l.invariant
