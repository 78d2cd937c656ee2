-- `text::digits_of` meets its contract: the power of ten that n does not pass tells its digits.
use native.Mathlib.Omega.{arith}
use Rattle.text.proofs.Decimals.{size_by_log, length-decimal}
use Rattle.text.proofs.digits_of.Goals as goal

pub returns : goal.returns
returns c =
    let power = c.ilog10.ensures in
    let e = size_by_log c.ilog10.result c.args.n (rw c.max.ensures at power.power_le) (rw c.max.ensures at power.next_power_gt) in
    (omega (arith, e, length-decimal c.args.n), omega (arith, power.bound))
