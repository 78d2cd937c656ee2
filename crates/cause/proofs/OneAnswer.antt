-- Each public contract admits one answer.
use mathlib.Core.Path.{sym, ◌∙◌}
use Rattle.bits.proofs.OneAnswer.{OneResult}
use Rattle.cause.proofs.nothing.Kinds as nothing
use Rattle.cause.proofs.nothing.Reads as nothing-contract
use Rattle.cause.proofs.untold.Kinds as untold
use Rattle.cause.proofs.untold.Reads as untold-contract
use Rattle.cause.proofs.range.Kinds as range
use Rattle.cause.proofs.range.Reads as range-contract
use Rattle.cause.proofs.cause_at.Kinds as cause-at
use Rattle.cause.proofs.cause_at.Reads as cause-at-contract

pub nothing_one : OneResult nothing.ps nothing.r nothing-contract.Post
nothing_one κs a x y s t e f = e ∙ sym f

pub untold_one : OneResult untold.ps untold.r untold-contract.Post
untold_one κs a x y s t e f = e ∙ sym f

pub range_one : OneResult range.ps range.r range-contract.Post
range_one κs a x y s t e f = e ∙ sym f

pub cause_at_one : OneResult cause-at.ps cause-at.r cause-at-contract.Post
cause_at_one κs a x y s t e f = e ∙ sym f
