-- Each public contract admits one answer: said of the contract itself, as the check reads it.
use mathlib.Core.Path.{sym, ◌∙◌}
use Rattle.bits.proofs.OneAnswer.{OneResult}
use Rattle.head.proofs.zeros_behind.Kinds as zeros-behind
use Rattle.head.proofs.zeros_behind.Reads as zeros-behind-contract
use Rattle.head.proofs.read_head.Kinds as read_head
use Rattle.head.proofs.read_head.Reads as read-head-contract

pub zeros_behind_one : OneResult zeros-behind.ps zeros-behind.r zeros-behind-contract.Post
zeros_behind_one κs a x y s t e f = e.0 ∙ sym f.0

pub read_head_one : OneResult read_head.ps read_head.r read-head-contract.Post
read_head_one κs a x y s t e f = e ∙ sym f
