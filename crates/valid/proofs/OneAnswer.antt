-- Each public contract admits one answer: said of the contract itself, as the check reads it.
use mathlib.Core.Path.{sym, ◌∙◌}
use Rattle.bits.proofs.OneAnswer.{OneResult}
use Rattle.valid.proofs.may_follow.Kinds as may-follow
use Rattle.valid.proofs.may_follow.Reads as may-follow-contract
use Rattle.valid.proofs.with_block.Kinds as with-block
use Rattle.valid.proofs.with_block.Reads as with-block-contract
use Rattle.valid.proofs.is_valid.Kinds as is_valid_lem
use Rattle.valid.proofs.is_valid.Reads as is-valid-contract

pub may_follow_one : OneResult may-follow.ps may-follow.r may-follow-contract.Post
may_follow_one κs a x y s t e f = e ∙ sym f

pub with_block_one : OneResult with-block.ps with-block.r with-block-contract.Post
with_block_one κs a x y s t e f = e ∙ sym f

pub is_valid_one : OneResult is_valid_lem.ps is_valid_lem.r is-valid-contract.Post
is_valid_one κs a x y s t e f = e ∙ sym f
