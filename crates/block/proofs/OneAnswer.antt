-- The public contract admits one answer.
use mathlib.Core.Path.{sym, ◌∙◌}
use Rattle.bits.proofs.OneAnswer.{OneResult}
use Rattle.block.proofs.read_block.Kinds as read-block
use Rattle.block.proofs.read_block.Reads as read-block-contract

pub read_block_one : OneResult read-block.ps read-block.r read-block-contract.Post
read_block_one κs a x y s t e f = e ∙ sym f
