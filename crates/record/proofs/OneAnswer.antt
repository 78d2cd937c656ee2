-- Each public contract admits one answer: said of the contract itself, as the check reads it.
use mathlib.Core.Path.{sym, ◌∙◌}
use Rattle.bits.proofs.OneAnswer.{OneResult}
use Rattle.record.proofs.Record.without_blocks.Kinds as without-blocks
use Rattle.record.proofs.Record.without_blocks.Reads as without-blocks-contract
use Rattle.record.proofs.Record.empty.Kinds as empty
use Rattle.record.proofs.Record.empty.Reads as empty-contract
use Rattle.record.proofs.level_of.Kinds as level_of_lem
use Rattle.record.proofs.level_of.Reads as level-of-contract
use Rattle.record.proofs.is_known.Kinds as is_known
use Rattle.record.proofs.is_known.Reads as is-known-contract
use Rattle.record.proofs.bytes_of.Kinds as bytes_of
use Rattle.record.proofs.bytes_of.Reads as bytes-of-contract
use Rattle.record.proofs.padding_of.Kinds as padding-of
use Rattle.record.proofs.padding_of.Reads as padding-of-contract
use Rattle.record.proofs.most_of.Kinds as most-of
use Rattle.record.proofs.most_of.Reads as most-of-contract
use Rattle.record.proofs.in_range.Kinds as in-range
use Rattle.record.proofs.in_range.Reads as in-range-contract
use Rattle.record.proofs.in_order.Kinds as in_order
use Rattle.record.proofs.in_order.Reads as in-order-contract
use Rattle.record.proofs.most_blocks.Kinds as most-blocks
use Rattle.record.proofs.most_blocks.Reads as most-blocks-contract

pub without_blocks_one : OneResult without-blocks.ps without-blocks.r without-blocks-contract.Post
without_blocks_one κs a x y s t e f = e ∙ sym f

pub empty_one : OneResult empty.ps empty.r empty-contract.Post
empty_one κs a x y s t e f = e ∙ sym f

pub level_of_one : OneResult level_of_lem.ps level_of_lem.r level-of-contract.Post
level_of_one κs a x y s t e f = e ∙ sym f

pub is_known_one : OneResult is_known.ps is_known.r is-known-contract.Post
is_known_one κs a x y s t e f = e ∙ sym f

pub bytes_of_one : OneResult bytes_of.ps bytes_of.r bytes-of-contract.Post
bytes_of_one κs a x y s t e f = e ∙ sym f

pub padding_of_one : OneResult padding-of.ps padding-of.r padding-of-contract.Post
padding_of_one κs a x y s t e f = e ∙ sym f

pub most_of_one : OneResult most-of.ps most-of.r most-of-contract.Post
most_of_one κs a x y s t e f = e ∙ sym f

pub in_range_one : OneResult in-range.ps in-range.r in-range-contract.Post
in_range_one κs a x y s t e f = e ∙ sym f

pub in_order_one : OneResult in_order.ps in_order.r in-order-contract.Post
in_order_one κs a x y s t e f = e ∙ sym f

pub most_blocks_one : OneResult most-blocks.ps most-blocks.r most-blocks-contract.Post
most_blocks_one κs a x y s t e f = e ∙ sym f
