-- Each public contract admits one answer: said of the contract itself, as the check reads it.
use mathlib.Core.Path.{sym, ◌∙◌}
use Rattle.bits.proofs.OneAnswer.{OneResult}
use Rattle.fields.proofs.fields_of.Kinds as fields-of
use Rattle.fields.proofs.fields_of.Reads as fields-of-contract

pub fields_of_one : OneResult fields-of.ps fields-of.r fields-of-contract.Post
fields_of_one κs a x y s t e f = e ∙ sym f
