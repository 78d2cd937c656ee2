-- Each public contract admits one answer: said of the contract itself, as the check reads it.
use mathlib.Core.Path.{sym, ◌∙◌}
pub use Rattle.window.proofs.OneAnswer.{OneResult, OneResultAndBuffer}
use Rattle.bits.proofs.field.Kinds as field
use Rattle.bits.proofs.field.Reads as field-contract
use Rattle.bits.proofs.to_signed.Kinds as to-signed
use Rattle.bits.proofs.to_signed.Reads as to-signed-contract
use Rattle.bits.proofs.read_u.Kinds as read-u
use Rattle.bits.proofs.read_u.Reads as read-u-contract
use Rattle.bits.proofs.read_ue.Kinds as read-ue
use Rattle.bits.proofs.read_ue.Reads as read-ue-contract
use Rattle.bits.proofs.read_zeros.Kinds as read-zeros
use Rattle.bits.proofs.read_zeros.Reads as read-zeros-contract

pub field_one : OneResult field.ps field.r field-contract.Post
field_one κs a x y s t e f = e ∙ sym f

pub to_signed_one : OneResult to-signed.ps to-signed.r to-signed-contract.Post
to_signed_one κs a x y s t e f = e ∙ sym f

pub read_u_one : OneResult read-u.ps read-u.r read-u-contract.Post
read_u_one κs a x y s t e f = e ∙ sym f

pub read_ue_one : OneResult read-ue.ps read-ue.r read-ue-contract.Post
read_ue_one κs a x y s t e f = e ∙ sym f

pub read_zeros_one : OneResult read-zeros.ps read-zeros.r read-zeros-contract.Post
read_zeros_one κs a x y s t e f = e ∙ sym f
