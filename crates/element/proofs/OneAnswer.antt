-- Each public contract admits one answer.
use mathlib.Core.Path.{sym, ◌∙◌}
use Rattle.window.proofs.OneAnswer.{OneResult}
use Rattle.element.proofs.number_of.Kinds as number_of_lem
use Rattle.element.proofs.number_of.Reads as number-of-contract
use Rattle.element.proofs.Refused.at.Kinds as at
use Rattle.element.proofs.Refused.at.Reads as at-contract
use Rattle.element.proofs.Refused.of.Kinds as of-unread
use Rattle.element.proofs.Refused.of.Reads as of-contract

pub number_of_one : OneResult number_of_lem.ps number_of_lem.r number-of-contract.Post
number_of_one κs a x y s t e f = e ∙ sym f

pub at_one : OneResult at.ps at.r at-contract.Post
at_one κs a x y s t e f = e ∙ sym f

pub of_one : OneResult of-unread.ps of-unread.r of-contract.Post
of_one κs a x y s t e f = e ∙ sym f
