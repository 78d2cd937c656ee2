-- Each public contract admits one answer.
use mathlib.Core.Path.{sym, ◌∙◌}
use Rattle.bits.proofs.OneAnswer.{OneResult}
use Rattle.reader.proofs.Reading.refused.Kinds as refused
use Rattle.reader.proofs.Reading.refused.Reads as refused-contract
use Rattle.reader.proofs.unplaced.Kinds as unplaced
use Rattle.reader.proofs.unplaced.Reads as unplaced-contract
use Rattle.reader.proofs.read_data.Kinds as read-data
use Rattle.reader.proofs.read_data.Reads as read-data-contract

pub refused_one : OneResult refused.ps refused.r refused-contract.Post
refused_one κs a x y s t e f = e ∙ sym f

pub unplaced_one : OneResult unplaced.ps unplaced.r unplaced-contract.Post
unplaced_one κs a x y s t e f = e ∙ sym f

pub read_data_one : OneResult read-data.ps read-data.r read-data-contract.Post
read_data_one κs a x y s t e f = e ∙ sym f
