-- Each public contract admits one answer, the buffer at exit included: said of the contract itself, as the check reads it.
use mathlib.Core.Path.{sym, ◌∙◌}
use Rattle.bits.proofs.OneAnswer.{OneResult, OneResultAndBuffer}
use Rattle.sei.proofs.read_unit.Kinds as read-unit
use Rattle.sei.proofs.read_unit.Reads as read-unit-contract
use Rattle.sei.proofs.write_unit.Kinds as write-unit
use Rattle.sei.proofs.write_unit.Reads as write-unit-contract
use Rattle.sei.proofs.most_unit_bytes.Kinds as most_unit_bytes_lem
use Rattle.sei.proofs.most_unit_bytes.Reads as most-unit-bytes-contract

pub read_unit_one : OneResult read-unit.ps read-unit.r read-unit-contract.Post
read_unit_one κs a x y s t e f = e ∙ sym f

pub write_unit_one : OneResultAndBuffer write-unit.ps write-unit.r write-unit-contract.Post (λ κs s. s.1.0.now)
write_unit_one κs a x y s t b c e f = (e.0 ∙ sym f.0, e.1 ∙ sym f.1)

pub most_unit_bytes_one : OneResult most_unit_bytes_lem.ps most_unit_bytes_lem.r most-unit-bytes-contract.Post
most_unit_bytes_one κs a x y s t e f = e ∙ sym f
