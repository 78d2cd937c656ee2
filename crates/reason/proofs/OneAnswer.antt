-- Each public contract admits one answer, the buffer at exit included: said of the contract itself, as the check reads it.
use mathlib.Core.Path.{sym, ◌∙◌}
use Rattle.bits.proofs.OneAnswer.{OneResult, OneResultAndBuffer}
use Rattle.reason.proofs.write_reason.Kinds as write-reason
use Rattle.reason.proofs.write_reason.Reads as write-reason-contract
use Rattle.reason.proofs.most_bytes.Kinds as most_bytes
use Rattle.reason.proofs.most_bytes.Reads as most-bytes-contract

pub write_reason_one : OneResultAndBuffer write-reason.ps write-reason.r write-reason-contract.Post (λ κs s. s.1.0.now)
write_reason_one κs a x y s t b c e f = (e.0 ∙ sym f.0, e.1 ∙ sym f.1)

pub most_bytes_one : OneResult most_bytes.ps most_bytes.r most-bytes-contract.Post
most_bytes_one κs a x y s t e f = e ∙ sym f
