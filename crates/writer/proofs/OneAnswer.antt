-- Each public contract admits one answer, the buffer at exit included: said of the contract itself, as the check reads it.
use mathlib.Core.Path.{sym, ◌∙◌}
use Rattle.bits.proofs.OneAnswer.{OneResult, OneResultAndBuffer}
use Rattle.writer.proofs.bytes_needed.Kinds as bytes-needed
use Rattle.writer.proofs.bytes_needed.Reads as bytes-needed-contract
use Rattle.writer.proofs.try_write.Kinds as try-write
use Rattle.writer.proofs.try_write.Reads as try-write-contract
use Rattle.writer.proofs.write_data.Kinds as write-data
use Rattle.writer.proofs.write_data.Reads as write-data-contract

pub bytes_needed_one : OneResult bytes-needed.ps bytes-needed.r bytes-needed-contract.Post
bytes_needed_one κs a x y s t e f = e ∙ sym f

pub write_data_one : OneResultAndBuffer write-data.ps write-data.r write-data-contract.Post (λ κs s. s.1.0.now)
write_data_one κs a x y s t b c e f = (e.0 ∙ sym f.0, e.1 ∙ sym f.1)

pub try_write_one : OneResultAndBuffer try-write.ps try-write.r try-write-contract.Post (λ κs s. s.1.0.now)
try_write_one κs a x y s t b c e f = (e.0 ∙ sym f.0, e.1 ∙ sym f.1)
