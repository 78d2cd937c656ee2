-- Each public contract admits one answer, the buffer at exit included: said of the contract itself, as the check reads it.
use mathlib.Core.Path.{sym, ◌∙◌}
use Rattle.bits.proofs.OneAnswer.{OneResult, OneResultAndBuffer}
use Rattle.wrapper.proofs.has_wrapper.Kinds as has-wrapper
use Rattle.wrapper.proofs.has_wrapper.Reads as has-wrapper-contract
use Rattle.wrapper.proofs.read_wrapped.Kinds as read-wrapped
use Rattle.wrapper.proofs.read_wrapped.Reads as read-wrapped-contract
use Rattle.wrapper.proofs.most_bytes.Kinds as most_bytes
use Rattle.wrapper.proofs.most_bytes.Reads as most-bytes-contract
use Rattle.wrapper.proofs.most_wrapped_bytes.Kinds as most-wrapped-bytes
use Rattle.wrapper.proofs.most_wrapped_bytes.Reads as most-wrapped-bytes-contract
use Rattle.wrapper.proofs.without_room.Kinds as without-room
use Rattle.wrapper.proofs.without_room.Reads as without-room-contract
use Rattle.wrapper.proofs.try_write.Kinds as try-write
use Rattle.wrapper.proofs.try_write.Reads as try-write-contract
use Rattle.wrapper.proofs.write_wrapped.Kinds as write-wrapped
use Rattle.wrapper.proofs.write_wrapped.Reads as write-wrapped-contract

pub has_wrapper_one : OneResult has-wrapper.ps has-wrapper.r has-wrapper-contract.Post
has_wrapper_one κs a x y s t e f = e ∙ sym f

pub without_room_one : OneResult without-room.ps without-room.r without-room-contract.Post
without_room_one κs a x y s t e f = e ∙ sym f

pub read_wrapped_one : OneResult read-wrapped.ps read-wrapped.r read-wrapped-contract.Post
read_wrapped_one κs a x y s t e f = e ∙ sym f

pub most_bytes_one : OneResult most_bytes.ps most_bytes.r most-bytes-contract.Post
most_bytes_one κs a x y s t e f = e ∙ sym f

pub most_wrapped_bytes_one : OneResult most-wrapped-bytes.ps most-wrapped-bytes.r most-wrapped-bytes-contract.Post
most_wrapped_bytes_one κs a x y s t e f = e ∙ sym f

pub write_wrapped_one : OneResultAndBuffer write-wrapped.ps write-wrapped.r write-wrapped-contract.Post (λ κs s. s.1.0.now)
write_wrapped_one κs a x y s t b c e f = (e.0 ∙ sym f.0, e.1 ∙ sym f.1)

pub try_write_one : OneResultAndBuffer try-write.ps try-write.r try-write-contract.Post (λ κs s. s.1.0.now)
try_write_one κs a x y s t b c e f = (e.0 ∙ sym f.0, e.1 ∙ sym f.1)
