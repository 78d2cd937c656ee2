-- Each public contract admits one answer, the buffer at exit included: said of the contract itself, as the check reads it.
use mathlib.Core.Path.{sym, ◌∙◌}
use Rattle.bits.proofs.OneAnswer.{OneResult, OneResultAndBuffer}
use Rattle.messages.proofs.read_messages.Kinds as read-messages
use Rattle.messages.proofs.read_messages.Reads as read-messages-contract
use Rattle.messages.proofs.write_message.Kinds as write-message
use Rattle.messages.proofs.write_message.Reads as write-message-contract
use Rattle.messages.proofs.try_write.Kinds as try-write
use Rattle.messages.proofs.try_write.Reads as try-write-contract

pub read_messages_one : OneResult read-messages.ps read-messages.r read-messages-contract.Post
read_messages_one κs a x y s t e f = e ∙ sym f

pub write_message_one : OneResultAndBuffer write-message.ps write-message.r write-message-contract.Post (λ κs s. s.1.0.now)
write_message_one κs a x y s t b c e f = (e.0 ∙ sym f.0, e.1 ∙ sym f.1)

pub try_write_one : OneResultAndBuffer try-write.ps try-write.r try-write-contract.Post (λ κs s. s.1.0.now)
try_write_one κs a x y s t b c e f = (e.0 ∙ sym f.0, e.1 ∙ sym f.1)
