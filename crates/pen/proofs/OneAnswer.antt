-- Each public contract admits one answer, the buffer at exit included: said of the contract itself, as the check reads it.
use mathlib.Core.Path.{sym, ◌∙◌}
use Rattle.bits.proofs.OneAnswer.{OneResult, OneResultAndBuffer}
use Rattle.pen.proofs.Pen.start.Kinds as start
use Rattle.pen.proofs.Pen.start.Reads as start-contract
use Rattle.pen.proofs.zeros_of.Kinds as zeros_of
use Rattle.pen.proofs.zeros_of.Reads as zeros-of-contract
use Rattle.pen.proofs.Pen.put_u.Kinds as put-u
use Rattle.pen.proofs.Pen.put_u.Reads as put-u-contract
use Rattle.pen.proofs.Pen.put_i.Kinds as put-i
use Rattle.pen.proofs.Pen.put_i.Reads as put-i-contract
use Rattle.pen.proofs.Pen.put_ue.Kinds as put-ue
use Rattle.pen.proofs.Pen.put_ue.Reads as put-ue-contract
use Rattle.pen.proofs.Pen.put_zeros.Kinds as put-zeros
use Rattle.pen.proofs.Pen.put_zeros.Reads as put-zeros-contract
use Rattle.pen.proofs.Writing.{wrote_one}

pub start_one : OneResult start.ps start.r start-contract.Post
start_one κs a x y s t e f = e ∙ sym f

pub zeros_of_one : OneResult zeros_of.ps zeros_of.r zeros-of-contract.Post
zeros_of_one κs a x y s t e f = e ∙ sym f

pub put_u_one : OneResultAndBuffer put-u.ps put-u.r put-u-contract.Post (λ κs s. s.1.0.now)
put_u_one κs a x y s t b c e f = wrote_one b c e f

pub put_i_one : OneResultAndBuffer put-i.ps put-i.r put-i-contract.Post (λ κs s. s.1.0.now)
put_i_one κs a x y s t b c e f = wrote_one b c e f

pub put_ue_one : OneResultAndBuffer put-ue.ps put-ue.r put-ue-contract.Post (λ κs s. s.1.0.now)
put_ue_one κs a x y s t b c e f = wrote_one b c e f

pub put_zeros_one : OneResultAndBuffer put-zeros.ps put-zeros.r put-zeros-contract.Post (λ κs s. s.1.0.now)
put_zeros_one κs a x y s t b c e f = wrote_one b c e f
