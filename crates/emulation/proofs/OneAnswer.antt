-- Each public contract admits one answer, the buffer at exit included: said of the contract itself, as the check reads it.
use mathlib.Core.Path.{refl, sym, ◌∙◌}
use Rattle.bits.proofs.OneAnswer.{OneResult, OneResultAndBuffer}
use Rattle.emulation.proofs.has_forbidden.Kinds as has-forbidden
use Rattle.emulation.proofs.has_forbidden.Reads as has-forbidden-contract
use Rattle.emulation.proofs.remove.Kinds as remove
use Rattle.emulation.proofs.remove.Reads as remove-contract
use Rattle.emulation.proofs.escaped_length.Kinds as escaped-length
use Rattle.emulation.proofs.escaped_length.Reads as escaped-length-contract
use Rattle.emulation.proofs.insert.Kinds as insert
use Rattle.emulation.proofs.insert.Reads as insert-contract

pub has_forbidden_one : OneResult has-forbidden.ps has-forbidden.r has-forbidden-contract.Post
has_forbidden_one κs a x y s t e f = e ∙ sym f

pub remove_one : OneResultAndBuffer remove.ps remove.r remove-contract.Post (λ κs s. s.1.0.now)
remove_one κs a x y s t b c e f = (e.0 ∙ sym f.0, e.1 ∙ sym f.1)

pub escaped_length_one : OneResult escaped-length.ps escaped-length.r escaped-length-contract.Post
escaped_length_one κs a x y s t e f = e ∙ sym f

pub insert_one : OneResultAndBuffer insert.ps insert.r insert-contract.Post (λ κs s. s.1.0.now)
insert_one κs a x y s t b c e f = (refl, e ∙ sym f)
