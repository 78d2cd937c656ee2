-- Each public contract admits one answer, or one later content of the lent row: said of the contract itself, as the check reads it.
use Prim.Native.Nat.{ℕ}
use mathlib.Core.Path.{◌≡◌, sym, ◌∙◌}
use mathlib.Core.List.{List}
use contract.Lifetimes.{Lfts}
use denote.Triple.Clauses.{AtExit}
use borrow.Fn.Kinds.{ParamKind, ResultKind, Out, Dens, res_t, ended_of}
use Rattle.bits.proofs.OneAnswer.{OneResult}
use Rattle.flat.proofs.unsigned.Kinds as unsigned
use Rattle.flat.proofs.unsigned.Reads as unsigned-contract
use Rattle.flat.proofs.get_block.Kinds as get-block
use Rattle.flat.proofs.get_block.Reads as get-block-contract
use Rattle.flat.proofs.get_beside.Kinds as get-beside
use Rattle.flat.proofs.get_beside.Reads as get-beside-contract
use Rattle.flat.proofs.get_record.Kinds as get-record
use Rattle.flat.proofs.get_record.Reads as get-record-contract
use Rattle.flat.proofs.put_record.Kinds as put_record
use Rattle.flat.proofs.put_record.Reads as put-record-contract

-- no two later contents of what is lent meet the contract at the same arguments
abbrev pub OneLater : {n : ℕ} (ps : List (ParamKind n)) (r : ResultKind n) → Out n ps r → {A : Type 0} → ((κs : Lfts n) → AtExit (ended_of n ps r) κs → A) → Type 0
OneLater {n} ps r post later =
    (κs : Lfts n) (a : Dens κs ps) (x y : (res_t r κs).Denot) (s t : AtExit (ended_of n ps r) κs) → post κs a x s → post κs a y t → later κs s ≡ later κs t

pub unsigned_one : OneResult unsigned.ps unsigned.r unsigned-contract.Post
unsigned_one κs a x y s t e f = e ∙ sym f

pub get_beside_one : OneResult get-beside.ps get-beside.r get-beside-contract.Post
get_beside_one κs a x y s t e f = e ∙ sym f

pub get_block_one : OneResult get-block.ps get-block.r get-block-contract.Post
get_block_one κs a x y s t e f = e ∙ sym f

pub get_record_one : OneResult get-record.ps get-record.r get-record-contract.Post
get_record_one κs a x y s t e f = e ∙ sym f

pub put_record_one : OneLater put_record.ps put_record.r put-record-contract.Post (λ κs s. s.0.now)
put_record_one κs a x y s t e f = e ∙ sym f
