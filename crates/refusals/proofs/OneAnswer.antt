-- What it is that a contract admits one answer, said of the contract itself, as the check reads it; and that of this crate's does.
use Prim.Native.Nat.{ℕ}
use mathlib.Core.Path.{◌≡◌, sym, ◌∙◌}
use mathlib.Core.List.{List}
use contract.Lifetimes.{Lfts}
use denote.Triple.Clauses.{AtExit}
use borrow.Fn.Kinds.{ParamKind, ResultKind, Out, Dens, res_t, ended_of}
use Rattle.refusals.proofs.Refusal.number.Kinds as number
use Rattle.refusals.proofs.Refusal.number.Reads as number-contract

-- no two results meet the contract at the same arguments
abbrev pub OneResult : {n : ℕ} (ps : List (ParamKind n)) (r : ResultKind n) → Out n ps r → Type 0
OneResult {n} ps r post =
    (κs : Lfts n) (a : Dens κs ps) (x y : (res_t r κs).Denot) (s t : AtExit (ended_of n ps r) κs) → post κs a x s → post κs a y t → x ≡ y

pub number_one : OneResult number.ps number.r number-contract.Post
number_one κs a x y s t e f = e ∙ sym f
