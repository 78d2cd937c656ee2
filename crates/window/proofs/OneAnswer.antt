-- What it is that a contract admits one answer, said of the contract itself, as the check reads it; and that of this crate's does.
use Prim.Native.Nat.{ℕ}
use mathlib.Core.Path.{◌≡◌, sym, ◌∙◌}
use mathlib.Core.List.{List}
use contract.Lifetimes.{Lfts}
use denote.Triple.Clauses.{AtExit}
use borrow.Fn.Kinds.{ParamKind, ResultKind, Out, Dens, res_t, ended_of}
use Rattle.tree.specs.Bits.{Bytes}
use Rattle.window.proofs.word.Kinds as word
use Rattle.window.proofs.word.Reads as word-contract

-- no two results meet the contract at the same arguments
abbrev pub OneResult : {n : ℕ} (ps : List (ParamKind n)) (r : ResultKind n) → Out n ps r → Type 0
OneResult {n} ps r post =
    (κs : Lfts n) (a : Dens κs ps) (x y : (res_t r κs).Denot) (s t : AtExit (ended_of n ps r) κs) → post κs a x s → post κs a y t → x ≡ y

-- no two results, and no two contents of a lent buffer of bytes at exit
abbrev pub OneResultAndBuffer : {n : ℕ} (ps : List (ParamKind n)) (r : ResultKind n) → Out n ps r → ((κs : Lfts n) → AtExit (ended_of n ps r) κs → List ℕ) → Type 0
OneResultAndBuffer {n} ps r post buffer =
    (κs : Lfts n) (a : Dens κs ps) (x y : (res_t r κs).Denot) (s t : AtExit (ended_of n ps r) κs) → Bytes (buffer κs s) → Bytes (buffer κs t)
    → post κs a x s → post κs a y t → (x ≡ y) × (buffer κs s ≡ buffer κs t)

pub word_one : OneResult word.ps word.r word-contract.Post
word_one κs a x y s t e f = e ∙ sym f
