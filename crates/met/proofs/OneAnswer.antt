-- Each public contract admits one answer: said of the contract itself, as the check reads it.
use Prim.Native.Nat.{ℕ}
use mathlib.Core.Path.{◌≡◌, sym, ◌∙◌}
use mathlib.Core.List.{List}
use mathlib.Core.Bool.{false}
use contract.Lifetimes.{Lfts}
use denote.Triple.Clauses.{AtExit}
use borrow.Fn.Kinds.{ParamKind, ResultKind, In, Out, Dens, res_t, ended_of}
use Rattle.bits.proofs.OneAnswer.{OneResult}
use Rattle.record.specs.declared.Block.{Block}
use Rattle.valid.specs.Valid.{may_follow}
use Rattle.met.specs.Met.{Counts, met_of}
use Rattle.met.proofs.Met.nothing.Kinds as nothing
use Rattle.met.proofs.Met.nothing.Reads as nothing-contract
use Rattle.met.proofs.target_of.Kinds as target-of
use Rattle.met.proofs.target_of.Reads as target-of-contract
use Rattle.met.proofs.Met.admits.Kinds as admits
use Rattle.met.proofs.Met.admits.Reads as admits-contract
use Rattle.met.proofs.Met.repeat_of.Kinds as repeat-of
use Rattle.met.proofs.Met.repeat_of.Reads as repeat-of-contract
use Rattle.met.proofs.Met.include.Kinds as included
use Rattle.met.proofs.Met.include.Reads as included-contract

-- no two results meet the contract at the same arguments, where these are of some blocks
abbrev pub OneResultWhere : {n : ℕ} (ps : List (ParamKind n)) (r : ResultKind n) → In n ps → Out n ps r → Type 0
OneResultWhere {n} ps r holds post =
    (κs : Lfts n) (a : Dens κs ps) (x y : (res_t r κs).Denot) (s t : AtExit (ended_of n ps r) κs) → holds κs a → post κs a x s → post κs a y t → x ≡ y

pub nothing_one : OneResult nothing.ps nothing.r nothing-contract.Post
nothing_one κs a x y s t e f = e ∙ sym f

pub target_of_one : OneResult target-of.ps target-of.r target-of-contract.Post
target_of_one κs a x y s t e f = e ∙ sym f

-- what is kept of some blocks leaves one answer; which repeat one is, what is said of the counts alone
pub admits_one : (before : List Block) → OneResultWhere admits.ps admits.r (λ κs a. a.0.now ≡ met_of before) admits-contract.Post
admits_one before κs a x y s t h e f = e before h ∙ sym (f before h)

pub repeat_of_one : (before : List Block) → OneResultWhere repeat-of.ps repeat-of.r (λ κs a. Counts a.0.now before × (may_follow before a.1.0 ≡ false)) repeat-of-contract.Post
repeat_of_one before κs a x y s t h e f = e before h.0 h.1 ∙ sym (f before h.0 h.1)

-- nor leaves it two values
pub include_one : (before : List Block) (κs : Lfts 1) (a : Dens κs included.ps) (x y : (res_t included.r κs).Denot) (s t : AtExit (ended_of 1 included.ps included.r) κs) → a.0.now ≡ met_of before → included-contract.Post κs a x s → included-contract.Post κs a y t → s.0.now ≡ t.0.now
include_one before κs a x y s t h e f = e.0 before h ∙ sym (f.0 before h)

-- nor two flags or two counts, where these alone are known to be of some blocks
pub include_counts_one : (before : List Block) (κs : Lfts 1) (a : Dens κs included.ps) (x y : (res_t included.r κs).Denot) (s t : AtExit (ended_of 1 included.ps included.r) κs) → Counts a.0.now before → included-contract.Post κs a x s → included-contract.Post κs a y t
    → (s.0.now.one ≡ t.0.now.one) × (s.0.now.five ≡ t.0.now.five) × (s.0.now.twos ≡ t.0.now.twos)
include_counts_one before κs a x y s t h e f =
    let u = e.1 before h in
    let v = f.1 before h in (u.0 ∙ sym v.0, u.1 ∙ sym v.1, u.2 ∙ sym v.2)
