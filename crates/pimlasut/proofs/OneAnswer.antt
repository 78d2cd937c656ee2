-- Each entry point's contract admits one answer: one result, and one later content of everything that is lent. Said of the contract itself, as the check reads it.
use Prim.Native.Nat.{ℕ}
use mathlib.Core.Path.{◌≡◌, sym, ◌∙◌}
use mathlib.Core.List.{List}
use contract.Lifetimes.{Lfts}
use denote.Triple.Clauses.{AtExit}
use borrow.Fn.Kinds.{ParamKind, ResultKind, Out, Dens, res_t, ended_of}
use Rattle.pimlasut.proofs.pim_read_bare.Kinds as pim-read-bare
use Rattle.pimlasut.proofs.pim_read_bare.Reads as pim-read-bare-contract
use Rattle.pimlasut.proofs.pim_read_wrapped.Kinds as pim-read-wrapped
use Rattle.pimlasut.proofs.pim_read_wrapped.Reads as pim-read-wrapped-contract
use Rattle.pimlasut.proofs.pim_read_unit.Kinds as pim-read-unit
use Rattle.pimlasut.proofs.pim_read_unit.Reads as pim-read-unit-contract
use Rattle.pimlasut.proofs.pim_write_bare.Kinds as pim-write-bare
use Rattle.pimlasut.proofs.pim_write_bare.Reads as pim-write-bare-contract
use Rattle.pimlasut.proofs.pim_write_wrapped.Kinds as pim-write-wrapped
use Rattle.pimlasut.proofs.pim_write_wrapped.Reads as pim-write-wrapped-contract
use Rattle.pimlasut.proofs.pim_write_unit.Kinds as pim-write-unit
use Rattle.pimlasut.proofs.pim_write_unit.Reads as pim-write-unit-contract
use Rattle.pimlasut.proofs.pim_why_wrapped.Kinds as pim-why-wrapped
use Rattle.pimlasut.proofs.pim_why_wrapped.Reads as pim-why-wrapped-contract
use Rattle.pimlasut.proofs.pim_place.Kinds as pim-place
use Rattle.pimlasut.proofs.pim_place.Reads as pim-place-contract
use Rattle.pimlasut.proofs.pim_lookup.Kinds as pim-lookup
use Rattle.pimlasut.proofs.pim_lookup.Reads as pim-lookup-contract
use Rattle.pimlasut.proofs.pim_join.Kinds as pim-join
use Rattle.pimlasut.proofs.pim_join.Reads as pim-join-contract
use Rattle.pimlasut.proofs.pim_shader.Kinds as pim-shader
use Rattle.pimlasut.proofs.pim_shader.Reads as pim-shader-contract

-- no two results, and no two later contents of a lent array, meet the contract at the same arguments
abbrev pub OneArray : {n : ℕ} (ps : List (ParamKind n)) (r : ResultKind n) → Out n ps r → {A : Type 0} → ((κs : Lfts n) → AtExit (ended_of n ps r) κs → List A) → Type 0
OneArray {n} ps r post array =
    (κs : Lfts n) (a : Dens κs ps) (x y : (res_t r κs).Denot) (s t : AtExit (ended_of n ps r) κs) → post κs a x s → post κs a y t
    → (x ≡ y) × (array κs s ≡ array κs t)

-- nor two later contents of two lent arrays
abbrev pub TwoArrays : {n : ℕ} (ps : List (ParamKind n)) (r : ResultKind n) → Out n ps r → {A B : Type 0} → ((κs : Lfts n) → AtExit (ended_of n ps r) κs → List A)
    → ((κs : Lfts n) → AtExit (ended_of n ps r) κs → List B) → Type 0
TwoArrays {n} ps r post one other =
    (κs : Lfts n) (a : Dens κs ps) (x y : (res_t r κs).Denot) (s t : AtExit (ended_of n ps r) κs) → post κs a x s → post κs a y t
    → (x ≡ y) × (one κs s ≡ one κs t) × (other κs s ≡ other κs t)

-- nor two later values of a lent number
abbrev pub OneArrayAndNumber : {n : ℕ} (ps : List (ParamKind n)) (r : ResultKind n) → Out n ps r → {A : Type 0} → ((κs : Lfts n) → AtExit (ended_of n ps r) κs → List A)
    → ((κs : Lfts n) → AtExit (ended_of n ps r) κs → ℕ) → Type 0
OneArrayAndNumber {n} ps r post array number =
    (κs : Lfts n) (a : Dens κs ps) (x y : (res_t r κs).Denot) (s t : AtExit (ended_of n ps r) κs) → post κs a x s → post κs a y t
    → (x ≡ y) × (array κs s ≡ array κs t) × (number κs s ≡ number κs t)

pub pim_read_bare_one : TwoArrays pim-read-bare.ps pim-read-bare.r pim-read-bare-contract.Post (λ κs s. s.1.0.now) (λ κs s. s.1.1.0.now)
pim_read_bare_one κs a x y s t e f = let p = e.0 ∙ sym f.0 in (p, cc, cc)

pub pim_read_wrapped_one : TwoArrays pim-read-wrapped.ps pim-read-wrapped.r pim-read-wrapped-contract.Post (λ κs s. s.1.0.now) (λ κs s. s.1.1.0.now)
pim_read_wrapped_one κs a x y s t e f = let p = e.0 ∙ sym f.0 in (p, cc, cc)

pub pim_read_unit_one : TwoArrays pim-read-unit.ps pim-read-unit.r pim-read-unit-contract.Post (λ κs s. s.1.0.now) (λ κs s. s.1.1.0.now)
pim_read_unit_one κs a x y s t e f = let p = e.0 ∙ sym f.0 in (p, cc, cc)

pub pim_write_bare_one : OneArrayAndNumber pim-write-bare.ps pim-write-bare.r pim-write-bare-contract.Post (λ κs s. s.1.0.now) (λ κs s. s.1.1.0.now)
pim_write_bare_one κs a x y s t e f = let p = e.0 ∙ sym f.0 in (p, cc, cc)

pub pim_write_wrapped_one : OneArrayAndNumber pim-write-wrapped.ps pim-write-wrapped.r pim-write-wrapped-contract.Post (λ κs s. s.1.0.now) (λ κs s. s.1.1.0.now)
pim_write_wrapped_one κs a x y s t e f = let p = e.0 ∙ sym f.0 in (p, cc, cc)

pub pim_write_unit_one : OneArrayAndNumber pim-write-unit.ps pim-write-unit.r pim-write-unit-contract.Post (λ κs s. s.1.0.now) (λ κs s. s.1.1.0.now)
pim_write_unit_one κs a x y s t e f = let p = e.0 ∙ sym f.0 in (p, cc, cc)

pub pim_why_wrapped_one : OneArrayAndNumber pim-why-wrapped.ps pim-why-wrapped.r pim-why-wrapped-contract.Post (λ κs s. s.1.0.now) (λ κs s. s.1.1.0.now)
pim_why_wrapped_one κs a x y s t e f = let p = e.0 ∙ sym f.0 in (p, cc, cc)

pub pim_place_one : OneArrayAndNumber pim-place.ps pim-place.r pim-place-contract.Post (λ κs s. s.1.1.1.0.now) (λ κs s. s.1.1.1.1.0.now)
pim_place_one κs a x y s t e f = let p = e.0 ∙ sym f.0 in (p, cc, cc)

pub pim_lookup_one : OneArrayAndNumber pim-lookup.ps pim-lookup.r pim-lookup-contract.Post (λ κs s. s.1.1.1.0.now) (λ κs s. s.1.1.1.1.0.now)
pim_lookup_one κs a x y s t e f = let p = e.0 ∙ sym f.0 in (p, cc, cc)

pub pim_join_one : OneArrayAndNumber pim-join.ps pim-join.r pim-join-contract.Post (λ κs s. s.1.1.1.1.0.now) (λ κs s. s.1.1.1.1.1.0.now)
pim_join_one κs a x y s t e f = let p = e.0 ∙ sym f.0 in (p, cc, cc)

pub pim_shader_one : OneArray pim-shader.ps pim-shader.r pim-shader-contract.Post (λ κs s. s.1.0.now)
pim_shader_one κs a x y s t e f = let p = e.0 ∙ sym f.0 in (p, cc)
