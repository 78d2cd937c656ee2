-- The public contract admits one answer, the buffer at exit included: said of the contract itself, as the check reads it.
use mathlib.Core.Path.{◌≡◌, sym, ◌∙◌}
use contract.Lifetimes.{Lfts}
use denote.Triple.Clauses.{AtExit}
use borrow.Fn.Kinds.{Dens, res_t, ended_of}
use Rattle.output.proofs.hand_over.Kinds as hand-over
use Rattle.output.proofs.hand_over.Reads as hand-over-contract

pub hand_over_one : (κs : Lfts 2) (a : Dens κs hand-over.ps) (x y : (res_t hand-over.r κs).Denot) (s t : AtExit (ended_of 2 hand-over.ps hand-over.r) κs)
    → hand-over-contract.Post κs a x s → hand-over-contract.Post κs a y t → (x ≡ y) × (s.1.0.now ≡ t.1.0.now)
hand_over_one κs a x y s t e f = (e.0 ∙ sym f.0, e.1 ∙ sym f.1)
