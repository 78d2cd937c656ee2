-- Each public contract admits one answer: said of the contract itself, as the check reads it.
use mathlib.Core.Path.{◌≡◌, sym, ◌∙◌}
use mathlib.Core.List.{List}
use contract.Lifetimes.{Lfts}
use denote.Triple.Clauses.{AtExit}
use borrow.Fn.Kinds.{Dens, res_t, ended_of}
use Rattle.bits.proofs.OneAnswer.{OneResult}
use Rattle.plan.specs.declared.Source.{Source}
use Rattle.plan.proofs.most_points.Kinds as most-points
use Rattle.plan.proofs.most_points.Reads as most-points-contract
use Rattle.plan.proofs.extent.Kinds as extent
use Rattle.plan.proofs.extent.Reads as extent-contract
use Rattle.plan.proofs.begin.Kinds as begin
use Rattle.plan.proofs.begin.Reads as begin-contract
use Rattle.plan.proofs.rises.Kinds as rises
use Rattle.plan.proofs.rises.Reads as rises-contract
use Rattle.plan.proofs.note.Kinds as note
use Rattle.plan.proofs.note.Reads as note-contract
use Rattle.plan.proofs.Layout.sources.Kinds as sources
use Rattle.plan.proofs.Layout.sources.Reads as sources-contract
use Rattle.plan.proofs.entry.Entry.at_most.Kinds as at-most
use Rattle.plan.proofs.entry.Entry.at_most.Reads as at-most-contract
use Rattle.plan.proofs.choose.Kinds as choose
use Rattle.plan.proofs.choose.Reads as choose-contract
use Rattle.plan.proofs.merge.Kinds as merge
use Rattle.plan.proofs.merge.Reads as merge-contract
use Rattle.plan.proofs.decide.Kinds as decide
use Rattle.plan.proofs.decide.Reads as decide-contract
use Rattle.plan.proofs.reach.Kinds as reach
use Rattle.plan.proofs.reach.Reads as reach-contract
use Rattle.plan.proofs.seek.Kinds as seek
use Rattle.plan.proofs.seek.Reads as seek-contract

pub most_points_one : OneResult most-points.ps most-points.r most-points-contract.Post
most_points_one κs a x y s t e f = e ∙ sym f

pub extent_one : OneResult extent.ps extent.r extent-contract.Post
extent_one κs a x y s t e f = e ∙ sym f

pub begin_one : OneResult begin.ps begin.r begin-contract.Post
begin_one κs a x y s t e f = e ∙ sym f

pub rises_one : OneResult rises.ps rises.r rises-contract.Post
rises_one κs a x y s t e f = e ∙ sym f

pub note_one : OneResult note.ps note.r note-contract.Post
note_one κs a x y s t e f = e ∙ sym f

-- of a lent result: no two contents
pub sources_one : (κs : Lfts 1) (a : Dens κs sources.ps) (x y : (res_t sources.r κs).Denot) (s t : AtExit (ended_of 1 sources.ps sources.r) κs)
    → sources-contract.Post κs a x s → sources-contract.Post κs a y t → ◌≡◌ {A = List Source} x.now y.now
sources_one κs a x y s t e f = e.0 ∙ sym f.0

pub at_most_one : OneResult at-most.ps at-most.r at-most-contract.Post
at_most_one κs a x y s t e f = e ∙ sym f

pub choose_one : OneResult choose.ps choose.r choose-contract.Post
choose_one κs a x y s t e f = e ∙ sym f

pub merge_one : OneResult merge.ps merge.r merge-contract.Post
merge_one κs a x y s t e f = e ∙ sym f

pub decide_one : OneResult decide.ps decide.r decide-contract.Post
decide_one κs a x y s t e f = e ∙ sym f

pub reach_one : OneResult reach.ps reach.r reach-contract.Post
reach_one κs a x y s t e f = e ∙ sym f

pub seek_one : OneResult seek.ps seek.r seek-contract.Post
seek_one κs a x y s t e f = e ∙ sym f
