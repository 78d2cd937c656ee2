-- `Met::has_target` meets its contract.
use Rattle.std.proofs.Common.{rules, tests, Bool, false, ◌||◌, ℕ, take, ◌∙◌}
use Rattle.std.proofs.lemmas.Iterator.{YieldsList-from_slice}
use Rattle.std.proofs.lemmas.Iterator.Consumers.{fold_from_yields_List}
use lib.Dec.{eqb}
use Rattle.met.specs.Met.{most_targets}
use Rattle.met.proofs.Laws.{among_all}
use Rattle.met.proofs.Met.has_target.Goals as goal

pub returns : goal.returns
returns c =
    let t = c.args.t in
    let ts = take most_targets c.args.self.now.targets in
    fold_from_yields_List _ (λ (met : Bool) (target : ℕ). met || eqb target t) false c.fold.result c.fold.ensures.ran (YieldsList-from_slice ts cc) (λ a x b q k. search (rules, tests)) ∙ among_all t ts false
