-- `plan::reach` meets its contract.
use Rattle.std.proofs.Common.{◌≡◌, ◌∙◌, ap, ltb, cond, Some, None, length, rules, tests}
use Rattle.std.proofs.lemmas.Iterator.{YieldsList-from_slice}
use Rattle.std.proofs.lemmas.Iterator.Search.{position_from_yields_List}
use Rattle.std.specs.Int.Signed.{lt_z}
use Rattle.std.specs.List.{position_or_len}
use mir.Syntax.{w32}
use mir.Val.{to_z, of_z}
use mir.ValLaws.{to_z-of_z}
use lib.IntN.{ℤ}
use Rattle.plan.specs.Seeking.{reach_of}
use Rattle.plan.proofs.Reaching.{found}
use Rattle.plan.proofs.reach.Goals as goal

pub returns : goal.returns
returns c =
    let k = to_z w32 (of_z w32 c.args.picture) in
    let l = c.args.pictures.now in
    let at : c.position.result ≡ cond (ltb (position_or_len (lt_z k) l) (length l)) (Some (position_or_len (lt_z k) l)) None =
    position_from_yields_List (lt_z k) _ _ c.position.result c.position.ensures.ran (YieldsList-from_slice _ c.iter.ensures.rest) (λ x b q k. search (rules, tests)) in
    c.unwrap_or.ensures ∙ found k l c.position.result at ∙ ap (λ (z : ℤ). reach_of z l) (to_z-of_z w32 c.args.picture c.ranges.picture)
