-- `flat::put_eight` meets its contract: the first k numbers are pasted.
use Rattle.std.proofs.Common.{◌≡◌, ◌+◌, ◌∙◌, List, ℤ, pos, length, get_or, set, ap, arith, rules, add-one, w32, SFits}
use mir.ValLaws.{to_z-of_z}
use lib.Seq.{paste-suc}
use Rattle.flat.proofs.put_eight.Goals as goal

pub loop-k-preserved : goal.loop-k-preserved
loop-k-preserved c =
    let l = c.loop-k in
    let d = c.args.row.now in
    let e = c.args.eight in
    let x = get_or e l.k (pos 0) in
    let f : SFits w32 x = search rules in
    let n : length e ≡ 8 = search rules in
    ap (λ (z : ℤ). set l.row (c.args.at + l.k) z) (to_z-of_z w32 x f)
    ∙ ap (λ (r : List ℤ). set r (c.args.at + l.k) x) l.invariant ∙ paste-suc d c.args.at e l.k (pos 0) (omega (arith, c.requires)) (omega arith) ∙ rw (add-one l.k)
