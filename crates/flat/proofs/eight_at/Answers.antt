-- `flat::eight_at` meets its contract: the first k numbers are copied.
use Rattle.std.proofs.Common.{◌≡◌, ◌+◌, ◌∙◌, List, ℤ, pos, get_or, set, drop, sym, ap, arith, rules, add-one, w32, SFits}
use mathlib.Core.List.{append-nil}
use lib.ListN.{replicate, length-drop}
use lib.Seq.{get_or-drop}
use mir.ValLaws.{to_z-of_z}
use Rattle.flat.proofs.Rows.{copy_more}
use Rattle.flat.proofs.eight_at.Goals as goal

pub loop-k-preserved : goal.loop-k-preserved
loop-k-preserved c =
    let l = c.loop-k in
    let s = drop c.args.at c.args.row.now in
    let z = get_or c.args.row.now (c.args.at + l.k) (pos 0) in
    let f : SFits w32 z = search rules in
    ap (λ (x : ℤ). set l.eight l.k x) (to_z-of_z w32 z f ∙ sym (get_or-drop c.args.at c.args.row.now l.k (pos 0)))
    ∙ ap (λ (r : List ℤ). set r l.k (get_or s l.k (pos 0))) l.invariant
    ∙ copy_more s (replicate 8 (pos 0)) l.k (omega (arith, c.requires, length-drop c.args.at c.args.row.now)) (omega arith)
    ∙ rw (add-one l.k)

pub returns : goal.returns
returns c =
    let l = c.loop-k in
    let e : l.k ≡ 8 = omega arith in
    l.invariant ∙ rw e (append-nil _)
