-- `plan::merge` meets its contract.
use mathlib.Core.Path.{◌≡◌, ◌∙◌, ap}
use native.Mathlib.Omega.{arith}
use lib.IntN.{pos}
use Rattle.plan.specs.Limit.{most_points}
use Rattle.plan.specs.Planning.{tags_from, turn_of}
use Rattle.plan.proofs.Merging.{Comes, turns, too_long, ends, comes_at, next_at, told, tags_length}
use Rattle.plan.proofs.merge.Goals as goal
use Rattle.plan.proofs.merge.Goals.{In-loop-i}

-- what is left of the two comes in the order of `next_at`
next_comes : (c : In-loop-i) → let a = c.args in let l = c.loop-i in Comes (tags_from 0 a.a.now) (tags_from most_points a.b.now) l.i l.j (next_at a.a.now a.b.now l.i l.j)
next_comes c =
    let a = c.args in
    let l = c.loop-i in
    let ea = tags_length 0 a.a.now in
    let eb = tags_length most_points a.b.now in
    comes_at a.a.now a.b.now l.i l.j (omega arith) (omega arith) c.requires.2 c.requires.3 (omega (arith, ea)) (omega (arith, eb)) c.loop-i-test.true

pub overflow_add-i : goal.overflow_add-i
overflow_add-i c = let ea = tags_length 0 c.args.a.now in let eb = tags_length most_points c.args.b.now in omega arith

pub returns-then-k-eq-POINTS : goal.returns-then-k-eq-POINTS
returns-then-k-eq-POINTS c = too_long _ _ _ _ _ _ _ _ c.loop-i.invariant (next_comes (goal.at.returns-then-k-eq-POINTS c).In-loop-i) c.if-k-eq-POINTS.true

pub loop-i-preserved : goal.loop-i-preserved
loop-i-preserved c =
    let a = c.args in
    let l = c.loop-i in
    let g = c.get.ensures.lookup in
    let h = c.get-in-loop-i.ensures.lookup in
    let n : c.choose-turn.result ≡ turn_of (next_at a.a.now a.b.now l.i l.j) =
    c.choose-turn.ensures
    ∙ ap turn_of (told a.a.now a.b.now l.i l.j _ _ _ _ _ _ c.copied-x.ensures c.copied-y.ensures c.at_most.ensures c.at_most-in-loop-i.ensures g.0 h.0 (g.4 (omega arith) (pos 0)) (h.4 (omega arith) (pos 0))) in
    rw n (turns _ _ _ _ _ _ _ (next_at a.a.now a.b.now l.i l.j) l.invariant (next_comes (goal.at.loop-i-preserved c).In-loop-i) (omega arith))

pub returns : goal.returns
returns c =
    let ea = tags_length 0 c.args.a.now in
    let eb = tags_length most_points c.args.b.now in
    ends _ _ _ _ _ _ _ c.loop-i.invariant (omega (arith, ea, eb))
