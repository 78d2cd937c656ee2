use mathlib.Core.Path.{◌≡◌, sym, ◌∙◌, ap}
use mathlib.Core.List.{List, [], ◌∷◌, ◌++◌, map}
use native.Mathlib.Omega.{arith}
use lib.ListN.{length, take, get_or, set, length-set}
use lib.Seq.{take_all}
use Rattle.std.proofs.lemmas.List.{take_more_set, map_more}
use Rattle.plan.specs.declared.Source.{Source}
use Rattle.track.specs.declared.Point.{Point}
use Rattle.track.specs.Inner.{chosen_of}
use Rattle.track.proofs.fill.Goals as goal
use Rattle.track.proofs.fill.Goals.{in-First, in-Second, in-Neither, Joined-source}

-- the point that the source names is stored
stored : (c : Joined-source) → c.match-source.res ≡ set c.loop-k.res c.loop-k.k (chosen_of c.args.first.now c.args.second.now c.source-item.result)
stored c =
    elim c.match-source.branch [ in-First w ↦ rw w.in-First.is (w.res-is ∙ rw w.from.ensures) | in-Second w ↦ rw w.in-Second.is (w.res-is ∙ rw w.from-in-Second.ensures) | in-Neither w ↦ rw w.in-Neither.is (w.res-is ∙ rw w.cleared_point.ensures) ]

pub loop-k-preserved : goal.loop-k-preserved
loop-k-preserved c =
    let l = c.loop-k in
    let a = c.args in
    let S = a.layout.now.sources in
    let g = chosen_of a.first.now a.second.now in
    let k = l.k in
    let d = c.source-item.result in
    let inside = c.loop-k-test.true in
    let here : d ≡ get_or S k d = c.source-item.is ∙ ap (λ (u : List Source). get_or u k d) c.sources-source-items.ensures.0 in
    rw (stored (goal.at.loop-k-preserved c).Joined-source) (record {
      size = length-set l.res k (g d) ∙ l.invariant.size;
      filled = take_more_set l.res k (g d) (omega arith)
          ∙ ap (λ (p : Point). take k l.res ++ (p ∷ [])) (ap g here)
          ∙ ap (λ (u : List Point). u ++ (g (get_or S k d) ∷ [])) l.invariant.filled
          ∙ sym (map_more g S k d (omega (arith, ap length c.sources-source-items.ensures.0)));
    })

pub returns : goal.returns
returns c =
    let l = c.loop-k in
    let a = c.args in
    let S = a.layout.now.sources in
    let same = ap length c.sources-source-items.ensures.0 in
    let done = c.loop-k-test.false in
    sym (take_all l.k l.res (omega arith)) ∙ l.invariant.filled ∙ ap (map (chosen_of a.first.now a.second.now)) (take_all l.k S (omega arith))
