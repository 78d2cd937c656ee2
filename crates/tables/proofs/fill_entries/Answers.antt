-- `tables::fill_entries` meets its contract: the first k entries are as the layout has them.
use Rattle.std.proofs.Common.{◌≡◌, ◌<◌, ◌+◌, ◌*◌, ℕ, ℤ, List, length, take, drop, get_or, sym, ap, ◌∙◌, arith}
use Rattle.std.proofs.Math.Seq.{paste, take_all}
use Rattle.plan.specs.declared.Source.{Source}
use Rattle.track.specs.declared.Point.{Point}
use Rattle.flat.proofs.Rows.{paste_more, pasted_whole}
use Rattle.tables.specs.Table.{flat_point, point_length, table_length}
use Rattle.tables.proofs.Laws.{chosen, length_chosen, laid_out, laid_at, laid_length}
use Rattle.tables.proofs.fill_entries.Goals as goal

pub loop-k-preserved : goal.loop-k-preserved
loop-k-preserved c =
    let v = c.loop-k in
    let a = c.args.first.now in
    let b = c.args.second.now in
    let d = c.args.res.now in
    let sources = c.args.layout.now.sources in
    let row = laid_out a b sources in
    let p = c.chosen.result in
    let s = c.source-item.result in
    let same = c.sources-source-items.ensures.0 in
    let long = c.sources-source-items.ensures.1 in
    let h : v.k < length sources = omega (arith, ap length same) in
    let here : s ≡ get_or sources v.k s = c.source-item.is ∙ ap (λ (l : List Source). get_or l v.k s) same in
    let point : p ≡ chosen a b (get_or sources v.k s) = c.chosen.ensures ∙ ap (chosen a b) here in
    let next : take point_length (flat_point p) ≡ take point_length (drop (point_length * v.k) row) =
    take_all point_length (flat_point p) (omega (arith, ap (λ (q : Point). length (flat_point q)) c.chosen.ensures, length_chosen a b s)) ∙ ap flat_point point ∙ sym (laid_at a b sources v.k s h) in
    let zero : 0 + point_length * v.k ≡ point_length * v.k = omega arith in
    let next-at : point_length * v.k + point_length ≡ point_length * (v.k + 1) = omega arith in
    c.put_point.ensures ∙ ap (λ (t : List ℤ). paste t (point_length * v.k) (flat_point p) point_length) v.invariant
    ∙ ap (λ (j : ℕ). paste (paste d 0 row (point_length * v.k)) j (flat_point p) point_length) (sym zero)
    ∙ paste_more d 0 row (point_length * v.k) (flat_point p) point_length (omega arith) (omega (arith, laid_length a b sources)) next
    ∙ ap (paste d 0 row) next-at

pub returns : goal.returns
returns c =
    let v = c.loop-k in
    let row = laid_out c.args.first.now c.args.second.now c.args.layout.now.sources in
    let long = c.sources-source-items.ensures.1 in
    let e : point_length * v.k ≡ table_length = omega arith in
    let whole = laid_length c.args.first.now c.args.second.now c.args.layout.now.sources in
    v.invariant ∙ ap (paste c.args.res.now 0 row) e ∙ pasted_whole c.args.res.now row table_length (omega arith) (omega (arith, ap length c.sources-source-items.ensures.0))
