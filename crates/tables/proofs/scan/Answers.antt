-- `tables::scan` meets its contract: what has been seen after i points.
use Rattle.std.proofs.Common.{◌≡◌, ◌<◌, sym, ap, ◌∙◌, ℕ, arith}
use Rattle.plan.specs.declared.Scanned.{Scanned}
use Rattle.plan.specs.Limit.{most_points}
use Rattle.plan.specs.Scanning.{extent_of, begun}
use Rattle.track.specs.Inner.{noted_point, scanned_to}
use Rattle.track.proofs.Within.{extent_le}
use Rattle.tables.specs.Table.{table_in}
use Rattle.tables.proofs.Laws.{length_table, table_at}
use native.Mathlib.Numerals.{add-one}
use Rattle.tables.proofs.scan.Goals as goal

pub loop-i-preserved : goal.loop-i-preserved
loop-i-preserved c =
    let l = c.args.table.now in
    let v = c.loop-i in
    let t = table_in l in
    let seen = begun most_points c.args.count in
    let e = extent_le most_points c.args.count in
    let h : v.i < most_points = omega (arith, e.0, c.extent-i-end.ensures) in
    c.note_point-seen.ensures ∙ ap (λ (q : Scanned). noted_point q v.i c.get_point.result) v.invariant
    ∙ ap (noted_point (scanned_to seen t v.i) v.i) (c.get_point.ensures ∙ sym (table_at l v.i h))
    ∙ ap (scanned_to seen t) (sym (add-one v.i))

pub returns : goal.returns
returns c =
    let l = c.args.table.now in
    let t = table_in l in
    let n = c.args.count in
    let e : c.loop-i.i ≡ extent_of most_points n = omega (arith, c.extent-i-end.ensures) in
    c.loop-i.invariant ∙ ap (scanned_to (begun most_points n) t) e ∙ ap (λ (k : ℕ). scanned_to (begun k n) t (extent_of k n)) (sym (length_table l))
