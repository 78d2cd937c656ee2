-- `pimlasut::join_into` meets its contract: what is planned is what the join answers.
use Rattle.std.proofs.Common.{◌≡◌, sym, ap, ◌∙◌}
use Rattle.std.proofs.lemmas.Result.{err_from_is_err_and}
use Rattle.plan.specs.Limit.{most_points}
use Rattle.track.proofs.Together.{rising_seen}
use Rattle.tables.specs.Table.{flat_table, table_in, filled_as}
use Rattle.pimlasut.proofs.Laws.{planned, planned_refused, planned_result, planned_count, planned_table}
use Rattle.pimlasut.proofs.join_into.Goals as goal
use Rattle.pimlasut.proofs.join_into.Goals.{After-decide-layout}

pub decide-layout-requires : goal.decide-layout-requires
decide-layout-requires c =
    let a = c.args in
    rw (c.scan-s.ensures, c.scan-t.ensures) (rising_seen 0 (table_in a.first.now) a.first_count, rising_seen most_points (table_in a.second.now) a.second_count)

laid_out : (c : After-decide-layout) → let a = c.args in c.decide-layout.result ≡ planned a.first.now a.first_count a.second.now a.second_count
laid_out c = rw (← c.scan-s.ensures, ← c.scan-t.ensures) c.decide-layout.ensures

pub returns-in_err-done-clause-result : goal.returns-in_err-done-clause-result
returns-in_err-done-clause-result c =
    let a = c.args in
    let l = laid_out (goal.at.returns-in_err-done-clause-result c).After-decide-layout in
    let p = err_from_is_err_and c.from_residual.result c.from_residual.ensures.1 in
    rw (p.1, p.2, c.if-first-ne-NUMBERS.false, c.if-second-ne-NUMBERS.false, c.if-table-ne-NUMBERS.false)
    (planned_refused a.first.now a.first_count a.second.now a.second_count _ (sym l ∙ c.in_err-done.was))

pub returns-clause-result : goal.returns-clause-result
returns-clause-result c =
    let a = c.args in
    let l = laid_out (goal.at.returns-clause-result c).After-decide-layout in
    rw (c.if-first-ne-NUMBERS.false, c.if-second-ne-NUMBERS.false, c.if-table-ne-NUMBERS.false)
    (planned_result a.first.now a.first_count a.second.now a.second_count c.in_ok-done.done (sym l ∙ c.in_ok-done.was))

pub returns-clause-table : goal.returns-clause-table
returns-clause-table c =
    let a = c.args in
    let l = laid_out (goal.at.returns-clause-table c).After-decide-layout in
    c.fill.ensures ∙ ap (filled_as a.table.now a.first.now a.second.now) c.in_ok-done.was ∙ ap flat_table (planned_table a.first.now a.first_count a.second.now a.second_count c.in_ok-done.done (sym l ∙ c.in_ok-done.was))

pub returns-clause-count : goal.returns-clause-count
returns-clause-count c =
    let a = c.args in
    let l = laid_out (goal.at.returns-clause-count c).After-decide-layout in
    planned_count a.first.now a.first_count a.second.now a.second_count c.in_ok-done.done (sym l ∙ c.in_ok-done.was)
