-- `pimlasut::look_into` meets its contract: what is sought is what the lookup answers.
use Rattle.std.proofs.Common.{◌≡◌, sym, ap, ◌∙◌, length, w32, SFits, to_z-of_z}
use Rattle.std.proofs.lemmas.Result.{err_from_is_err_and}
use Rattle.tree.specs.Bits.{bit}
use Rattle.flat.proofs.Places.{flag_is}
use Rattle.flat.proofs.Rows.{pasted_whole}
use Rattle.tables.specs.Table.{flat_point, point_length}
use Rattle.tables.proofs.Laws.{length_found}
use Rattle.pimlasut.proofs.Laws.{sought, sought_refused, sought_result, sought_point, sought_found}
use Rattle.pimlasut.proofs.look_into.Goals as goal
use Rattle.pimlasut.proofs.look_into.Goals.{After-seek}

found : (c : After-seek) → let a = c.args in c.seek.result ≡ sought a.table.now a.count a.picture
found c =
    let fits : SFits w32 c.args.picture = c.ranges.picture in
    rw (← c.scan-seen.ensures) (simp to_z-of_z at c.seek.ensures)

pub returns-in_err-found-clause-result : goal.returns-in_err-found-clause-result
returns-in_err-found-clause-result c =
    let a = c.args in
    let s = found (goal.at.returns-in_err-found-clause-result c).After-seek in
    let p = err_from_is_err_and c.from_residual.result c.from_residual.ensures.1 in
    rw (p.1, p.2, c.if-table-ne-NUMBERS.false, c.if-numbers-ne-POINT.false) (sought_refused a.table.now a.count a.picture _ (sym s ∙ c.in_err-found.was))

pub returns-clause-result : goal.returns-clause-result
returns-clause-result c =
    let a = c.args in
    let s = found (goal.at.returns-clause-result c).After-seek in
    rw (c.if-table-ne-NUMBERS.false, c.if-numbers-ne-POINT.false) (sought_result a.table.now a.count a.picture c.in_ok-found.found (sym s ∙ c.in_ok-found.was))

pub returns-clause-point : goal.returns-clause-point
returns-clause-point c =
    let a = c.args in
    let s = found (goal.at.returns-clause-point c).After-seek in
    let e = c.found_point.ensures in
    c.put_point.ensures
    ∙ pasted_whole a.numbers.now (flat_point c.found_point.result) point_length c.if-numbers-ne-POINT.false (ap (λ p. length (flat_point p)) e ∙ length_found a.table.now c.in_ok-found.found)
    ∙ ap flat_point (e ∙ sought_point a.table.now a.count a.picture c.in_ok-found.found (sym s ∙ c.in_ok-found.was))

pub returns-clause-found : goal.returns-clause-found
returns-clause-found c =
    let a = c.args in
    let s = found (goal.at.returns-clause-found c).After-seek in
    c.from.ensures ∙ flag_is c.is_some.result ∙ ap bit (c.is_some.ensures ∙ sought_found a.table.now a.count a.picture c.in_ok-found.found (sym s ∙ c.in_ok-found.was))
