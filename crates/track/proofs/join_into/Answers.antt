use mathlib.Core.Path.{◌≡◌, sym, ◌∙◌, ap}
use Rattle.std.proofs.lemmas.Result.{err_from_is_err_and}
use Rattle.plan.specs.Limit.{most_points}
use lib.ListN.{length}
use Rattle.track.specs.Inner.{answer_of, filled_to}
use Rattle.track.proofs.Together.{rising_seen, laid, answer_is, table_is}
use Rattle.track.proofs.join_into.Goals as goal
use Rattle.track.proofs.join_into.Goals.{After-decide}

pub decide-requires : goal.decide-requires
decide-requires c =
    let a = c.args in
    rw (c.scan-s.ensures, c.scan-t.ensures) (rising_seen 0 a.first.now a.first_count, rising_seen most_points a.second.now a.second_count)

-- the outcome is the one of the two tables
laid_out : (c : After-decide) → let a = c.args in c.decide.result ≡ laid a.first.now a.first_count a.second.now a.second_count (length a.res.now)
laid_out c = rw (← c.scan-s.ensures, ← c.scan-t.ensures) c.decide.ensures

pub returns-in_err-layout-clause-outcome : goal.returns-in_err-layout-clause-outcome
returns-in_err-layout-clause-outcome c =
    let a = c.args in
    let l = laid_out (goal.at.returns-in_err-layout-clause-outcome c).After-decide in
    let p = err_from_is_err_and c.from_residual.result c.from_residual.ensures.1 in
    rw (p.1, p.2) (ap answer_of (sym c.in_err-layout.was ∙ l) ∙ answer_is a.first.now a.first_count a.second.now a.second_count (length a.res.now))

pub returns-in_err-layout-clause-table : goal.returns-in_err-layout-clause-table
returns-in_err-layout-clause-table c =
    let a = c.args in
    let l = laid_out (goal.at.returns-in_err-layout-clause-table c).After-decide in
    ap (filled_to a.res.now a.first.now a.second.now) (sym c.in_err-layout.was ∙ l) ∙ table_is a.first.now a.first_count a.second.now a.second_count a.res.now

pub returns-clause-outcome : goal.returns-clause-outcome
returns-clause-outcome c =
    let a = c.args in
    let l = laid_out (goal.at.returns-clause-outcome c).After-decide in
    ap answer_of (sym c.in_ok-layout.was ∙ l) ∙ answer_is a.first.now a.first_count a.second.now a.second_count (length a.res.now)

pub returns-clause-table : goal.returns-clause-table
returns-clause-table c =
    let a = c.args in
    let l = laid_out (goal.at.returns-clause-table c).After-decide in
    c.fill.ensures ∙ ap (filled_to a.res.now a.first.now a.second.now) (sym c.in_ok-layout.was ∙ l) ∙ table_is a.first.now a.first_count a.second.now a.second_count a.res.now
