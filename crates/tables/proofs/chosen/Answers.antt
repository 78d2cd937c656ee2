-- `tables::chosen` meets its contract, source by source.
use Rattle.std.proofs.Common.{sym, ap, ◌∙◌}
use Rattle.tables.specs.Table.{point_in}
use Rattle.tables.proofs.Laws.{table_at}
use Rattle.tables.proofs.chosen.Goals as goal

pub returns-in-First : goal.returns-in-First
returns-in-First c =
    let l = c.args.first.now in
    let entry = c.in-First.entry in
    rw c.in-First.is (c.get_point.ensures ∙ ap (point_in l) c.from.ensures ∙ sym (table_at l entry.at entry.in_table))

pub returns-in-Second : goal.returns-in-Second
returns-in-Second c =
    let l = c.args.second.now in
    let entry = c.in-Second.entry in
    rw c.in-Second.is (c.get_point-in-Second.ensures ∙ ap (point_in l) c.from-in-Second.ensures ∙ sym (table_at l entry.at entry.in_table))
