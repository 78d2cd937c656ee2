-- `pimlasut::place_into` meets its contract: the point that is placed is the one that the numbers name.
use Rattle.std.proofs.Common.{◌≡◌, Bool, cond, List, [], ◌∷◌, ℤ, refl, sym, ap, ◌∙◌, to_z-of_z}
use Rattle.std.proofs.Math.Seq.{paste}
use Rattle.record.specs.declared.Record.{Record}
use Rattle.valid.specs.Valid.{valid}
use Rattle.track.specs.declared.Point.{Point}
use Rattle.track.specs.Track.{padded}
use Rattle.track.proofs.Tracks.{same_point}
use Rattle.flat.specs.Flat.{flat_length, record_in}
use Rattle.flat.proofs.Named.{length_in}
use Rattle.tables.specs.Table.{flat_point, point_length, flat_table}
use Rattle.tables.proofs.Laws.{length_point, placed_none, placed_one}
use Rattle.pimlasut.specs.Boundary.{point_named}
use Rattle.pimlasut.proofs.Laws.{whole_row}
use Rattle.pimlasut.proofs.place_into.Goals as goal
use Rattle.pimlasut.proofs.place_into.Goals.{After-is_valid}

read : (c : After-is_valid) → c.get_record-shown.result ≡ record_in c.args.numbers.now
read c = c.get_record-shown.ensures ∙ ap record_in (whole_row c.args.numbers.now flat_length c.if-numbers-ne-NUMBERS.false)

judged : (c : After-is_valid) → c.is_valid.result ≡ valid (record_in c.args.numbers.now)
judged c = c.is_valid.ensures ∙ ap valid (read c)

pub returns-then-not-is_valid-clause-result : goal.returns-then-not-is_valid-clause-result
returns-then-not-is_valid-clause-result c =
    let j = judged (goal.at.returns-then-not-is_valid-clause-result c).After-is_valid in
    rw (c.if-numbers-ne-NUMBERS.false, c.if-table-ne-NUMBERS.false, sym j ∙ c.if-not-is_valid.true)

pub returns-then-shown-clause-result : goal.returns-then-shown-clause-result
returns-then-shown-clause-result c =
    let j = judged (goal.at.returns-then-shown-clause-result c).After-is_valid in
    rw (c.if-numbers-ne-NUMBERS.false, c.if-table-ne-NUMBERS.false, sym j ∙ c.if-not-is_valid.false)

pub returns-then-shown-clause-table : goal.returns-then-shown-clause-table
returns-then-shown-clause-table c =
    let a = c.args in
    let r = read (goal.at.returns-then-shown-clause-table c).After-is_valid in
    let flag = ap (λ (r : Record). r.refresh) (sym r) ∙ c.if-shown.true in
    let x = point_named a.numbers.now a.picture a.segment in
    let same = same_point (to_z-of_z c.ranges.picture) refl r in
    c.put_point.ensures ∙ ap (λ (p : Point). paste c.clear.new.table 0 (flat_point p) point_length) same
    ∙ ap (λ (t : List ℤ). paste t 0 (flat_point x) point_length) c.clear.ensures ∙ placed_one x (length_point x (length_in a.numbers.now))
    ∙ sym (ap (λ (t : Bool). flat_table (padded (cond t (x ∷ []) []))) flag)

pub returns-then-shown-clause-count : goal.returns-then-shown-clause-count
returns-then-shown-clause-count c =
    let at = (goal.at.returns-then-shown-clause-count c).After-is_valid in
    let flag = ap (λ (r : Record). r.refresh) (sym (read at)) ∙ c.if-shown.true in
    rw (sym (judged at) ∙ c.if-not-is_valid.false, flag)

pub returns-clause-result : goal.returns-clause-result
returns-clause-result c =
    let j = judged (goal.at.returns-clause-result c).After-is_valid in
    rw (c.if-numbers-ne-NUMBERS.false, c.if-table-ne-NUMBERS.false, sym j ∙ c.if-not-is_valid.false)

pub returns-clause-table : goal.returns-clause-table
returns-clause-table c =
    let flag = ap (λ (r : Record). r.refresh) (sym (read (goal.at.returns-clause-table c).After-is_valid)) ∙ c.if-shown.false in
    rw flag (c.clear.ensures ∙ placed_none)

pub returns-clause-count : goal.returns-clause-count
returns-clause-count c =
    let at = (goal.at.returns-clause-count c).After-is_valid in
    let flag = ap (λ (r : Record). r.refresh) (sym (read at)) ∙ c.if-shown.false in
    rw (sym (judged at) ∙ c.if-not-is_valid.false, flag)
