-- `fields::fields5` meets its contract: the fields are there, or a bit is missing.
use mathlib.Core.Path.{refl}
use native.Mathlib.Omega.{arith}
use Rattle.std.proofs.lemmas.Result.{err_from_is_err_and}
use Rattle.tree.specs.Coding.{total_width}
use Rattle.fields.proofs.Laws.{fields_is, fields_refused}
use Rattle.fields.proofs.fields5.Goals as goal

pub returns-in_err-whole : goal.returns-in_err-whole
unfolding total_width
returns-in_err-whole c =
    let p = err_from_is_err_and c.from_residual.result c.from_residual.ensures.1 in
    let cut = c.in_err-whole.ensures.cut_off in
    rw (p.1, p.2, cut.1) (fields_refused 5 c.args.s.now c.args.at 13 (omega arith) _ _ refl (refl, (refl, (refl, tt))) (omega arith) cut.0)

pub returns : goal.returns
unfolding total_width
returns c =
    let there = c.in_ok-whole.ensures.there in
    rw (c.field_in-left_offset.ensures, c.field_in-right_offset.ensures, c.field_in-top_offset.ensures, c.field_in-bottom_offset.ensures, c.word-word.ensures) (fields_is 5 c.args.s.now c.args.at 4 (omega arith))
