-- `fields::fields2` meets its contract: the fields are there, or a bit is missing.
use mathlib.Core.Path.{refl}
use native.Mathlib.Omega.{arith}
use mir.Syntax.{w16, w32}
use mir.Val.{SFits}
use mir.ValLaws.{to_z-of_z}
use Rattle.std.proofs.lemmas.Result.{err_from_is_err_and}
use Rattle.tree.specs.Coding.{total_width}
use Rattle.tree.specs.Reading.{signed_of}
use Rattle.fields.proofs.Laws.{fields_is, fields_refused, signed_fits}
use Rattle.fields.proofs.fields2.Goals as goal

pub returns-in_err-whole : goal.returns-in_err-whole
unfolding total_width
returns-in_err-whole c =
    let p = err_from_is_err_and c.from_residual.result c.from_residual.ensures.1 in
    let cut = c.in_err-whole.ensures.cut_off in
    rw (p.1, p.2, cut.1) (fields_refused 2 c.args.s.now c.args.at 12 (omega arith) _ _ refl (refl, (refl, (refl, (refl, (refl, (refl, tt)))))) (omega arith) cut.0)

pub returns : goal.returns
unfolding total_width
returns c =
    let there = c.in_ok-whole.ensures.there in
    let weight = c.to_signed-ms_weight.ensures in
    let f : SFits w16 (signed_of 13 c.field_in.result) = signed_fits 13 c.field_in.result (omega arith) (omega arith) (omega arith) in
    let g : SFits w32 c.to_signed-ms_weight.result = record { sfits = c.to_signed-ms_weight.type_inv } in
    rw (to_z-of_z w32 c.to_signed-ms_weight.result g, weight, to_z-of_z w16 (signed_of 13 c.field_in.result) f, c.field_in.ensures, c.field_in-trim_saturation_gain.ensures, c.field_in-trim_chroma_weight.ensures, c.word-rest.ensures, c.field_in-trim_power.ensures, c.field_in-trim_offset.ensures, c.field_in-trim_slope.ensures, c.field_in-target_max_pq.ensures, c.word-word.ensures)
    (fields_is 2 c.args.s.now c.args.at 4 (omega arith))
