-- `plan::choose` meets its contract.
use mathlib.Core.Path.{sym, ◌∙◌}
use mir.Syntax.{w32}
use mir.Val.{SFits}
use mir.ValLaws.{to_z-of_z}
use borrow.Author.Rules.{rules}
use Rattle.std.proofs.Common.{Less, Equal, Greater}
use Rattle.plan.proofs.Chosen.{first_named, second_named, both_there}
use Rattle.plan.proofs.choose.Goals as goal

pub returns-in_default-None : goal.returns-in_default-None
returns-in_default-None c = rw (c.in_default-None.is-1, first_named c.args.e)

pub returns-in-None-default : goal.returns-in-None-default
returns-in-None-default c = rw (c.in-None-default.is-0, c.in-None-default.is-1, second_named c.args.f)

pub returns-in-Less : goal.returns-in-Less
returns-in-Less c =
    let x = c.in-Some-Some.x in
    let y = c.in-Some-Some.y in
    let fits_x : SFits w32 x = search rules in
    let fits_y : SFits w32 y = search rules in
    rw (c.in-Some-Some.is-0, c.in-Some-Some.is-1) (both_there c.args.e c.args.f x y Less (simp to_z-of_z at (sym c.in-Less.is ∙ c.cmp.ensures)))

pub returns-in-Equal : goal.returns-in-Equal
returns-in-Equal c =
    let x = c.in-Some-Some.x in
    let y = c.in-Some-Some.y in
    let fits_x : SFits w32 x = search rules in
    let fits_y : SFits w32 y = search rules in
    rw (c.in-Some-Some.is-0, c.in-Some-Some.is-1) (both_there c.args.e c.args.f x y Equal (simp to_z-of_z at (sym c.in-Equal.is ∙ c.cmp.ensures)))

pub returns-in-Greater : goal.returns-in-Greater
returns-in-Greater c =
    let x = c.in-Some-Some.x in
    let y = c.in-Some-Some.y in
    let fits_x : SFits w32 x = search rules in
    let fits_y : SFits w32 y = search rules in
    rw (c.in-Some-Some.is-0, c.in-Some-Some.is-1) (both_there c.args.e c.args.f x y Greater (simp to_z-of_z at (sym c.in-Greater.is ∙ c.cmp.ensures)))
