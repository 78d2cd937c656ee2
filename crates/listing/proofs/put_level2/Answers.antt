-- `listing::put_level2` meets its contract.
use mathlib.Core.List.{[], ◌∷◌}
use lib.IntN.{pos}
use mir.Syntax.{w16}
use mir.ValLaws.{to_z-of_z}
use native.Mathlib.Omega.{arith}
use Rattle.std.proofs.lemmas.Grind.{common_steps}
use Rattle.text.specs.Text.{ascii, line, text}
use Rattle.text.proofs.Lines.{typed_two, typed_last}
use Rattle.listing.specs.Listing.{field_lines}
use Rattle.listing.proofs.put_level2.Goals as goal

pub put_signed-requires : goal.put_signed-requires
unfolding ascii text field_lines
put_signed-requires c = grind (arith, common_steps)

pub returns : goal.returns
unfolding ascii field_lines
returns c =
    let a = c.args in
    let last = line "ms" a.weight ∷ [] in
    let third = line "chroma" (pos a.chroma) ∷ line "saturation" (pos a.saturation) ∷ last in
    let second = line "offset" (pos a.offset) ∷ line "power" (pos a.power) ∷ third in
    typed_two (line "target" (pos a.target)) (line "slope" (pos a.slope)) second c.put_two.ensures
    (typed_two (line "offset" (pos a.offset)) (line "power" (pos a.power)) third c.put_two-2.ensures
    (typed_two (line "chroma" (pos a.chroma)) (line "saturation" (pos a.saturation)) last c.put_two-3.ensures
    (typed_last (line "ms" a.weight) (rw (to_z-of_z w16 a.weight c.ranges.weight) at c.put_signed.ensures))))
