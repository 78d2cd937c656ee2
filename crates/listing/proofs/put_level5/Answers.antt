-- `listing::put_level5` meets its contract.
use mathlib.Core.List.{[], ◌∷◌}
use lib.IntN.{pos}
use Rattle.text.specs.Text.{ascii, line}
use Rattle.text.proofs.Lines.{typed_none, typed_two}
use Rattle.listing.specs.Listing.{field_lines}
use Rattle.listing.proofs.put_level5.Goals as goal

pub returns : goal.returns
unfolding ascii field_lines
returns c =
    let a = c.args in
    typed_two (line "left" (pos a.left)) (line "right" (pos a.right)) (line "top" (pos a.top) ∷ line "bottom" (pos a.bottom) ∷ []) c.put_two.ensures
    (typed_two (line "top" (pos a.top)) (line "bottom" (pos a.bottom)) [] c.put_two-2.ensures (typed_none _))
