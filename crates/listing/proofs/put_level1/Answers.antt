-- `listing::put_level1` meets its contract.
use mathlib.Core.List.{[], ◌∷◌}
use lib.IntN.{pos}
use Rattle.text.specs.Text.{ascii, line}
use Rattle.text.proofs.Lines.{typed_two, typed_last}
use Rattle.listing.specs.Listing.{field_lines}
use Rattle.listing.proofs.put_level1.Goals as goal

pub returns : goal.returns
unfolding ascii field_lines
returns c =
    let a = c.args in
    typed_two (line "min" (pos a.min)) (line "max" (pos a.max)) (line "avg" (pos a.avg) ∷ []) c.put_two.ensures (typed_last (line "avg" (pos a.avg)) c.put_line.ensures)
