-- `listing::put_head` meets its contract.
use mathlib.Core.List.{[], ◌∷◌}
use lib.IntN.{pos}
use Rattle.tree.specs.Bits.{bit}
use Rattle.text.specs.Text.{ascii, line}
use Rattle.text.proofs.Lines.{typed_two, typed_none}
use Rattle.listing.proofs.put_head.Goals as goal

pub returns : goal.returns
unfolding ascii
returns c =
    let a = c.args in
    typed_two (line "result" (pos 0)) (line "refresh" (pos (bit a.refresh))) (line "bits" (pos a.bits) ∷ line "blocks" (pos a.count) ∷ []) c.put_two.ensures
    (typed_two (line "bits" (pos a.bits)) (line "blocks" (pos a.count)) [] c.put_two-2.ensures (typed_none _))
