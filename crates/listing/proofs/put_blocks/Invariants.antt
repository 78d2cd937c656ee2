use Rattle.text.specs.Page.{TypedOn}
use Rattle.listing.proofs.Blocks.{before}
use Rattle.listing.proofs.put_blocks.Given as goal

-- the blocks so far are typed
abbrev pub invariant-loop-place : goal.invariant-loop-place
invariant-loop-place l = TypedOn l.initial.page (before l.fn.r l.place-index) l.page
