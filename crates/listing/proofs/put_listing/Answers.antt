-- `listing::put_listing` meets its contract: the accepted reading, or the refusal's one line.
use Prim.Native.Nat.{ℕ}
use mathlib.Core.Path.{subst}
use mathlib.Core.List.{List}
use Rattle.text.specs.Text.{ascii}
use Rattle.text.specs.Page.{HasRoom}
use Rattle.listing.proofs.Cases.{accepted_text, refused_text, accepted_few}
use Rattle.listing.proofs.put_listing.Goals as goal

pub put_accepted-requires : goal.put_accepted-requires
put_accepted-requires c =
    let q = c.args.q in
    (subst (λ (t : List ℕ). HasRoom c.args.page.now t) (accepted_text q c.if-accepted.true) c.requires.0, accepted_few q c.if-accepted.true c.requires.1)

pub put_line-requires : goal.put_line-requires
unfolding ascii
put_line-requires c = subst (λ (t : List ℕ). HasRoom c.args.page.now t) (refused_text c.args.q c.if-accepted.false) c.requires.0

pub returns-then-accepted : goal.returns-then-accepted
returns-then-accepted c = rw (accepted_text c.args.q c.if-accepted.true) c.put_accepted.ensures

pub returns-else-accepted : goal.returns-else-accepted
unfolding ascii
returns-else-accepted c = rw (refused_text c.args.q c.if-accepted.false) c.put_line.ensures
