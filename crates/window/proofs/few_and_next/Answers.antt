-- `window::few_and_next` meets its contract: one byte more behind a few, or none.
use native.Mathlib.Omega.{arith}
use native.Mathlib.Nat.{add-zero}
use Rattle.window.proofs.Laws.{bytes_joined}
use Rattle.window.proofs.few_and_next.Goals as goal

pub one-requires : goal.one-requires
one-requires c = let p = rw c.if-more.true at c.requires.0 in omega (arith, p)

pub returns-then-more : goal.returns-then-more
returns-then-more c =
    let a = c.args in
    rw (c.few-v.ensures, c.one.ensures, c.if-more.true) (bytes_joined a.s.now a.i a.k 1)

pub returns-else-more : goal.returns-else-more
returns-else-more c = rw (c.if-more.false, add-zero c.args.k) c.few-v.ensures
