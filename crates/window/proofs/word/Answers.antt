-- `window::word` meets its contract: the law, at the number of bytes that the bits touch.
use Prim.Native.Nat.{ℕ, ◌<◌}
use mathlib.Core.Path.{refl}
use native.Mathlib.Omega.{arith}
use lib.ListN.{get_or}
use Rattle.window.proofs.Laws.{touched_there, bits_in_touched, shl_one, shl_some}
use Rattle.window.proofs.word.Goals as goal

pub bytes_and_next-requires : goal.bytes_and_next-requires
bytes_and_next-requires c =
    let a = c.args in
    touched_there a.at a.n _ _ (omega arith) (omega arith) refl a.s.now c.requires.0 c.requires.1

pub nonzero_rem-result : goal.nonzero_rem-result
nonzero_rem-result c = shl_some _ (omega arith)

pub returns : goal.returns
returns c =
    let bytes : (i : ℕ) → get_or c.args.s.now i 0 < 256 =
    λ i. (c.type_inv.s i).fits in
    let a = c.args in
    let p = c.requires in
    rw c.bytes_and_next.ensures (bits_in_touched a.at a.n _ _ (omega arith) (omega arith) refl a.s.now (bytes) p.0 p.1 _ _ refl (shl_one a.n 64 (omega arith)))
