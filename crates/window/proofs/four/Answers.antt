-- `window::four` meets its contract: two pairs of bytes one behind another.
use native.Mathlib.Omega.{arith}
use Prim.Native.Nat.{ℕ, ◌+◌, ◌<◌}
use lib.ListN.{get_or}
use Rattle.window.proofs.Laws.{number_lt, bytes_joined}
use Rattle.window.proofs.four.Goals as goal

pub overflow_mul-result : goal.overflow_mul-result
overflow_mul-result c =
    let bytes : (i : ℕ) → get_or c.args.s.now i 0 < 256 =
    λ i. (c.type_inv.s i).fits in
    let a = c.args in omega (arith, number_lt a.s.now (bytes) a.i 2 16 (omega arith) (omega arith))

pub overflow_add-result : goal.overflow_add-result
overflow_add-result c =
    let bytes : (i : ℕ) → get_or c.args.s.now i 0 < 256 =
    λ i. (c.type_inv.s i).fits in
    let a = c.args in
    omega (arith, number_lt a.s.now (bytes) a.i 2 16 (omega arith) (omega arith), number_lt a.s.now (bytes) (a.i + 2) 2 16 (omega arith) (omega arith))

pub returns : goal.returns
returns c = let a = c.args in rw (c.two.ensures, c.two-2.ensures) (bytes_joined a.s.now a.i 2 2)
