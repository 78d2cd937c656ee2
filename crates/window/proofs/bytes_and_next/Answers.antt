-- `window::bytes_and_next` meets its contract: the last four bytes behind those before them.
use Prim.Native.Nat.{ℕ, ◌+◌, ◌-◌, ◌<◌}
use mathlib.Core.Path.{◌≡◌}
use native.Mathlib.Omega.{arith}
use lib.ListN.{get_or}
use Rattle.tree.specs.Bits.{bit}
use Rattle.window.proofs.Laws.{number_lt, bytes_joined}
use Rattle.window.proofs.bytes_and_next.Goals as goal

pub overflow_mul-result : goal.overflow_mul-result
overflow_mul-result c =
    let bytes : (i : ℕ) → get_or c.args.s.now i 0 < 256 =
    λ i. (c.type_inv.s i).fits in
    let a = c.args in
    omega (arith, number_lt a.s.now (bytes) a.i (a.k - 4 + bit a.more) 32 (omega arith) (omega arith))

pub overflow_add-result : goal.overflow_add-result
overflow_add-result c =
    let bytes : (i : ℕ) → get_or c.args.s.now i 0 < 256 =
    λ i. (c.type_inv.s i).fits in
    let a = c.args in
    let b = bytes in
    omega (arith, number_lt a.s.now b a.i (a.k - 4 + bit a.more) 32 (omega arith) (omega arith), number_lt a.s.now b (a.i + (a.k - 4) + bit a.more) 4 32 (omega arith) (omega arith))

pub returns : goal.returns
returns c =
    let a = c.args in
    let e : a.i + (a.k - 4) + bit a.more ≡ a.i + (a.k - 4 + bit a.more) = omega arith in
    let k : a.k + bit a.more ≡ a.k - 4 + bit a.more + 4 = omega arith in
    rw (c.few_and_next-2.ensures, c.four.ensures, e, k) (bytes_joined a.s.now a.i (a.k - 4 + bit a.more) 4)
