-- `window::few` meets its contract: of three bytes two are joined to one.
use Prim.Native.Nat.{◌+◌}
use native.Mathlib.Omega.{arith}
use Rattle.window.proofs.Laws.{number_none, number_lt, bytes_joined}
use Rattle.window.proofs.few.Goals as goal

pub overflow_mul-result : goal.overflow_mul-result
overflow_mul-result c = let a = c.args in omega (arith, number_lt a.s.now (λ i. (c.type_inv.s i).fits) a.i 2 16 (omega arith) (omega arith))

pub overflow_add-result : goal.overflow_add-result
overflow_add-result c =
    let a = c.args in
    omega (arith, number_lt a.s.now (λ i. (c.type_inv.s i).fits) a.i 2 16 (omega arith) (omega arith), number_lt a.s.now (λ i. (c.type_inv.s i).fits) (a.i + 2) 1 8 (omega arith) (omega arith))

pub returns-in-0 : goal.returns-in-0
returns-in-0 c = rw c.in-0.is (number_none c.args.s.now c.args.i)

pub returns-in-3 : goal.returns-in-3
returns-in-3 c = rw (c.in-3.is, c.two-in-3.ensures, c.one-in-3.ensures) (bytes_joined c.args.s.now c.args.i 2 1)
