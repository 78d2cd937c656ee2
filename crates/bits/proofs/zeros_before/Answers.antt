-- `bits::zeros_before` meets its contract: the number's highest one is the first of the bits that is a one.
use Prim.Native.Nat.{ℕ, suc, ◌+◌, ◌-◌, ◌*◌, ◌/◌, ◌^◌, ◌<◌, ◌≤◌}
use mathlib.Core.Path.{◌≡◌, ap, ◌∙◌}
use native.Mathlib.Omega.{arith}
use native.Mathlib.Nat.{pow-suc, le_trans, lt_of_lt_of_le, lt_irrefl, lt_of_not-le}
use lib.Count.{count_leading_zeros, leading_le, leading_top}
use lib.Pow.{pow_mono, high}
use Rattle.bits.proofs.zeros_before.Goals as goal

-- the place j of the highest one: the zeros before it, itself and the j digits behind it are the bits
module _ (v have : ℕ) (some : 0 < v) (wide : v < 2 ^ 64) (bits : v < 2 ^ have) where
  top : (j : ℕ) × (count_leading_zeros 64 v + suc j ≡ 64) × (2 ^ j ≤ v) × (v < 2 ^ suc j)
  top = leading_top 64 v some wide

  top-few : suc top.0 ≤ have
  top-few = lt_of_not-le (λ (h : have ≤ top.0). lt_irrefl v (lt_of_lt_of_le bits (le_trans (pow_mono h) top.2)))

  pub before-is : (64 - count_leading_zeros 64 v ≤ have) × (have - (64 - count_leading_zeros 64 v) < have) × (v / 2 ^ (have - (have - (64 - count_leading_zeros 64 v) + 1)) ≡ 1)
  before-is =
      let t = top in
      let f = top-few in
      let e : have - (have - (64 - count_leading_zeros 64 v) + 1) ≡ t.0 = omega (arith, t.1, f) in
      let m : v ≡ 1 * 2 ^ t.0 + (v - 2 ^ t.0) = omega (arith, t.2) in
      let s : v - 2 ^ t.0 < 2 ^ t.0 = omega (arith, t.3, pow-suc 2 t.0, t.2) in
      (omega (arith, t.1, f), omega (arith, t.1, f), rw e (ap (λ (x : ℕ). x / 2 ^ t.0) m ∙ high 1 t.0 s))

pub overflow_cast-result : goal.overflow_cast-result
overflow_cast-result c = omega (arith, leading_le 64 c.args.v)

pub overflow_sub-result : goal.overflow_sub-result
overflow_sub-result c = omega (arith, leading_le 64 c.args.v)

pub overflow_sub-result-2 : goal.overflow_sub-result-2
overflow_sub-result-2 c = (before-is c.args.v c.args.have c.requires.0 (omega arith) c.requires.1).0

pub returns : goal.returns
returns c = let b = before-is c.args.v c.args.have c.requires.0 (omega arith) c.requires.1 in (b.1, b.2)
