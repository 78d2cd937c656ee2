-- How many entries `scan` looks at: no more than 64, and no more than there are.
use mathlib.Core.Path.{◌≡◌, refl}
use mathlib.Core.Bool.{Bool, true, false, cond}
use Prim.Native.Nat.{ℕ, ◌≤◌}
use native.Mathlib.Omega.{arith}
use borrow.Author.Tests.{eqb-true, leb-true}
use lib.Dec.{eqb, leb}
use Rattle.record.proofs.Laws.{and_left, and_right}
use Rattle.plan.specs.Limit.{most_points}
use Rattle.plan.specs.Scanning.{sized, extent_of}

pub sized_means : (entries count : ℕ) → sized entries count ≡ true → (entries ≡ most_points) × (count ≤ most_points)
sized_means entries count e =
    (eqb-true entries most_points (and_left (eqb entries most_points) (leb count most_points) e), leb-true count most_points (and_right (eqb entries most_points) (leb count most_points) e))

extent_by : (m n : ℕ) (b : Bool) → (b ≡ true → (m ≡ most_points) × (n ≤ most_points)) → (cond b n 0 ≤ most_points) × (cond b n 0 ≤ m)
extent_by m n true h = let e = (h refl).0 in let f = (h refl).1 in (f, omega arith)
extent_by m n false h = (omega arith, omega arith)

pub extent_le : (m n : ℕ) → (extent_of m n ≤ most_points) × (extent_of m n ≤ m)
extent_le m n = extent_by m n (sized m n) (sized_means m n)
