-- Laws of truth values that the kit has not.
use Prim.Native.Nat.{ℕ}
use mathlib.Core.Path.{◌≡◌, refl}
use mathlib.Core.Bool.{Bool, true, false, ◌&&◌}
use native.Mathlib.Omega.{arith}
use borrow.Author.Tests.{le-leb, leb-true, eqb-true, eqb-false}
use lib.Dec.{eqb, leb}

-- 0 is not 1: what two different constructors come to
pub clash : {A : Type 0} → ◌≡◌ {A = ℕ} 0 1 → A
clash z = absurd (omega arith)

pub and_both : (a b : Bool) → a ≡ true → b ≡ true → a && b ≡ true
and_both a b p q = rw (p, q) refl

pub and_parts : (a b : Bool) → a && b ≡ true → (a ≡ true) × (b ≡ true)
and_parts true b e = (refl, e)
and_parts false b e = let z : ◌≡◌ {A = ℕ} 0 1 = cc in clash z

-- a range of one number holds that number alone
pub range_of_one : (v w : ℕ) → leb v w && leb w v ≡ eqb w v
range_of_one v w = go (eqb w v) refl
  where
    neither : (x y : Bool) → leb v w ≡ x → leb w v ≡ y → (w ≡ v → ⊥) → x && y ≡ false
    neither true true p r n = let k = leb-true v w p in let l = leb-true w v r in absurd (n (omega arith))
    neither true false p r n = refl
    neither false y p r n = refl

    go : (c : Bool) → eqb w v ≡ c → leb v w && leb w v ≡ c
    go true q = let e = eqb-true w v q in rw (le-leb v w (omega arith), le-leb w v (omega arith)) refl
    go false q = neither (leb v w) (leb w v) refl refl (eqb-false w v q)
