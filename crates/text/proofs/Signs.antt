-- A number with its sign: its sign, and its line.
use Prim.Native.Nat.{ℕ}
use mathlib.Core.Path.{◌≡◌, refl, ap}
use mathlib.Core.List.{List, [], ◌++◌, append_assoc}
use mathlib.Core.Bool.{true, false}
use native.Mathlib.Omega.{arith}
use borrow.Author.Tests.{ltb-true}
use lib.IntN.{ℤ, pos, negsuc, nat_abs}
use lib.Signed.{lt_z}
use mir.Val.{to_z, of_z, SFits}
use mir.ValLaws.{to_z-of_z}
use mir.Syntax.{w16}
use Rattle.text.specs.Text.{ascii, decimal, sign}
use Rattle.text.specs.Typing.{entry}

-- the sign of a negative number, and of another
module _ (z : ℤ) (f : SFits w16 z) where
  pub minus_sign_lem : lt_z (to_z w16 (of_z w16 z)) (pos 0) ≡ true → sign z ≡ ascii "-"
  minus_sign_lem h = go z (rw (to_z-of_z w16 z f) at h)
    where
      go : (z : ℤ) → lt_z z (pos 0) ≡ true → sign z ≡ ascii "-"
      go (pos v) h = let l = ltb-true v 0 h in absurd (omega arith)
      go (negsuc v) h = refl

  pub no_sign : lt_z (to_z w16 (of_z w16 z)) (pos 0) ≡ false → sign z ≡ []
  no_sign h = go z (rw (to_z-of_z w16 z f) at h)
    where
      go : (z : ℤ) → lt_z z (pos 0) ≡ false → sign z ≡ []
      go (pos v) h = refl
      go (negsuc v) h = let z : ◌≡◌ {A = ℕ} 0 1 = cc in absurd (omega arith)

-- a line, part by part
pub signed_entry : (key : List ℕ) (z : ℤ) → entry key z ≡ key ++ (sign z ++ (decimal (nat_abs z) ++ ascii "\n"))
signed_entry key z = ap (λ (t : List ℕ). key ++ t) (append_assoc (sign z) (decimal (nat_abs z)) (ascii "\n"))
