-- The division is exact at each of the 8,192 codes: a test that is computed at each, and the law that it says.
use Prim.Native.Nat.{ℕ, zero, suc, ◌<◌}
use mathlib.Core.Path.{◌≡◌, sym, subst}
use mathlib.Core.Bool.{Bool, true, false, ◌&&◌}
use mathlib.Core.Logic.{⊎_elim}
use native.Mathlib.Nat.{le_of_suc-le-suc, not-suc-le-zero, eq-or-lt_of_le}
use lib.Dec.{T, eqb, eqb→eq}
use lib.IntN.{ℤ, pos, negsuc}
use lib.Signed.{mag}
use lib.Ieee.{Float, binary32, to_bits, of_bits, div, of_int}
use Rattle.singles.specs.Singles.{single_bits, is_exactly}

both_left : (a b : Bool) → T (a && b) → T a
both_left true b t = tt
both_left false b t = t

both_right : (a b : Bool) → T (a && b) → T b
both_right true b t = t
both_right false b t = absurd t

abbrev pub below : (ℕ → Bool) → ℕ → Bool
below test zero = true
below test (suc n) = test n && below test n

at : (test : ℕ → Bool) (n : ℕ) → T (below test n) → (k : ℕ) → k < n → T (test k)
at test zero t k h = absurd (not-suc-le-zero h)
at test (suc n) t k h =
    ⊎_elim
    (λ e. subst (λ (m : ℕ). T (test m)) (sym e) (both_left (test n) (below test n) t))
    (λ l. at test n (both_right (test n) (below test n) t) k l)
    (eq-or-lt_of_le (le_of_suc-le-suc h))

-- a test that passes at each code from 0 to 4,095 and from -1 to -4,096
pub at_each_code : (test : ℤ → Bool) → T (below (λ (n : ℕ). test (pos n)) 4096) → T (below (λ (n : ℕ). test (negsuc n)) 4096) → (z : ℤ) → mag z < 4096 → T (test z)
at_each_code test plus minus (pos k) h = at (λ (n : ℕ). test (pos n)) 4096 plus k h
at_each_code test plus minus (negsuc k) h = at (λ (n : ℕ). test (negsuc n)) 4096 minus k h

-- what the code computes: the number as a float, divided by 4,096.0
abbrev pub quotient : ℤ → Float
quotient z = div binary32 (of_int binary32 z) (of_bits binary32 0x4580_0000)

bits_right : ℤ → Bool
bits_right z = eqb (to_bits binary32 (quotient z)) (single_bits z)

plus : T (below (λ (n : ℕ). bits_right (pos n)) 4096)
unfolding bits_right to_bits div of_int of_bits single_bits
plus = tt

minus : T (below (λ (n : ℕ). bits_right (negsuc n)) 4096)
unfolding bits_right to_bits div of_int of_bits single_bits
minus = tt

pub quotient_bits : (z : ℤ) → mag z < 4096 → to_bits binary32 (quotient z) ≡ single_bits z
unfolding bits_right
quotient_bits z h = eqb→eq (to_bits binary32 (quotient z)) (single_bits z) (at_each_code bits_right plus minus z h)

exact_right : ℤ → Bool
exact_right z = is_exactly z (of_bits binary32 (single_bits z))

exact_plus : T (below (λ (n : ℕ). exact_right (pos n)) 4096)
unfolding exact_right of_bits single_bits
exact_plus = tt

exact_minus : T (below (λ (n : ℕ). exact_right (negsuc n)) 4096)
unfolding exact_right of_bits single_bits
exact_minus = tt

-- nothing is rounded: the number with those bits is exactly code / 4,096
pub singles_are_exact : (z : ℤ) → mag z < 4096 → T (is_exactly z (of_bits binary32 (single_bits z)))
unfolding exact_right
singles_are_exact z h = at_each_code exact_right exact_plus exact_minus z h
