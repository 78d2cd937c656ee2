-- A code divided by 4,096 in single precision, by its bits.
use Rattle.std.specs.Prelude.{ℕ, zero, suc, ◌+◌, ◌-◌, ◌*◌, ◌^◌, Bool, false, cond, not, ◌&&◌, eqb, ltb, ℤ, pos, negsuc, nat_abs, Float}
use Rattle.std.specs.Bool.{beq}
use Rattle.std.specs.Int.Signed.{non_neg}
use Rattle.std.specs.Float.{nan, inf, fin}
use Rattle.std.specs.Float.Ieee.{up, down}

-- the place of the leading one of a number below 2 ^ (k + 1)
unfoldable pub lead : ℕ → ℕ → ℕ
lead zero n = 0
lead (suc k) n = cond (ltb n (2 ^ suc k)) (lead k n) (suc k)

-- the fields of a binary32 (IEEE 754, 3.4): a sign bit, 8 bits of exponent, 23 bits of fraction
abbrev pub pattern_of : ℕ → ℕ → ℕ → ℕ
pattern_of sign exponent fraction = sign * 2 ^ 31 + exponent * 2 ^ 23 + fraction

-- n / 4,096: the exponent is that of n's leading one, less 12, with the bias 127; the fraction is the digits below that one
unfoldable pub single : ℕ → ℕ → ℕ
unfolding lead
single sign zero = pattern_of sign 0 0
single sign (suc n) = let e = lead 12 (suc n) in pattern_of sign (127 + e - 12) ((suc n - 2 ^ e) * 2 ^ (23 - e))

-- the bits of code / 4,096, for every code of at most 13 bits with its sign; code 0 is plus zero
unfoldable pub single_bits : ℤ → ℕ
unfolding single
single_bits (pos n) = single 0 n
single_bits (negsuc n) = single 1 (suc n)

-- the float x is exactly z / 4,096: its sign is z's, and its m × 2^e times 4,096 is z's magnitude
abbrev pub is_exactly : ℤ → Float → Bool
is_exactly z nan = false
is_exactly z (inf s) = false
is_exactly z (fin s m e) = beq s (not (non_neg z)) && eqb (m * up e * 4096) (nat_abs z * down e)
