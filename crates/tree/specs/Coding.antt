-- How an element is coded: the descriptors of H.265, which numbers each holds, the one code of each number, and its reader.
use Rattle.std.specs.Prelude.{ℕ, suc, ◌+◌, ◌*◌, ◌-◌, ◌^◌, List, [], ◌∷◌, ◌++◌, Bool, true, false, ◌&&◌, ltb, ℤ, pos, negsuc}
use Rattle.tree.specs.Bits.{code}
use Rattle.tree.specs.Reading.{Reader, mapped, u, i, ue}
use Rattle.tree.specs.Codes.{zeros_of, ue_code}

-- H.265: a ue(v) code has at most 31 zeros, so its number is at most 2^32 − 2 (02, d)
abbrev pub most_zeros : ℕ
most_zeros = 31

-- the descriptors u(n) and i(n)
pub data Coding : Type 0 where
  unsigned : ℕ → Coding
  signed : ℕ → Coding

abbrev pub width_of : Coding → ℕ
width_of (unsigned n) = n
width_of (signed n) = n

-- u(n) holds 0 to 2^n − 1, i(n) −2^(n−1) to 2^(n−1) − 1: 2^n numbers, of which those that are not negative are 2^(n−1), or 1 of i(0)
abbrev pub holds : Coding → ℤ → Bool
holds (unsigned n) (pos v) = ltb v (2 ^ n)
holds (unsigned n) (negsuc v) = false
holds (signed n) (pos v) = ltb v (2 ^ (n - 1))
holds (signed n) (negsuc v) = ltb v (2 ^ n - 2 ^ (n - 1))

-- the number that stands for z in n bits: a negative one is 2 ^ n more
abbrev pub complement : ℕ → ℤ → ℕ
complement n (pos v) = v
complement n (negsuc v) = 2 ^ n - suc v

-- the one code of a number in u(n) or i(n)
abbrev pub field_code : Coding → ℤ → List Bool
field_code c z = code (width_of c) (complement (width_of c) z)

-- how many bits u(n)s and i(n)s in a row have
unfoldable pub total_width : List Coding → ℕ
total_width [] = 0
total_width (c ∷ cs) = width_of c + total_width cs

-- they hold as many numbers as they are, each its own
unfoldable pub hold_all : List Coding → List ℤ → Bool
hold_all [] [] = true
hold_all [] (z ∷ zs) = false
hold_all (c ∷ cs) [] = false
hold_all (c ∷ cs) (z ∷ zs) = holds c z && hold_all cs zs

-- the codes of the numbers of a row, one behind another
unfoldable pub fields_code : List Coding → List ℤ → List Bool
fields_code [] zs = []
fields_code (c ∷ cs) [] = []
fields_code (c ∷ cs) (z ∷ zs) = field_code c z ++ fields_code cs zs

-- how an element is coded: ue(v), whose width goes by the number, or u(n) or i(n); a zero bit, f(1), is u(1)
pub data Descriptor : Type 0 where
  variable : Descriptor
  fixed : Coding → Descriptor

-- the number, if it has no sign
abbrev pub natural : ℤ → ℕ
natural (pos v) = v
natural (negsuc v) = 0

-- ue(v) holds the numbers whose codes have no zero too many
abbrev pub holds_in : Descriptor → ℤ → Bool
holds_in variable (pos v) = ltb (v + 1) (2 ^ suc most_zeros)
holds_in variable (negsuc v) = false
holds_in (fixed c) z = holds c z

-- how many bits a number's code has, and which
abbrev pub width_in : Descriptor → ℤ → ℕ
width_in variable z = 2 * zeros_of (natural z) + 1
width_in (fixed c) z = width_of c

abbrev pub code_in : Descriptor → ℤ → List Bool
code_in variable z = ue_code (natural z)
code_in (fixed c) z = field_code c z

-- the reader of one element
abbrev pub coded : {N : Type 0} → Descriptor → N → Reader N ℤ
coded variable name at s = mapped pos (ue name most_zeros at s)
coded (fixed (unsigned n)) name at s = mapped pos (u name n at s)
coded (fixed (signed n)) name at s = i name n at s
