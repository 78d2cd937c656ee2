-- Bits: those of a list of bytes, the number that they are, the one code of a number in n bits, and bytes packed of bits.
use Rattle.std.specs.Prelude.{ℕ, zero, suc, ◌+◌, ◌*◌, ◌/◌, ◌%◌, ◌<◌, List, [], ◌∷◌, ◌++◌, Bool, true, false, eqb, length, take, drop}

-- the last bit of a number
abbrev pub odd : ℕ → Bool
odd v = eqb (v % 2) 1

-- the one code of v in n bits, the most significant first
unfoldable pub code : ℕ → ℕ → List Bool
code zero v = []
code (suc n) v = code n (v / 2) ++ (odd v ∷ [])

-- the bits of a list of bytes (01, The data, bit by bit: "from the most significant bit of each byte")
unfoldable pub bits_of : List ℕ → List Bool
bits_of [] = []
bits_of (b ∷ bytes) = code 8 b ++ bits_of bytes

-- a bit as a number
abbrev pub bit : Bool → ℕ
bit true = 1
bit false = 0

-- the number that bits are, behind those that make v
unfoldable pub value_from : ℕ → List Bool → ℕ
value_from v [] = v
value_from v (b ∷ bits) = value_from (v * 2 + bit b) bits

-- the number that bits are
abbrev pub value : List Bool → ℕ
value bits = value_from 0 bits

-- n bytes of bits
unfoldable pub packed : ℕ → List Bool → List ℕ
packed zero bits = []
packed (suc n) bits = value (take 8 bits) ∷ packed n (drop 8 bits)

-- whole bytes of bits; fewer than 8 bits at the end make none
abbrev pub pack : List Bool → List ℕ
pack bits = packed (length bits / 8) bits

-- each is a byte
abbrev pub Bytes : List ℕ → Type 0
Bytes [] = Unit {0}
Bytes (b ∷ bytes) = (b < 256) × Bytes bytes
