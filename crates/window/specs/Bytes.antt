-- The number of bytes.
use Rattle.std.specs.Prelude.{ℕ, zero, suc, ◌+◌, ◌*◌, List, get_or}

-- the number that k bytes are, from byte i on, the most significant first
unfoldable pub bytes_number : List ℕ → ℕ → ℕ → ℕ
bytes_number s i zero = 0
bytes_number s i (suc k) = bytes_number s i k * 256 + get_or s (i + k) 0
