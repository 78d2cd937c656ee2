-- What a text tells: the number that digits are, and the keys that a text's lines may have so that it has no other lines.
use Rattle.std.specs.Prelude.{ℕ, ◌+◌, ◌-◌, ◌*◌, Bool, true, not, ◌&&◌, List, [], ◌∷◌, eqb}
use Rattle.text.specs.Text.{ascii, Line}

-- the number that digits are, behind those that make n
unfoldable pub decimal_after : ℕ → List ℕ → ℕ
decimal_after n [] = n
decimal_after n (d ∷ ds) = decimal_after (n * 10 + (d - 48)) ds

-- the number that digits are
abbrev pub decimal_value : List ℕ → ℕ
decimal_value ds = decimal_after 0 ds

abbrev pub equals_sign : ℕ
equals_sign = 61

-- b is none of the bytes
unfoldable pub without : ℕ → List ℕ → Bool
without b [] = true
without b (x ∷ xs) = not (eqb b x) && without b xs

-- a key that holds no equals sign
abbrev pub plain_key : Line → Bool
plain_key l = without equals_sign (ascii l.key)

-- lines with such keys
unfoldable pub plain_keys : List Line → Bool
plain_keys [] = true
plain_keys (l ∷ ls) = plain_key l && plain_keys ls
