-- Lines of key=value text, in ASCII.
use Rattle.std.specs.Prelude.{ℕ, zero, suc, ◌+◌, ◌/◌, ◌%◌, cond, List, [], ◌∷◌, ◌++◌, ltb, ℤ, pos, negsuc, nat_abs}
use Prim.Native.Char.{code}
use Prim.Native.String.{String}
use Prim.Native.String as S

-- the bytes of a text
unfoldable pub ascii : String → List ℕ
ascii S.[] = []
ascii (S.◌∷◌ c s) = code c ∷ ascii s

-- how many digits n has, looked for in at most `bound` steps; `longer` has a name so that `cond` computes it only where it is taken
unfoldable pub size_within : ℕ → ℕ → ℕ
size_within zero n = 1
size_within (suc bound) n = let longer = 1 + size_within bound (n / 10) in cond (ltb n 10) 1 longer

-- n steps are enough
abbrev pub size : ℕ → ℕ
size n = size_within n n

-- the last k digits of n, the most significant first
unfoldable pub digits : ℕ → ℕ → List ℕ
digits zero n = []
digits (suc k) n = digits k (n / 10) ++ ((48 + n % 10) ∷ [])

-- plain decimal: all digits of n, and no zero before them
abbrev pub decimal : ℕ → List ℕ
decimal n = digits (size n) n

-- a minus sign stands before a negative number, and nothing before another
abbrev pub sign : ℤ → List ℕ
sign (pos n) = []
sign (negsuc n) = ascii "-"

-- a number with its sign
abbrev pub numeral : ℤ → List ℕ
numeral z = sign z ++ decimal (nat_abs z)

-- a key and its number
pub record Line : Type 0 where
  pub key : String
  pub value : ℤ

-- a line, by its parts
abbrev pub line : String → ℤ → Line
line k v = record { key = k; value = v }

-- a line is ended by one LF
abbrev pub line_text : Line → List ℕ
line_text l = ascii l.key ++ (ascii "=" ++ (numeral l.value ++ ascii "\n"))

-- lines, one behind another
unfoldable pub text : List Line → List ℕ
text [] = []
text (l ∷ ls) = line_text l ++ text ls
