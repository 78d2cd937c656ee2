-- Text typed into a lent buffer, byte by byte.
use Rattle.std.specs.Prelude.{ℕ, ◌+◌, ◌≤◌, ◌≡◌, List, ◌++◌, ℤ, length, take, drop}
use Rattle.text.specs.Text.{ascii, numeral}

-- behind place at there is room for the bytes
abbrev pub RoomForText : List ℕ → ℕ → List ℕ → Type 0
RoomForText out at bytes = at + length bytes ≤ length out

-- from place at to place at' the bytes were typed, and no byte behind it changed
pub record Typed (out : List ℕ) (at : ℕ) (bytes : List ℕ) (out' : List ℕ) (at' : ℕ) : Type 0 where
  pub up_to : take at' out' ≡ take at out ++ bytes
  pub later : drop at' out' ≡ drop at' out
  pub same : length out' ≡ length out
  pub place : at' ≡ at + length bytes

-- a line, by the bytes of its key with the equals sign, and its number
abbrev pub entry : List ℕ → ℤ → List ℕ
entry key z = key ++ (numeral z ++ ascii "\n")
