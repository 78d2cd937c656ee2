-- Codes on both sides of each limit, by hand from 01, 02 and H.265: what definition and code could get wrong together.
use Prim.Native.Nat.{ℕ}
use mathlib.Core.Path.{◌≡◌, refl}
use mathlib.Core.List.{List, [], ◌∷◌, ◌++◌, map}
use mathlib.Core.Bool.{Bool, true, false}
use lib.ListN.{replicate}
use lib.IntN.{ℤ, pos, negsuc}
use Rattle.tree.specs.Bits.{value_from}
use Rattle.tree.specs.Reading.{cut_off, overlong, Out, ok, no, u, i, ue, zeros_then_one}
use Rattle.tree.specs.Coding.{unsigned, signed, Descriptor, variable, fixed, coded}

-- an element of no name, at the beginning of the data
abbrev reads : Descriptor → List Bool → Out (Unit {0}) ℤ
reads d s = coded d tt 0 s

abbrev zeros : ℕ → List Bool
zeros n = replicate n false

abbrev ones : ℕ → List Bool
ones n = replicate n true

-- ue(v): 1 is 0, 010 is 1, 011 is 2, 00100 is 3, 00111 is 6; 15, 16 and 31 zeros are read, up to 2^32 − 2; a 32nd is one too many, whole or
-- not; and what is missing is missing
pub ue_at_the_edges : map (reads variable)
    ((true ∷ []) ∷ (false ∷ true ∷ false ∷ []) ∷ (false ∷ true ∷ true ∷ []) ∷ (false ∷ false ∷ true ∷ false ∷ false ∷ []) ∷ (false ∷ false ∷ true ∷ true ∷ true ∷ [])
    ∷ (zeros 15 ++ (true ∷ ones 15)) ∷ (zeros 16 ++ (true ∷ zeros 16)) ∷ (zeros 31 ++ (true ∷ zeros 31)) ∷ (zeros 31 ++ (true ∷ ones 31))
    ∷ (zeros 32 ++ (true ∷ zeros 32)) ∷ zeros 32 ∷ zeros 31 ∷ (zeros 31 ++ (true ∷ zeros 30)) ∷ [] ∷ [])
    ≡ ok (pos 0) 1 ∷ ok (pos 1) 3 ∷ ok (pos 2) 3 ∷ ok (pos 3) 5 ∷ ok (pos 6) 5
    ∷ ok (pos 65534) 31 ∷ ok (pos 65535) 33 ∷ ok (pos 2147483647) 63 ∷ ok (pos 4294967294) 63
    ∷ no (overlong 0 tt) ∷ no (overlong 0 tt) ∷ no (cut_off 0 tt) ∷ no (cut_off 0 tt) ∷ no (cut_off 0 tt) ∷ []
unfolding value_from u ue zeros_then_one
ue_at_the_edges = refl

-- u(3) and i(3): 100 is 4 and −4, 111 is 7 and −1, 011 is 3
pub fields_at_the_edges : map (reads (fixed (unsigned 3))) ((true ∷ false ∷ false ∷ []) ∷ (true ∷ true ∷ true ∷ []) ∷ (true ∷ true ∷ []) ∷ []) ++ map (reads (fixed (signed 3))) ((true ∷ false ∷ false ∷ []) ∷ (true ∷ true ∷ true ∷ []) ∷ (false ∷ true ∷ true ∷ []) ∷ [])
    ≡ ok (pos 4) 3 ∷ ok (pos 7) 3 ∷ no (cut_off 0 tt) ∷ ok (negsuc 3) 3 ∷ ok (negsuc 0) 3 ∷ ok (pos 3) 3 ∷ []
unfolding value_from u i
fields_at_the_edges = refl
