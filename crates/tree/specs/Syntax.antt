-- A syntax table as a tree: which element comes next, by what was read before it, and which rules are to be met. How it is read.
use Rattle.std.specs.Prelude.{ℕ, zero, suc, ◌/◌, List, [], ◌∷◌, Bool, cond, length, ℤ, pos}
use Rattle.refusals.specs.Refusals.{not_zero, bytes_remain}
use Rattle.tree.specs.Reading.{between, Rule, meets, breaks, Out, ok, no, Reader, and_then, to_boundary}
use Rattle.tree.specs.Coding.{Coding, unsigned, Descriptor, fixed, coded}

-- complete, with what was made of it; an element, and what follows by its value; a rule, checked before what follows; what
-- follows by the position in the data, as byte_aligned() asks
pub data Syntax (N A : Type 0) : Type 0 where
  done : A → Syntax N A
  reads : N → Descriptor → (ℤ → Syntax N A) → Syntax N A
  checks : Rule N → Syntax N A → Syntax N A
  here : (ℕ → Syntax N A) → Syntax N A

-- reading, from left to right: the first failure decides
unfoldable pub read : {N A : Type 0} → Syntax N A → Reader N A
read (done a) at s = ok a 0
read (reads n d f) at s = and_then (coded d n at s) (λ z. read (f z)) at s
read (checks r p) at s = cond (meets r) (read p at s) (no (breaks r))
read (here f) at s = read (f at) at s

infixl 25 ◌>>=◌ ◌>>◌
-- one table behind another
unfoldable pub ◌>>=◌ : {N A B : Type 0} → Syntax N A → (A → Syntax N B) → Syntax N B
done a >>= g = g a
reads n d f >>= g = reads n d (λ z. f z >>= g)
checks r p >>= g = checks r (p >>= g)
here f >>= g = here (λ at. f at >>= g)

-- and nothing of the first is looked at
abbrev pub ◌>>◌ : {N A B : Type 0} → Syntax N A → Syntax N B → Syntax N B
p >> q = p >>= (λ a. q)

-- where one stands in the data
abbrev pub position : {N : Type 0} → Syntax N ℕ
position = here done

-- a rule alone
abbrev pub must : {N : Type 0} → Rule N → Syntax N Unit
must r = checks r (done tt)

-- an element of any value
abbrev pub any : {N : Type 0} → N → Descriptor → Syntax N ℤ
any name d = reads name d done

-- an element of the values from low to high, checked when its code is complete, or else refused with the number
abbrev pub range_rule : {N : Type 0} → N → ℕ → ℤ → ℤ → ℕ → ℤ → Rule N
range_rule name number low high at z = record { number = number; offset = at; element = name; value = z; allowed = between low high }

abbrev pub ranged : {N : Type 0} → N → Descriptor → ℕ → ℤ → ℤ → Syntax N ℤ
ranged name d number low high = here (λ at. reads name d (λ z. checks (range_rule name number low high at z) (done z)))

-- a field of a fixed width, and a row of them
pub record Field (N : Type 0) : Type 0 where
  pub name : N
  pub coding : Coding

abbrev pub coding_of : {N : Type 0} → Field N → Coding
coding_of f = f.coding

unfoldable pub row : {N : Type 0} → List (Field N) → Syntax N (List ℤ)
row [] = done []
row (f ∷ fs) = do
  z ← any f.name (fixed f.coding)
  zs ← row fs
  done (z ∷ zs)

-- a bit of any value
abbrev pub one_bit : {N : Type 0} → N → Field N
one_bit name = record { name = name; coding = unsigned 1 }

-- n zero bits, each an element of its own and each checked by itself
unfoldable pub zero_bits : {N : Type 0} → N → ℕ → Syntax N Unit
zero_bits name zero = done tt
zero_bits name (suc n) = ranged name (fixed (unsigned 1)) not_zero (pos 0) (pos 0) >> zero_bits name n

-- while( !byte_aligned() ): zero bits to the next byte boundary
abbrev pub alignment : {N : Type 0} → N → Syntax N Unit
alignment name = here (λ at. zero_bits name (to_boundary at))

-- bytes remain after the data: where they begin, and how many they are
abbrev pub left_over : {N : Type 0} → N → ℕ → List Bool → Rule N
left_over end at t = record { number = bytes_remain; offset = at; element = end; value = pos (length t / 8); allowed = between (pos 0) (pos 0) }

-- a table from the beginning of the data on, behind which the input ends
unfoldable pub read_whole : {N A : Type 0} → N → Syntax N A → List Bool → Out N A
read_whole end p s = and_then (read p 0 s) (λ a at t. cond (meets (left_over end at t)) (ok a 0) (no (breaks (left_over end at t)))) 0 s
