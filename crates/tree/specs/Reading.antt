-- What a reader gives: a value with the number of bits that it took, or a fault that says where, which element and why. And the
-- readers of one number: u(n), i(n), ue(v). Each is told the position `at` in the data and the element's name, for its fault only.
use Rattle.std.specs.Prelude.{ℕ, ◌+◌, ◌-◌, ◌%◌, ◌^◌, List, [], ◌∷◌, Bool, true, false, cond, not, ◌&&◌, ◌||◌, eqb, leb, ltb, length, take, drop, ℤ, pos, negsuc, ◌-ℤ◌}
use Rattle.std.specs.Int.Signed.{le_z}
use Rattle.refusals.specs.Refusals.{past_end, too_many_zeros}
use Rattle.tree.specs.Bits.{value}

-- which numbers an element may have: from the lowest to the highest (none if the lowest is above it), or other ones than these
pub data Allowed : Type 0 where
  between : ℤ → ℤ → Allowed
  other_than : List ℤ → Allowed

-- the same number
abbrev pub equal_z : ℤ → ℤ → Bool
equal_z (pos x) (pos y) = eqb x y
equal_z (pos x) (negsuc y) = false
equal_z (negsuc x) (pos y) = false
equal_z (negsuc x) (negsuc y) = eqb x y

-- one of several numbers
unfoldable pub among_z : ℤ → List ℤ → Bool
among_z z [] = false
among_z z (y ∷ ys) = equal_z z y || among_z z ys

-- a number is allowed
abbrev pub allows : Allowed → ℤ → Bool
allows (between low high) z = le_z low z && le_z z high
allows (other_than zs) z = not (among_z z zs)

-- a rule for an element that was read: its name and value, which values are allowed, and the number and offset of the refusal
pub record Rule (N : Type 0) : Type 0 where
  pub number : ℕ
  pub offset : ℕ
  pub element : N
  pub value : ℤ
  pub allowed : Allowed

-- the value is one of those that are allowed
abbrev pub meets : {N : Type 0} → Rule N → Bool
meets r = allows r.allowed r.value

-- why an input is refused: it ends within the element that begins at an offset; that element's ue(v) code has a zero too many; or a rule is not met
pub data Fault (N : Type 0) : Type 0 where
  cut_off : ℕ → N → Fault N
  overlong : ℕ → N → Fault N
  breaks : Rule N → Fault N

-- its number, and where and of which element it is found
abbrev pub number_in : {N : Type 0} → Fault N → ℕ
number_in (cut_off at n) = past_end
number_in (overlong at n) = too_many_zeros
number_in (breaks r) = r.number

abbrev pub offset_in : {N : Type 0} → Fault N → ℕ
offset_in (cut_off at n) = at
offset_in (overlong at n) = at
offset_in (breaks r) = r.offset

abbrev pub element_in : {N : Type 0} → Fault N → N
element_in (cut_off at n) = n
element_in (overlong at n) = n
element_in (breaks r) = r.element

-- a value and how many bits it took, or a fault, which is passed on as it is
pub data Out (N A : Type 0) : Type 0 where
  ok : A → ℕ → Out N A
  no : Fault N → Out N A

-- a reader goes by the position in the data and the bits from there on
abbrev pub Reader : Type 0 → Type 0 → Type 0
Reader N A = ℕ → List Bool → Out N A

-- behind n bits that are taken already
abbrev pub widened : {N A : Type 0} → ℕ → Out N A → Out N A
widened n (ok a m) = ok a (n + m)
widened n (no r) = no r

-- one reader behind another: the second goes by what the first gave, from where that ended; the first fault stands
abbrev pub and_then : {N A B : Type 0} → Out N A → (A → Reader N B) → Reader N B
and_then (ok a n) f at s = widened n (f a (at + n) (drop n s))
and_then (no r) f at s = no r

-- the same bits, as another value
abbrev pub mapped : {N A B : Type 0} → (A → B) → Out N A → Out N B
mapped f (ok a n) = ok (f a) n
mapped f (no r) = no r

-- u(n): n bits, as a number
unfoldable pub u : {N : Type 0} → N → ℕ → Reader N ℕ
u name n at s = cond (leb n (length s)) (ok (value (take n s)) n) (no (cut_off at name))

-- two's complement: of a number of n bits, those whose first bit is a one are 2 ^ n less
abbrev pub signed_of : ℕ → ℕ → ℤ
signed_of n v = cond (ltb v (2 ^ (n - 1))) (pos v) (pos v -ℤ pos (2 ^ n))

-- i(n)
unfoldable pub i : {N : Type 0} → N → ℕ → Reader N ℤ
i name n at s = mapped (signed_of n) (u name n at s)

-- the zeros of a ue(v) code, which has at most `most`, and the one behind them; k zeros are past, and the code begins at `at`
unfoldable pub zeros_then_one : {N : Type 0} → N → ℕ → ℕ → ℕ → List Bool → Out N ℕ
zeros_then_one name most at k [] = no (cut_off at name)
zeros_then_one name most at k (true ∷ s) = ok k (k + 1)
zeros_then_one name most at k (false ∷ s) = cond (ltb k most) (zeros_then_one name most at (k + 1) s) (no (overlong at name))

-- ue(v): k zeros, a one, then k bits; its number is 2^k − 1 plus those k bits
unfoldable pub ue : {N : Type 0} → N → ℕ → Reader N ℕ
ue name most at s = and_then (zeros_then_one name most at 0 s) (λ k past t. mapped (λ v. 2 ^ k - 1 + v) (u name k at t)) at s

-- how many bits are missing from position n to the next byte boundary
abbrev pub to_boundary : ℕ → ℕ
to_boundary n = (8 - n % 8) % 8
