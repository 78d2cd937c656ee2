-- Of which elements a broken rule speaks, by a format's own table of reasons; what holds of each element that a table can await, and of the
-- name that a fault has.
use Rattle.std.specs.Prelude.{ℕ, ◌+◌, ◌≡◌, List, ◌++◌, Bool, true, false, ◌⊎◌, ℤ}
use Rattle.tree.specs.Reading.{Rule, meets, Fault, cut_off, overlong, breaks}
use Rattle.tree.specs.Coding.{Descriptor, variable, fixed}
use Rattle.tree.specs.Syntax.{Syntax, done, reads, checks, here, left_over}
use Rattle.tree.specs.Meaning.{Element, sum_of_widths, all_bits, complete, awaits, broken, Follow, CutOff, TooMany, Breaks}

-- the elements es, from position at on, end with those that the rule is about, which begin at its offset
pub record Says {N : Type 0} (About : List (Element N) → Rule N → Type 0) (at : ℕ) (es : List (Element N)) (r : Rule N) : Type 0 where
  pub earlier : List (Element N)
  pub theirs : List (Element N)
  pub all : es ≡ earlier ++ theirs
  pub offset : r.offset ≡ at + sum_of_widths earlier
  pub about : About theirs r

-- each element of a table is as P says
unfoldable pub Awaits : {N A : Type 0} → (N → Descriptor → Type 0) → Syntax N A → Type 0
Awaits P (done a) = Unit {0}
Awaits P (reads n d f) = P n d × ((z : ℤ) → Awaits P (f z))
Awaits P (checks r p) = Awaits P p
Awaits P (here f) = (at : ℕ) → Awaits P (f at)

-- each element of a table, and each that a rule of it is about, has a name as P says
unfoldable pub Names : {N A : Type 0} → (N → Type 0) → Syntax N A → Type 0
Names P (done a) = Unit {0}
Names P (reads n d f) = P n × ((z : ℤ) → Names P (f z))
Names P (checks r p) = P r.element × Names P p
Names P (here f) = (at : ℕ) → Names P (f at)

-- a descriptor of a fixed width, and a table of such elements only
abbrev pub is_fixed : Descriptor → Bool
is_fixed variable = false
is_fixed (fixed c) = true

abbrev pub AllFixed : {N A : Type 0} → Syntax N A → Type 0
AllFixed p = Awaits (λ n d. is_fixed d ≡ true) p

-- both of a table: a broken rule is about the elements that About has, and each element has a fixed width
pub record Tells {N A : Type 0} (About : List (Element N) → Rule N → Type 0) (p : Syntax N A) : Type 0 where
  pub speaks : Breaks (Says About) p
  pub awaited : AllFixed p

-- THE REASON of a refusal of bits s, for any table: elements `es` stand at the beginning of s, each is the one that the table has there, every
-- rule before is met, and t stands behind them. Cut off: the named element comes next, begins at the offset, and the input ends within it.
-- Overlong: its code has a zero too many. Else the rule is not met, and Speaks says which elements that were read it is about; or bytes are left over behind the last one.
abbrev pub Reason : {N A : Type 0} → N → Syntax N A → (ℕ → List (Element N) → Rule N → Type 0) → List Bool → Fault N → Type 0
Reason {N} end p Speaks s (cut_off offset name) =
    (es : List (Element N)) × (t : List Bool) × (d : Descriptor) × Follow p 0 es (awaits name d) × (s ≡ all_bits es ++ t) × (offset ≡ sum_of_widths es) × CutOff d t
Reason {N} end p Speaks s (overlong offset name) =
    (es : List (Element N)) × (t : List Bool) × (d : Descriptor) × Follow p 0 es (awaits name d) × (s ≡ all_bits es ++ t) × (offset ≡ sum_of_widths es) × TooMany d t
Reason {N} {A} end p Speaks s (breaks r) =
    (es : List (Element N)) × (t : List Bool) × (s ≡ all_bits es ++ t) × (meets r ≡ false)
    × ((Follow p 0 es (broken r) × Speaks 0 es r) ⊎ ((a : A) × Follow p 0 es (complete a) × (r ≡ left_over end (sum_of_widths es) t)))
