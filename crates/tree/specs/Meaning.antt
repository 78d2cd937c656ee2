-- What an answer says of the input, in terms of the elements that stand there.
use Rattle.std.specs.Prelude.{ℕ, ◌+◌, ◌<◌, ◌≡◌, List, [], ◌∷◌, ◌++◌, ◌⊎◌, Bool, true, false, cond, length, drop, replicate, ℤ, pos}
use Rattle.tree.specs.Reading.{Rule, meets, cut_off, overlong, breaks, Out, ok, no}
use Rattle.tree.specs.Coding.{unsigned, Descriptor, variable, fixed, holds_in, width_in, code_in, most_zeros}
use Rattle.tree.specs.Syntax.{Syntax, done, reads, checks, here, Field, left_over}

-- an element that stands in the data: its name, how it is coded, and its value
pub record Element (N : Type 0) : Type 0 where
  pub name : N
  pub descriptor : Descriptor
  pub value : ℤ

-- how many bits an element has, and which
abbrev pub width : {N : Type 0} → Element N → ℕ
width e = width_in e.descriptor e.value

abbrev pub element_bits : {N : Type 0} → Element N → List Bool
element_bits e = code_in e.descriptor e.value

-- the sum of the widths, and all bits in a row
unfoldable pub sum_of_widths : {N : Type 0} → List (Element N) → ℕ
sum_of_widths [] = 0
sum_of_widths (e ∷ es) = width e + sum_of_widths es

unfoldable pub all_bits : {N : Type 0} → List (Element N) → List Bool
all_bits [] = []
all_bits (e ∷ es) = element_bits e ++ all_bits es

-- an element by its parts
abbrev pub element : {N : Type 0} → N → Descriptor → ℤ → Element N
element n d z = record { name = n; descriptor = d; value = z }

-- a bit that is zero
abbrev pub zero_bit : {N : Type 0} → N → Element N
zero_bit n = element n (fixed (unsigned 1)) (pos 0)

-- each field of a row with its value
unfoldable pub field_elements : {N : Type 0} → List (Field N) → List ℤ → List (Element N)
field_elements [] zs = []
field_elements (f ∷ fs) [] = []
field_elements (f ∷ fs) (z ∷ zs) = element f.name (fixed f.coding) z ∷ field_elements fs zs

-- what comes next in a table: nothing more, as it is complete; an element; or a rule that is broken by what stands before
pub data Next (N A : Type 0) : Type 0 where
  complete : A → Next N A
  awaits : N → Descriptor → Next N A
  broken : Rule N → Next N A

-- the elements es follow the table p from position at on: each is the one that comes next there, with a value that its descriptor
-- holds, and every rule is met that stands before the next one; x is what comes next behind them
unfoldable pub Follow : {N A : Type 0} → Syntax N A → ℕ → List (Element N) → Next N A → Type 0
Follow (done a) at es x = (es ≡ []) × (x ≡ complete a)
Follow (reads n d f) at [] x = x ≡ awaits n d
Follow (reads n d f) at (e ∷ es) x = ((e.name ≡ n) × (e.descriptor ≡ d) × (holds_in d e.value ≡ true)) × Follow (f e.value) (at + width e) es x
Follow (checks r p) at es x = cond (meets r) (Follow p at es x) ((es ≡ []) × (x ≡ broken r))
Follow (here f) at es x = Follow (f at) at es x

-- the input ends within an element: the bits t are the beginning of one, and not all of it
pub record CutOff (d : Descriptor) (t : List Bool) : Type 0 where
  pub value : ℤ
  pub missing : List Bool
  pub held : holds_in d value ≡ true
  pub begun : t ++ missing ≡ code_in d value
  pub some : 0 < length missing

-- the bits t begin with one zero more than a ue(v) code may have
pub record TooMany (d : Descriptor) (t : List Bool) : Type 0 where
  pub code : d ≡ variable
  pub rest : List Bool
  pub zeros : t ≡ replicate most_zeros false ++ (false ∷ rest)

-- what an answer says of the bits s from position at on: which elements stand there, that each meets its rule, and what is
-- wrong with the next one, which begins at the offset, or which rule is broken behind them
abbrev pub Means : {N A : Type 0} → Syntax N A → ℕ → List Bool → Out N A → Type 0
Means {N} p at s (ok a n) = (es : List (Element N)) × Follow p at es (complete a) × (s ≡ all_bits es ++ drop n s) × (n ≡ sum_of_widths es)
Means {N} p at s (no (cut_off offset name)) =
    (es : List (Element N)) × (t : List Bool) × (d : Descriptor) × Follow p at es (awaits name d) × (s ≡ all_bits es ++ t) × (offset ≡ at + sum_of_widths es) × CutOff d t
Means {N} p at s (no (overlong offset name)) =
    (es : List (Element N)) × (t : List Bool) × (d : Descriptor) × Follow p at es (awaits name d) × (s ≡ all_bits es ++ t) × (offset ≡ at + sum_of_widths es) × TooMany d t
Means {N} p at s (no (breaks r)) = (es : List (Element N)) × (t : List Bool) × Follow p at es (broken r) × (s ≡ all_bits es ++ t)

-- the same of a table behind which the input ends: bytes that are left over break the last rule
abbrev pub MeansWhole : {N A : Type 0} → N → Syntax N A → List Bool → Out N A → Type 0
MeansWhole {N} end p s (ok a n) =
    (es : List (Element N)) × (t : List Bool) × Follow p 0 es (complete a) × (s ≡ all_bits es ++ t) × (n ≡ sum_of_widths es) × (meets (left_over end n t) ≡ true)
MeansWhole {N} {A} end p s (no f) =
    Means p 0 s (no f)
    ⊎ ((a : A) × (es : List (Element N)) × (t : List Bool) × Follow p 0 es (complete a) × (s ≡ all_bits es ++ t) × (f ≡ breaks (left_over end (sum_of_widths es) t)) × (meets (left_over end (sum_of_widths es) t) ≡ false))

-- the table p is followed from position at on exactly by the elements e of the values that Fit
pub record Spells {N A : Type 0} (p : Syntax N A) (at : ℕ) (e : A → List (Element N)) (Fit : A → Type 0) : Type 0 where
  pub takes : (a : A) → Fit a → Follow p at (e a) (complete a)
  pub only : (es : List (Element N)) (a : A) → Follow p at es (complete a) → Fit a × (es ≡ e a)

-- a rule of p that is broken behind elements es from position at on is as P says
abbrev pub BreaksAt : {N A : Type 0} → (ℕ → List (Element N) → Rule N → Type 0) → ℕ → Syntax N A → Type 0
BreaksAt {N} P at p = (es : List (Element N)) (r : Rule N) → Follow p at es (broken r) → P at es r

-- wherever p begins
abbrev pub Breaks : {N A : Type 0} → (ℕ → List (Element N) → Rule N → Type 0) → Syntax N A → Type 0
Breaks P p = (at : ℕ) → BreaksAt P at p

-- a broken rule is about the last element that was read: it begins at the rule's offset, with the name and the value
pub record AboutLast {N : Type 0} (at : ℕ) (es : List (Element N)) (r : Rule N) : Type 0 where
  pub earlier : List (Element N)
  pub last : Element N
  pub all : es ≡ earlier ++ (last ∷ [])
  pub offset : r.offset ≡ at + sum_of_widths earlier
  pub name : last.name ≡ r.element
  pub value : last.value ≡ r.value
