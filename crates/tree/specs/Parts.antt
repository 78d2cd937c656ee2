-- Parts of a table: numbers without sign, a part that is sent or not, a part for each of several places; their elements, and which
-- values fit.
use Rattle.std.specs.Prelude.{ℕ, zero, suc, ◌-◌, ◌^◌, List, [], ◌∷◌, ◌++◌, Bool, true, false, cond, ◌&&◌, eqb, leb, ltb, replicate, pos}
use Rattle.tree.specs.Reading.{to_boundary}
use Rattle.tree.specs.Coding.{unsigned, fixed, natural}
use Rattle.tree.specs.Syntax.{Syntax, done, reads, checks, here, ◌>>=◌, range_rule, alignment}
use Rattle.tree.specs.Meaning.{Element, element, zero_bit, sum_of_widths}

-- u(n), as a number without sign
abbrev pub unsigned_number : {N : Type 0} → N → ℕ → Syntax N ℕ
unsigned_number name n = reads name (fixed (unsigned n)) (λ z. done (natural z))

-- u(n), from low to high, or else refused
abbrev pub limited : {N : Type 0} → N → ℕ → (refusal low high : ℕ) → Syntax N ℕ
limited name n k low high = here (λ at. reads name (fixed (unsigned n)) (λ z. checks (range_rule name k (pos low) (pos high) at z) (done (natural z))))

-- if( b ): a part that is sent, and one fixed value where it is not
abbrev pub given : {N A : Type 0} → Bool → Syntax N A → A → Syntax N A
given b p fixed_value = cond b p (done fixed_value)

-- for( k = 0; k < n; k++ ), into so many places; those that are not sent have one fixed value
unfoldable pub places : {N A : Type 0} → ℕ → ℕ → Syntax N A → A → Syntax N (List A)
places zero n p fixed_value = done []
places (suc most) n p fixed_value = do
  a ← given (ltb 0 n) p fixed_value
  others ← places most (n - 1) p fixed_value
  done (a ∷ others)

-- and zero bits behind it to the next byte boundary
abbrev pub aligned : {N A : Type 0} → N → Syntax N A → Syntax N A
aligned name p = p >>= λ a. alignment name >>= λ z. done a

-- ---- the elements of a value, and which values fit

abbrev pub field : {N : Type 0} → N → ℕ → ℕ → Element N
field name n v = element name (fixed (unsigned n)) (pos v)

abbrev pub field_fits : ℕ → ℕ → Bool
field_fits n v = ltb v (2 ^ n)

abbrev pub limited_fits : (n low high : ℕ) → ℕ → Bool
limited_fits n low high v = ltb v (2 ^ n) && (leb low v && leb v high)

abbrev pub given_elements : {N A : Type 0} → Bool → (A → List (Element N)) → A → List (Element N)
given_elements b e a = cond b (e a) []

abbrev pub given_fits : {A : Type 0} → Bool → (fits is_fixed : A → Bool) → A → Bool
given_fits b fits is_fixed a = cond b (fits a) (is_fixed a)

unfoldable pub places_elements : {N A : Type 0} → ℕ → (A → List (Element N)) → List A → List (Element N)
places_elements n e [] = []
places_elements n e (a ∷ others) = given_elements (ltb 0 n) e a ++ places_elements (n - 1) e others

unfoldable pub places_fit : {A : Type 0} → (most n : ℕ) → (fits is_fixed : A → Bool) → List A → Bool
places_fit zero n fits is_fixed [] = true
places_fit zero n fits is_fixed (a ∷ others) = false
places_fit (suc most) n fits is_fixed [] = false
places_fit (suc most) n fits is_fixed (a ∷ others) = given_fits (ltb 0 n) fits is_fixed a && places_fit most (n - 1) fits is_fixed others

-- so many places, and each has the fixed value
unfoldable pub places_fixed : {A : Type 0} → ℕ → (A → Bool) → List A → Bool
places_fixed zero is_fixed [] = true
places_fixed zero is_fixed (a ∷ others) = false
places_fixed (suc most) is_fixed [] = false
places_fixed (suc most) is_fixed (a ∷ others) = is_fixed a && places_fixed most is_fixed others

abbrev pub padded_to_byte : {N : Type 0} → N → List (Element N) → List (Element N)
padded_to_byte name es = es ++ replicate (to_boundary (sum_of_widths es)) (zero_bit name)

-- each is true
abbrev pub all : List Bool → Bool
all [] = true
all (b ∷ bs) = b && all bs

-- each is 0
abbrev pub all_zero : List ℕ → Bool
all_zero [] = true
all_zero (v ∷ vs) = eqb v 0 && all_zero vs
