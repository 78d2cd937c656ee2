-- The longest: how many bits the elements of the values that fit have at most, for each kind of part.
use Prim.Native.Nat.{ℕ, zero, suc, ◌+◌, ◌-◌, ◌*◌, ◌/◌, ◌^◌, ◌<◌, ◌≤◌}
use mathlib.Core.Path.{◌≡◌, refl, ap, ◌∙◌}
use mathlib.Core.List.{List, [], ◌∷◌, ◌++◌, map}
use mathlib.Core.Bool.{Bool, true, false, cond}
use mathlib.Core.Logic.{◌⊎◌, inl, inr}
use native.Mathlib.Omega.{arith}
use borrow.Author.Tests.{ltb-true}
use lib.Dec.{ltb}
use lib.IntN.{ℤ, pos, negsuc}
use lib.ListN.{length, get_or, replicate, length-append}
use Rattle.refusals.specs.Refusals.{not_zero, wrapper_differs}
use Rattle.tree.specs.Bits.{pack}
use Rattle.tree.specs.Reading.{between, allows, Rule, meets, cut_off, no, to_boundary}
use Rattle.tree.specs.Coding.{unsigned, width_of, total_width, holds, hold_all, most_zeros, Descriptor, variable, fixed, holds_in, width_in}
use Rattle.tree.specs.Syntax.{Syntax, done, ◌>>=◌, any, ranged, must, range_rule, Field, coding_of, row, zero_bits, alignment}
use Rattle.tree.specs.Meaning.{Element, zero_bit, field_elements, sum_of_widths, all_bits, Next, complete, awaits, broken, Follow, Means}
use Rattle.tree.specs.Wrapper.{wrapper_table}
use Rattle.tree.specs.Parts.{given_elements, given_fits, places_elements, places_fit, padded_to_byte, all}
use Rattle.tree.proofs.Truth.{clash, and_parts}
use Rattle.tree.proofs.Bits.{length-packed}
use Rattle.tree.proofs.Elements.{length-code_in, zeros_few}
use Rattle.tree.proofs.Meaning.{widths_append, length-all}
use Rattle.tree.proofs.Tables.{Within, Apart, Inside, apart}
use Rattle.tree.proofs.Spells.{Goes, any_apart, awaits_not_broken, must_met}
use Rattle.tree.proofs.Accepted.{widths_zeros}

-- the elements of what fits have at most k bits
abbrev pub AtMost : {N A : Type 0} → ℕ → (A → List (Element N)) → (A → Bool) → Type 0
AtMost {N} {A} k e fits = (a : A) → fits a ≡ true → sum_of_widths (e a) ≤ k

-- k, so many times
abbrev pub times : ℕ → ℕ → ℕ
times zero k = 0
times (suc n) k = k + times n k

module _ {N A : Type 0} (k : ℕ) (e : A → List (Element N)) (fits is_fixed : A → Bool) (h : AtMost k e fits) where
  pub given_at_most : (b : Bool) → AtMost k (given_elements b e) (given_fits b fits is_fixed)
  unfolding sum_of_widths
  given_at_most true a f = h a f
  given_at_most false a f = omega arith

  pub places_at_most : (most n : ℕ) → AtMost (times most k) (places_elements n e) (places_fit most n fits is_fixed)
  unfolding places_elements places_fit sum_of_widths
  places_at_most zero n [] f = omega arith
  places_at_most zero n (a ∷ l) f = let z : ◌≡◌ {A = ℕ} 0 1 = cc in clash z
  places_at_most (suc most) n [] f = let z : ◌≡◌ {A = ℕ} 0 1 = cc in clash z
  places_at_most (suc most) n (a ∷ l) f =
      let p = and_parts (given_fits (ltb 0 n) fits is_fixed a) (places_fit most (n - 1) fits is_fixed l) f in
      let x = given_at_most (ltb 0 n) a p.0 in
      let y = places_at_most most (n - 1) l p.1 in
      let w = widths_append (given_elements (ltb 0 n) e a) (places_elements (n - 1) e l) in
      sum (sum_of_widths (given_elements (ltb 0 n) e a)) (sum_of_widths (places_elements (n - 1) e l)) (times most k) x y w
    where
      sum : (x y m : ℕ) → x ≤ k → y ≤ m → sum_of_widths (given_elements (ltb 0 n) e a ++ places_elements (n - 1) e l) ≡ x + y → sum_of_widths (given_elements (ltb 0 n) e a ++ places_elements (n - 1) e l) ≤ k + m
      sum x y m p q r = omega arith

-- bytes of elements with zero bits to the next byte boundary
pub padded_bytes : {N : Type 0} (name : N) (es : List (Element N)) (k : ℕ) → sum_of_widths es ≤ k → length (pack (all_bits (padded_to_byte name es))) ≤ (k + 7) / 8
padded_bytes name es k h =
    let n = sum_of_widths es in
    let l : length (all_bits (padded_to_byte name es)) ≡ n + to_boundary n =
    length-all (padded_to_byte name es) ∙ widths_append es (replicate (to_boundary n) (zero_bit name)) ∙ ap (λ (m : ℕ). n + m) (widths_zeros (to_boundary n) name) in
    let b : length (pack (all_bits (padded_to_byte name es))) ≡ length (all_bits (padded_to_byte name es)) / 8 = length-packed (length (all_bits (padded_to_byte name es)) / 8) (all_bits (padded_to_byte name es)) in
    few (length (pack (all_bits (padded_to_byte name es)))) (length (all_bits (padded_to_byte name es))) n b l h
  where
    few : (c b n : ℕ) → c ≡ b / 8 → b ≡ n + to_boundary n → n ≤ k → c ≤ (k + 7) / 8
    few c b n p q r = omega arith

-- one row behind another
pub widths_behind : {N : Type 0} (es fs : List (Element N)) (n k : ℕ) → sum_of_widths es ≤ n → sum_of_widths fs ≤ k → sum_of_widths (es ++ fs) ≤ n + k
widths_behind es fs n k p q = omega (arith, widths_append es fs)

-- each of several tests
pub test_at : (l : List Bool) (k : ℕ) → all l ≡ true → get_or l k true ≡ true
test_at [] k h = refl
test_at (b ∷ l) zero h = (and_parts b (all l) h).0
test_at (b ∷ l) (suc k) h = test_at l k (and_parts b (all l) h).1

-- the elements of a row of fields
pub widths_fields : {N : Type 0} (fs : List (Field N)) (zs : List ℤ) → hold_all (map coding_of fs) zs ≡ true → sum_of_widths (field_elements fs zs) ≡ total_width (map coding_of fs)
unfolding field_elements sum_of_widths total_width hold_all
widths_fields [] zs h = refl
widths_fields (f ∷ fs) [] h = let z : ◌≡◌ {A = ℕ} 0 1 = cc in clash z
widths_fields (f ∷ fs) (z ∷ zs) h = omega (arith, widths_fields fs zs (and_parts (holds f.coding z) (hold_all (map coding_of fs) zs) h).1)

-- no ue(v) code is longer than its zeros allow
pub variable_width : (z : ℤ) → holds_in variable z ≡ true → width_in variable z ≤ 2 * most_zeros + 1
variable_width (pos v) h = omega (arith, zeros_few most_zeros v (ltb-true (v + 1) (2 ^ suc most_zeros) h))
variable_width (negsuc v) h = let z : ◌≡◌ {A = ℕ} 0 1 = cc in clash z

-- ---- how far a table looks

-- an element that p, which begins at position at, awaits, ends at position k or before it, whatever its value
abbrev pub EndsBy : {N A : Type 0} → ℕ → ℕ → Syntax N A → Type 0
EndsBy {N} k at p = (es : List (Element N)) (n : N) (d : Descriptor) → Follow p at es (awaits n d) → (z : ℤ) → holds_in d z ≡ true → at + sum_of_widths es + width_in d z ≤ k

-- an input that is cut off is shorter than that
pub cut_off_before : {N A : Type 0} (p : Syntax N A) (k : ℕ) → EndsBy k 0 p → (s : List Bool) (offset : ℕ) (name : N) → Means p 0 s (no (cut_off offset name)) → length s < k
cut_off_before p k h s offset name m =
    let c = m.6 in
    let b = h m.0 name m.2 m.3 c.value c.held in
    omega (arith, ap length m.4, length-append (all_bits m.0) m.1, length-all m.0, ap length c.begun, length-append m.1 c.missing, length-code_in m.2 c.value, c.some, b)

module _ {N : Type 0} (k : ℕ) where
  pub ends_done : {A : Type 0} (a : A) (at : ℕ) → EndsBy {N = N} k at (done a)
  unfolding Follow
  ends_done a at es n d f z y = let e = f.1 in let z : ◌≡◌ {A = ℕ} 0 1 = cc in clash z

  pub ends_if : {A : Type 0} (b : Bool) (p q : Syntax N A) (at : ℕ) → EndsBy k at p → EndsBy k at q → EndsBy k at (cond b p q)
  ends_if true p q at hp hq = hp
  ends_if false p q at hp hq = hq

  -- one table behind another
  pub ends_behind : {A B : Type 0} (p : Syntax N A) (g : A → Syntax N B) (at : ℕ) → EndsBy k at p
      → ((es : List (Element N)) (a : A) → Follow p at es (complete a) → EndsBy k (at + sum_of_widths es) (g a)) → EndsBy k at (p >>= g)
  ends_behind {A} {B} p g at hp hg es n d f z y = go (apart p g at es (awaits n d) f)
    where
      inside : (x : Next N A) → Follow p at es x → Within {B = B} x (awaits n d) → at + sum_of_widths es + width_in d z ≤ k
      inside (complete a) q w = absurd w
      inside (awaits m c) q w = let s : n ≡ m = cc in let t : d ≡ c = cc in hp es n d (rw (s, t) q) z y
      inside (broken r) q w = let z : ◌≡◌ {A = ℕ} 0 1 = cc in clash z

      go : Apart p g at es (awaits n d) ⊎ Inside {B = B} p at es (awaits n d) → at + sum_of_widths es + width_in d z ≤ k
      go (inl m) =
          let b = hg m.first m.made m.one m.second n d m.two z y in
          omega (arith, ap sum_of_widths m.all, widths_append m.first m.second, b)
      go (inr m) = inside m.next m.one m.same

  pub ends_must : {B : Type 0} (r : Rule N) (g : Unit {0} → Syntax N B) (at : ℕ) → (meets r ≡ true → EndsBy k at (g tt)) → EndsBy k at (must r >>= g)
  ends_must r g at h es n d f z y = let m = must_met r g at es (awaits n d) awaits_not_broken f in h m.0 es n d m.1 z y

  -- an element, and what follows goes by its value
  pub ends_any : {B : Type 0} (n : N) (d : Descriptor) (g : ℤ → Syntax N B) (at : ℕ)
      → ((z : ℤ) → holds_in d z ≡ true → (at + width_in d z ≤ k) × EndsBy k (at + width_in d z) (g z)) → EndsBy k at (any n d >>= g)
  unfolding sum_of_widths
  ends_any {B} n d g at h es m c f z y = go (any_apart n d g at es (awaits m c) f)
    where
      here_it_is : (es : List (Element N)) (c : Descriptor) → es ≡ [] → c ≡ d → holds_in c z ≡ true → at + sum_of_widths es + width_in c z ≤ k
      here_it_is es c e q y = let b = (h z (rw q at y)).0 in rw (e, q) (omega (arith, b))

      go : ((es ≡ []) × (◌≡◌ {A = Next N B} (awaits m c) (awaits n d))) ⊎ Goes n d g at es (awaits m c) → at + sum_of_widths es + width_in c z ≤ k
      go (inl q) = let e = q.1 in let s : c ≡ d = cc in here_it_is es c q.0 s y
      go (inr q) =
          let b = (h q.value q.held).1 q.rest m c q.on z y in
          omega (arith, ap sum_of_widths q.all, b)

  pub ends_ranged : {B : Type 0} (n : N) (d : Descriptor) (number : ℕ) (low high : ℤ) (g : ℤ → Syntax N B) (at : ℕ)
      → ((z : ℤ) → holds_in d z ≡ true → (at + width_in d z ≤ k) × (allows (between low high) z ≡ true → EndsBy k (at + width_in d z) (g z))) → EndsBy k at (ranged n d number low high >>= g)
  unfolding Follow ◌>>=◌
  ends_ranged n d number low high g at h =
      ends_any n d (λ z. must (range_rule n number low high at z) >>= λ met. g z) at
      (λ z y. let m = h z y in (m.0, ends_must (range_rule n number low high at z) (λ met. g z) (at + width_in d z) m.1))

  pub ends_row : (fs : List (Field N)) (at : ℕ) → at + total_width (map coding_of fs) ≤ k → EndsBy k at (row fs)
  unfolding row total_width
  ends_row [] at h = ends_done [] at
  ends_row (f ∷ fs) at h =
      let w = width_of f.coding in
      ends_any f.name (fixed f.coding) (λ z. row fs >>= λ zs. done (z ∷ zs)) at
      (λ z y. (omega arith, ends_behind (row fs) (λ zs. done (z ∷ zs)) (at + w) (ends_row fs (at + w) (omega arith)) (λ es zs q. ends_done (z ∷ zs) (at + w + sum_of_widths es))))

  pub ends_zeros : (name : N) (n at : ℕ) → at + n ≤ k → EndsBy k at (zero_bits name n)
  unfolding zero_bits
  ends_zeros name zero at h = ends_done tt at
  ends_zeros name (suc n) at h = ends_ranged name (fixed (unsigned 1)) not_zero (pos 0) (pos 0) (λ z. zero_bits name n) at (λ z y. (omega arith, λ met. ends_zeros name n (at + 1) (omega arith)))

  pub ends_alignment : (name : N) (at : ℕ) → at + to_boundary at ≤ k → EndsBy k at (alignment name)
  unfolding Follow
  ends_alignment name at h = ends_zeros name (to_boundary at) at h

-- the bytes of a wrapper
pub ends_wrapper : {N : Type 0} (name : N) (bs : List ℕ) (at k : ℕ) → at + 8 * length bs ≤ k → EndsBy k at (wrapper_table name bs)
unfolding wrapper_table
ends_wrapper name [] at k h = ends_done k tt at
ends_wrapper name (b ∷ bs) at k h =
    ends_ranged k name (fixed (unsigned 8)) wrapper_differs (pos b) (pos b) (λ z. wrapper_table name bs) at (λ z y. (omega arith, λ met. ends_wrapper name bs (at + 8) k (omega arith)))
