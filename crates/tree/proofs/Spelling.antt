-- A table's elements and which values fit come from its parts: `Spells` for tables in `do` blocks that end with a record of what was read.
use Prim.Native.Nat.{ℕ, zero, suc, ◌+◌, ◌-◌}
use mathlib.Core.Path.{◌≡◌, refl, ap, sym, ◌∙◌}
use mathlib.Core.List.{List, [], ◌∷◌, ◌++◌, append-nil}
use mathlib.Core.Bool.{Bool, true, false, ◌&&◌}
use native.Mathlib.Nat.{zero-add}
use lib.Dec.{eqb, leb, ltb}
use borrow.Author.Tests.{eqb-true}
use lib.ListN.{length, replicate}
use lib.IntN.{ℤ, pos, negsuc}
use Rattle.tree.specs.Reading.{between, allows, to_boundary}
use Rattle.tree.specs.Coding.{unsigned, fixed, holds_in, natural}
use Rattle.tree.specs.Syntax.{Syntax, done, ◌>>=◌, alignment}
use Rattle.tree.specs.Meaning.{Element, element, zero_bit, sum_of_widths, complete, Follow, Spells}
use Rattle.tree.specs.Parts.{unsigned_number, limited, given, places, aligned, field, field_fits, limited_fits, given_elements, given_fits, places_elements, places_fit, places_fixed, padded_to_byte, all_zero}
use Rattle.tree.proofs.Tables.{together}
use Rattle.tree.proofs.Truth.{clash, and_both, and_parts}
use Rattle.tree.proofs.Spells.{joined, alone, apart_complete, any_only, ranged_only, ranged_together, done_only, zeros_take, zeros_only}

-- numbers that are each 0 are so many zeros
pub all-zero : (l : List ℕ) → all_zero l ≡ true → l ≡ replicate (length l) 0
all-zero [] h = refl
all-zero (v ∷ l) h =
    let f = and_parts (eqb v 0) (all_zero l) h in
    consed (eqb-true v 0 f.0) (all-zero l f.1)
  where
    consed : v ≡ 0 → l ≡ replicate (length l) 0 → v ∷ l ≡ 0 ∷ replicate (length l) 0
    consed p q = ap (λ (w : ℕ). w ∷ l) p ∙ ap (λ (m : List ℕ). 0 ∷ m) q

-- places that each have the fixed value
pub places_fixed_lem : {A : Type 0} (fixed_value : A) (is_fixed : A → Bool) (decides : (a : A) → is_fixed a ≡ true → a ≡ fixed_value) (most : ℕ) (l : List A) → places_fixed most is_fixed l ≡ true → l ≡ replicate most fixed_value
unfolding places_fixed
places_fixed_lem fixed_value is_fixed decides zero [] h = refl
places_fixed_lem fixed_value is_fixed decides zero (a ∷ l) h = let z : ◌≡◌ {A = ℕ} 0 1 = cc in clash z
places_fixed_lem fixed_value is_fixed decides (suc most) [] h = let z : ◌≡◌ {A = ℕ} 0 1 = cc in clash z
places_fixed_lem {A} fixed_value is_fixed decides (suc most) (a ∷ l) h =
    let f = and_parts (is_fixed a) (places_fixed most is_fixed l) h in
    ap (λ (w : A). w ∷ l) (decides a f.0) ∙ ap (λ (m : List A). fixed_value ∷ m) (places_fixed_lem fixed_value is_fixed decides most l f.1)

-- nothing is known
abbrev pub Any : {B : Type 0} → B → Type 0
Any b = Unit {0}

-- behind what is known of the value b, p is followed by exactly these elements of the values that fit
pub record Spelling {N B : Type 0} (Known : B → Type 0) (p : Syntax N B) : Type 0 where
  pub elements_of : B → List (Element N)
  pub fits : B → Bool
  pub spelled : (at : ℕ) → Spells p at elements_of (λ b. Known b × (fits b ≡ true))

abbrev pub Spelled : {N B : Type 0} → Syntax N B → Type 0
Spelled {N} {B} p = Spelling {N = N} {B = B} Any p

-- ---- the end of a block: what was read is a record of it
module _ (N : Type 0) {B : Type 0} (Known : B → Type 0) (c : B) (its : Known c) (alone-so : (b : B) → Known b → b ≡ c) where
  pub done_takes : (at : ℕ) (b : B) → Known b × (true ≡ true) → Follow {N = N} (done c) at [] (complete b)
  unfolding Follow
  done_takes at b k = (refl, ap complete (alone-so b k.0))

  pub done_finds : (at : ℕ) (es : List (Element N)) (b : B) → Follow (done c) at es (complete b) → (Known b × (true ≡ true)) × (es ≡ [])
  done_finds at es b h = let k = done_only c b at es h in rw k.1 ((its, refl), k.0)

  abbrev pub the_end : Spelling {N = N} {B = B} Known (done c)
  the_end = record { elements_of = λ b. []; fits = λ b. true; spelled = λ at. record { takes = done_takes at; only = done_finds at } }

-- ---- one part behind another: what the first gave is a part of the whole
module _ {N A B : Type 0} (Known : B → Type 0) (p : Syntax N A) (g : A → Syntax N B) (part : B → A) (hp : Spelled p)
    (hg : (a : A) → Spelling (λ b. Known b × (part b ≡ a)) (g a)) where
  abbrev then_elements : B → List (Element N)
  then_elements b = hp.elements_of (part b) ++ (hg (part b)).elements_of b

  abbrev then_fits : B → Bool
  then_fits b = hp.fits (part b) && (hg (part b)).fits b

  pub then_takes : (at : ℕ) (b : B) → Known b × (then_fits b ≡ true) → Follow (p >>= g) at (then_elements b) (complete b)
  then_takes at b k =
      let f = and_parts (hp.fits (part b)) ((hg (part b)).fits b) k.1 in
      let es = hp.elements_of (part b) in
      together p g at es ((hg (part b)).elements_of b) (part b) (complete b) ((hp.spelled at).takes (part b) (tt, f.0))
      (((hg (part b)).spelled (at + sum_of_widths es)).takes b ((k.0, refl), f.1))

  found : (es xs ys : List (Element N)) (a : A) (b : B) → part b ≡ a → Known b → hp.fits a ≡ true → (hg a).fits b ≡ true → es ≡ xs ++ ys → xs ≡ hp.elements_of a → ys ≡ (hg a).elements_of b
      → (Known b × (then_fits b ≡ true)) × (es ≡ then_elements b)
  found es xs ys a b q k f1 f2 e e1 e2 =
      let w : then_fits b ≡ true = rw q (and_both (hp.fits a) ((hg a).fits b) f1 f2) in
      let l : es ≡ then_elements b = rw q (joined es xs ys (hp.elements_of a) ((hg a).elements_of b) e e1 e2) in
      ((k, w), l)

  pub then_finds : (at : ℕ) (es : List (Element N)) (b : B) → Follow (p >>= g) at es (complete b) → (Known b × (then_fits b ≡ true)) × (es ≡ then_elements b)
  then_finds at es b h =
      let k = apart_complete p g at es b h in
      let x = (hp.spelled at).only k.first k.made k.one in
      let y = ((hg k.made).spelled (at + sum_of_widths k.first)).only k.second b k.two in
      found es k.first k.second k.made b y.0.0.1 y.0.0.0 x.0.1 y.0.1 k.all x.1 y.1

  abbrev pub then_part : Spelling Known (p >>= g)
  then_part = record { elements_of = then_elements; fits = then_fits; spelled = λ at. record { takes = then_takes at; only = then_finds at } }

-- ---- the last part: what was read before it and what it gave make the whole
module _ {N A B : Type 0} (Known : B → Type 0) (p : Syntax N A) (whole : A → B) (part : B → A) (hp : Spelled p) (its : (a : A) → Known (whole a)) (back : (a : A) → part (whole a) ≡ a)
    (alone-so : (b : B) → Known b → b ≡ whole (part b)) where
  abbrev last_elements : B → List (Element N)
  last_elements b = hp.elements_of (part b)

  abbrev last_fits : B → Bool
  last_fits b = hp.fits (part b) && true

  pub last_takes : (at : ℕ) (b : B) → Known b × (last_fits b ≡ true) → Follow (p >>= λ a. done (whole a)) at (last_elements b) (complete b)
  unfolding Follow
  last_takes at b k =
      let f = and_parts (hp.fits (part b)) true k.1 in
      let t = together p (λ a. done (whole a)) at (hp.elements_of (part b)) [] (part b) (complete b) ((hp.spelled at).takes (part b) (tt, f.0)) (refl, ap complete (alone-so b k.0)) in
      rw (append-nil (hp.elements_of (part b))) at t

  pub last_finds : (at : ℕ) (es : List (Element N)) (b : B) → Follow (p >>= λ a. done (whole a)) at es (complete b) → (Known b × (last_fits b ≡ true)) × (es ≡ last_elements b)
  last_finds at es b h =
      let k = apart_complete p (λ a. done (whole a)) at es b h in
      let x = (hp.spelled at).only k.first k.made k.one in
      let d = done_only (whole k.made) b (at + sum_of_widths k.first) k.second k.two in
      make k.made d.1 x.0.1 (alone es k.first k.second (hp.elements_of k.made) k.all d.0 x.1)
    where
      make : (a : A) → b ≡ whole a → hp.fits a ≡ true → es ≡ hp.elements_of a → (Known b × (last_fits b ≡ true)) × (es ≡ last_elements b)
      make a q f e =
          let r : part b ≡ a = ap part q ∙ back a in
          let k : Known b = rw q (its a) in
          let w : last_fits b ≡ true = rw r (and_both (hp.fits a) true f refl) in
          ((k, w), e ∙ ap hp.elements_of (sym r))

  abbrev pub last_part : Spelling Known (p >>= λ a. done (whole a))
  last_part = record { elements_of = last_elements; fits = last_fits; spelled = λ at. record { takes = last_takes at; only = last_finds at } }

-- ---- one element
module _ {N : Type 0} (name : N) (n : ℕ) where
  pub number_takes : (at v : ℕ) → Any v × (field_fits n v ≡ true) → Follow (unsigned_number name n) at (field name n v ∷ []) (complete v)
  unfolding Follow
  number_takes at v h = ((refl, refl, h.1), (refl, refl))

  pub number_finds : (at : ℕ) (es : List (Element N)) (v : ℕ) → Follow (unsigned_number name n) at es (complete v) → (Any v × (field_fits n v ≡ true)) × (es ≡ field name n v ∷ [])
  unfolding ◌>>=◌
  number_finds at es v h =
      let m = any_only name (fixed (unsigned n)) (λ z. done (natural z)) at es v h in
      let d = done_only (natural m.value) v (at + n) m.rest m.on in
      held m.value m.rest m.held m.all d.0 d.1
    where
      held : (z : ℤ) (rest : List (Element N)) → holds_in (fixed (unsigned n)) z ≡ true → es ≡ element name (fixed (unsigned n)) z ∷ rest → rest ≡ [] → v ≡ natural z
          → (Any v × (field_fits n v ≡ true)) × (es ≡ field name n v ∷ [])
      held (pos w) rest a b c e = rw e ((tt, a), b ∙ rw c refl)
      held (negsuc w) rest a b c e = let z : ◌≡◌ {A = ℕ} 0 1 = cc in clash z

  abbrev pub number_spelled : Spelled (unsigned_number name n)
  number_spelled = record { elements_of = λ v. field name n v ∷ []; fits = field_fits n; spelled = λ at. record { takes = number_takes at; only = number_finds at } }

  module _ (k low high : ℕ) where
    pub limited_takes : (at v : ℕ) → Any v × (limited_fits n low high v ≡ true) → Follow (limited name n k low high) at (field name n v ∷ []) (complete v)
    unfolding Follow ◌>>=◌
    limited_takes at v h =
        let f = and_parts (field_fits n v) (leb low v && leb v high) h.1 in
        ranged_together name (fixed (unsigned n)) k (pos low) (pos high) (λ z. done (natural z)) at (pos v) [] (complete v) f.0 f.1 (refl, refl)

    pub limited_finds : (at : ℕ) (es : List (Element N)) (v : ℕ) → Follow (limited name n k low high) at es (complete v) → (Any v × (limited_fits n low high v ≡ true)) × (es ≡ field name n v ∷ [])
    unfolding ◌>>=◌
    limited_finds at es v h =
        let m = ranged_only name (fixed (unsigned n)) k (pos low) (pos high) (λ z. done (natural z)) at es v h in
        let d = done_only (natural m.0) v (at + n) m.1 m.5 in
        held m.0 m.1 m.3 m.4 m.2 d.0 d.1
      where
        held : (z : ℤ) (rest : List (Element N)) → holds_in (fixed (unsigned n)) z ≡ true → allows (between (pos low) (pos high)) z ≡ true → es ≡ element name (fixed (unsigned n)) z ∷ rest → rest ≡ [] → v ≡ natural z
            → (Any v × (limited_fits n low high v ≡ true)) × (es ≡ field name n v ∷ [])
        held (pos w) rest a l b c e = rw e ((tt, and_both (field_fits n w) (leb low w && leb w high) a l), b ∙ rw c refl)
        held (negsuc w) rest a l b c e = let z : ◌≡◌ {A = ℕ} 0 1 = cc in clash z

    abbrev pub limited_spelled : Spelled (limited name n k low high)
    limited_spelled = record { elements_of = λ v. field name n v ∷ []; fits = limited_fits n low high; spelled = λ at. record { takes = limited_takes at; only = limited_finds at } }

-- ---- a part that is sent or not
module _ {N A : Type 0} (p : Syntax N A) (fixed_value : A) (is_fixed : A → Bool) (own : is_fixed fixed_value ≡ true) (decides : (a : A) → is_fixed a ≡ true → a ≡ fixed_value) (hp : Spelled p) where
  pub given_takes : (b : Bool) (at : ℕ) (a : A) → Any a × (given_fits b hp.fits is_fixed a ≡ true) → Follow (given b p fixed_value) at (given_elements b hp.elements_of a) (complete a)
  unfolding Follow
  given_takes true at a h = (hp.spelled at).takes a h
  given_takes false at a h = (refl, ap complete (decides a h.1))

  pub given_finds : (b : Bool) (at : ℕ) (es : List (Element N)) (a : A) → Follow (given b p fixed_value) at es (complete a)
      → (Any a × (given_fits b hp.fits is_fixed a ≡ true)) × (es ≡ given_elements b hp.elements_of a)
  given_finds true at es a h = (hp.spelled at).only es a h
  given_finds false at es a h = let d = done_only fixed_value a at es h in rw d.1 ((tt, own), d.0)

  abbrev pub given_spelled : (b : Bool) → Spelled (given b p fixed_value)
  given_spelled b = record { elements_of = given_elements b hp.elements_of; fits = given_fits b hp.fits is_fixed; spelled = λ at. record { takes = given_takes b at; only = given_finds b at } }

  -- a part for each of several places
  pub places-take : (most n at : ℕ) (l : List A) → Any l × (places_fit most n hp.fits is_fixed l ≡ true) → Follow (places most n p fixed_value) at (places_elements n hp.elements_of l) (complete l)
  unfolding places places_fit places_elements Follow
  places-take zero n at [] h = (refl, refl)
  places-take zero n at (a ∷ l) h = let e = h.1 in let z : ◌≡◌ {A = ℕ} 0 1 = cc in clash z
  places-take (suc most) n at [] h = let e = h.1 in let z : ◌≡◌ {A = ℕ} 0 1 = cc in clash z
  places-take (suc most) n at (a ∷ l) h =
      let f = and_parts (given_fits (ltb 0 n) hp.fits is_fixed a) (places_fit most (n - 1) hp.fits is_fixed l) h.1 in
      let es = given_elements (ltb 0 n) hp.elements_of a in
      let fs = places_elements (n - 1) hp.elements_of l in
      let there = at + sum_of_widths es in
      let r = together (places most (n - 1) p fixed_value) (λ others. done (a ∷ others)) there fs [] l (complete (a ∷ l)) (places-take most (n - 1) there l (tt, f.1)) (refl, refl) in
      together (given (ltb 0 n) p fixed_value) (λ x. places most (n - 1) p fixed_value >>= λ others. done (x ∷ others)) at es fs a (complete (a ∷ l)) (given_takes (ltb 0 n) at a (tt, f.0))
      (rw (append-nil fs) at r)

  pub places_find : (most n at : ℕ) (es : List (Element N)) (l : List A) → Follow (places most n p fixed_value) at es (complete l)
      → (Any l × (places_fit most n hp.fits is_fixed l ≡ true)) × (es ≡ places_elements n hp.elements_of l)
  unfolding places places_fit places_elements
  places_find zero n at es l h = let d = done_only [] l at es h in rw d.1 ((tt, refl), d.0)
  places_find (suc most) n at es l h =
      let k = apart_complete (given (ltb 0 n) p fixed_value) (λ x. places most (n - 1) p fixed_value >>= λ others. done (x ∷ others)) at es l h in
      let there = at + sum_of_widths k.first in
      let x = given_finds (ltb 0 n) at k.first k.made k.one in
      let m = apart_complete (places most (n - 1) p fixed_value) (λ others. done (k.made ∷ others)) there k.second l k.two in
      let y = places_find most (n - 1) there m.first m.made m.one in
      let d = done_only (k.made ∷ m.made) l (there + sum_of_widths m.first) m.second m.two in
      make k.made m.made l d.1 x.0.1 y.0.1
      (joined es k.first k.second _ _ k.all x.1 (alone k.second m.first m.second _ m.all d.0 y.1))
    where
      make : (a : A) (others l : List A) → l ≡ a ∷ others → given_fits (ltb 0 n) hp.fits is_fixed a ≡ true → places_fit most (n - 1) hp.fits is_fixed others ≡ true
          → es ≡ given_elements (ltb 0 n) hp.elements_of a ++ places_elements (n - 1) hp.elements_of others
          → (Any l × (places_fit (suc most) n hp.fits is_fixed l ≡ true)) × (es ≡ places_elements n hp.elements_of l)
      make a others l e f g q = rw e ((tt, and_both (given_fits (ltb 0 n) hp.fits is_fixed a) (places_fit most (n - 1) hp.fits is_fixed others) f g), q)

  abbrev pub places_spelled : (most n : ℕ) → Spelled (places most n p fixed_value)
  places_spelled most n = record { elements_of = places_elements n hp.elements_of; fits = places_fit most n hp.fits is_fixed; spelled = λ at. record { takes = places-take most n at; only = places_find most n at } }

-- ---- zero bits behind all of it, from the beginning of the data on
module _ {N A : Type 0} (name : N) (p : Syntax N A) (e : A → List (Element N)) (Fit : A → Type 0) (hp : Spells p 0 e Fit) where
  abbrev gap : ℕ → List (Element N)
  gap at = replicate (to_boundary at) (zero_bit name)

  aligned_takes : (a : A) → Fit a → Follow (aligned name p) 0 (padded_to_byte name (e a)) (complete a)
  unfolding Follow
  aligned_takes a h =
      let n = sum_of_widths (e a) in
      let z = together (alignment name) (λ z. done a) n (gap n) [] tt (complete a) (zeros_take name (to_boundary n) n) (refl, refl) in
      together p (λ a. alignment name >>= λ z. done a) 0 (e a) (gap n) a (complete a) (hp.takes a h) (rw (zero-add n) (rw (append-nil (gap n)) at z))

  aligned_finds : (es : List (Element N)) (a : A) → Follow (aligned name p) 0 es (complete a) → Fit a × (es ≡ padded_to_byte name (e a))
  unfolding Follow
  aligned_finds es a h =
      let k = apart_complete p (λ a. alignment name >>= λ z. done a) 0 es a h in
      let x = hp.only k.first k.made k.one in
      let there = 0 + sum_of_widths k.first in
      let m = apart_complete (alignment name) (λ z. done k.made) there k.second a k.two in
      let y = zeros_only name (to_boundary there) there m.first m.one in
      let d = done_only k.made a (there + sum_of_widths m.first) m.second m.two in
      make k.made k.first k.second d.1 x.0 k.all x.1 (alone k.second m.first m.second (gap there) m.all d.0 y)
    where
      make : (c : A) (xs ys : List (Element N)) → a ≡ c → Fit c → es ≡ xs ++ ys → xs ≡ e c → ys ≡ gap (0 + sum_of_widths xs) → Fit a × (es ≡ padded_to_byte name (e a))
      make c xs ys q f l m r = rw q (f, joined es xs ys (e c) (gap (sum_of_widths (e c))) l m (r ∙ rw (m, zero-add (sum_of_widths (e c))) refl))

  pub aligned_spells : Spells (aligned name p) 0 (λ a. padded_to_byte name (e a)) Fit
  aligned_spells = record { takes = aligned_takes; only = aligned_finds }

-- with nothing known: followed by exactly the elements of the values that fit
pub spells_of : {N A : Type 0} (p : Syntax N A) (h : Spelled p) (at : ℕ) → Spells p at h.elements_of (λ a. h.fits a ≡ true)
spells_of p h at = record { takes = λ a f. (h.spelled at).takes a (tt, f); only = λ es a k. let m = (h.spelled at).only es a k in (m.0.1, m.1) }
