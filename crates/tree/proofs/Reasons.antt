-- Which rules of a table can be broken, and which elements it can await: the laws for parts.
use Prim.Native.Nat.{ℕ, zero, suc, ◌+◌, ◌-◌}
use mathlib.Core.Path.{◌≡◌, refl, ap, sym, ◌∙◌}
use mathlib.Core.List.{List, [], ◌∷◌, ◌++◌, append_assoc}
use mathlib.Core.Bool.{Bool, true, false}
use mathlib.Core.Logic.{◌⊎◌, inl, inr}
use native.Mathlib.Omega.{arith}
use native.Mathlib.Nat.{add-zero}
use lib.Dec.{ltb}
use lib.IntN.{ℤ, pos}
use Rattle.refusals.specs.Refusals.{past_end, wrapper_differs, not_zero}
use Rattle.tree.specs.Reading.{Rule, meets, Fault, cut_off, overlong, breaks, number_in, no, to_boundary}
use Rattle.tree.specs.Coding.{unsigned, Descriptor, fixed, natural}
use Rattle.tree.specs.Syntax.{Syntax, done, reads, checks, here, ◌>>=◌, any, ranged, range_rule, zero_bits, alignment, left_over, read_whole}
use Rattle.tree.specs.Meaning.{Element, element, width, sum_of_widths, Next, complete, awaits, broken, Follow, Breaks, all_bits, Means, MeansWhole}
use Rattle.tree.specs.Parts.{unsigned_number, limited, given, places, aligned}
use Rattle.tree.specs.Wrapper.{wrapper_table}
use Rattle.tree.specs.Reasons.{Says, Awaits, is_fixed, AllFixed, Tells, Reason}
use Rattle.tree.proofs.Meaning.{widths_append}
use Rattle.tree.proofs.Truth.{clash}
use Rattle.tree.proofs.Wrapper.{wrapper_number}
use Rattle.tree.proofs.Whole.{every_whole_answer_is_true, a_true_whole_answer_is_given}
use Rattle.tree.proofs.Breaks.{broken_is_not_met, breaks_done, breaks_any, breaks_if, breaks_ranged, breaks_then, breaks_alignment}

-- ---- broken rules

module _ {N : Type 0} (About : List (Element N) → Rule N → Type 0) where
  -- what a rule says stays so behind earlier elements
  pub grow_says : (at : ℕ) (es fs : List (Element N)) (r : Rule N) → Says About (at + sum_of_widths es) fs r → Says About at (es ++ fs) r
  grow_says at es fs r k = record {
    earlier = es ++ k.earlier;
    theirs = k.theirs;
    all = ap (λ (l : List (Element N)). es ++ l) k.all ∙ sym (append_assoc es k.earlier k.theirs);
    offset = omega (arith, k.offset, widths_append es k.earlier);
    about = k.about;
  }

  pub own_says : (at : ℕ) (es : List (Element N)) (r : Rule N) → r.offset ≡ at → About es r → Says About at es r
  unfolding sum_of_widths
  own_says at es r e a = record { earlier = []; theirs = es; all = refl; offset = e ∙ sym (add-zero at); about = a }

  -- one table behind another
  pub says_then : {A B : Type 0} (p : Syntax N A) (g : A → Syntax N B) → Breaks (Says About) p → ((a : A) → Breaks (Says About) (g a)) → Breaks (Says About) (p >>= g)
  says_then p g hp hg = breaks_then (Says About) grow_says p g hp hg

  pub says_done : {A : Type 0} (a : A) → Breaks (Says About) (done a)
  says_done a = breaks_done (Says About) a

  pub says_number : (name : N) (n : ℕ) → Breaks (Says About) (unsigned_number name n)
  unfolding ◌>>=◌
  says_number name n =
      says_then (any name (fixed (unsigned n))) (λ z. done (natural z)) (breaks_any (Says About) name (fixed (unsigned n))) (λ z. says_done (natural z))

  pub says_limited : (name : N) (n k low high : ℕ) → ((at : ℕ) (z : ℤ) → About (element name (fixed (unsigned n)) z ∷ []) (range_rule name k (pos low) (pos high) at z))
      → Breaks (Says About) (limited name n k low high)
  unfolding ◌>>=◌
  says_limited name n k low high own =
      says_then (ranged name (fixed (unsigned n)) k (pos low) (pos high)) (λ z. done (natural z))
      (breaks_ranged (Says About) name (fixed (unsigned n)) k (pos low) (pos high) (λ at z. own_says at (element name (fixed (unsigned n)) z ∷ []) (range_rule name k (pos low) (pos high) at z) refl (own at z)))
      (λ z. says_done (natural z))

  module _ {A : Type 0} (p : Syntax N A) (fixed_value : A) (hp : Breaks (Says About) p) where
    pub says_given : (b : Bool) → Breaks (Says About) (given b p fixed_value)
    says_given b = breaks_if (Says About) b p (done fixed_value) hp (says_done fixed_value)

    pub says_places : (most n : ℕ) → Breaks (Says About) (places most n p fixed_value)
    unfolding places
    says_places zero n = says_done []
    says_places (suc most) n =
        says_then (given (ltb 0 n) p fixed_value) (λ a. places most (n - 1) p fixed_value >>= λ others. done (a ∷ others)) (says_given (ltb 0 n))
        (λ a. says_then (places most (n - 1) p fixed_value) (λ others. done (a ∷ others)) (says_places most (n - 1)) (λ others. says_done (a ∷ others)))

  pub says_aligned : {A : Type 0} (p : Syntax N A) → Breaks (Says About) p → (name : N) → ((at : ℕ) (z : ℤ) → About (element name (fixed (unsigned 1)) z ∷ []) (range_rule name not_zero (pos 0) (pos 0) at z)) → Breaks (Says About) (aligned name p)
  says_aligned p hp name own =
      says_then p (λ a. alignment name >>= λ z. done a) hp
      (λ a. says_then (alignment name) (λ z. done a)
      (breaks_alignment (Says About) grow_says name (λ at z. own_says at (element name (fixed (unsigned 1)) z ∷ []) (range_rule name not_zero (pos 0) (pos 0) at z) refl (own at z))) (λ z. says_done a))

-- ---- awaited elements

module _ {N : Type 0} (P : N → Descriptor → Type 0) where
  pub awaited_is : {A : Type 0} (p : Syntax N A) (at : ℕ) (es : List (Element N)) (n : N) (d : Descriptor) → Awaits P p → Follow p at es (awaits n d) → P n d
  unfolding Awaits Follow
  awaited_is (done a) at es n d h k = let e = k.1 in let z : ◌≡◌ {A = ℕ} 0 1 = cc in clash z
  awaited_is (reads m c f) at [] n d h k = let e : n ≡ m = cc in let q : d ≡ c = cc in rw (e, q) h.0
  awaited_is (reads m c f) at (e ∷ es) n d h k = awaited_is (f e.value) (at + width e) es n d (h.1 e.value) k.1
  awaited_is {A} (checks r p) at es n d h k = go (awaited_is p at es n d h) (meets r) refl
    where
      go : (Follow p at es (awaits n d) → P n d) → (b : Bool) → meets r ≡ b → P n d
      go ih true w = ih (rw w at k)
      go ih false w =
          let j : (es ≡ []) × (◌≡◌ {A = Next N A} (awaits n d) (broken r)) = rw w at k in
          let e = j.1 in let z : ◌≡◌ {A = ℕ} 0 1 = cc in clash z
  awaited_is (here f) at es n d h k = awaited_is (f at) at es n d (h at) k

  pub awaits_then : {A B : Type 0} (p : Syntax N A) (g : A → Syntax N B) → Awaits P p → ((a : A) → Awaits P (g a)) → Awaits P (p >>= g)
  unfolding Awaits ◌>>=◌
  awaits_then (done a) g hp hg = hg a
  awaits_then (reads n d f) g hp hg = (hp.0, λ z. awaits_then (f z) g (hp.1 z) hg)
  awaits_then (checks r p) g hp hg = awaits_then p g hp hg
  awaits_then (here f) g hp hg = λ at. awaits_then (f at) g (hp at) hg

  pub awaits_done : {A : Type 0} (a : A) → Awaits P (done a)
  unfolding Awaits
  awaits_done a = tt

  pub awaits_number : (name : N) (n : ℕ) → P name (fixed (unsigned n)) → Awaits P (unsigned_number name n)
  unfolding Awaits
  awaits_number name n h = (h, λ z. tt)

  pub awaits_limited : (name : N) (n k low high : ℕ) → P name (fixed (unsigned n)) → Awaits P (limited name n k low high)
  unfolding Awaits
  awaits_limited name n k low high h = λ at. (h, λ z. tt)

  pub awaits_zeros : (name : N) (n : ℕ) → P name (fixed (unsigned 1)) → Awaits P (zero_bits name n)
  unfolding Awaits zero_bits
  awaits_zeros name zero h = tt
  awaits_zeros name (suc n) h = awaits_then (ranged name (fixed (unsigned 1)) not_zero (pos 0) (pos 0)) (λ z. zero_bits name n) (λ at. (h, λ z. tt)) (λ z. awaits_zeros name n h)

  module _ {A : Type 0} (p : Syntax N A) (fixed_value : A) (hp : Awaits P p) where
    pub awaits_given : (b : Bool) → Awaits P (given b p fixed_value)
    awaits_given true = hp
    awaits_given false = awaits_done fixed_value

    pub awaits_places : (most n : ℕ) → Awaits P (places most n p fixed_value)
    unfolding places
    awaits_places zero n = awaits_done []
    awaits_places (suc most) n =
        awaits_then (given (ltb 0 n) p fixed_value) (λ a. places most (n - 1) p fixed_value >>= λ others. done (a ∷ others)) (awaits_given (ltb 0 n))
        (λ a. awaits_then (places most (n - 1) p fixed_value) (λ others. done (a ∷ others)) (awaits_places most (n - 1)) (λ others. awaits_done (a ∷ others)))

  pub awaits_aligned : {A : Type 0} (p : Syntax N A) → Awaits P p → (name : N) → P name (fixed (unsigned 1)) → Awaits P (aligned name p)
  unfolding Awaits
  awaits_aligned p hp name h =
      awaits_then p (λ a. alignment name >>= λ z. done a) hp (λ a. awaits_then (alignment name) (λ z. done a) (λ at. awaits_zeros name (to_boundary at) h) (λ z. tt))

-- ---- both, for a table of numbers

module _ {N : Type 0} (About : List (Element N) → Rule N → Type 0) where
  abbrev FixedAt : N → Descriptor → Type 0
  FixedAt n d = is_fixed d ≡ true

  pub tells_done : {A : Type 0} (a : A) → Tells About (done a)
  tells_done a = record { speaks = says_done About a; awaited = awaits_done FixedAt a }

  pub tells_then : {A B : Type 0} (p : Syntax N A) (g : A → Syntax N B) → Tells About p → ((a : A) → Tells About (g a)) → Tells About (p >>= g)
  tells_then p g hp hg = record { speaks = says_then About p g hp.speaks (λ a. (hg a).speaks); awaited = awaits_then FixedAt p g hp.awaited (λ a. (hg a).awaited) }

  pub tells_number : (name : N) (n : ℕ) → Tells About (unsigned_number name n)
  tells_number name n = record { speaks = says_number About name n; awaited = awaits_number FixedAt name n refl }

  pub tells_limited : (name : N) (n k low high : ℕ) → ((at : ℕ) (z : ℤ) → About (element name (fixed (unsigned n)) z ∷ []) (range_rule name k (pos low) (pos high) at z)) → Tells About (limited name n k low high)
  tells_limited name n k low high own = record { speaks = says_limited About name n k low high own; awaited = awaits_limited FixedAt name n k low high refl }

  pub tells_given : {A : Type 0} (p : Syntax N A) (fixed_value : A) → Tells About p → (b : Bool) → Tells About (given b p fixed_value)
  tells_given p fixed_value hp b = record { speaks = says_given About p fixed_value hp.speaks b; awaited = awaits_given FixedAt p fixed_value hp.awaited b }

  pub tells_places : {A : Type 0} (p : Syntax N A) (fixed_value : A) → Tells About p → (most n : ℕ) → Tells About (places most n p fixed_value)
  tells_places p fixed_value hp most n = record { speaks = says_places About p fixed_value hp.speaks most n; awaited = awaits_places FixedAt p fixed_value hp.awaited most n }

  pub tells_aligned : {A : Type 0} (p : Syntax N A) → Tells About p → (name : N) → ((at : ℕ) (z : ℤ) → About (element name (fixed (unsigned 1)) z ∷ []) (range_rule name not_zero (pos 0) (pos 0) at z)) → Tells About (aligned name p)
  tells_aligned p hp name own = record { speaks = says_aligned About p hp.speaks name own; awaited = awaits_aligned FixedAt p hp.awaited name refl }

-- an element of a fixed width has no zero too many
pub never_overlong : {N A : Type 0} (p : Syntax N A) → AllFixed p → (at : ℕ) (s : List Bool) (offset : ℕ) (name : N) → Means p at s (no (overlong offset name)) → ⊥
never_overlong p hp at s offset name m =
    let f : is_fixed m.2 ≡ true = awaited_is (λ n d. is_fixed d ≡ true) p at m.0 name m.2 hp m.3 in
    let v : is_fixed m.2 ≡ false = rw m.6.code refl in
    let z : ◌≡◌ {A = ℕ} 0 1 = cc in clash z

-- ---- THE REASON: it is true, and a true one is given

module _ {N A : Type 0} (end : N) (p : Syntax N A) (Speaks : ℕ → List (Element N) → Rule N → Type 0) where
  pub reason_is_true : Breaks Speaks p → (s : List Bool) (f : Fault N) → read_whole end p s ≡ no f → Reason end p Speaks s f
  reason_is_true hp s f q = go f (rw q at (every_whole_answer_is_true end p s))
    where
      inside : (f : Fault N) → Means p 0 s (no f) → Reason end p Speaks s f
      inside (cut_off offset name) m = (m.0, m.1, m.2, m.3, m.4, omega (arith, m.5), m.6)
      inside (overlong offset name) m = (m.0, m.1, m.2, m.3, m.4, omega (arith, m.5), m.6)
      inside (breaks r) m = (m.0, m.1, m.3, broken_is_not_met p 0 m.0 r m.2, inl (m.2, hp 0 m.0 r m.2))

      go : (f : Fault N) → MeansWhole end p s (no f) → Reason end p Speaks s f
      go f (inl m) = inside f m
      go f (inr m) = rw m.5 (m.1, m.2, m.4, m.6, inr (m.0, m.3, refl))

  pub true_reason_is_given : (s : List Bool) (f : Fault N) → Reason end p Speaks s f → read_whole end p s ≡ no f
  true_reason_is_given s (cut_off offset name) m = a_true_whole_answer_is_given end p s (no (cut_off offset name)) (inl (m.0, m.1, m.2, m.3, m.4, omega (arith, m.5), m.6))
  true_reason_is_given s (overlong offset name) m = a_true_whole_answer_is_given end p s (no (overlong offset name)) (inl (m.0, m.1, m.2, m.3, m.4, omega (arith, m.5), m.6))
  true_reason_is_given s (breaks r) m = go m.0 m.1 m.2 m.3 m.4
    where
      go : (es : List (Element N)) (t : List Bool) → s ≡ all_bits es ++ t → meets r ≡ false
          → (Follow p 0 es (broken r) × Speaks 0 es r) ⊎ ((a : A) × Follow p 0 es (complete a) × (r ≡ left_over end (sum_of_widths es) t)) → read_whole end p s ≡ no (breaks r)
      go es t e h (inl k) = a_true_whole_answer_is_given end p s (no (breaks r)) (inl (es, t, k.0, e))
      go es t e h (inr k) = a_true_whole_answer_is_given end p s (no (breaks r)) (inr (k.0, es, t, k.1, e, ap breaks k.2, rw k.2 at h))

  -- where each element has a fixed width, 2 never comes
  pub never_too_many : AllFixed p → (s : List Bool) (offset : ℕ) (name : N) → Reason end p Speaks s (overlong offset name) → ⊥
  never_too_many hp s offset name m = never_overlong p hp 0 s offset name (m.0, m.1, m.2, m.3, m.4, omega (arith, m.5), m.6)

-- ---- a wrapper

pub awaits_wrapper : {N : Type 0} (P : N → Descriptor → Type 0) (name : N) (bs : List ℕ) → P name (fixed (unsigned 8)) → Awaits P (wrapper_table name bs)
unfolding Awaits wrapper_table
awaits_wrapper P name [] h = tt
awaits_wrapper P name (b ∷ bs) h =
    awaits_then P (ranged name (fixed (unsigned 8)) wrapper_differs (pos b) (pos b)) (λ z. wrapper_table name bs) (λ at. (h, λ z. tt)) (λ z. awaits_wrapper P name bs h)

-- a fault in it has number 1 or 3
pub in_the_wrapper : {N : Type 0} (name : N) (bs : List ℕ) (P : ℕ → Type 0) → P past_end → P wrapper_differs → (s : List Bool) (f : Fault N) → Means (wrapper_table name bs) 0 s (no f) → P (number_in f)
in_the_wrapper name bs P one three s (cut_off offset x) m = one
in_the_wrapper name bs P one three s (overlong offset x) m = absurd (never_overlong (wrapper_table name bs) (awaits_wrapper (λ n d. is_fixed d ≡ true) name bs refl) 0 s offset x m)
in_the_wrapper name bs P one three s (breaks r) m = rw (wrapper_number name bs 0 m.0 r m.2) three
