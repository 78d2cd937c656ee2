-- Which rules of a table can be broken, and behind which elements: laws of `Breaks`, for each combinator.
use Prim.Native.Nat.{ℕ, zero, suc, ◌+◌}
use mathlib.Core.Path.{◌≡◌, refl, ap, sym, ◌∙◌}
use mathlib.Core.List.{List, [], ◌∷◌, ◌++◌, append_assoc}
use mathlib.Core.Bool.{Bool, true, false, cond}
use mathlib.Core.Logic.{◌⊎◌, inl, inr}
use native.Mathlib.Omega.{arith}
use native.Mathlib.Nat.{add-zero}
use lib.IntN.{ℤ, pos}
use Rattle.refusals.specs.Refusals.{not_zero}
use Rattle.tree.specs.Reading.{Rule, meets, to_boundary}
use Rattle.tree.specs.Coding.{unsigned, Descriptor, fixed}
use Rattle.tree.specs.Syntax.{Syntax, done, reads, checks, here, ◌>>=◌, any, ranged, range_rule, Field, row, zero_bits, alignment}
use Rattle.tree.specs.Meaning.{Element, element, width, sum_of_widths, Next, complete, awaits, broken, Follow, BreaksAt, Breaks, AboutLast}
use Rattle.tree.proofs.Meaning.{widths_append}
use Rattle.tree.proofs.Tables.{Within, Apart, Inside, apart}
use Rattle.tree.proofs.Truth.{clash}

-- the rule that stops a table is not met
pub broken_is_not_met : {N A : Type 0} (p : Syntax N A) (at : ℕ) (es : List (Element N)) (r : Rule N) → Follow p at es (broken r) → meets r ≡ false
unfolding Follow
broken_is_not_met (done a) at es r h = let e = h.1 in let z : ◌≡◌ {A = ℕ} 0 1 = cc in clash z
broken_is_not_met (reads n d f) at [] r h = let z : ◌≡◌ {A = ℕ} 0 1 = cc in clash z
broken_is_not_met (reads n d f) at (e ∷ es) r h = broken_is_not_met (f e.value) (at + width e) es r h.1
broken_is_not_met {N} {A} (checks q p) at es r h = go (broken_is_not_met p at es r) (meets q) refl
  where
    go : (Follow p at es (broken r) → meets r ≡ false) → (b : Bool) → meets q ≡ b → meets r ≡ false
    go ih true w = ih (rw w at h)
    go ih false w =
        let k : (es ≡ []) × (◌≡◌ {A = Next N A} (broken r) (broken q)) = rw w at h in
        let e = k.1 in
        let s : r ≡ q = cc in
        rw s w
broken_is_not_met (here f) at es r h = broken_is_not_met (f at) at es r h

module _ {N : Type 0} (P : ℕ → List (Element N) → Rule N → Type 0) where
  pub breaks_done : {A : Type 0} (a : A) → Breaks P (done a)
  unfolding Follow
  breaks_done a at es r h = let e = h.1 in let z : ◌≡◌ {A = ℕ} 0 1 = cc in clash z

  pub breaks_any : (n : N) (d : Descriptor) → Breaks P (any n d)
  unfolding Follow
  breaks_any n d at [] r h = let z : ◌≡◌ {A = ℕ} 0 1 = cc in clash z
  breaks_any n d at (e ∷ es) r h = let k = h.1.1 in let z : ◌≡◌ {A = ℕ} 0 1 = cc in clash z

  pub breaks_if : {A : Type 0} (b : Bool) (p q : Syntax N A) → Breaks P p → Breaks P q → Breaks P (cond b p q)
  breaks_if true p q hp hq = hp
  breaks_if false p q hp hq = hq

  pub breaks_here : {A : Type 0} (f : ℕ → Syntax N A) → ((at : ℕ) → Breaks P (f at)) → Breaks P (here f)
  unfolding Follow
  breaks_here f h at es r k = h at at es r k

  -- one table behind another, where the second's rules may look at the first's elements
  pub breaks_behind : {A B : Type 0} (at : ℕ) (p : Syntax N A) (g : A → Syntax N B) → BreaksAt P at p
      → ((es fs : List (Element N)) (a : A) (r : Rule N) → Follow p at es (complete a) → Follow (g a) (at + sum_of_widths es) fs (broken r) → P at (es ++ fs) r)
      → BreaksAt P at (p >>= g)
  breaks_behind {A} {B} at p g hp hg es r h = go (apart p g at es (broken r) h)
    where
      inside : (y : Next N A) → Follow p at es y → Within {B = B} y (broken r) → P at es r
      inside (complete a) f w = absurd w
      inside (awaits n d) f w = let z : ◌≡◌ {A = ℕ} 0 1 = cc in clash z
      inside (broken q) f w = let s : r ≡ q = cc in rw s (hp es q f)

      go : Apart p g at es (broken r) ⊎ Inside {B = B} p at es (broken r) → P at es r
      go (inl k) = rw k.all (hg k.first k.second k.made r k.one k.two)
      go (inr k) = inside k.next k.one k.same

  -- an element out of its range: P has to be said of it and its rule, wherever it stands
  pub breaks_ranged : (n : N) (d : Descriptor) (number : ℕ) (low high : ℤ) → ((at : ℕ) (z : ℤ) → P at (element n d z ∷ []) (range_rule n number low high at z))
      → Breaks P (ranged n d number low high)
  unfolding Follow
  breaks_ranged n d number low high own at [] r h = let z : ◌≡◌ {A = ℕ} 0 1 = cc in clash z
  breaks_ranged n d number low high own at (e ∷ es) r h = go (meets rule) refl
    where
      rule : Rule N
      rule = range_rule n number low high at e.value

      go : (b : Bool) → meets rule ≡ b → P at (e ∷ es) r
      go true q =
          let k : (es ≡ []) × (◌≡◌ {A = Next N ℤ} (broken r) (complete e.value)) = rw q at h.1 in
          let f = k.1 in let z : ◌≡◌ {A = ℕ} 0 1 = cc in clash z
      go false q =
          let k : (es ≡ []) × (◌≡◌ {A = Next N ℤ} (broken r) (broken rule)) = rw q at h.1 in
          let f = k.1 in
          let s : r ≡ rule = cc in
          let a : e.name ≡ n = h.0.0 in
          let b : e.descriptor ≡ d = h.0.1 in
          let y : e ≡ element n d e.value = rw (← a, ← b) refl in
          let l : e ∷ es ≡ element n d e.value ∷ [] = rw k.0 (ap (λ (x : Element N). x ∷ []) y) in
          rw (s, l) (own at e.value)

-- where what P says stays true behind earlier elements
module _ {N : Type 0} (P : ℕ → List (Element N) → Rule N → Type 0)
    (grow : (at : ℕ) (es fs : List (Element N)) (r : Rule N) → P (at + sum_of_widths es) fs r → P at (es ++ fs) r) where
  pub breaks_then : {A B : Type 0} (p : Syntax N A) (g : A → Syntax N B) → Breaks P p → ((a : A) → Breaks P (g a)) → Breaks P (p >>= g)
  breaks_then p g hp hg at = breaks_behind P at p g (hp at) (λ es fs a r h k. grow at es fs r (hg a (at + sum_of_widths es) fs r k))

  pub breaks_row : (fs : List (Field N)) → Breaks P (row fs)
  unfolding row
  breaks_row [] = breaks_done P []
  breaks_row (f ∷ fs) =
      breaks_then (any f.name (fixed f.coding)) (λ z. row fs >>= λ zs. done (z ∷ zs)) (breaks_any P f.name (fixed f.coding))
      (λ z. breaks_then (row fs) (λ zs. done (z ∷ zs)) (breaks_row fs) (λ zs. breaks_done P (z ∷ zs)))

  module _ (name : N) (own : (at : ℕ) (z : ℤ) → P at (element name (fixed (unsigned 1)) z ∷ []) (range_rule name not_zero (pos 0) (pos 0) at z)) where
    pub breaks_zeros : (n : ℕ) → Breaks P (zero_bits name n)
    unfolding zero_bits
    breaks_zeros zero = breaks_done P tt
    breaks_zeros (suc n) =
        breaks_then (ranged name (fixed (unsigned 1)) not_zero (pos 0) (pos 0)) (λ z. zero_bits name n) (breaks_ranged P name (fixed (unsigned 1)) not_zero (pos 0) (pos 0) own) (λ z. breaks_zeros n)

    pub breaks_alignment : Breaks P (alignment name)
    breaks_alignment = breaks_here P (λ at. zero_bits name (to_boundary at)) (λ at. breaks_zeros (to_boundary at))

-- ---- `AboutLast` is such a P: enough for a format whose rules are each about the element just read

pub grow_last : {N : Type 0} (at : ℕ) (es fs : List (Element N)) (r : Rule N) → AboutLast (at + sum_of_widths es) fs r → AboutLast at (es ++ fs) r
grow_last {N} at es fs r k = record {
  earlier = es ++ k.earlier;
  last = k.last;
  all = ap (λ (l : List (Element N)). es ++ l) k.all ∙ sym (append_assoc es k.earlier (k.last ∷ []));
  offset = omega (arith, k.offset, widths_append es k.earlier);
  name = k.name;
  value = k.value;
}

pub own_last : {N : Type 0} (n : N) (d : Descriptor) (number : ℕ) (low high : ℤ) (at : ℕ) (z : ℤ) → AboutLast at (element n d z ∷ []) (range_rule n number low high at z)
unfolding sum_of_widths
own_last n d number low high at z = record { earlier = []; last = element n d z; all = refl; offset = sym (add-zero at); name = refl; value = refl }
