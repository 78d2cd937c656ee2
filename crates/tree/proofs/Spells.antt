-- By which elements tables are followed: laws of `Spells`, for each combinator.
use Prim.Native.Nat.{ℕ, zero, suc, ◌+◌, ◌≤◌}
use mathlib.Core.Path.{◌≡◌, refl, ap, ◌∙◌}
use mathlib.Core.List.{List, [], ◌∷◌, ◌++◌, append-nil, map}
use mathlib.Core.Bool.{Bool, true, false}
use mathlib.Core.Logic.{◌⊎◌, inl, inr}
use native.Mathlib.Omega.{arith}
use borrow.Author.Tests.{leb-true}
use lib.Dec.{leb}
use lib.IntN.{ℤ, pos, negsuc}
use lib.ListN.{replicate}
use Rattle.refusals.specs.Refusals.{not_zero}
use Rattle.tree.specs.Reading.{between, allows, Rule, meets}
use Rattle.tree.specs.Coding.{unsigned, holds, hold_all, Descriptor, fixed, holds_in, width_in}
use Rattle.tree.specs.Syntax.{Syntax, done, ◌>>=◌, any, ranged, range_rule, must, Field, coding_of, row, zero_bits}
use Rattle.tree.specs.Meaning.{Element, element, zero_bit, field_elements, sum_of_widths, Next, complete, awaits, broken, Follow}
use Rattle.tree.proofs.Truth.{clash, and_parts}
use Rattle.tree.proofs.Tables.{together, Within, Apart, Inside, apart}

-- one row behind another, each in other words
pub joined : {A : Type 0} (l a b c d : List A) → l ≡ a ++ b → a ≡ c → b ≡ d → l ≡ c ++ d
joined l a b c d e p q = e ∙ rw (p, q) refl

pub alone : {A : Type 0} (l a b c : List A) → l ≡ a ++ b → b ≡ [] → a ≡ c → l ≡ c
alone l a b c e p q = e ∙ rw (p, q) (append-nil c)

-- ---- what following says of a table's first part

module _ {N A B : Type 0} (p : Syntax N A) (g : A → Syntax N B) (at : ℕ) (es : List (Element N)) (b : B) where
  -- a complete second table has a complete first one
  pub apart_complete : Follow (p >>= g) at es (complete b) → Apart p g at es (complete b)
  apart_complete h = go (apart p g at es (complete b) h)
    where
      never : (y : Next N A) → Within {B = B} y (complete b) → Apart p g at es (complete b)
      never (complete a) w = absurd w
      never (awaits n d) w = let z : ◌≡◌ {A = ℕ} 0 1 = cc in clash z
      never (broken r) w = let z : ◌≡◌ {A = ℕ} 0 1 = cc in clash z

      go : Apart p g at es (complete b) ⊎ Inside {B = B} p at es (complete b) → Apart p g at es (complete b)
      go (inl k) = k
      go (inr k) = never k.next k.same

-- an element is there, and what follows goes by its value
pub record Goes {N B : Type 0} (n : N) (d : Descriptor) (g : ℤ → Syntax N B) (at : ℕ) (es : List (Element N)) (x : Next N B) : Type 0 where
  pub value : ℤ
  pub rest : List (Element N)
  pub all : es ≡ element n d value ∷ rest
  pub held : holds_in d value ≡ true
  pub on : Follow (g value) (at + width_in d value) rest x

pub any_apart : {N B : Type 0} (n : N) (d : Descriptor) (g : ℤ → Syntax N B) (at : ℕ) (es : List (Element N)) (x : Next N B)
    → Follow (any n d >>= g) at es x → ((es ≡ []) × (x ≡ awaits n d)) ⊎ Goes n d g at es x
unfolding Follow ◌>>=◌
any_apart n d g at [] x h = inl (refl, h)
any_apart {N} {B} n d g at (e ∷ es) x h =
    let a : e.name ≡ n = h.0.0 in
    let b : e.descriptor ≡ d = h.0.1 in
    let q : e ≡ element n d e.value = rw (← a, ← b) refl in
    inr (record { value = e.value; rest = es; all = ap (λ (y : Element N). y ∷ es) q; held = h.0.2; on = rw (← b) h.1 })

pub any_together : {N B : Type 0} (n : N) (d : Descriptor) (g : ℤ → Syntax N B) (at : ℕ) (z : ℤ) (es : List (Element N)) (x : Next N B)
    → holds_in d z ≡ true → Follow (g z) (at + width_in d z) es x → Follow (any n d >>= g) at (element n d z ∷ es) x
unfolding Follow ◌>>=◌
any_together n d g at z es x h k = ((refl, refl, h), k)

pub must_apart : {N B : Type 0} (r : Rule N) (g : Unit → Syntax N B) (at : ℕ) (es : List (Element N)) (x : Next N B)
    → Follow (must r >>= g) at es x → ((meets r ≡ true) × Follow (g tt) at es x) ⊎ ((meets r ≡ false) × (es ≡ []) × (x ≡ broken r))
unfolding Follow ◌>>=◌
must_apart {N} {B} r g at es x h = go (meets r) refl
  where
    go : (b : Bool) → meets r ≡ b → ((meets r ≡ true) × Follow (g tt) at es x) ⊎ ((meets r ≡ false) × (es ≡ []) × (x ≡ broken r))
    go true q = inl (q, rw q at h)
    go false q = let k : (es ≡ []) × (x ≡ broken r) = rw q at h in inr (q, k.0, k.1)

pub must_together : {N B : Type 0} (r : Rule N) (g : Unit → Syntax N B) (at : ℕ) (es : List (Element N)) (x : Next N B)
    → meets r ≡ true → Follow (g tt) at es x → Follow (must r >>= g) at es x
unfolding Follow ◌>>=◌
must_together r g at es x m h = rw m h

-- behind a rule that is not what stops the table the table goes on, and the rule is met
pub must_met : {N B : Type 0} (r : Rule N) (g : Unit → Syntax N B) (at : ℕ) (es : List (Element N)) (x : Next N B)
    → ((q : Rule N) → x ≡ broken q → ⊥) → Follow (must r >>= g) at es x → (meets r ≡ true) × Follow (g tt) at es x
must_met {N} {B} r g at es x goes_on h = go (must_apart r g at es x h)
  where
    go : ((meets r ≡ true) × Follow (g tt) at es x) ⊎ ((meets r ≡ false) × (es ≡ []) × (x ≡ broken r)) → (meets r ≡ true) × Follow (g tt) at es x
    go (inl k) = k
    go (inr k) = absurd (goes_on r k.2)

pub complete_not_broken : {N B : Type 0} {b : B} (q : Rule N) → complete b ≡ broken q → ⊥
complete_not_broken q e = let z : ◌≡◌ {A = ℕ} 0 1 = cc in clash z

pub awaits_not_broken : {N B : Type 0} {n : N} {d : Descriptor} (q : Rule N) → ◌≡◌ {A = Next N B} (awaits n d) (broken q) → ⊥
awaits_not_broken q e = let z : ◌≡◌ {A = ℕ} 0 1 = cc in clash z

-- the same of a complete table
module _ {N B : Type 0} where
  pub any_only : (n : N) (d : Descriptor) (g : ℤ → Syntax N B) (at : ℕ) (es : List (Element N)) (b : B) → Follow (any n d >>= g) at es (complete b) → Goes n d g at es (complete b)
  any_only n d g at es b h = go (any_apart n d g at es (complete b) h)
    where
      go : ((es ≡ []) × (◌≡◌ {A = Next N B} (complete b) (awaits n d))) ⊎ Goes n d g at es (complete b) → Goes n d g at es (complete b)
      go (inl k) = let e = k.1 in let z : ◌≡◌ {A = ℕ} 0 1 = cc in clash z
      go (inr k) = k

  pub must_only : (r : Rule N) (g : Unit → Syntax N B) (at : ℕ) (es : List (Element N)) (b : B) → Follow (must r >>= g) at es (complete b) → (meets r ≡ true) × Follow (g tt) at es (complete b)
  must_only r g at es b h = must_met r g at es (complete b) complete_not_broken h

  pub done_only : (a b : B) (at : ℕ) (es : List (Element N)) → Follow (done a) at es (complete b) → (es ≡ []) × (b ≡ a)
  unfolding Follow
  done_only a b at es h = let e : ◌≡◌ {A = Next N B} (complete b) (complete a) = h.1 in (h.0, cc)

  pub ranged_only : (n : N) (d : Descriptor) (k : ℕ) (low high : ℤ) (g : ℤ → Syntax N B) (at : ℕ) (es : List (Element N)) (b : B) → Follow (ranged n d k low high >>= g) at es (complete b)
      → (z : ℤ) × (fs : List (Element N)) × (es ≡ element n d z ∷ fs) × (holds_in d z ≡ true) × (allows (between low high) z ≡ true) × Follow (g z) (at + width_in d z) fs (complete b)
  unfolding Follow ◌>>=◌
  ranged_only n d k low high g at es b h =
      let m = any_only n d (λ z. must (range_rule n k low high at z) >>= λ t. g z) at es b h in
      let r = must_only (range_rule n k low high at m.value) (λ t. g m.value) (at + width_in d m.value) m.rest b m.on in
      (m.value, m.rest, m.all, m.held, r.0, r.1)

  pub ranged_together : (n : N) (d : Descriptor) (k : ℕ) (low high : ℤ) (g : ℤ → Syntax N B) (at : ℕ) (z : ℤ) (es : List (Element N)) (x : Next N B)
      → holds_in d z ≡ true → allows (between low high) z ≡ true → Follow (g z) (at + width_in d z) es x → Follow (ranged n d k low high >>= g) at (element n d z ∷ es) x
  unfolding Follow ◌>>=◌
  ranged_together n d k low high g at z es x h a f = ((refl, refl, h), rw a f)

  pub ranged_broken : (n : N) (d : Descriptor) (k : ℕ) (low high : ℤ) (g : ℤ → Syntax N B) (at : ℕ) (z : ℤ)
      → holds_in d z ≡ true → allows (between low high) z ≡ false → Follow (ranged n d k low high >>= g) at (element n d z ∷ []) (broken (range_rule n k low high at z))
  unfolding Follow ◌>>=◌
  ranged_broken n d k low high g at z h a = ((refl, refl, h), rw a (refl, refl))

-- ---- rows of fields, and zero bits

pub row_takes : {N : Type 0} (fs : List (Field N)) (at : ℕ) (zs : List ℤ) → hold_all (map coding_of fs) zs ≡ true → Follow (row fs) at (field_elements fs zs) (complete zs)
unfolding Follow row field_elements hold_all ◌>>=◌
row_takes [] at [] h = (refl, refl)
row_takes [] at (z ∷ zs) h = let z : ◌≡◌ {A = ℕ} 0 1 = cc in clash z
row_takes (f ∷ fs) at [] h = let z : ◌≡◌ {A = ℕ} 0 1 = cc in clash z
row_takes {N} (f ∷ fs) at (z ∷ zs) h =
    let b = and_parts (holds f.coding z) (hold_all (map coding_of fs) zs) h in
    let r = row_takes fs (at + width_in (fixed f.coding) z) zs b.1 in
    let t = together (row fs) (λ (ys : List ℤ). done (z ∷ ys)) (at + width_in (fixed f.coding) z) (field_elements fs zs) [] zs (complete (z ∷ zs)) r (refl, refl) in
    ((refl, refl, b.0), rw (append-nil (field_elements fs zs)) at t)

pub row_only : {N : Type 0} (fs : List (Field N)) (at : ℕ) (es : List (Element N)) (zs : List ℤ) → Follow (row fs) at es (complete zs)
    → (hold_all (map coding_of fs) zs ≡ true) × (es ≡ field_elements fs zs)
unfolding row field_elements hold_all
row_only [] at es zs h = let k = done_only [] zs at es h in rw k.1 (refl, k.0)
row_only {N} (f ∷ fs) at es zs h =
    let m = any_only f.name (fixed f.coding) (λ z. row fs >>= λ ys. done (z ∷ ys)) at es zs h in
    let there = at + width_in (fixed f.coding) m.value in
    let k = apart_complete (row fs) (λ ys. done (m.value ∷ ys)) there m.rest zs m.on in
    let i = row_only fs there k.first k.made k.one in
    let e = done_only (m.value ∷ k.made) zs (there + sum_of_widths k.first) k.second k.two in
    let l : m.rest ≡ field_elements fs k.made = k.all ∙ rw e.0 (append-nil k.first) ∙ i.1 in
    rw e.1 (rw (m.held, i.0) refl, m.all ∙ ap (λ (l : List (Element N)). element f.name (fixed f.coding) m.value ∷ l) l)

-- the only number in a range of one
pub same_number : (v : ℕ) (z : ℤ) → allows (between (pos v) (pos v)) z ≡ true → z ≡ pos v
same_number v (pos w) h =
    let f = and_parts (leb v w) (leb w v) h in
    let a : v ≤ w = leb-true v w f.0 in
    let b : w ≤ v = leb-true w v f.1 in
    ap pos (omega arith)
same_number v (negsuc w) h = let z : ◌≡◌ {A = ℕ} 0 1 = cc in clash z

pub zeros_take : {N : Type 0} (name : N) (n at : ℕ) → Follow (zero_bits name n) at (replicate n (zero_bit name)) (complete tt)
unfolding Follow zero_bits ◌>>=◌
zeros_take name zero at = (refl, refl)
zeros_take name (suc n) at = ((refl, refl, refl), zeros_take name n (at + 1))

pub zeros_only : {N : Type 0} (name : N) (n at : ℕ) (es : List (Element N)) → Follow (zero_bits name n) at es (complete tt) → es ≡ replicate n (zero_bit name)
unfolding zero_bits
zeros_only name zero at es h = (done_only tt tt at es h).0
zeros_only {N} name (suc n) at es h =
    let m = ranged_only name (fixed (unsigned 1)) not_zero (pos 0) (pos 0) (λ z. zero_bits name n) at es tt h in
    let z = same_number 0 m.0 m.4 in
    m.2 ∙ rw z (ap (λ (l : List (Element N)). zero_bit name ∷ l) (zeros_only name n (at + 1) m.1 m.5))
