-- How codes compose: a value made of what was read, and one reader behind another.
use Prim.Native.Nat.{ℕ, ◌+◌}
use mathlib.Core.Path.{◌≡◌, refl, ap, sym, ◌∙◌}
use mathlib.Core.List.{List, ◌++◌, append_assoc}
use mathlib.Core.Bool.{Bool}
use native.Mathlib.Omega.{arith}
use lib.ListN.{length, take, drop, length-append}
use lib.Seq.{take_at, drop_at, drop-drop}
use Rattle.tree.specs.Reading.{Fault, Out, ok, no, Reader, and_then, mapped}
use Rattle.tree.specs.Codes.{Codes}

-- what is not an answer is none
pub no_not_ok : {N A : Type 0} {B : Type 0} {r : Fault N} {v : A} {n : ℕ} → no r ≡ ok v n → B
no_not_ok e = let z : ◌≡◌ {A = ℕ} 0 1 = cc in absurd (omega arith)

pub ok_not_no : {N A : Type 0} {B : Type 0} {r : Fault N} {v : A} {n : ℕ} → ok v n ≡ no r → B
ok_not_no e = let z : ◌≡◌ {A = ℕ} 0 1 = cc in absurd (omega arith)

pub same_no : {N A : Type 0} (q r : Fault N) → ◌≡◌ {A = Out N A} (no q) (no r) → q ≡ r
same_no q r e = cc

-- every value has one code: what two readings that give it took is the same
pub one_code : {N A : Type 0} (p : List Bool → Out N A) (e : A → List Bool) (F : A → Type 0) → Codes p e F
    → (s t : List Bool) (v : A) (m n : ℕ) → p s ≡ ok v m → p t ≡ ok v n → (m ≡ n) × (take m s ≡ take n t)
one_code p e F c s t v m n f g =
    let a = c.only s v m f in
    let b = c.only t v n g in
    let x : take m s ≡ e v = ap (take m) a.1 ∙ take_at (e v) (drop m s) m (sym a.2) in
    let y : take n t ≡ e v = ap (take n) b.1 ∙ take_at (e v) (drop n t) n (sym b.2) in
    (a.2 ∙ sym b.2, x ∙ sym y)

-- every code has one value, whatever follows
pub one_value : {N A : Type 0} (p : List Bool → Out N A) (e : A → List Bool) (F : A → Type 0) → Codes p e F
    → (v w : A) → F v → F w → (s t : List Bool) → e v ++ s ≡ e w ++ t → v ≡ w
one_value p e F c v w f g s t h =
    let x : ok v (length (e v)) ≡ ok w (length (e w)) = sym (c.takes v f s) ∙ ap p h ∙ c.takes w g t in
    cc

-- the same values in other words
pub codes_iff : {N A : Type 0} (p : List Bool → Out N A) (e : A → List Bool) (F G : A → Type 0) → ((a : A) → F a → G a) → ((a : A) → G a → F a) → Codes p e F → Codes p e G
codes_iff p e F G to from c = record {
  takes = λ v h t. c.takes v (from v h) t;
  only = λ s v n q. let b = c.only s v n q in (to v b.0, b.1, b.2);
}

-- the same codes in other words
pub codes_same : {N A : Type 0} (p : List Bool → Out N A) (e f : A → List Bool) (F : A → Type 0) → ((a : A) → F a → e a ≡ f a) → Codes p e F → Codes p f F
codes_same p e f F s c = record {
  takes = λ v h t. rw (← s v h) (c.takes v h t);
  only = λ l v n q. let b = c.only l v n q in (b.0, rw (← s v b.0) b.1, rw (← s v b.0) b.2);
}

-- a value made of what was read
module _ {N A B : Type 0} (p : List Bool → Out N A) (e : A → List Bool) (F : A → Type 0) (h : A → B) (k : B → A) (back : (a : A) → F a → k (h a) ≡ a) where
  pub codes_map : Codes p e F → Codes (λ s. mapped h (p s)) (λ b. e (k b)) (λ b. F (k b) × (h (k b) ≡ b))
  codes_map c = record {
    takes = λ b f t. rw (c.takes (k b) f.0 t, f.1);
    only = λ s b n q. go s b n q (p s) refl;
  }
    where
      go : (s : List Bool) (b : B) (n : ℕ) → mapped h (p s) ≡ ok b n → (o : Out N A) → p s ≡ o
          → (F (k b) × (h (k b) ≡ b)) × (s ≡ e (k b) ++ drop n s) × (n ≡ length (e (k b)))
      go s b n q (ok a m) r =
          let f : ok (h a) m ≡ ok b n = rw r at q in
          let x : h a ≡ b = cc in
          let y : m ≡ n = cc in
          let g = c.only s a m r in
          let i : k b ≡ a = ap k (sym x) ∙ back a g.0 in
          (rw i (g.0, x), rw (i, ← y) g.1, rw (i, ← y) g.2)
      go s b n q (no w) r = no_not_ok (rw r at q)

-- one reader behind another, where the second's value says what the first's was
module _ {N A B : Type 0} (at : ℕ) (p : List Bool → Out N A) (e : A → List Bool) (F : A → Type 0) (f : A → Reader N B) (g : B → List Bool) (G : B → Type 0) (π : B → A) where
  pub codes_then : Codes p e F → ((a : A) → F a → (there : ℕ) → Codes (f a there) g (λ b. G b × (π b ≡ a)))
      → Codes (λ s. and_then (p s) f at s) (λ b. e (π b) ++ g b) (λ b. F (π b) × G b)
  codes_then cp cf = record {
    takes = λ b h t.
        let a = π b in
        let x : p ((e a ++ g b) ++ t) ≡ ok a (length (e a)) = rw (append_assoc (e a) (g b) t) (cp.takes a h.0 (g b ++ t)) in
        let d : drop (length (e a)) ((e a ++ g b) ++ t) ≡ g b ++ t = rw (append_assoc (e a) (g b) t) (drop_at (e a) (g b ++ t) (length (e a)) refl) in
        rw (x, d, (cf a h.0 (at + length (e a))).takes b (h.1, refl) t) (ap (ok b) (sym (length-append (e a) (g b))));
    only = λ s b n h. go s b n h (p s) refl;
  }
    where
      rest : (s : List Bool) (b : B) (n : ℕ) → and_then (p s) f at s ≡ ok b n → (a : A) (m : ℕ) → p s ≡ ok a m → (o : Out N B) → f a (at + m) (drop m s) ≡ o
          → (F (π b) × G b) × (s ≡ (e (π b) ++ g b) ++ drop n s) × (n ≡ length (e (π b) ++ g b))
      rest s b n h a m q (ok b' i) r =
          let x : ok b' (m + i) ≡ ok b n = rw (q, r) at h in
          let y : b' ≡ b = cc in
          let z : m + i ≡ n = cc in
          let P = cp.only s a m q in
          let Q = (cf a P.0 (at + m)).only (drop m s) b i (r ∙ ap (λ (c : B). ok c i) y) in
          let k : π b ≡ a = Q.0.1 in
          let d : drop i (drop m s) ≡ drop n s = drop-drop i m s ∙ ap (λ (j : ℕ). drop j s) z in (
            ((rw k P.0), Q.0.0),
            rw (k, append_assoc (e a) (g b) (drop n s), ← d) (P.1 ∙ ap (λ (l : List Bool). e a ++ l) Q.1),
            rw k (omega (arith, length-append (e a) (g b), P.2, Q.2)),
          )
      rest s b n h a m q (no w) r = no_not_ok (rw (q, r) at h)

      go : (s : List Bool) (b : B) (n : ℕ) → and_then (p s) f at s ≡ ok b n → (o : Out N A) → p s ≡ o
          → (F (π b) × G b) × (s ≡ (e (π b) ++ g b) ++ drop n s) × (n ≡ length (e (π b) ++ g b))
      go s b n h (ok a m) q = rest s b n h a m q (f a (at + m) (drop m s)) refl
      go s b n h (no w) q = no_not_ok (rw q at h)
