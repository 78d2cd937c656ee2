-- How tables compose: one behind another, elements, rules, rows of fields, zero bits.
use Prim.Native.Nat.{ℕ, ◌+◌}
use mathlib.Core.Path.{◌≡◌, refl, ap, sym, ◌∙◌}
use mathlib.Core.List.{List, [], ◌∷◌, ◌++◌}
use mathlib.Core.Bool.{Bool, true, false, cond}
use mathlib.Core.Logic.{◌⊎◌, inl, inr}
use native.Mathlib.Omega.{arith}
use native.Mathlib.Nat.{add-zero, add_assoc}
use lib.IntN.{ℤ}
use lib.ListN.{drop}
use lib.Seq.{drop-drop}
use Rattle.tree.specs.Reading.{meets, Fault, breaks, Out, ok, no, Reader, widened, and_then, mapped}
use Rattle.tree.specs.Coding.{coded}
use Rattle.tree.specs.Syntax.{Syntax, done, reads, checks, here, read, ◌>>=◌}
use Rattle.tree.specs.Meaning.{Element, width, sum_of_widths, Next, complete, awaits, broken, Follow}

-- ---- reading one table behind another, as the code does

module _ {N A B : Type 0} (g : A → Reader N B) (at : ℕ) (s : List Bool) where
  then_more : (m : ℕ) (o : Out N A) → and_then (widened m o) g at s ≡ widened m (and_then o g (at + m) (drop m s))
  then_more m (ok a k) = rw (drop-drop k m s, add_assoc at m k) (deep (g a (at + (m + k)) (drop (m + k) s)))
    where
      deep : (o : Out N B) → widened (m + k) o ≡ widened m (widened k o)
      deep (ok b n) = ap (ok b) (omega arith)
      deep (no r) = refl
  then_more m (no r) = refl

none_more : {N A : Type 0} (o : Out N A) → o ≡ widened 0 o
none_more (ok a n) = ap (ok a) (omega arith)
none_more (no r) = refl

-- THE LAW for code: a table behind another is read by reading one behind the other
pub read_then : {N A B : Type 0} (p : Syntax N A) (g : A → Syntax N B) (at : ℕ) (s : List Bool) → read (p >>= g) at s ≡ and_then (read p at s) (λ a. read (g a)) at s
unfolding read ◌>>=◌
read_then (done a) g at s = rw (add-zero at) (none_more (read (g a) at s))
read_then {N} {A} {B} (reads n d f) g at s = go (λ z. read_then (f z) g) (coded d n at s)
  where
    go : ((z : ℤ) (there : ℕ) (t : List Bool) → read (f z >>= g) there t ≡ and_then (read (f z) there t) (λ a. read (g a)) there t)
        → (o : Out N ℤ) → and_then o (λ z. read (f z >>= g)) at s ≡ and_then (and_then o (λ z. read (f z)) at s) (λ a. read (g a)) at s
    go ih (ok z m) = ap (widened m) (ih z (at + m) (drop m s)) ∙ sym (then_more (λ a. read (g a)) at s m (read (f z) (at + m) (drop m s)))
    go ih (no w) = refl
read_then {N} {A} {B} (checks r p) g at s = go (read_then p g at s) (meets r)
  where
    go : read (p >>= g) at s ≡ and_then (read p at s) (λ a. read (g a)) at s → (b : Bool)
        → cond b (read (p >>= g) at s) (no (breaks r)) ≡ and_then (cond b (read p at s) (no (breaks r))) (λ a. read (g a)) at s
    go ih true = ih
    go ih false = refl
read_then (here f) g at s = read_then (f at) g at s

-- what follows from it
module _ {N A B : Type 0} (p : Syntax N A) where
  pub then_no : (g : A → Syntax N B) (at : ℕ) (s : List Bool) (f : Fault N) → read p at s ≡ no f → read (p >>= g) at s ≡ no f
  then_no g at s f e = read_then p g at s ∙ rw e refl

  pub then_ok : (g : A → Syntax N B) (at : ℕ) (s : List Bool) (a : A) (n : ℕ) → read p at s ≡ ok a n → read (p >>= g) at s ≡ widened n (read (g a) (at + n) (drop n s))
  then_ok g at s a n e = read_then p g at s ∙ rw e refl

  -- another value of the same
  pub then_done : (h : A → B) (at : ℕ) (s : List Bool) → read (p >>= λ a. done (h a)) at s ≡ mapped h (read p at s)
  unfolding read
  then_done h at s = read_then p (λ a. done (h a)) at s ∙ go (read p at s)
    where
      go : (o : Out N A) → and_then o (λ a. read (done (h a))) at s ≡ mapped h o
      go (ok a n) = ap (ok (h a)) (add-zero n)
      go (no f) = refl

  -- what follows, in other words
  pub then_same : (g k : A → Syntax N B) → ((a : A) (at : ℕ) (s : List Bool) → read (g a) at s ≡ read (k a) at s) → (at : ℕ) (s : List Bool) → read (p >>= g) at s ≡ read (p >>= k) at s
  then_same g k h at s = read_then p g at s ∙ go (read p at s) ∙ sym (read_then p k at s)
    where
      go : (o : Out N A) → and_then o (λ a. read (g a)) at s ≡ and_then o (λ a. read (k a)) at s
      go (ok a n) = ap (widened n) (h a (at + n) (drop n s))
      go (no f) = refl

  -- three in a row
  pub then_then : {C : Type 0} (g : A → Syntax N B) (k : B → Syntax N C) (at : ℕ) (s : List Bool) → read (p >>= g >>= k) at s ≡ read (p >>= λ a. g a >>= k) at s
  then_then {C} g k at s =
      read_then (p >>= g) k at s ∙ ap (λ (o : Out N B). and_then o (λ b. read (k b)) at s) (read_then p g at s) ∙ go (read p at s) ∙ sym (read_then p (λ a. g a >>= k) at s)
    where
      go : (o : Out N A) → and_then (and_then o (λ a. read (g a)) at s) (λ b. read (k b)) at s ≡ and_then o (λ a. read (g a >>= k)) at s
      go (ok a n) = then_more (λ b. read (k b)) at s n (read (g a) (at + n) (drop n s)) ∙ ap (widened n) (sym (read_then (g a) k (at + n) (drop n s)))
      go (no f) = refl

-- ---- following one table behind another

pub together : {N A B : Type 0} (p : Syntax N A) (g : A → Syntax N B) (at : ℕ) (es fs : List (Element N)) (a : A) (x : Next N B)
    → Follow p at es (complete a) → Follow (g a) (at + sum_of_widths es) fs x → Follow (p >>= g) at (es ++ fs) x
unfolding Follow ◌>>=◌ sum_of_widths
together {N} {A} {B} (done b) g at es fs a x h k =
    let e : complete a ≡ complete b = h.1 in
    let q : a ≡ b = same e in
    let l : Follow (g a) (at + 0) fs x = rw h.0 at k in
    rw (h.0, ← q, ← add-zero at) l
  where
    same : ◌≡◌ {A = Next N A} (complete a) (complete b) → a ≡ b
    same e = cc
together {N} {A} (reads n d f) g at [] fs a x h k = let z : ◌≡◌ {A = ℕ} 0 1 = cc in absurd (omega arith)
together (reads n d f) g at (e ∷ es) fs a x h k =
    (h.0, together (f e.value) g (at + width e) es fs a x h.1 (rw (add_assoc at (width e) (sum_of_widths es)) k))
together {N} {A} {B} (checks r p) g at es fs a x h k = go (together p g at es fs a x) (meets r) refl
  where
    go : (Follow p at es (complete a) → Follow (g a) (at + sum_of_widths es) fs x → Follow (p >>= g) at (es ++ fs) x) → (b : Bool) → meets r ≡ b
        → cond (meets r) (Follow (p >>= g) at (es ++ fs) x) ((es ++ fs ≡ []) × (x ≡ broken r))
    go ih true q = rw q (ih (rw q at h) k)
    go ih false q = let e : (es ≡ []) × (◌≡◌ {A = Next N A} (complete a) (broken r)) = rw q at h in let f = e.1 in let z : ◌≡◌ {A = ℕ} 0 1 = cc in absurd (omega arith)
together (here f) g at es fs a x h k = together (f at) g at es fs a x h k

-- what comes next in the first table, not being complete, comes next in both
abbrev pub Within : {N A B : Type 0} → Next N A → Next N B → Type 0
Within (complete a) x = ⊥
Within (awaits n d) x = x ≡ awaits n d
Within (broken r) x = x ≡ broken r

pub record Apart {N A B : Type 0} (p : Syntax N A) (g : A → Syntax N B) (at : ℕ) (es : List (Element N)) (x : Next N B) : Type 0 where
  pub first : List (Element N)
  pub second : List (Element N)
  pub made : A
  pub all : es ≡ first ++ second
  pub one : Follow p at first (complete made)
  pub two : Follow (g made) (at + sum_of_widths first) second x

pub record Inside {N A B : Type 0} (p : Syntax N A) (at : ℕ) (es : List (Element N)) (x : Next N B) : Type 0 where
  pub next : Next N A
  pub one : Follow p at es next
  pub same : Within next x

pub apart : {N A B : Type 0} (p : Syntax N A) (g : A → Syntax N B) (at : ℕ) (es : List (Element N)) (x : Next N B)
    → Follow (p >>= g) at es x → Apart p g at es x ⊎ Inside {B = B} p at es x
unfolding Follow ◌>>=◌ sum_of_widths
apart (done a) g at es x h = inl (record { first = []; second = es; made = a; all = refl; one = (refl, refl); two = rw (add-zero at) h })
apart (reads n d f) g at [] x h = inr (record { next = awaits n d; one = refl; same = h })
apart {N} {A} {B} (reads n d f) g at (e ∷ es) x h = go (apart (f e.value) g (at + width e) es x h.1)
  where
    go : Apart (f e.value) g (at + width e) es x ⊎ Inside {B = B} (f e.value) (at + width e) es x → Apart (reads n d f) g at (e ∷ es) x ⊎ Inside {B = B} (reads n d f) at (e ∷ es) x
    go (inl k) = inl (record {
      first = e ∷ k.first;
      second = k.second;
      made = k.made;
      all = ap (λ (l : List (Element N)). e ∷ l) k.all;
      one = (h.0, k.one);
      two = rw (← add_assoc at (width e) (sum_of_widths k.first)) k.two;
    })
    go (inr k) = inr (record { next = k.next; one = (h.0, k.one); same = k.same })
apart {N} {A} {B} (checks r p) g at es x h = go (apart p g at es x) (meets r) refl
  where
    lift : meets r ≡ true → Apart p g at es x ⊎ Inside {B = B} p at es x → Apart (checks r p) g at es x ⊎ Inside {B = B} (checks r p) at es x
    lift q (inl k) = inl (record { first = k.first; second = k.second; made = k.made; all = k.all; one = rw q k.one; two = k.two })
    lift q (inr k) = inr (record { next = k.next; one = rw q k.one; same = k.same })

    go : (Follow (p >>= g) at es x → Apart p g at es x ⊎ Inside {B = B} p at es x) → (b : Bool) → meets r ≡ b → Apart (checks r p) g at es x ⊎ Inside {B = B} (checks r p) at es x
    go ih true q = lift q (ih (rw q at h))
    go ih false q =
        let k : (es ≡ []) × (x ≡ broken r) = rw q at h in
        inr (record { next = broken r; one = rw q (k.0, refl); same = k.1 })
apart (here f) g at es x h = go (apart (f at) g at es x h)
  where
    go : Apart (f at) g at es x ⊎ Inside (f at) at es x → Apart (here f) g at es x ⊎ Inside (here f) at es x
    go (inl k) = inl (record { first = k.first; second = k.second; made = k.made; all = k.all; one = k.one; two = k.two })
    go (inr k) = inr (record { next = k.next; one = k.one; same = k.same })

-- so what comes next in the first table, not being complete, comes next in both
pub next_in_both : {N A B : Type 0} (p : Syntax N A) (g : A → Syntax N B) (at : ℕ) (es : List (Element N)) (y : Next N A) (x : Next N B)
    → Follow p at es y → Within y x → Follow (p >>= g) at es x
unfolding Follow ◌>>=◌
next_in_both (done a) g at es (complete b) x h w = absurd w
next_in_both (done a) g at es (awaits n d) x h w = let e = h.1 in let z : ◌≡◌ {A = ℕ} 0 1 = cc in absurd (omega arith)
next_in_both (done a) g at es (broken r) x h w = let e = h.1 in let z : ◌≡◌ {A = ℕ} 0 1 = cc in absurd (omega arith)
next_in_both (reads n d f) g at [] y x h w = rw h at w
next_in_both (reads n d f) g at (e ∷ es) y x h w = (h.0, next_in_both (f e.value) g (at + width e) es y x h.1 w)
next_in_both {N} {A} {B} (checks r p) g at es y x h w = go (next_in_both p g at es y x) (meets r) refl
  where
    go : (Follow p at es y → Within y x → Follow (p >>= g) at es x) → (b : Bool) → meets r ≡ b → cond (meets r) (Follow (p >>= g) at es x) ((es ≡ []) × (x ≡ broken r))
    go ih true q = rw q (ih (rw q at h) w)
    go ih false q = let k : (es ≡ []) × (y ≡ broken r) = rw q at h in rw q (k.0, rw k.1 at w)
next_in_both (here f) g at es y x h w = next_in_both (f at) g at es y x h w

-- what comes next in both is not complete
pub next_itself : {N A B : Type 0} (y : Next N A) (x : Next N B) → Within y x → Within {B = B} x x
next_itself (complete a) x w = absurd w
next_itself (awaits n d) x w = rw w refl
next_itself (broken r) x w = rw w refl
