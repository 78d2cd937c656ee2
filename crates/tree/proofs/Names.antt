-- What holds of the names in a table holds of the name that a fault has: the law, and its laws for parts.
use Prim.Native.Nat.{ℕ, zero, suc, ◌+◌}
use mathlib.Core.Path.{◌≡◌, refl, ap, ◌∙◌}
use mathlib.Core.List.{List, [], ◌∷◌}
use mathlib.Core.Bool.{Bool, true, false, cond}
use mathlib.Core.Logic.{◌⊎◌, inl, inr}
use lib.IntN.{ℤ, pos}
use lib.ListN.{drop}
use Rattle.refusals.specs.Refusals.{not_zero, wrapper_differs}
use Rattle.tree.specs.Reading.{Rule, meets, Fault, cut_off, overlong, breaks, element_in, Out, ok, no, widened, to_boundary}
use Rattle.tree.specs.Coding.{unsigned, Descriptor, fixed, coded}
use Rattle.tree.specs.Syntax.{Syntax, done, reads, checks, here, ◌>>=◌, must, any, ranged, Field, row, zero_bits, alignment, left_over, read, read_whole}
use Rattle.tree.specs.Meaning.{CutOff, TooMany}
use Rattle.tree.specs.Wrapper.{wrapper_table}
use Rattle.tree.specs.Reasons.{Names}
use Rattle.tree.proofs.Codes.{same_no, ok_not_no}
use Rattle.tree.proofs.Refused.{refused_coded}

-- a fault behind bits that are taken already is that fault
widened_no : {N A : Type 0} (n : ℕ) (o : Out N A) (f : Fault N) → widened n o ≡ no f → o ≡ no f
widened_no n (ok a m) f e = ok_not_no e
widened_no n (no g) f e = e

module _ {N : Type 0} (P : N → Type 0) where
  -- a fault of an element has its name
  pub coded_named : (d : Descriptor) (name : N) (at : ℕ) (s : List Bool) (f : Fault N) → P name → coded d name at s ≡ no f → P (element_in f)
  coded_named d name at s f h e = go (refused_coded d name at s f e)
    where
      go : ((f ≡ cut_off at name) × CutOff d s) ⊎ ((f ≡ overlong at name) × TooMany d s) → P (element_in f)
      go (inl x) = rw x.0 h
      go (inr x) = rw x.0 h

  -- THE LAW
  pub fault_is_named : {A : Type 0} (p : Syntax N A) (at : ℕ) (s : List Bool) (f : Fault N) → Names P p → read p at s ≡ no f → P (element_in f)
  unfolding Names read
  fault_is_named (done a) at s f h e = ok_not_no e
  fault_is_named {A} (reads n d g) at s f h e = go (λ z. fault_is_named (g z)) (coded d n at s) refl
    where
      go : ((z : ℤ) (there : ℕ) (t : List Bool) (q : Fault N) → Names P (g z) → read (g z) there t ≡ no q → P (element_in q)) → (o : Out N ℤ) → coded d n at s ≡ o → P (element_in f)
      go ih (ok z k) q = ih z (at + k) (drop k s) f (h.1 z) (widened_no k (read (g z) (at + k) (drop k s)) f (rw q at e))
      go ih (no w) q =
          let x : no w ≡ no f = rw q at e in
          coded_named d n at s f h.0 (q ∙ ap no (same_no {A = A} w f x))
  fault_is_named {A} (checks r p) at s f h e = go (fault_is_named p at s f h.1) (meets r) refl
    where
      go : (read p at s ≡ no f → P (element_in f)) → (b : Bool) → meets r ≡ b → P (element_in f)
      go ih true q = ih (rw q at e)
      go ih false q =
          let x : no (breaks r) ≡ no f = rw q at e in
          rw (← same_no {A = A} (breaks r) f x) h.0
  fault_is_named (here g) at s f h e = fault_is_named (g at) at s f (h at) e

  -- and where the input ends behind the table
  pub whole_fault_is_named : {A : Type 0} (end : N) (p : Syntax N A) (s : List Bool) (f : Fault N) → P end → Names P p → read_whole end p s ≡ no f → P (element_in f)
  unfolding read_whole
  whole_fault_is_named {A} end p s f x h e = go (read p 0 s) refl
    where
      last : (b : Bool) (q : Rule N) (a : A) → q.element ≡ end → cond b (ok a 0) (no (breaks q)) ≡ no f → P (element_in f)
      last true q a w k = ok_not_no k
      last false q a w k = rw (← same_no {A = A} (breaks q) f k, w) x

      go : (o : Out N A) → read p 0 s ≡ o → P (element_in f)
      go (ok a n) q =
          let y = left_over end (0 + n) (drop n s) in
          last (meets y) y a refl (widened_no n (cond (meets y) (ok a 0) (no (breaks y))) f (rw q at e))
      go (no w) q =
          let y : no w ≡ no f = rw q at e in
          fault_is_named p 0 s f h (q ∙ ap no (same_no {A = A} w f y))

  -- ---- parts

  pub names_done : {A : Type 0} (a : A) → Names P (done a)
  unfolding Names
  names_done a = tt

  pub names_then : {A B : Type 0} (p : Syntax N A) (g : A → Syntax N B) → Names P p → ((a : A) → Names P (g a)) → Names P (p >>= g)
  unfolding Names ◌>>=◌
  names_then (done a) g hp hg = hg a
  names_then (reads n d f) g hp hg = (hp.0, λ z. names_then (f z) g (hp.1 z) hg)
  names_then (checks r p) g hp hg = (hp.0, names_then p g hp.1 hg)
  names_then (here f) g hp hg = λ at. names_then (f at) g (hp at) hg

  pub names_if : {A : Type 0} (b : Bool) (p q : Syntax N A) → Names P p → Names P q → Names P (cond b p q)
  names_if true p q hp hq = hp
  names_if false p q hp hq = hq

  pub names_here : {A : Type 0} (f : ℕ → Syntax N A) → ((at : ℕ) → Names P (f at)) → Names P (here f)
  unfolding Names
  names_here f h = h

  pub names-must : (r : Rule N) → P r.element → Names P (must r)
  unfolding Names
  names-must r h = (h, tt)

  pub names-any : (n : N) (d : Descriptor) → P n → Names P (any n d)
  unfolding Names
  names-any n d h = (h, λ z. tt)

  pub names-ranged : (n : N) (d : Descriptor) (k : ℕ) (low high : ℤ) → P n → Names P (ranged n d k low high)
  unfolding Names
  names-ranged n d k low high h = λ at. (h, λ z. (h, tt))

  -- each field of a row
  abbrev pub FieldNames : List (Field N) → Type 0
  FieldNames [] = Unit {0}
  FieldNames (f ∷ fs) = P f.name × FieldNames fs

  pub names-row : (fs : List (Field N)) → FieldNames fs → Names P (row fs)
  unfolding row
  names-row [] h = names_done []
  names-row (f ∷ fs) h =
      names_then (any f.name (fixed f.coding)) (λ z. row fs >>= λ zs. done (z ∷ zs)) (names-any f.name (fixed f.coding) h.0)
      (λ z. names_then (row fs) (λ zs. done (z ∷ zs)) (names-row fs h.1) (λ zs. names_done (z ∷ zs)))

  pub names_zeros : (name : N) (n : ℕ) → P name → Names P (zero_bits name n)
  unfolding zero_bits
  names_zeros name zero h = names_done tt
  names_zeros name (suc n) h =
      names_then (ranged name (fixed (unsigned 1)) not_zero (pos 0) (pos 0)) (λ z. zero_bits name n) (names-ranged name (fixed (unsigned 1)) not_zero (pos 0) (pos 0) h) (λ z. names_zeros name n h)

  pub names-alignment : (name : N) → P name → Names P (alignment name)
  names-alignment name h = names_here (λ at. zero_bits name (to_boundary at)) (λ at. names_zeros name (to_boundary at) h)

  pub names_wrapper : (name : N) (bs : List ℕ) → P name → Names P (wrapper_table name bs)
  unfolding wrapper_table
  names_wrapper name [] h = names_done tt
  names_wrapper name (b ∷ bs) h =
      names_then (ranged name (fixed (unsigned 8)) wrapper_differs (pos b) (pos b)) (λ z. wrapper_table name bs) (names-ranged name (fixed (unsigned 8)) wrapper_differs (pos b) (pos b) h) (λ z. names_wrapper name bs h)
