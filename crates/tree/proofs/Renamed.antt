-- Reading under other names gives the answer under other names.
use Prim.Native.Nat.{ℕ, ◌+◌, ◌-◌, ◌^◌}
use mathlib.Core.Path.{◌≡◌, refl, ap, sym, ◌∙◌}
use mathlib.Core.List.{List, [], ◌∷◌}
use mathlib.Core.Bool.{Bool, true, false, cond}
use lib.Dec.{leb, ltb}
use lib.IntN.{ℤ, pos}
use lib.ListN.{length, take, drop}
use Rattle.tree.specs.Bits.{value}
use Rattle.tree.specs.Reading.{meets, cut_off, overlong, breaks, Out, ok, no, widened, and_then, mapped, signed_of, u, i, ue, zeros_then_one}
use Rattle.tree.specs.Coding.{unsigned, signed, Descriptor, variable, fixed, coded, most_zeros}
use Rattle.tree.specs.Syntax.{Syntax, done, reads, checks, here, read}
use Rattle.tree.specs.Renamed.{renamed, renamed_rule, retitled}

module _ {N M : Type 0} (f : N → M) where
  renamed-mapped : {A B : Type 0} (h : A → B) (o : Out N A) → renamed f (mapped h o) ≡ mapped h (renamed f o)
  renamed-mapped h (ok a n) = refl
  renamed-mapped h (no r) = refl

  renamed-widened : {A : Type 0} (n : ℕ) (o : Out N A) → renamed f (widened n o) ≡ widened n (renamed f o)
  renamed-widened n (ok a m) = refl
  renamed-widened n (no r) = refl

  pub renamed-u : (name : N) (n at : ℕ) (s : List Bool) → u (f name) n at s ≡ renamed f (u name n at s)
  unfolding u
  renamed-u name n at s = go (leb n (length s))
    where
      go : (b : Bool) → cond b (ok (value (take n s)) n) (no (cut_off at (f name))) ≡ renamed f (cond b (ok (value (take n s)) n) (no (cut_off at name)))
      go true = refl
      go false = refl

  renamed_zeros : (name : N) (most at k : ℕ) (s : List Bool) → zeros_then_one (f name) most at k s ≡ renamed f (zeros_then_one name most at k s)
  unfolding zeros_then_one
  renamed_zeros name most at k [] = refl
  renamed_zeros name most at k (true ∷ s) = refl
  renamed_zeros name most at k (false ∷ s) = go (renamed_zeros name most at (k + 1) s) (ltb k most)
    where
      go : zeros_then_one (f name) most at (k + 1) s ≡ renamed f (zeros_then_one name most at (k + 1) s) → (b : Bool)
          → cond b (zeros_then_one (f name) most at (k + 1) s) (no (overlong at (f name))) ≡ renamed f (cond b (zeros_then_one name most at (k + 1) s) (no (overlong at name)))
      go ih true = ih
      go ih false = refl

  pub renamed-ue : (name : N) (most at : ℕ) (s : List Bool) → ue (f name) most at s ≡ renamed f (ue name most at s)
  unfolding ue
  renamed-ue name most at s = rw (renamed_zeros name most at 0 s) (go (zeros_then_one name most at 0 s))
    where
      go : (o : Out N ℕ) → and_then (renamed f o) (λ k past t. mapped (λ v. 2 ^ k - 1 + v) (u (f name) k at t)) at s ≡ renamed f (and_then o (λ k past t. mapped (λ v. 2 ^ k - 1 + v) (u name k at t)) at s)
      go (ok k n) =
          let t = drop n s in
          ap (λ (o : Out M ℕ). widened n (mapped (λ v. 2 ^ k - 1 + v) o)) (renamed-u name k at t)
          ∙ ap (widened n) (sym (renamed-mapped (λ v. 2 ^ k - 1 + v) (u name k at t))) ∙ sym (renamed-widened n (mapped (λ v. 2 ^ k - 1 + v) (u name k at t)))
      go (no r) = refl

  renamed-coded : (d : Descriptor) (name : N) (at : ℕ) (s : List Bool) → coded d (f name) at s ≡ renamed f (coded d name at s)
  unfolding i
  renamed-coded variable name at s = ap (mapped pos) (renamed-ue name most_zeros at s) ∙ sym (renamed-mapped pos (ue name most_zeros at s))
  renamed-coded (fixed (unsigned n)) name at s = ap (mapped pos) (renamed-u name n at s) ∙ sym (renamed-mapped pos (u name n at s))
  renamed-coded (fixed (signed n)) name at s = ap (mapped (signed_of n)) (renamed-u name n at s) ∙ sym (renamed-mapped (signed_of n) (u name n at s))

  pub read-renamed : {A : Type 0} (p : Syntax N A) (at : ℕ) (s : List Bool) → read (retitled f p) at s ≡ renamed f (read p at s)
  unfolding read retitled
  read-renamed (done a) at s = refl
  read-renamed {A} (reads n d g) at s = rw (renamed-coded d n at s) (go (λ z. read-renamed (g z)) (coded d n at s))
    where
      go : ((z : ℤ) (there : ℕ) (t : List Bool) → read (retitled f (g z)) there t ≡ renamed f (read (g z) there t))
          → (o : Out N ℤ) → and_then (renamed f o) (λ z. read (retitled f (g z))) at s ≡ renamed f (and_then o (λ z. read (g z)) at s)
      go ih (ok z m) = ap (widened m) (ih z (at + m) (drop m s)) ∙ sym (renamed-widened m (read (g z) (at + m) (drop m s)))
      go ih (no r) = refl
  read-renamed {A} (checks r p) at s = go (read-renamed p at s) (meets r)
    where
      go : read (retitled f p) at s ≡ renamed f (read p at s) → (b : Bool) → cond b (read (retitled f p) at s) (no (breaks (renamed_rule f r))) ≡ renamed f (cond b (read p at s) (no (breaks r)))
      go ih true = ih
      go ih false = refl
  read-renamed (here g) at s = read-renamed (g at) at s
