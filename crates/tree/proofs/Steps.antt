-- How code meets a table: what reading each part of one comes to, at a position.
use Prim.Native.Nat.{ℕ, zero, suc, ◌+◌, ◌-◌, ◌<◌, ◌≤◌}
use mathlib.Core.Path.{◌≡◌, refl, ap}
use mathlib.Core.List.{List, [], ◌∷◌, map}
use mathlib.Core.Bool.{Bool, true, false, cond}
use native.Mathlib.Omega.{arith}
use native.Mathlib.Nat.{add-zero}
use borrow.Author.Tests.{ltb-true, ltb-false}
use lib.Dec.{ltb}
use lib.IntN.{ℤ, pos}
use lib.ListN.{length, take, drop, replicate, length-append, length-drop}
use Rattle.refusals.specs.Refusals.{not_zero}
use Rattle.tree.specs.Bits.{value_from, value}
use Rattle.tree.specs.Reading.{Rule, meets, Fault, cut_off, breaks, ok, no, widened, and_then, signed_of, u, i}
use Rattle.tree.specs.Coding.{Coding, unsigned, signed, width_of, total_width, Descriptor, fixed, coded}
use Rattle.tree.specs.Syntax.{Syntax, done, read, ◌>>=◌, any, ranged, range_rule, must, Field, coding_of, row, one_bit, zero_bits}
use Rattle.tree.specs.Meaning.{all_bits, Means}
use Rattle.tree.proofs.Elements.{u_ok, u_short}
use Rattle.tree.proofs.Meaning.{length-all, every_answer_is_true}
use Rattle.tree.proofs.Tables.{read_then}

module _ {N B : Type 0} where
  -- an element and what follows it, an element in its range, a rule: each as it stands
  pub read-any : (n : N) (d : Descriptor) (g : ℤ → Syntax N B) (at : ℕ) (s : List Bool) → read (any n d >>= g) at s ≡ and_then (coded d n at s) (λ z. read (g z)) at s
  unfolding read ◌>>=◌
  read-any n d g at s = refl

  pub read-ranged : (n : N) (d : Descriptor) (k : ℕ) (low high : ℤ) (g : ℤ → Syntax N B) (at : ℕ) (s : List Bool)
      → read (ranged n d k low high >>= g) at s
      ≡ and_then (coded d n at s) (λ z there t. cond (meets (range_rule n k low high at z)) (read (g z) there t) (no (breaks (range_rule n k low high at z)))) at s
  unfolding read ◌>>=◌
  read-ranged n d k low high g at s = refl

  pub read-must : (r : Rule N) (g : Unit {0} → Syntax N B) (at : ℕ) (s : List Bool) → read (must r >>= g) at s ≡ cond (meets r) (read (g tt) at s) (no (breaks r))
  unfolding read ◌>>=◌
  read-must r g at s = refl

-- zero bits, a bit at a time, as the loop goes
module _ {N : Type 0} (name : N) (n at : ℕ) where
  pub zeros_end : read (zero_bits name (suc n)) at [] ≡ no (cut_off at name)
  unfolding read ◌>>=◌ zero_bits u
  zeros_end = refl

  pub zeros_one_lem : (s : List Bool) → read (zero_bits name (suc n)) at (true ∷ s) ≡ no (breaks (range_rule name not_zero (pos 0) (pos 0) at (pos 1)))
  unfolding read ◌>>=◌ zero_bits value_from
  zeros_one_lem s = rw (u_ok name 1 at (true ∷ s) (omega arith)) refl

  pub zeros_zero : (s : List Bool) → read (zero_bits name (suc n)) at (false ∷ s) ≡ widened 1 (read (zero_bits name n) (at + 1) s)
  unfolding read ◌>>=◌ zero_bits value_from
  zeros_zero s = rw (u_ok name 1 at (false ∷ s) (omega arith)) refl

-- bits of any kind are passed over without a look at each: all are there, or the first that is not stands at the input's end
pub bits_there : {N : Type 0} (name : N) (n at : ℕ) (s : List Bool) → n ≤ length s → (zs : List ℤ) × (read (row (replicate n (one_bit name))) at s ≡ ok zs n)
unfolding read ◌>>=◌ row
bits_there name zero at s h = ([], refl)
bits_there name (suc n) at [] h = absurd (omega arith)
bits_there {N} name (suc n) at (b ∷ s) h = go (bits_there name n (at + 1) s (omega arith))
  where
    go : (zs : List ℤ) × (read (row (replicate n (one_bit name))) (at + 1) s ≡ ok zs n) → (zs : List ℤ) × (read (row (replicate (suc n) (one_bit name))) at (b ∷ s) ≡ ok zs (suc n))
    go k =
        let z : ℤ = pos (value (take 1 (b ∷ s))) in
        let e : 1 + (n + 0) ≡ suc n = omega arith in
        (z ∷ k.0, rw (u_ok name 1 at (b ∷ s) (omega arith), read_then (row (replicate n (one_bit name))) (λ ys. done (z ∷ ys)) (at + 1) s, k.1, e) refl)

pub bits_short : {N : Type 0} (name : N) (n at : ℕ) (s : List Bool) → length s < n → read (row (replicate n (one_bit name))) at s ≡ no (cut_off (at + length s) name)
unfolding read ◌>>=◌ row
bits_short name zero at s h = absurd (omega arith)
bits_short name (suc n) at [] h = rw (u_short name 1 at [] (omega arith), add-zero at) refl
bits_short {N} name (suc n) at (b ∷ s) h =
    let z : ℤ = pos (value (take 1 (b ∷ s))) in
    let i : read (row (replicate n (one_bit name))) (at + 1) s ≡ no (cut_off (at + 1 + length s) name) = bits_short name n (at + 1) s (omega arith) in
    let e : at + 1 + length s ≡ at + suc (length s) = omega arith in
    rw (u_ok name 1 at (b ∷ s) (omega arith), read_then (row (replicate n (one_bit name))) (λ ys. done (z ∷ ys)) (at + 1) s, i, e) refl

-- a row of fields is read with one look at the length: all are there, or the first that is not is named
abbrev pub field_value : Coding → ℕ → ℤ
field_value (unsigned n) v = pos v
field_value (signed n) v = signed_of n v

unfoldable pub values_in : List Coding → List Bool → List ℤ
values_in [] s = []
values_in (c ∷ cs) s = field_value c (value (take (width_of c) s)) ∷ values_in cs (drop (width_of c) s)

-- of a field and those behind it, n bits being there: which is cut off, and where it begins
unfoldable pub cut_in : {N : Type 0} → Field N → List (Field N) → ℕ → ℕ → Fault N
cut_in f [] at n = cut_off at f.name
cut_in f (g ∷ fs) at n = cond (ltb n (width_of f.coding)) (cut_off at f.name) (cut_in g fs (at + width_of f.coding) (n - width_of f.coding))

coded_there : {N : Type 0} (c : Coding) (name : N) (at : ℕ) (s : List Bool) → width_of c ≤ length s → coded (fixed c) name at s ≡ ok (field_value c (value (take (width_of c) s))) (width_of c)
unfolding i
coded_there (unsigned n) name at s h = rw (u_ok name n at s h) refl
coded_there (signed n) name at s h = rw (u_ok name n at s h) refl

coded_short : {N : Type 0} (c : Coding) (name : N) (at : ℕ) (s : List Bool) → length s < width_of c → coded (fixed c) name at s ≡ no (cut_off at name)
unfolding i
coded_short (unsigned n) name at s h = rw (u_short name n at s h) refl
coded_short (signed n) name at s h = rw (u_short name n at s h) refl

pub row_there : {N : Type 0} (fs : List (Field N)) (at : ℕ) (s : List Bool) → total_width (map coding_of fs) ≤ length s
    → read (row fs) at s ≡ ok (values_in (map coding_of fs) s) (total_width (map coding_of fs))
unfolding read ◌>>=◌ row total_width values_in
row_there [] at s h = refl
row_there (f ∷ fs) at s h =
    let w = width_of f.coding in
    let z = field_value f.coding (value (take w s)) in
    let i = row_there fs (at + w) (drop w s) (omega (arith, length-drop w s)) in
    let e : w + (total_width (map coding_of fs) + 0) ≡ w + total_width (map coding_of fs) = omega arith in
    rw (coded_there f.coding f.name at s (omega arith), read_then (row fs) (λ ys. done (z ∷ ys)) (at + w) (drop w s), i, e) refl

pub row_cut : {N : Type 0} (f : Field N) (fs : List (Field N)) (at : ℕ) (s : List Bool) → length s < total_width (map coding_of (f ∷ fs)) → read (row (f ∷ fs)) at s ≡ no (cut_in f fs at (length s))
unfolding read ◌>>=◌ row total_width cut_in
row_cut f [] at s h = rw (coded_short f.coding f.name at s (omega arith)) refl
row_cut {N} f (g ∷ fs) at s h = go (row_cut g fs) (ltb (length s) (width_of f.coding)) refl
  where
    w : ℕ
    w = width_of f.coding

    go : ((there : ℕ) (t : List Bool) → length t < total_width (map coding_of (g ∷ fs)) → read (row (g ∷ fs)) there t ≡ no (cut_in g fs there (length t)))
        → (b : Bool) → ltb (length s) w ≡ b → read (row (f ∷ g ∷ fs)) at s ≡ no (cond b (cut_off at f.name) (cut_in g fs (at + w) (length s - w)))
    go ih true q = rw (coded_short f.coding f.name at s (ltb-true (length s) w q)) refl
    go ih false q =
        let l = ltb-false (length s) w q in
        let z = field_value f.coding (value (take w s)) in
        let k = ih (at + w) (drop w s) (omega (arith, length-drop w s)) in
        let d : length (drop w s) ≡ length s - w = length-drop w s in
        rw (coded_there f.coding f.name at s (omega arith), read_then (row (g ∷ fs)) (λ ys. done (z ∷ ys)) (at + w) (drop w s), k, d) refl

-- what a table takes is there
pub takes_what_is_there : {N A : Type 0} (p : Syntax N A) (at : ℕ) (s : List Bool) (a : A) (n : ℕ) → read p at s ≡ ok a n → n ≤ length s
takes_what_is_there p at s a n e =
    let m : Means p at s (ok a n) = rw e at (every_answer_is_true p at s) in
    omega (arith, m.3, length-all m.0, ap length m.2, length-append (all_bits m.0) (drop n s))
