-- Rows of numbers: when two are equal, and a run of pastes that is one.
use Prim.Native.Nat.{ℕ, suc, ◌+◌, ◌<◌, ◌≤◌}
use mathlib.Core.Path.{◌≡◌, refl, sym, ap, ◌∙◌}
use mathlib.Core.Bool.{true}
use mathlib.Core.List.{List, [], ◌∷◌, ◌++◌, append_assoc, append-nil}
use native.Mathlib.Omega.{arith}
use borrow.Author.Tests.{eqb-true, eq-eqb}
use lib.Dec.{eqb}
use lib.IntN.{ℤ, pos, negsuc}
use lib.ListN.{length, get_or, set, take, drop, drop_of_length-le}
use lib.Seq.{paste, paste-suc, take_all, take-paste, drop-paste, take-add, drop-drop}
use mir.Syntax.{w32}
use mir.Val.{to_z, of_z, SFits}
use mir.ValLaws.{to_z-of_z}
use Rattle.std.specs.Cmp.Lexicographic.{pointwise}
use Rattle.std.specs.Cmp.Rules.{signed_items}
use Rattle.std.specs.Ordering.{int_eq}
use Rattle.record.proofs.Laws.{same_test, and_left, and_right}
use Rattle.flat.specs.Flat.{same_number, same_row}

-- ---- equal numbers

pub same_number_refl : (a : ℤ) → same_number a a ≡ true
same_number_refl (pos a) = eq-eqb a a refl
same_number_refl (negsuc a) = eq-eqb a a refl

pub same_number_true : (a b : ℤ) → same_number a b ≡ true → a ≡ b
same_number_true (pos a) (pos b) h = ap pos (eqb-true a b h)
same_number_true (pos a) (negsuc b) h = let z : ◌≡◌ {A = ℕ} 0 1 = cc in absurd (omega arith)
same_number_true (negsuc a) (pos b) h = let z : ◌≡◌ {A = ℕ} 0 1 = cc in absurd (omega arith)
same_number_true (negsuc a) (negsuc b) h = ap negsuc (eqb-true a b h)

-- the code compares bits
pub same_bits : (a b : ℤ) → SFits w32 a → SFits w32 b → eqb (of_z w32 a) (of_z w32 b) ≡ same_number a b
same_bits a b f g =
    same_test (eqb (of_z w32 a) (of_z w32 b)) (same_number a b)
    (λ h. let e : a ≡ b = sym (to_z-of_z w32 a f) ∙ ap (to_z w32) (eqb-true (of_z w32 a) (of_z w32 b) h) ∙ to_z-of_z w32 b g in ap (same_number a) (sym e) ∙ same_number_refl a)
    (λ h. eq-eqb (of_z w32 a) (of_z w32 b) (ap (of_z w32) (same_number_true a b h)))

-- ---- equal rows

pub same_refl : (l : List ℤ) → same_row l l ≡ true
unfolding same_row
same_refl [] = refl
same_refl (x ∷ xs) = rw (same_number_refl x, same_refl xs)

pub same_true : (l m : List ℤ) → same_row l m ≡ true → l ≡ m
unfolding same_row
same_true [] [] h = refl
same_true [] (y ∷ ys) h = let z : ◌≡◌ {A = ℕ} 0 1 = cc in absurd (omega arith)
same_true (x ∷ xs) [] h = let z : ◌≡◌ {A = ℕ} 0 1 = cc in absurd (omega arith)
same_true (x ∷ xs) (y ∷ ys) h =
    let e = same_number_true x y (and_left (same_number x y) (same_row xs ys) h) in
    let f = same_true xs ys (and_right (same_number x y) (same_row xs ys) h) in
    cc

-- what `==` answers of two rows
pub same_by_eq : (l m : List ℤ) → pointwise int_eq l m ≡ same_row l m
same_by_eq l m =
    same_test (pointwise int_eq l m) (same_row l m)
    (λ h. let e : l ≡ m = (signed_items l m).0 h in ap (same_row l) (sym e) ∙ same_refl l)
    (λ h. (signed_items l m).1 (same_true l m h))

-- ---- pastes

-- a row that is pasted whole
pub pasted_whole : (d s : List ℤ) (n : ℕ) → length d ≡ n → length s ≡ n → paste d 0 s n ≡ s
pasted_whole d s n e f =
    ap (λ (l : List ℤ). l ++ drop (0 + n) d) (take_all n s (omega arith)) ∙ ap (λ (l : List ℤ). s ++ l) (drop_of_length-le d {i = 0 + n} (omega arith)) ∙ append-nil s

-- one number more is copied to the front
pub copy_more : (s d : List ℤ) (k : ℕ) → k < length s → k < length d → set (take k s ++ drop k d) k (get_or s k (pos 0)) ≡ take (suc k) s ++ drop (suc k) d
copy_more s d k hs hd =
    let e : 0 + k ≡ k = omega arith in
    let f : 0 + suc k ≡ suc k = omega arith in
    rw (e, f) at (paste-suc d 0 s k (pos 0) (omega arith) hs)

-- m numbers pasted behind n are n + m pasted
pub paste_more : (d : List ℤ) (at : ℕ) (s : List ℤ) (n : ℕ) (t : List ℤ) (m : ℕ) → at ≤ length d → n ≤ length s → take m t ≡ take m (drop n s)
    → paste (paste d at s n) (at + n) t m ≡ paste d at s (n + m)
paste_more d at s n t m hd hs e =
    let front = take-paste d at s n hd hs in
    let back : drop (at + n + m) (paste d at s n) ≡ drop (at + n + m) d = sym (drop-drop m (at + n) (paste d at s n)) ∙ ap (drop m) (drop-paste d at s n hd hs) ∙ drop-drop m (at + n) d in
    let k : at + n + m ≡ at + (n + m) = omega arith in
    ap (λ (l : List ℤ). l ++ take m t ++ drop (at + n + m) (paste d at s n)) front
    ∙ ap (λ (l : List ℤ). take at d ++ take n s ++ l ++ drop (at + n + m) (paste d at s n)) e
    ∙ ap (λ (l : List ℤ). take at d ++ take n s ++ take m (drop n s) ++ l) back
    ∙ ap (λ (l : List ℤ). l ++ drop (at + n + m) d) (append_assoc (take at d) (take n s) (take m (drop n s)) ∙ ap (λ (l : List ℤ). take at d ++ l) (sym (take-add n m s)))
    ∙ ap (λ (j : ℕ). take at d ++ take (n + m) s ++ drop j d) k
