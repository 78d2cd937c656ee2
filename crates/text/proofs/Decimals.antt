-- Laws of plain decimal: how many digits a number has, and digit by digit.
use Prim.Native.Nat.{ℕ, zero, suc, ◌+◌, ◌-◌, ◌*◌, ◌/◌, ◌%◌, ◌^◌, ◌<◌, ◌≤◌}
use mathlib.Core.Path.{◌≡◌, refl, ap, sym, ◌∙◌}
use mathlib.Core.List.{List, [], ◌∷◌, ◌++◌, append_assoc}
use mathlib.Core.Bool.{Bool, true, false, cond}
use native.Mathlib.Omega.{arith}
use native.Mathlib.Numerals.{add-one}
use native.Mathlib.Nat.{pow-succ', add_comm}
use Rattle.std.specs.Prelude.{max}
use Rattle.std.proofs.Math.Nat.{pow-le-pow_right}
use Rattle.std.proofs.lemmas.List.{drop-set}
use borrow.Author.Tests.{lt-ltb, le-ltb, ltb-true, ltb-false}
use lib.Dec.{ltb}
use lib.ListN.{length, drop, set, length-append}
use Rattle.text.specs.Text.{size_within, size, digits, decimal}

-- a bound that is large enough does not matter
bounds : (a b n : ℕ) → n ≤ a → n ≤ b → size_within a n ≡ size_within b n
unfolding size_within
bounds zero zero n h k = refl
bounds zero (suc b) n h k = rw (lt-ltb n 10 (omega arith))
bounds (suc a) zero n h k = rw (lt-ltb n 10 (omega arith))
bounds (suc a) (suc b) n h k = go (ltb n 10) (bounds a b (n / 10) (omega arith) (omega arith))
  where
    go : (t : Bool) → size_within a (n / 10) ≡ size_within b (n / 10) → cond t 1 (1 + size_within a (n / 10)) ≡ cond t 1 (1 + size_within b (n / 10))
    go true e = refl
    go false e = ap (λ (m : ℕ). 1 + m) e

pub size_small : (n : ℕ) → n < 10 → size n ≡ 1
unfolding size_within
size_small zero h = refl
size_small (suc n) h = rw (lt-ltb (suc n) 10 h)

pub size_large : (n : ℕ) → 10 ≤ n → size n ≡ 1 + size (n / 10)
unfolding size_within
size_large zero h = absurd (omega arith)
size_large (suc n) h = rw (le-ltb (suc n) 10 h) (ap (λ (m : ℕ). 1 + m) (bounds n (suc n / 10) (suc n / 10) (omega arith) (omega arith)))

pub length_digits : (k n : ℕ) → length (digits k n) ≡ k
unfolding digits
length_digits zero n = refl
length_digits (suc k) n = omega (arith, length-append (digits k (n / 10)) ((48 + n % 10) ∷ []), length_digits k (n / 10))

pub length-decimal : (n : ℕ) → length (decimal n) ≡ size n
length-decimal n = length_digits (size n) n

-- a number below 10 ^ k has at most k digits, and every number has one
pub few_digits : (k n : ℕ) → n < 10 ^ (k + 1) → size n ≤ k + 1
few_digits zero n h = let s = size_small n (omega arith) in omega arith
few_digits (suc k) n h = go (ltb n 10) refl (few_digits k (n / 10))
  where
    go : (t : Bool) → ltb n 10 ≡ t → (n / 10 < 10 ^ (k + 1) → size (n / 10) ≤ k + 1) → size n ≤ suc k + 1
    go true e f = let s = size_small n (ltb-true n 10 e) in omega arith
    go false e f =
        let s = size_large n (ltb-false n 10 e) in
        let p : 10 ^ (suc k + 1) ≡ 10 * 10 ^ (k + 1) = ap (λ (m : ℕ). 10 ^ m) (add-one (suc k)) ∙ pow-succ' 10 (suc k) ∙ ap (λ (m : ℕ). 10 * 10 ^ m) (sym (add-one k)) in
        let g = f (omega (arith, h, p)) in omega arith

pub some_digit : (n : ℕ) → 1 ≤ size n
unfolding size_within
some_digit zero = omega arith
some_digit (suc n) = go (ltb (suc n) 10)
  where
    go : (t : Bool) → 1 ≤ cond t 1 (1 + size_within n (suc n / 10))
    go true = omega arith
    go false = omega arith

-- a number is below the power of ten that its digits count
below_power : (bound n : ℕ) → n ≤ bound → n < 10 ^ size_within bound n
unfolding size_within
below_power zero n h = omega arith
below_power (suc bound) n h = go (ltb n 10) refl (size_within bound (n / 10)) (below_power bound (n / 10))
  where
    go : (t : Bool) → ltb n 10 ≡ t → (m : ℕ) → (n / 10 ≤ bound → n / 10 < 10 ^ m) → n < 10 ^ cond t 1 (1 + m)
    go true e m f = let s = ltb-true n 10 e in omega arith
    go false e m f =
        let g = f (omega (arith, ltb-false n 10 e)) in
        rw (add_comm 1 m, add-one m, pow-succ' 10 m) (omega arith)

pub below_ten_to_size : (n : ℕ) → n < 10 ^ size n
below_ten_to_size n = below_power n n (omega arith)

-- a number up to n has no more digits than n
pub no_more_digits : (m n : ℕ) → m ≤ n → length (decimal m) ≤ size n
no_more_digits m n h =
    let k : size n - 1 + 1 ≡ size n = omega (arith, some_digit n) in
    let p : 10 ^ (size n - 1 + 1) ≡ 10 ^ size n = ap (λ (i : ℕ). 10 ^ i) k in
    let f = few_digits (size n - 1) m (omega (arith, below_ten_to_size n)) in
    omega (arith, length-decimal m)

-- the power of ten that n reaches, where n is below its tenfold, tells how many digits n has
size_by_power : (k n : ℕ) → 10 ^ k ≤ n → n < 10 * 10 ^ k → size n ≡ k + 1
size_by_power k n h g =
    let p : 10 ^ (k + 1) ≡ 10 * 10 ^ k = ap (λ (m : ℕ). 10 ^ m) (add-one k) ∙ pow-succ' 10 k in
    omega (arith, few_digits k n (omega (arith, g, p)), go (ltb k (size n)) refl)
  where
    go : (t : Bool) → ltb k (size n) ≡ t → k < size n
    go true e = ltb-true k (size n) e
    go false e = let m = pow-le-pow_right {n = 10} (omega arith) (ltb-false k (size n) e) in absurd (omega (arith, m, h, below_ten_to_size n))

-- 0 has as many as 1
pub size_by_log : (k n : ℕ) → 10 ^ k ≤ max n 1 → max n 1 < 10 * 10 ^ k → size n ≡ k + 1
unfolding size_within
size_by_log k zero h g = size_by_power k 1 h g
size_by_log k (suc n) h g =
    let e : max (suc n) 1 ≡ suc n = omega arith in
    size_by_power k (suc n) (rw e at h) (rw e at g)

-- the digit that is stored before those that stand is the last one of the rest
pub digit_stored : (i rest : ℕ) (place : List ℕ) → i < length place
    → digits i (rest / 10) ++ drop i (set place i (48 + rest % 10)) ≡ digits (i + 1) rest ++ drop (i + 1) place
unfolding digits
digit_stored i rest place h =
    rw (drop-set place i (48 + rest % 10) h) (sym (append_assoc (digits i (rest / 10)) ((48 + rest % 10) ∷ []) (drop (i + 1) place)))
    ∙ ap (λ (m : ℕ). digits m rest ++ drop (i + 1) place) (sym (add-one i))
