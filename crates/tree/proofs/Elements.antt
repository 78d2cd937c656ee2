-- Each element's reader takes exactly the codes of the numbers that its descriptor holds: u(n), i(n), ue(v).
use Prim.Native.Nat.{ℕ, zero, suc, ◌+◌, ◌-◌, ◌*◌, ◌/◌, ◌^◌, ◌<◌, ◌≤◌}
use mathlib.Core.Path.{◌≡◌, refl, ap, sym, ◌∙◌}
use mathlib.Core.List.{List, [], ◌∷◌, ◌++◌, append_assoc}
use mathlib.Core.Bool.{Bool, true, false}
use native.Mathlib.Omega.{arith}
use native.Mathlib.Nat.{pow-succ', add-zero}
use mathlib.Core.Logic.{◌⊎◌, inl, inr}
use borrow.Author.Tests.{lt-ltb, le-ltb, ltb-true, ltb-false, le-leb, lt-leb, leb-true}
use lib.Dec.{leb, ltb}
use lib.IntN.{ℤ, pos, negsuc, ◌-ℤ◌}
use lib.Pow.{pow_mono, pow_pos}
use lib.ListN.{length, take, drop, replicate, length-append, length-replicate, length-take, take-append-drop}
use lib.Seq.{take_at}
use Rattle.tree.specs.Bits.{code, value}
use Rattle.tree.specs.Reading.{Out, ok, no, mapped, cut_off, u, i, ue, zeros_then_one, signed_of}
use Rattle.tree.specs.Coding.{Coding, unsigned, signed, width_of, holds, complement, field_code, fields_code, hold_all, total_width, Descriptor, variable, fixed, holds_in, coded, code_in, width_in, natural, most_zeros}
use Rattle.tree.specs.Codes.{Codes, halvings, zeros_of, ue_code}
use Rattle.tree.proofs.Truth.{and_parts}
use Rattle.tree.proofs.Bits.{length-code, value-code, code-value, value-take_lt}
use Rattle.tree.proofs.Codes.{no_not_ok, codes_iff, codes_same, codes_map, codes_then}

-- u(n), where there are n bits, and where there are not
pub u_ok : {N : Type 0} (name : N) (n at : ℕ) (l : List Bool) → n ≤ length l → u name n at l ≡ ok (value (take n l)) n
unfolding u
u_ok name n at l h = simp (le-leb n (length l) h)

pub u_short : {N : Type 0} (name : N) (n at : ℕ) (l : List Bool) → length l < n → u name n at l ≡ no (cut_off at name)
unfolding u
u_short name n at l h = simp (lt-leb n (length l) h)

pub u_took : {N : Type 0} (name : N) (n at : ℕ) (l : List Bool) (v m : ℕ) → u name n at l ≡ ok v m → (m ≡ n) × (v < 2 ^ n) × (n ≤ length l)
unfolding u
u_took {N} name n at l v m e = go (leb n (length l)) refl
  where
    go : (b : Bool) → leb n (length l) ≡ b → (m ≡ n) × (v < 2 ^ n) × (n ≤ length l)
    go true q =
        let f : ok (value (take n l)) n ≡ ok v m = rw q at e in
        let a : value (take n l) ≡ v = cc in
        let b : n ≡ m = cc in
        (omega arith, omega (arith, value-take_lt l n n (omega arith)), leb-true _ _ q)
    go false q = no_not_ok (rw q at e)

-- u(n), for every n: THE fact about u(n)
pub codes_u : {N : Type 0} (name : N) (n at : ℕ) → Codes (u name n at) (code n) (λ v. v < 2 ^ n)
codes_u name n at = record {
  takes = λ v h t.
      let l : n ≤ length (code n v ++ t) = omega (arith, length-append (code n v) t, length-code n v) in
      u_ok name n at (code n v ++ t) l ∙ rw (take_at (code n v) t n (length-code n v), value-code n v h, length-code n v);
  only = λ s v m e.
      let t = u_took name n at s v m e in
      let f : ok (value (take n s)) n ≡ ok v m = sym (u_ok name n at s t.2) ∙ e in
      let a : value (take n s) ≡ v = cc in
      let x : code n v ≡ take n s = ap (code n) (sym a) ∙ code-value n (take n s) (omega (arith, length-take n s, t.2)) in
      (t.1, rw (x, t.0) (sym (take-append-drop n s)), omega (arith, t.0, length-code n v));
}

-- a zero of a ue(v) code, where there may be one more
pub zero_more : {N : Type 0} (name : N) (most at k : ℕ) (t : List Bool) → k < most → zeros_then_one name most at k (false ∷ t) ≡ zeros_then_one name most at (k + 1) t
unfolding zeros_then_one
zero_more name most at k t h = rw (lt-ltb k most h)

-- the zeros of a ue(v) code and its one
abbrev pub zeros_one : ℕ → List Bool
zeros_one k = replicate k false ++ (true ∷ [])

pub length_zeros_one : (k : ℕ) → length (zeros_one k) ≡ k + 1
length_zeros_one k = omega (arith, length-append (replicate k false) (true ∷ []), length-replicate k false)

zeros_one_takes : {N : Type 0} (name : N) (at most k j : ℕ) → j + k ≤ most → (t : List Bool) → zeros_then_one name most at j (zeros_one k ++ t) ≡ ok (j + k) (j + k + 1)
unfolding zeros_then_one
zeros_one_takes name at most zero j h t = rw (add-zero j)
zeros_one_takes name at most (suc k) j h t =
    let e : j + 1 + k ≡ j + suc k = omega arith in
    zero_more name most at j (zeros_one k ++ t) (omega arith) ∙ (rw e at (zeros_one_takes name at most k (j + 1) (omega arith) t))

zeros_one_only : {N : Type 0} (name : N) (at most j : ℕ) (s : List Bool) (v n : ℕ) → j ≤ most → zeros_then_one name most at j s ≡ ok v n
    → (k : ℕ) × (v ≡ j + k) × (j + k ≤ most) × (s ≡ zeros_one k ++ drop (suc k) s) × (n ≡ j + k + 1)
unfolding zeros_then_one
zeros_one_only name at most j [] v n h e = no_not_ok e
zeros_one_only name at most j (true ∷ s) v n h e =
    let a : j ≡ v = cc in
    let b : j + 1 ≡ n = cc in
    (0, omega arith, omega arith, refl, omega arith)
zeros_one_only name at most j (false ∷ s) v n h e = go (zeros_one_only name at most (j + 1) s v n) (ltb j most) refl
  where
    go : (j + 1 ≤ most → zeros_then_one name most at (j + 1) s ≡ ok v n → (k : ℕ) × (v ≡ j + 1 + k) × (j + 1 + k ≤ most) × (s ≡ zeros_one k ++ drop (suc k) s) × (n ≡ j + 1 + k + 1))
        → (b : Bool) → ltb j most ≡ b → (k : ℕ) × (v ≡ j + k) × (j + k ≤ most) × (false ∷ s ≡ zeros_one k ++ drop (suc k) (false ∷ s)) × (n ≡ j + k + 1)
    go further true q =
        let l = ltb-true j most q in
        let r = further (omega arith) (rw q at e) in
        (suc r.0, omega (arith, r.1), omega (arith, r.2), ap (λ (l : List Bool). false ∷ l) r.3, omega (arith, r.4))
    go further false q = no_not_ok (rw q at e)

pub codes_zeros_one : {N : Type 0} (name : N) (at most : ℕ) → Codes (zeros_then_one name most at 0) zeros_one (λ k. k ≤ most)
codes_zeros_one name at most = record {
  takes = λ k h t.
      let e : 0 + k ≡ k = omega arith in
      let f : k + 1 ≡ length (zeros_one k) = sym (length_zeros_one k) in
      (rw e at (zeros_one_takes name at most k 0 (omega arith) t)) ∙ ap (ok k) f;
  only = λ s v n e.
      let r = zeros_one_only name at most 0 s v n (omega arith) e in
      let a : r.0 ≡ v = omega (arith, r.1) in
      let b : suc v ≡ n = omega (arith, r.4) in
      (omega (arith, r.2, r.1), rw (a, b) at r.3, omega (arith, r.4, r.1, length_zeros_one v));
}

-- the number of zeros: 2^k ≤ v + 1 < 2^(k+1), and only that k
halvings_law : (f x : ℕ) → 0 < x → x < 2 ^ suc f → (2 ^ halvings f x ≤ x) × (x < 2 * 2 ^ halvings f x)
unfolding halvings
halvings_law zero x p h = (omega arith, omega arith)
halvings_law (suc f) x p h = go (halvings_law f (x / 2)) (ltb x 2) refl
  where
    go : (0 < x / 2 → x / 2 < 2 ^ suc f → (2 ^ halvings f (x / 2) ≤ x / 2) × (x / 2 < 2 * 2 ^ halvings f (x / 2)))
        → (b : Bool) → ltb x 2 ≡ b → (2 ^ halvings (suc f) x ≤ x) × (x < 2 * 2 ^ halvings (suc f) x)
    go further true q = let l = ltb-true x 2 q in rw q (omega arith, omega arith)
    go further false q =
        let l = ltb-false x 2 q in
        let i = further (omega arith) (omega (arith, pow-succ' 2 (suc f))) in
        rw (q, pow-succ' 2 (halvings f (x / 2))) (omega (arith, i), omega (arith, i))

pub halvings_is : (f k x : ℕ) → k ≤ f → 2 ^ k ≤ x → x < 2 * 2 ^ k → halvings f x ≡ k
unfolding halvings
halvings_is zero k x h a b = omega arith
halvings_is (suc f) zero x h a b = rw (lt-ltb x 2 (omega arith))
halvings_is (suc f) (suc k) x h a b =
    let e = pow-succ' 2 k in
    let g : 2 ≤ x = omega (arith, e, pow_pos k) in
    rw (le-ltb x 2 g) (ap suc (halvings_is f k (x / 2) (omega arith) (omega (arith, e)) (omega (arith, e))))

below_power : (n : ℕ) → n < 2 ^ n
below_power zero = omega arith
below_power (suc n) = omega (arith, below_power n, pow-succ' 2 n)

pub zeros_law : (v : ℕ) → (2 ^ zeros_of v ≤ v + 1) × (v + 1 < 2 * 2 ^ zeros_of v)
zeros_law v = halvings_law v (v + 1) (omega arith) (omega (arith, below_power (suc v)))

pub zeros_is : (k v : ℕ) → 2 ^ k ≤ v + 1 → v + 1 < 2 * 2 ^ k → zeros_of v ≡ k
zeros_is k v a b = halvings_is v k (v + 1) (omega (arith, below_power k)) a b

pub zeros_few : (most v : ℕ) → v + 1 < 2 ^ suc most → zeros_of v ≤ most
zeros_few most v h = go (ltb most (zeros_of v)) refl
  where
    go : (b : Bool) → ltb most (zeros_of v) ≡ b → zeros_of v ≤ most
    go true q =
        let p : 2 ^ suc most ≤ 2 ^ zeros_of v = pow_mono (ltb-true most (zeros_of v) q) in
        absurd (omega (arith, zeros_law v, p))
    go false q = ltb-false most (zeros_of v) q

-- the bits behind the one
abbrev tail : ℕ → List Bool
tail v = code (zeros_of v) (v + 1 - 2 ^ zeros_of v)

codes_tail : {N : Type 0} (name : N) (at most k : ℕ) → k ≤ most → Codes (λ t. mapped (λ v. 2 ^ k - 1 + v) (u name k at t)) tail (λ v. (v + 1 < 2 ^ suc most) × (zeros_of v ≡ k))
codes_tail {N} name at most k hk =
    codes_same reader (λ v. code k (v + 1 - 2 ^ k)) tail (λ v. (v + 1 < 2 ^ suc most) × (zeros_of v ≡ k)) (λ v h. rw h.1)
    (codes_iff reader (λ v. code k (v + 1 - 2 ^ k)) (λ v. (v + 1 - 2 ^ k < 2 ^ k) × (2 ^ k - 1 + (v + 1 - 2 ^ k) ≡ v)) (λ v. (v + 1 < 2 ^ suc most) × (zeros_of v ≡ k)) to from
    (codes_map (u name k at) (code k) (λ v. v < 2 ^ k) (λ v. 2 ^ k - 1 + v) (λ v. v + 1 - 2 ^ k) (λ v h. omega (arith, pow_pos k)) (codes_u name k at)))
  where
    reader : List Bool → Out N ℕ
    reader t = mapped (λ v. 2 ^ k - 1 + v) (u name k at t)

    to : (v : ℕ) → (v + 1 - 2 ^ k < 2 ^ k) × (2 ^ k - 1 + (v + 1 - 2 ^ k) ≡ v) → (v + 1 < 2 ^ suc most) × (zeros_of v ≡ k)
    to v h =
        let p : 2 ^ suc k ≤ 2 ^ suc most = pow_mono (omega arith) in
        (omega (arith, h, p, pow-succ' 2 k, pow_pos k), zeros_is k v (omega (arith, h, pow_pos k)) (omega (arith, h, pow_pos k)))

    from : (v : ℕ) → (v + 1 < 2 ^ suc most) × (zeros_of v ≡ k) → (v + 1 - 2 ^ k < 2 ^ k) × (2 ^ k - 1 + (v + 1 - 2 ^ k) ≡ v)
    from v h =
        let l : (2 ^ k ≤ v + 1) × (v + 1 < 2 * 2 ^ k) = rw h.1 at (zeros_law v) in
        (omega (arith, l), omega (arith, l, pow_pos k))

-- ue(v) with at most so many zeros, for every such limit: every number from 0 to 2^(most+1) − 2 has one code
pub codes_ue : {N : Type 0} (name : N) (most at : ℕ) → Codes (ue name most at) ue_code (λ v. v + 1 < 2 ^ suc most)
unfolding ue ue_code
codes_ue name most at =
    codes_same (ue name most at) (λ v. zeros_one (zeros_of v) ++ tail v) ue_code (λ v. v + 1 < 2 ^ suc most) (λ v h. append_assoc (replicate (zeros_of v) false) (true ∷ []) (tail v))
    (codes_iff (ue name most at) (λ v. zeros_one (zeros_of v) ++ tail v) (λ v. (zeros_of v ≤ most) × (v + 1 < 2 ^ suc most)) (λ v. v + 1 < 2 ^ suc most)
    (λ v h. h.1) (λ v h. (zeros_few most v h, h))
    (codes_then at (zeros_then_one name most at 0) zeros_one (λ k. k ≤ most) (λ k past t. mapped (λ v. 2 ^ k - 1 + v) (u name k at t)) tail (λ v. v + 1 < 2 ^ suc most) zeros_of
    (codes_zeros_one name at most) (λ k h past. codes_tail name at most k h)))

pub length-ue : (v : ℕ) → length (ue_code v) ≡ 2 * zeros_of v + 1
unfolding ue_code
length-ue v =
    omega (arith, length-append (replicate (zeros_of v) false) (true ∷ tail v), length-replicate (zeros_of v) false, length-code (zeros_of v) (v + 1 - 2 ^ zeros_of v))

-- two's complement in n bits
pub twice_half : (n : ℕ) → 0 < n → 2 ^ n ≡ 2 * 2 ^ (n - 1)
twice_half zero h = absurd (omega arith)
twice_half (suc n) h = let e : suc n - 1 ≡ n = omega arith in rw (e, pow-succ' 2 n)

-- what is left of a power of two beside its half is no more than that half
pub other_half : (n : ℕ) → 2 ^ n - 2 ^ (n - 1) ≤ 2 ^ (n - 1)
other_half zero = omega arith
other_half (suc n) = omega (arith, twice_half (suc n) (omega arith))

pub sub_below : (v m : ℕ) → v < m → pos v -ℤ pos m ≡ negsuc (m - suc v)
sub_below v zero h = absurd (omega arith)
sub_below v (suc m) h = rw (lt-ltb v (suc m) h)

pub signed_low : (n v : ℕ) → v < 2 ^ (n - 1) → signed_of n v ≡ pos v
signed_low n v h = rw (lt-ltb v (2 ^ (n - 1)) h)

pub signed_high : (n v : ℕ) → 2 ^ (n - 1) ≤ v → v < 2 ^ n → signed_of n v ≡ negsuc (2 ^ n - suc v)
signed_high n v h k = rw (le-ltb v (2 ^ (n - 1)) h) (sub_below v (2 ^ n) k)

complement_signed : (n v : ℕ) → v < 2 ^ n → complement n (signed_of n v) ≡ v
complement_signed n v h = go (ltb v (2 ^ (n - 1))) refl
  where
    go : (b : Bool) → ltb v (2 ^ (n - 1)) ≡ b → complement n (signed_of n v) ≡ v
    go true q = rw (signed_low n v (ltb-true _ _ q))
    go false q = rw (signed_high n v (ltb-false _ _ q) h) (omega arith)

-- half of 2^n, for every n: i(0) holds 0 alone
half_of : (n : ℕ) → (2 ^ n ≡ 2 * 2 ^ (n - 1)) ⊎ (2 ^ n ≡ 1) × (2 ^ (n - 1) ≡ 1)
half_of zero = inr (refl, refl)
half_of (suc n) = inl (twice_half (suc n) (omega arith))

pub signed_complement : (n : ℕ) (z : ℤ) → holds (signed n) z ≡ true → (complement n z < 2 ^ n) × (signed_of n (complement n z) ≡ z)
signed_complement n (pos v) h = go (half_of n)
  where
    go : (2 ^ n ≡ 2 * 2 ^ (n - 1)) ⊎ (2 ^ n ≡ 1) × (2 ^ (n - 1) ≡ 1) → (v < 2 ^ n) × (signed_of n v ≡ pos v)
    go (inl e) = let l = ltb-true v (2 ^ (n - 1)) h in (omega (arith, e), signed_low n v l)
    go (inr e) = let l = ltb-true v (2 ^ (n - 1)) h in (omega (arith, e), signed_low n v l)
signed_complement n (negsuc v) h = go (half_of n)
  where
    go : (2 ^ n ≡ 2 * 2 ^ (n - 1)) ⊎ (2 ^ n ≡ 1) × (2 ^ (n - 1) ≡ 1) → (2 ^ n - suc v < 2 ^ n) × (signed_of n (2 ^ n - suc v) ≡ negsuc v)
    go (inl t) =
        let l = ltb-true v (2 ^ n - 2 ^ (n - 1)) h in
        let e : 2 ^ n - suc (2 ^ n - suc v) ≡ v = omega (arith, t) in
        (omega (arith, t), signed_high n (2 ^ n - suc v) (omega (arith, t)) (omega (arith, t)) ∙ ap negsuc e)
    go (inr t) = let l = ltb-true v (2 ^ n - 2 ^ (n - 1)) h in absurd (omega (arith, t))

signed_holds : (n : ℕ) (z : ℤ) → (complement n z < 2 ^ n) × (signed_of n (complement n z) ≡ z) → holds (signed n) z ≡ true
signed_holds n (pos v) h = go (ltb v (2 ^ (n - 1))) refl
  where
    go : (b : Bool) → ltb v (2 ^ (n - 1)) ≡ b → ltb v (2 ^ (n - 1)) ≡ true
    go true q = q
    go false q =
        let e : negsuc (2 ^ n - suc v) ≡ pos v = sym (signed_high n v (ltb-false _ _ q) h.0) ∙ h.1 in
        let z : ◌≡◌ {A = ℕ} 0 1 = cc in absurd (omega arith)
signed_holds n (negsuc v) h = go (ltb v (2 ^ n - 2 ^ (n - 1))) refl
  where
    go : (b : Bool) → ltb v (2 ^ n - 2 ^ (n - 1)) ≡ b → ltb v (2 ^ n - 2 ^ (n - 1)) ≡ true
    go true q = q
    go false q =
        let l = ltb-false v (2 ^ n - 2 ^ (n - 1)) q in
        let m : 2 ^ n - suc v < 2 ^ (n - 1) = omega (arith, pow_pos (n - 1)) in
        let e : pos (2 ^ n - suc v) ≡ negsuc v = sym (signed_low n (2 ^ n - suc v) m) ∙ h.1 in
        let z : ◌≡◌ {A = ℕ} 0 1 = cc in absurd (omega arith)

-- ue(v) holds the numbers below 2^(most_zeros+1) − 1
pub ue-holds : (v : ℕ) → v + 1 < 2 ^ suc most_zeros → holds_in variable (pos v) ≡ true
ue-holds v h = lt-ltb (v + 1) (2 ^ suc most_zeros) h

-- every descriptor: its reader takes exactly the codes of the numbers that it holds
pub codes_coded : {N : Type 0} (d : Descriptor) (name : N) (at : ℕ) → Codes (coded d name at) (code_in d) (λ z. holds_in d z ≡ true)
unfolding i
codes_coded variable name at =
    codes_iff (coded variable name at) (code_in variable) (λ z. (natural z + 1 < 2 ^ suc most_zeros) × (pos (natural z) ≡ z)) (λ z. holds_in variable z ≡ true)
    to from (codes_map (ue name most_zeros at) ue_code (λ v. v + 1 < 2 ^ suc most_zeros) pos natural (λ v h. refl) (codes_ue name most_zeros at))
  where
    to : (z : ℤ) → (natural z + 1 < 2 ^ suc most_zeros) × (pos (natural z) ≡ z) → holds_in variable z ≡ true
    to (pos v) h = ue-holds v h.0
    to (negsuc v) h = let e = h.1 in let z : ◌≡◌ {A = ℕ} 0 1 = cc in absurd (omega arith)

    from : (z : ℤ) → holds_in variable z ≡ true → (natural z + 1 < 2 ^ suc most_zeros) × (pos (natural z) ≡ z)
    from (pos v) h = (ltb-true (v + 1) (2 ^ suc most_zeros) h, refl)
    from (negsuc v) h = let z : ◌≡◌ {A = ℕ} 0 1 = cc in absurd (omega arith)
codes_coded (fixed (unsigned n)) name at =
    codes_iff (coded (fixed (unsigned n)) name at) (code_in (fixed (unsigned n))) (λ z. (complement n z < 2 ^ n) × (pos (complement n z) ≡ z)) (λ z. holds (unsigned n) z ≡ true)
    to from (codes_map (u name n at) (code n) (λ v. v < 2 ^ n) pos (complement n) (λ v h. refl) (codes_u name n at))
  where
    to : (z : ℤ) → (complement n z < 2 ^ n) × (pos (complement n z) ≡ z) → holds (unsigned n) z ≡ true
    to (pos v) h = lt-ltb v (2 ^ n) h.0
    to (negsuc v) h = let e = h.1 in let z : ◌≡◌ {A = ℕ} 0 1 = cc in absurd (omega arith)

    from : (z : ℤ) → holds (unsigned n) z ≡ true → (complement n z < 2 ^ n) × (pos (complement n z) ≡ z)
    from (pos v) h = (ltb-true v (2 ^ n) h, refl)
    from (negsuc v) h = let z : ◌≡◌ {A = ℕ} 0 1 = cc in absurd (omega arith)
codes_coded (fixed (signed n)) name at =
    codes_iff (i name n at) (code_in (fixed (signed n))) (λ z. (complement n z < 2 ^ n) × (signed_of n (complement n z) ≡ z)) (λ z. holds (signed n) z ≡ true)
    (signed_holds n) (signed_complement n)
    (codes_map (u name n at) (code n) (λ v. v < 2 ^ n) (signed_of n) (complement n) (complement_signed n) (codes_u name n at))

-- the bits of a number are as many as its width says
pub length-code_in : (d : Descriptor) (z : ℤ) → length (code_in d z) ≡ width_in d z
length-code_in variable z = length-ue (natural z)
length-code_in (fixed c) z = length-code (width_of c) (complement (width_of c) z)

-- and those of a row of fields as many as its total
pub length_fields : (cs : List Coding) (zs : List ℤ) → hold_all cs zs ≡ true → length (fields_code cs zs) ≡ total_width cs
unfolding fields_code hold_all total_width
length_fields [] zs h = refl
length_fields (c ∷ cs) [] h = let z : ◌≡◌ {A = ℕ} 0 1 = cc in absurd (omega arith)
length_fields (c ∷ cs) (z ∷ zs) h =
    omega (arith, length-append (field_code c z) (fields_code cs zs), length-code (width_of c) (complement (width_of c) z), length_fields cs zs (and_parts (holds c z) (hold_all cs zs) h).1)
