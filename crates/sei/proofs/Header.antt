-- The header: its four fields are its sixteen bits, and 30 is given exactly for the units that 02 refuses with it.
use Prim.Native.Nat.{ℕ, zero, suc, ◌+◌, ◌*◌, ◌/◌, ◌%◌, ◌^◌, ◌<◌, ◌≤◌}
use mathlib.Core.Path.{◌≡◌, refl, ap, sym, ◌∙◌}
use mathlib.Core.List.{List, [], ◌∷◌, ◌++◌, append_assoc, append-nil}
use mathlib.Core.Bool.{Bool, true, false, not, ◌&&◌, ◌||◌, or-true, false≢true}
use mathlib.Core.Logic.{◌⊎◌, inl, inr}
use native.Mathlib.Omega.{arith}
use native.Mathlib.Nat.{mul_assoc, pow-suc}
use borrow.Author.Tests.{eq-eqb, ne_eqb, eqb-true, eqb-false, leb-true, leb-false, le-leb, not-true, not-false}
use lib.Dec.{eqb, leb}
use lib.ListN.{length}
use Rattle.tree.specs.Bits.{odd, code, bits_of, Bytes}
use Rattle.tree.proofs.Truth.{and_parts}
use Rattle.emulation.proofs.Laws.{or_false}
use Rattle.sei.specs.Header.{forbidden_zero_bit, nal_unit_type, nuh_layer_id, nuh_temporal_id_plus1, prefix_type, suffix_type, most_unit_bytes, allowed_header, begins_allowed, admitted, WrongUnit, too_short, too_long, first_bit_set, temporal_id_zero, another_type, AllowedHeader}

-- ---- the fields are the bits

-- a number of two parts has the code of the first and then that of the second
code_parts : (n m k h l v : ℕ) → k ≡ n + m → v ≡ h * 2 ^ m + l → l < 2 ^ m → code k v ≡ code n h ++ code m l
unfolding code
code_parts n zero k h l v a b c =
    let x : k ≡ n = omega (arith, a) in
    let y : v ≡ h = omega (arith, b, c) in
    rw (x, y) (sym (append-nil (code n h)))
code_parts n (suc m) zero h l v a b c = absurd (omega (arith, a))
code_parts n (suc m) (suc k) h l v a b c =
    let p : 2 ^ suc m ≡ 2 ^ m * 2 = pow-suc 2 m in
    let q : h * 2 ^ suc m ≡ h * 2 ^ m * 2 = ap (λ (x : ℕ). h * x) p ∙ sym (mul_assoc h (2 ^ m) 2) in
    let half : v / 2 ≡ h * 2 ^ m + l / 2 = omega (arith, b, q) in
    let last : v % 2 ≡ l % 2 = omega (arith, b, q) in
    rw (code_parts n m k h (l / 2) (v / 2) (omega (arith, a)) half (omega (arith, c, p)), last) (append_assoc (code n h) (code m (l / 2)) (odd l ∷ []))

-- forbidden_zero_bit f(1), nal_unit_type u(6), nuh_layer_id u(6) and nuh_temporal_id_plus1 u(3) are the bits of the two bytes
pub header_bits : (first second : ℕ) → first < 256 → second < 256
    → bits_of (first ∷ second ∷ []) ≡ code 1 (forbidden_zero_bit first) ++ (code 6 (nal_unit_type first) ++ (code 6 (nuh_layer_id first second) ++ code 3 (nuh_temporal_id_plus1 second)))
unfolding bits_of
header_bits a b h k =
    let one : code 8 a ≡ code 1 (a / 128) ++ code 7 (a % 128) = code_parts 1 7 8 (a / 128) (a % 128) a refl (omega arith) (omega arith) in
    let two : code 7 (a % 128) ≡ code 6 (a / 2 % 64) ++ code 1 (a % 2) = code_parts 6 1 7 (a / 2 % 64) (a % 2) (a % 128) refl (omega arith) (omega arith) in
    let three : code 8 b ≡ code 5 (b / 8) ++ code 3 (b % 8) = code_parts 5 3 8 (b / 8) (b % 8) b refl (omega arith) (omega arith) in
    let layer : code 6 (a % 2 * 32 + b / 8) ≡ code 1 (a % 2) ++ code 5 (b / 8) = code_parts 1 5 6 (a % 2) (b / 8) (a % 2 * 32 + b / 8) refl (omega arith) (omega arith) in
    ap (λ (l : List Bool). l ++ bits_of (b ∷ [])) (one ∙ ap (λ (l : List Bool). code 1 (a / 128) ++ l) two)
    ∙ joined (code 1 (a / 128)) (code 6 (a / 2 % 64)) (code 1 (a % 2)) (bits_of (b ∷ []))
    ∙ ap (λ (l : List Bool). code 1 (a / 128) ++ (code 6 (a / 2 % 64) ++ (code 1 (a % 2) ++ l))) (append-nil (code 8 b) ∙ three)
    ∙ ap (λ (l : List Bool). code 1 (a / 128) ++ (code 6 (a / 2 % 64) ++ l)) (sym (append_assoc (code 1 (a % 2)) (code 5 (b / 8)) (code 3 (b % 8))) ∙ ap (λ (l : List Bool). l ++ code 3 (b % 8)) (sym layer))
  where
    joined : (w x y z : List Bool) → (w ++ (x ++ y)) ++ z ≡ w ++ (x ++ (y ++ z))
    joined w x y z = append_assoc w (x ++ y) z ∙ ap (λ (l : List Bool). w ++ l) (append_assoc x y z)

-- ---- 30

-- one of two tests does not hold, and one of two holds
and_false : (a b : Bool) → (a && b) ≡ false → (a ≡ false) ⊎ (b ≡ false)
and_false true b e = inr e
and_false false b e = inl refl

or_parts : (a b : Bool) → (a || b) ≡ true → (a ≡ true) ⊎ (b ≡ true)
or_parts true b e = inl refl
or_parts false b e = inr e

pub header_allowed : (a b : ℕ) → allowed_header a b ≡ true → AllowedHeader a b
header_allowed a b e =
    let x = and_parts (eqb (forbidden_zero_bit a) 0) ((eqb (nal_unit_type a) prefix_type || eqb (nal_unit_type a) suffix_type) && not (eqb (nuh_temporal_id_plus1 b) 0)) e in
    let y = and_parts (eqb (nal_unit_type a) prefix_type || eqb (nal_unit_type a) suffix_type) (not (eqb (nuh_temporal_id_plus1 b) 0)) x.1 in
    record {
      zero_bit = eqb-true (forbidden_zero_bit a) 0 x.0;
      type = go (or_parts (eqb (nal_unit_type a) prefix_type) (eqb (nal_unit_type a) suffix_type) y.0);
      temporal = eqb-false (nuh_temporal_id_plus1 b) 0 (not-true (eqb (nuh_temporal_id_plus1 b) 0) y.1);
    }
  where
    go : (eqb (nal_unit_type a) prefix_type ≡ true) ⊎ (eqb (nal_unit_type a) suffix_type ≡ true) → (nal_unit_type a ≡ prefix_type) ⊎ (nal_unit_type a ≡ suffix_type)
    go (inl q) = inl (eqb-true (nal_unit_type a) prefix_type q)
    go (inr q) = inr (eqb-true (nal_unit_type a) suffix_type q)

pub allowed_header_lem : (a b : ℕ) → AllowedHeader a b → allowed_header a b ≡ true
allowed_header_lem a b h = rw (eq-eqb (forbidden_zero_bit a) 0 h.zero_bit, go h.type, ne_eqb (nuh_temporal_id_plus1 b) 0 h.temporal) refl
  where
    go : (nal_unit_type a ≡ prefix_type) ⊎ (nal_unit_type a ≡ suffix_type) → (eqb (nal_unit_type a) prefix_type || eqb (nal_unit_type a) suffix_type) ≡ true
    go (inl q) = rw (eq-eqb (nal_unit_type a) prefix_type q) refl
    go (inr q) = rw (eq-eqb (nal_unit_type a) suffix_type q) (or-true (eqb (nal_unit_type a) prefix_type))

-- a unit that is not admitted is one that 02 refuses with 30
pub not_admitted_is_wrong : (u : List ℕ) → Bytes u → admitted u ≡ false → WrongUnit u
not_admitted_is_wrong u h e = go (and_false (leb (length u) most_unit_bytes) (begins_allowed u) e)
  where
    by_header : (first second : ℕ) (s : List ℕ) → u ≡ first ∷ second ∷ s → first < 256 → allowed_header first second ≡ false → WrongUnit u
    by_header a b s p l q = first (and_false (eqb (forbidden_zero_bit a) 0) ((eqb (nal_unit_type a) prefix_type || eqb (nal_unit_type a) suffix_type) && not (eqb (nuh_temporal_id_plus1 b) 0)) q)
      where
        then : ((eqb (nal_unit_type a) prefix_type || eqb (nal_unit_type a) suffix_type) ≡ false) ⊎ (not (eqb (nuh_temporal_id_plus1 b) 0) ≡ false) → WrongUnit u
        then (inl x) = let y = or_false (eqb (nal_unit_type a) prefix_type) (eqb (nal_unit_type a) suffix_type) x in another_type a b s p (eqb-false (nal_unit_type a) prefix_type y.0) (eqb-false (nal_unit_type a) suffix_type y.1)
        then (inr x) = temporal_id_zero a b s p (eqb-true (nuh_temporal_id_plus1 b) 0 (not-false (eqb (nuh_temporal_id_plus1 b) 0) x))

        first : (eqb (forbidden_zero_bit a) 0 ≡ false) ⊎ (((eqb (nal_unit_type a) prefix_type || eqb (nal_unit_type a) suffix_type) && not (eqb (nuh_temporal_id_plus1 b) 0)) ≡ false) → WrongUnit u
        first (inl x) = first_bit_set a b s p (omega (arith, eqb-false (forbidden_zero_bit a) 0 x, l))
        first (inr x) = then (and_false (eqb (nal_unit_type a) prefix_type || eqb (nal_unit_type a) suffix_type) (not (eqb (nuh_temporal_id_plus1 b) 0)) x)

    by_bytes : (v : List ℕ) → Bytes v → u ≡ v → begins_allowed v ≡ false → WrongUnit u
    by_bytes [] k p q = too_short (omega (arith, ap length p))
    by_bytes (a ∷ []) k p q = too_short (omega (arith, ap length p))
    by_bytes (a ∷ b ∷ s) k p q = by_header a b s p k.0 q

    go : (leb (length u) most_unit_bytes ≡ false) ⊎ (begins_allowed u ≡ false) → WrongUnit u
    go (inl q) = too_long (leb-false (length u) most_unit_bytes q)
    go (inr q) = by_bytes u h refl q

-- an admitted unit: not too long, two bytes of a header as 02 allows, and what stands behind them
pub record Admitted (u : List ℕ) : Type 0 where
  pub first : ℕ
  pub second : ℕ
  pub body : List ℕ
  pub all : u ≡ first ∷ second ∷ body
  pub few : length u ≤ most_unit_bytes
  pub header : AllowedHeader first second

pub admitted_is : (u : List ℕ) → admitted u ≡ true → Admitted u
admitted_is u e = let p = and_parts (leb (length u) most_unit_bytes) (begins_allowed u) e in go u refl (leb-true (length u) most_unit_bytes p.0) p.1
  where
    go : (v : List ℕ) → u ≡ v → length u ≤ most_unit_bytes → begins_allowed v ≡ true → Admitted u
    go [] p l q = absurd (false≢true q)
    go (a ∷ []) p l q = absurd (false≢true q)
    go (a ∷ b ∷ s) p l q = record { first = a; second = b; body = s; all = p; few = l; header = header_allowed a b q }

pub is_admitted_lem : (first second : ℕ) (body : List ℕ) → AllowedHeader first second → length (first ∷ second ∷ body) ≤ most_unit_bytes → admitted (first ∷ second ∷ body) ≡ true
is_admitted_lem a b s h l = rw (le-leb (length (a ∷ b ∷ s)) most_unit_bytes l, allowed_header_lem a b h) refl

-- and each that it refuses so is not admitted
same_first : {a b c d : ℕ} {s t : List ℕ} → a ∷ b ∷ s ≡ c ∷ d ∷ t → (a ≡ c) × (b ≡ d)
same_first {a} {b} {c} {d} e = let x : a ≡ c = cc in let y : b ≡ d = cc in (x, y)

pub wrong_is_not_admitted : (u : List ℕ) → WrongUnit u → admitted u ≡ false
wrong_is_not_admitted u w = go (admitted u) refl
  where
    clash_with : Admitted u → WrongUnit u → ⊥
    clash_with d (too_short l) = omega (arith, l, ap length d.all)
    clash_with d (too_long l) = omega (arith, l, d.few)
    clash_with d (first_bit_set a b s p f) = let k = same_first (sym p ∙ d.all) in omega (arith, f, k.0, d.header.zero_bit)
    clash_with d (temporal_id_zero a b s p f) = let k = same_first (sym p ∙ d.all) in d.header.temporal (ap nuh_temporal_id_plus1 (sym k.1) ∙ f)
    clash_with d (another_type a b s p f g) = let k = same_first (sym p ∙ d.all) in type_is (ap nal_unit_type k.0) d.header.type
      where
        type_is : nal_unit_type a ≡ nal_unit_type d.first → (nal_unit_type d.first ≡ prefix_type) ⊎ (nal_unit_type d.first ≡ suffix_type) → ⊥
        type_is x (inl y) = f (x ∙ y)
        type_is x (inr y) = g (x ∙ y)

    go : (t : Bool) → admitted u ≡ t → admitted u ≡ false
    go false q = q
    go true q = absurd (clash_with (admitted_is u q) w)
