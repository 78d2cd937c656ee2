-- Laws of bits: the code of a number in n bits, for every n; the bits of a byte list; packing.
use Prim.Native.Nat.{ℕ, zero, suc, ◌+◌, ◌-◌, ◌*◌, ◌/◌, ◌%◌, ◌^◌, ◌<◌, ◌≤◌}
use mathlib.Core.Path.{◌≡◌, refl, ap, sym, ◌∙◌}
use mathlib.Core.List.{List, [], ◌∷◌, ◌++◌, append_assoc}
use mathlib.Core.Bool.{Bool, true, false}
use native.Mathlib.Omega.{arith}
use native.Mathlib.Numerals.{add-one}
use native.Mathlib.Nat.{div-one, pow-succ', mul-le-mul_right, mul_assoc, lt_of_lt_of_le}
use lib.ListN.{length, get_or, take, drop, replicate, length-append, length-take, length-drop, get_or-append, take-append-drop}
use lib.Dec.{eqb, ltb}
use lib.Pow.{pow_mono, shr-shr}
use lib.Seq.{get_or-append-add, take-suc, take_all, take_at, drop_at}
use borrow.Author.Tests.{ltb-true, ltb-false}
use Rattle.tree.specs.Bits.{odd, code, bits_of, bit, value_from, value, packed, pack, Bytes}

pub bit-odd : (v : ℕ) → bit (odd v) ≡ v % 2
bit-odd v = go (v % 2) (omega arith)
  where
    go : (r : ℕ) → r < 2 → bit (eqb r 1) ≡ r
    go zero h = refl
    go (suc zero) h = refl
    go (suc (suc r)) h = absurd (omega arith)

pub bit_lt : (b : Bool) → bit b < 2
bit_lt true = omega arith
bit_lt false = omega arith

pub odd-bit : (v : ℕ) (b : Bool) → odd (v * 2 + bit b) ≡ b
odd-bit v true = let h : (v * 2 + 1) % 2 ≡ 1 = omega arith in rw h
odd-bit v false = let h : (v * 2 + 0) % 2 ≡ 0 = omega arith in rw h

-- the code of a number in n bits has n bits
pub length-code : (n v : ℕ) → length (code n v) ≡ n
unfolding code
length-code zero v = refl
length-code (suc n) v = omega (arith, length-append (code n (v / 2)) (odd v ∷ []), length-code n (v / 2))

-- its bit k, from the left
pub code_at : (n v k : ℕ) → k < n → get_or (code n v) k false ≡ odd (v / 2 ^ (n - 1 - k))
unfolding code
code_at zero v k h = absurd (omega arith)
code_at (suc n) v k h = go (code_at n (v / 2) k) (ltb k n) refl
  where
    go : (k < n → get_or (code n (v / 2)) k false ≡ odd (v / 2 / 2 ^ (n - 1 - k))) → (b : Bool) → ltb k n ≡ b
        → get_or (code n (v / 2) ++ (odd v ∷ [])) k false ≡ odd (v / 2 ^ (suc n - 1 - k))
    go earlier true q =
        let l = ltb-true k n q in
        let e : 1 + (n - 1 - k) ≡ suc n - 1 - k = omega arith in
        get_or-append (code n (v / 2)) (odd v ∷ []) false k (omega (arith, length-code n (v / 2)))
        ∙ earlier l ∙ ap odd (shr-shr v 1 (n - 1 - k) ∙ ap (λ (j : ℕ). v / 2 ^ j) e)
    go earlier false q =
        let l = ltb-false k n q in
        let e : k ≡ length (code n (v / 2)) + 0 = omega (arith, length-code n (v / 2)) in
        let z : suc n - 1 - k ≡ 0 = omega arith in
        ap (λ (j : ℕ). get_or (code n (v / 2) ++ (odd v ∷ [])) j false) e
        ∙ get_or-append-add (code n (v / 2)) (odd v ∷ []) 0 false ∙ sym (ap odd (ap (λ (j : ℕ). v / 2 ^ j) z ∙ div-one v))

-- the number of bits with one bit more
pub value_snoc : (v : ℕ) (bits : List Bool) (b : Bool) → value_from v (bits ++ (b ∷ [])) ≡ value_from v bits * 2 + bit b
unfolding value_from
value_snoc v [] b = refl
value_snoc v (a ∷ bits) b = value_snoc (v * 2 + bit a) bits b

pub value_more : (l : List Bool) (k : ℕ) → k < length l → value (take (k + 1) l) ≡ value (take k l) * 2 + bit (get_or l k false)
value_more l k h = rw (add-one k, take-suc l k false h) (value_snoc 0 (take k l) (get_or l k false))

value_from_lt : (v : ℕ) (bits : List Bool) → value_from v bits < suc v * 2 ^ length bits
unfolding value_from
value_from_lt v [] = omega arith
value_from_lt v (b ∷ bits) =
    let w : suc (v * 2 + bit b) ≤ suc v * 2 = omega (arith, bit_lt b) in
    let h : suc (v * 2 + bit b) * 2 ^ length bits ≤ suc v * 2 * 2 ^ length bits = mul-le-mul_right (2 ^ length bits) w in
    rw (pow-succ' 2 (length bits), ← mul_assoc (suc v) 2 (2 ^ length bits)) (lt_of_lt_of_le (value_from_lt (v * 2 + bit b) bits) h)

-- n bits make a number below 2 ^ n
pub value_lt : (bits : List Bool) → value bits < 2 ^ length bits
value_lt bits = omega (arith, value_from_lt 0 bits)

pub value-take_lt : (l : List Bool) (k n : ℕ) → k ≤ n → value (take k l) < 2 ^ n
value-take_lt l k n h =
    let m : length (take k l) ≤ n = omega (arith, length-take k l) in
    lt_of_lt_of_le (value_lt (take k l)) (pow_mono m)

-- a number's code in n bits is that number, if n bits hold it
pub value-code : (n v : ℕ) → v < 2 ^ n → value (code n v) ≡ v
unfolding code value_from
value-code zero v h = omega arith
value-code (suc n) v h =
    let e : value (code n (v / 2)) ≡ v / 2 = value-code n (v / 2) (omega (arith, pow-succ' 2 n)) in
    value_snoc 0 (code n (v / 2)) (odd v) ∙ omega (arith, e, bit-odd v)

-- n bits are the code of their number
pub code-value : (n : ℕ) (bits : List Bool) → length bits ≡ n → code n (value bits) ≡ bits
unfolding code
code-value zero [] h = refl
code-value zero (b ∷ bits) h = absurd (omega arith)
code-value (suc n) bits h =
    let s : take n bits ++ (get_or bits n false ∷ []) ≡ bits = sym (take-suc bits n false (omega arith)) ∙ take_all (suc n) bits (omega arith) in
    let v : value bits ≡ value (take n bits) * 2 + bit (get_or bits n false) = ap value (sym s) ∙ value_snoc 0 (take n bits) (get_or bits n false) in
    let d : value bits / 2 ≡ value (take n bits) = omega (arith, v, bit_lt (get_or bits n false)) in
    let o : odd (value bits) ≡ get_or bits n false = ap odd v ∙ odd-bit (value (take n bits)) (get_or bits n false) in
    rw (d, o, code-value n (take n bits) (omega (arith, length-take n bits))) s

-- n zero bits are the code of 0
pub code-zero : (n : ℕ) → code n 0 ≡ replicate n false
unfolding code
code-zero zero = refl
code-zero (suc n) = ap (λ (l : List Bool). l ++ (false ∷ [])) (code-zero n) ∙ turn n
  where
    turn : (n : ℕ) → replicate n false ++ (false ∷ []) ≡ false ∷ replicate n false
    turn zero = refl
    turn (suc n) = ap (λ (l : List Bool). false ∷ l) (turn n)

-- the bits of a byte list: 8 for each byte
pub length_bits : (s : List ℕ) → length (bits_of s) ≡ 8 * length s
unfolding bits_of
length_bits [] = refl
length_bits (b ∷ s) = omega (arith, length-append (code 8 b) (bits_of s), length-code 8 b, length_bits s)

pub length_rest : (s : List ℕ) (at : ℕ) → length (drop at (bits_of s)) ≡ 8 * length s - at
length_rest s at = rw (length-drop at (bits_of s), length_bits s)

bits_at : (s : List ℕ) (q k : ℕ) → q < length s → k < 8 → get_or (bits_of s) (8 * q + k) false ≡ odd (get_or s q 0 / 2 ^ (7 - k))
unfolding bits_of
bits_at [] q k hq hk = absurd (omega arith)
bits_at (b ∷ s) zero k hq hk =
    let e : 8 * 0 + k ≡ k = omega arith in
    ap (λ (j : ℕ). get_or (code 8 b ++ bits_of s) j false) e
    ∙ get_or-append (code 8 b) (bits_of s) false k (omega (arith, length-code 8 b)) ∙ code_at 8 b k hk
bits_at (b ∷ s) (suc q) k hq hk =
    let e : 8 * suc q + k ≡ length (code 8 b) + (8 * q + k) = omega (arith, length-code 8 b) in
    ap (λ (j : ℕ). get_or (code 8 b ++ bits_of s) j false) e
    ∙ get_or-append-add (code 8 b) (bits_of s) (8 * q + k) false ∙ bits_at s q k (omega arith) hk

-- the bit at a position, by its byte and its place in the byte
pub bit_of : (s : List ℕ) (at : ℕ) → at < 8 * length s → get_or (bits_of s) at false ≡ odd (get_or s (at / 8) 0 / 2 ^ (7 - at % 8))
bit_of s at h =
    let e : at ≡ 8 * (at / 8) + at % 8 = omega arith in
    ap (λ (j : ℕ). get_or (bits_of s) j false) e ∙ bits_at s (at / 8) (at % 8) (omega arith) (omega arith)

pub bits_append : (a b : List ℕ) → bits_of (a ++ b) ≡ bits_of a ++ bits_of b
unfolding bits_of
bits_append [] b = refl
bits_append (x ∷ a) b = ap (λ (l : List Bool). code 8 x ++ l) (bits_append a b) ∙ sym (append_assoc (code 8 x) (bits_of a) (bits_of b))

-- packing: whole bytes of bits have those bits, and each is a byte
pub bits_packed : (n : ℕ) (l : List Bool) → length l ≡ 8 * n → bits_of (packed n l) ≡ l
unfolding bits_of packed
bits_packed zero [] h = refl
bits_packed zero (b ∷ l) h = absurd (omega arith)
bits_packed (suc n) l h =
    rw (code-value 8 (take 8 l) (omega (arith, length-take 8 l)), bits_packed n (drop 8 l) (omega (arith, length-drop 8 l))) (take-append-drop 8 l)

pub bits_pack : (l : List Bool) → length l % 8 ≡ 0 → bits_of (pack l) ≡ l
bits_pack l h = bits_packed (length l / 8) l (omega arith)

pub packed_bytes : (n : ℕ) (l : List Bool) → Bytes (packed n l)
unfolding packed
packed_bytes zero l = tt
packed_bytes (suc n) l = (value-take_lt l 8 8 (omega arith), packed_bytes n (drop 8 l))

pub length-packed : (n : ℕ) (l : List Bool) → length (packed n l) ≡ n
unfolding packed
length-packed zero l = refl
length-packed (suc n) l = ap suc (length-packed n (drop 8 l))

packed_bits : (s : List ℕ) → Bytes s → packed (length s) (bits_of s) ≡ s
unfolding bits_of packed
packed_bits [] h = refl
packed_bits (b ∷ s) h =
    rw (take_at (code 8 b) (bits_of s) 8 (length-code 8 b), drop_at (code 8 b) (bits_of s) 8 (length-code 8 b), value-code 8 b h.0, packed_bits s h.1)

pub pack_bits : (s : List ℕ) → Bytes s → pack (bits_of s) ≡ s
pack_bits s h =
    let e : length (bits_of s) / 8 ≡ length s = omega (arith, length_bits s) in
    rw e (packed_bits s h)

-- the bits of a byte list determine it
pub bits_determine : (a b : List ℕ) → Bytes a → Bytes b → bits_of a ≡ bits_of b → a ≡ b
bits_determine a b ha hb e = sym (pack_bits a ha) ∙ ap pack e ∙ pack_bits b hb
