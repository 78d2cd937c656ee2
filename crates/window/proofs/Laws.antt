-- Bits as numbers: of bits one behind another, of a part of them, and of the bytes that bits touch.
use Prim.Native.Nat.{ℕ, zero, suc, ◌+◌, ◌-◌, ◌*◌, ◌/◌, ◌%◌, ◌^◌, ◌<◌, ◌≤◌}
use mathlib.Core.Path.{◌≡◌, refl, ap, sym, ◌∙◌}
use mathlib.Core.List.{List, [], ◌∷◌, ◌++◌}
use mathlib.Core.Bool.{Bool, true, false}
use native.Mathlib.Omega.{arith}
use native.Mathlib.Nat.{add-zero, one-mul, mul_assoc, mod-eq_of_lt}
use borrow.Author.Tests.{ltb-true, ltb-false}
use lib.Dec.{ltb}
use lib.ListN.{length, get_or, take, drop, length-drop}
use lib.Pow.{pow-add, pow-lt, pow_pos, high, low}
use lib.Seq.{drop-drop, get_or-drop, take_at, drop_at}
use Rattle.tree.specs.Bits.{code, bits_of, bit, value, value_from}
use Rattle.tree.proofs.Bits.{value_more, value-take_lt, value-code, length-code, length_bits}
use Rattle.window.specs.Bytes.{bytes_number}

-- ---- bits

-- a + b bits: the first a of them, times 2 ^ b, and the others
pub joined : (l : List Bool) (a b : ℕ) → a + b ≤ length l → value (take (a + b) l) ≡ value (take a l) * 2 ^ b + value (take b (drop a l))
unfolding value_from
joined l a zero h = rw (add-zero a) (omega arith)
joined l a (suc b) h =
    let n : a + suc b ≡ a + b + 1 = omega arith in
    let m : suc b ≡ b + 1 = omega arith in
    let x = value_more l (a + b) (omega arith) in
    let y = value_more (drop a l) b (omega (arith, length-drop a l)) in
    let e : bit (get_or (drop a l) b false) ≡ bit (get_or l (a + b) false) = ap bit (get_or-drop a l b false) in
    let ih = joined l a b (omega arith) in
    let p : value (take a l) * 2 ^ (b + 1) ≡ value (take a l) * 2 ^ b * 2 = rw (pow-add 2 b 1, ← mul_assoc (value (take a l)) (2 ^ b) (2 ^ 1)) in
    rw (n, m) (omega (arith, x, y, e, ih, p))

-- the first n of w bits: what is behind them is divided away
pub front : (l : List Bool) (w n : ℕ) → n ≤ w → w ≤ length l → value (take w l) / 2 ^ (w - n) ≡ value (take n l)
front l w n h k =
    let e : n + (w - n) ≡ w = omega arith in
    let j = joined l n (w - n) (omega arith) in
    ap (λ (v : ℕ). v / 2 ^ (w - n)) (sym (ap (λ (m : ℕ). value (take m l)) e) ∙ j) ∙ high (value (take n l)) (w - n) (value-take_lt (drop n l) (w - n) (w - n) (omega arith))

-- the last n of a + n bits: what is before them is left off
pub back : (l : List Bool) (a n : ℕ) → a + n ≤ length l → value (take (a + n) l) % 2 ^ n ≡ value (take n (drop a l))
back l a n h = ap (λ (v : ℕ). v % 2 ^ n) (joined l a n h) ∙ low (value (take a l)) n (value-take_lt (drop a l) n n (omega arith))

-- n of w bits, behind the first a of them: divided and reduced
pub within : (l : List Bool) (w a n : ℕ) → a + n ≤ w → w ≤ length l → value (take w l) / 2 ^ (w - (a + n)) % 2 ^ n ≡ value (take n (drop a l))
within l w a n h k = ap (λ (v : ℕ). v % 2 ^ n) (front l w (a + n) h k) ∙ back l a n (omega arith)

-- ---- bytes

-- bytes one behind another
pub bytes_joined : (s : List ℕ) (i a b : ℕ) → bytes_number s i a * 2 ^ (8 * b) + bytes_number s (i + a) b ≡ bytes_number s i (a + b)
unfolding bytes_number
bytes_joined s i a zero = rw (add-zero a) (omega arith)
bytes_joined s i a (suc b) =
    let e : 8 * suc b ≡ 8 * b + 8 = omega arith in
    let n : a + suc b ≡ suc (a + b) = omega arith in
    let p : bytes_number s i a * 2 ^ (8 * b + 8) ≡ bytes_number s i a * 2 ^ (8 * b) * 256 = rw (pow-add 2 (8 * b) 8, ← mul_assoc (bytes_number s i a) (2 ^ (8 * b)) 256) in
    let d : i + a + b ≡ i + (a + b) = omega arith in
    rw (e, n, p, d) (omega (arith, bytes_joined s i a b))

pub number_one : (s : List ℕ) (i : ℕ) → get_or s i 0 ≡ bytes_number s i 1
unfolding bytes_number
number_one s i = rw (add-zero i) (omega arith)

pub number_none : (s : List ℕ) (i : ℕ) → 0 ≡ bytes_number s i 0
unfolding bytes_number
number_none s i = refl

-- the bits of a byte
byte_bits : (s : List ℕ) (i : ℕ) → i < length s → take 8 (drop (8 * i) (bits_of s)) ≡ code 8 (get_or s i 0)
unfolding bits_of
byte_bits [] i h = absurd (omega arith)
byte_bits (b ∷ s) zero h = take_at (code 8 b) (bits_of s) 8 (length-code 8 b)
byte_bits (b ∷ s) (suc i) h =
    let e : 8 * suc i ≡ 8 + 8 * i = omega arith in
    rw (e, ← drop-drop (8 * i) 8 (code 8 b ++ bits_of s), drop_at (code 8 b) (bits_of s) 8 (length-code 8 b)) (byte_bits s i (omega arith))

-- of a list of bytes
module _ (s : List ℕ) (bytes : (i : ℕ) → get_or s i 0 < 256) where
  pub byte_is_bits : (i : ℕ) → i < length s → value (take 8 (drop (8 * i) (bits_of s))) ≡ get_or s i 0
  byte_is_bits i h = ap value (byte_bits s i h) ∙ value-code 8 (get_or s i 0) (bytes i)

  -- the number that k bytes are is the number that their bits are
  bytes_are_bits : (i k : ℕ) → i + k ≤ length s → bytes_number s i k ≡ value (take (8 * k) (drop (8 * i) (bits_of s)))
  unfolding bytes_number value_from
  bytes_are_bits i zero h = refl
  bytes_are_bits i (suc k) h =
      let e : 8 * suc k ≡ 8 * k + 8 = omega arith in
      let d : 8 * i + 8 * k ≡ 8 * (i + k) = omega arith in
      let j = joined (drop (8 * i) (bits_of s)) (8 * k) 8 (omega (arith, length_bits s, length-drop (8 * i) (bits_of s))) in
      rw (e, bytes_are_bits i k (omega arith), ← byte_is_bits (i + k) (omega arith)) (sym (rw (drop-drop (8 * k) (8 * i) (bits_of s), d) at j))

  -- so that it is below 2 ^ (8 k)
  pub number_lt : (i k n : ℕ) → i + k ≤ length s → 8 * k ≤ n → bytes_number s i k < 2 ^ n
  number_lt i k n h m = rw (bytes_are_bits i k h) (value-take_lt (drop (8 * i) (bits_of s)) (8 * k) n m)

  -- THE LAW, for every width and every number of bytes: the number in n bits from position `at` on is the number of k bytes that hold
  -- them, divided and reduced
  pub bits_in_bytes : (at n k : ℕ) → at % 8 + n ≤ 8 * k → at / 8 + k ≤ length s → bytes_number s (at / 8) k / 2 ^ (8 * k - (at % 8 + n)) % 2 ^ n ≡ value (take n (drop at (bits_of s)))
  bits_in_bytes at n k h r =
      let e : 8 * (at / 8) + at % 8 ≡ at = omega arith in
      rw (bytes_are_bits (at / 8) k r) (within (drop (8 * (at / 8)) (bits_of s)) (8 * k) (at % 8) n h (omega (arith, length_bits s, length-drop (8 * (at / 8)) (bits_of s))))
      ∙ ap (λ (d : List Bool). value (take n d)) (drop-drop (at % 8) (8 * (at / 8)) (bits_of s) ∙ ap (λ (p : ℕ). drop p (bits_of s)) e)

-- n bits that begin in byte at / 8, and k + 1 bytes where k are too few for them, and else k: as many as the bits touch
module _ (at n k : ℕ) (more : Bool) (enough : n ≤ 8 * k) (tight : 8 * k ≤ n + 7) (test : more ≡ ltb (8 * k) (at % 8 + n)) where
  touched : (at % 8 + n ≤ 8 * (k + bit more)) × (8 * (k + bit more) ≤ at % 8 + n + 7)
  touched = go more test
    where
      go : (b : Bool) → b ≡ ltb (8 * k) (at % 8 + n) → (at % 8 + n ≤ 8 * (k + bit b)) × (8 * (k + bit b) ≤ at % 8 + n + 7)
      go true e = let l = ltb-true (8 * k) (at % 8 + n) (sym e) in (omega arith, omega arith)
      go false e = let l = ltb-false (8 * k) (at % 8 + n) (sym e) in (omega arith, omega arith)

  -- they are there, and at most eight, if the bits are
  pub touched_there : (s : List ℕ) → at + n ≤ 8 * length s → n ≤ 56 → (at / 8 + (k + bit more) ≤ length s) × (k + bit more ≤ 8)
  touched_there s h m = let t = touched in (omega (arith, t), omega (arith, t))

  -- the law at these bytes: of the last one so many bits are behind the field
  pub bits_in_touched : (s : List ℕ) → ((i : ℕ) → get_or s i 0 < 256) → at + n ≤ 8 * length s → n ≤ 56 → (behind power : ℕ) → behind ≡ (8 - (at % 8 + n) % 8) % 8 → power ≡ 2 ^ n
      → bytes_number s (at / 8) (k + bit more) / 2 ^ behind % power ≡ value (take n (drop at (bits_of s)))
  bits_in_touched s bytes h m behind power b p =
      let t = touched in
      let e : behind ≡ 8 * (k + bit more) - (at % 8 + n) = omega (arith, t, b) in
      rw (e, p) (bits_in_bytes s bytes at n (k + bit more) t.0 (touched_there s h m).0)

-- 1 << k in w bits, and that it is some
pub shl_one : (k w : ℕ) → k < w → 1 * 2 ^ k % 2 ^ w ≡ 2 ^ k
shl_one k w h = rw (one-mul (2 ^ k), mod-eq_of_lt (pow-lt h))

pub shl_some : (k : ℕ) → k < 64 → 0 < 1 * 2 ^ k % 18446744073709551616
shl_some k h = rw (shl_one k 64 h) (pow_pos k)
