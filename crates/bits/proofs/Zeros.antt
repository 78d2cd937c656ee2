-- The walk over zero bits, byte by byte.
use Prim.Native.Nat.{ℕ, ◌+◌, ◌-◌, ◌*◌, ◌/◌, ◌%◌, ◌^◌, ◌<◌, ◌≤◌}
use mathlib.Core.Path.{◌≡◌, refl, ap, sym, ◌∙◌}
use mathlib.Core.List.{List}
use native.Mathlib.Omega.{arith}
use native.Mathlib.Nat.{add-zero, mul-one, zero-mul, zero-div, mul-mod_left, lt_of_not-le}
use lib.ListN.{length, get_or, take, drop}
use lib.Pow.{pow-lt, shl_exact, shr_lt, shl-shr, shr-shr, mod-pow-add}
use lib.Seq.{drop-drop}
use Rattle.std.specs.Prelude.{Ok, Err}
use Rattle.refusals.specs.declared.Refusal.TheVariants.{NotZero, PastEnd}
use Rattle.tree.specs.Bits.{bits_of, value}
use Rattle.tree.specs.Reading.{Out, ok, widened}
use Rattle.tree.specs.Syntax.{read, zero_bits}
use Rattle.tree.proofs.Bits.{length_rest}
use Rattle.window.proofs.Laws.{front, byte_is_bits}
use Rattle.bits.specs.Answer.{nameless, unread, read_as, span_of}
use Rattle.bits.proofs.Reading.{rest_of_byte, zeros_go_on, zeros_end, zeros_broken, widened_twice, widened_none}

-- the answer for n zero bits from a position on
abbrev answer_for : List ℕ → ℕ → ℕ → Out (Unit {0}) (Unit {0})
answer_for s at n = read (zero_bits nameless n) at (drop at (bits_of s))

-- of n zero bits `left` are left, the others were zeros; v is what is left of byte i from the first of them on, `have` bits, which stand as
-- the most significant of eight; and the answer for those that are left is the answer for all
pub record Checked (s : List ℕ) (at n i have v left : ℕ) : Type 0 where
  pub rest : v ≡ value (take have (drop (at + (n - left)) (bits_of s))) * 2 ^ (8 - have)
  pub ends : at + (n - left) + have ≡ 8 * (i + 1)
  pub there : i < length s
  pub byte : v < 2 ^ 8
  pub most : have ≤ 8
  pub some : 0 < have
  pub few : left ≤ n
  pub unread : 0 < left
  pub answer : widened (n - left) (answer_for s (at + (n - left)) left) ≡ answer_for s at n

-- a byte moved to the left: its head is cut off
moved : (b r : ℕ) → r < 8 → b < 256 → b * 2 ^ r % 4294967296 % 256 ≡ b % 2 ^ (8 - r) * 2 ^ r
moved b r h k =
    let e : 8 ≡ 8 - r + r = omega arith in
    ap (λ (x : ℕ). x % 256) (shl_exact {a = b} 8 r 32 k (omega arith)) ∙ ap (λ (x : ℕ). b * 2 ^ r % 2 ^ x) e ∙ mod-pow-add (b * 2 ^ r) (8 - r) r
    ∙ rw (shl-shr b r, mul-mod_left b (2 ^ r), add-zero (b % 2 ^ (8 - r) * 2 ^ r)) refl

-- the first one of a byte stands before place m if one of its first m bits is a one
first_within : (v m r : ℕ) → m ≤ 8 → r < 8 → (v / 2 ^ (8 - m) ≡ 0 → ⊥) → v / 2 ^ (8 - (r + 1)) ≡ 1 → r < m
first_within v m r h k e q = lt_of_not-le (λ (l : m ≤ r). e (none l))
  where
    none : m ≤ r → v / 2 ^ (8 - m) ≡ 0
    none l =
        let d : 8 - (r + 1) + (r + 1 - m) ≡ 8 - m = omega arith in
        let p : 2 ^ 0 < 2 ^ (0 + (r + 1 - m)) = pow-lt {i = 0} {j = 0 + (r + 1 - m)} (omega arith) in
        let z : 1 / 2 ^ (r + 1 - m) < 1 = shr_lt 0 (r + 1 - m) p in
        sym (rw d at (shr-shr v (8 - (r + 1)) (r + 1 - m))) ∙ rw q (omega (arith, z))

module _ (s : List ℕ) (bytes : (i : ℕ) → get_or s i 0 < 256) (at n : ℕ) where
  pub checked_none : 0 < n → at / 8 < length s
      → Checked s at n (at / 8) (8 - at % 8) (get_or s (at / 8) 0 * 2 ^ (at % 8) % 4294967296 % 256) n
  checked_none h l =
      let e : n - n ≡ 0 = omega arith in
      let r : 8 - (8 - at % 8) ≡ at % 8 = omega arith in
      record {
        rest = rw (e, add-zero at, r, ← rest_of_byte s bytes at l (2 ^ (8 - at % 8)) refl) (moved (get_or s (at / 8) 0) (at % 8) (omega arith) (bytes (at / 8)));
        ends = omega arith;
        there = l;
        byte = omega arith;
        most = omega arith;
        some = omega arith;
        few = omega arith;
        unread = h;
        answer = rw (e, add-zero at) (widened_none (answer_for s at n));
      }

  module _ (i have v left : ℕ) (x : Checked s at n i have v left) where
    abbrev here : ℕ
    here = at + (n - left)

    -- the bits that are left of the byte
    bits_left : v / 2 ^ (8 - have) ≡ value (take have (drop here (bits_of s)))
    bits_left = ap (λ (y : ℕ). y / 2 ^ (8 - have)) x.rest ∙ shl-shr (value (take have (drop here (bits_of s)))) (8 - have)

    are_zeros : v ≡ 0 → value (take have (drop here (bits_of s))) ≡ 0
    are_zeros e = sym bits_left ∙ rw e (zero-div (2 ^ (8 - have)))

    -- the first one among m bits that are left, behind r zeros of the byte, decides
    broken : (m r : ℕ) → m ≤ left → m ≤ have → (v / 2 ^ (8 - m) ≡ 0 → ⊥) → r < 8 → v / 2 ^ (8 - (r + 1)) ≡ 1 → Err (unread NotZero (here + r)) ≡ span_of (answer_for s at n)
    broken m r h k e l q =
        let f = first_within v m r (omega (arith, x.most)) l e q in
        let d : 8 - have + (have - (r + 1)) ≡ 8 - (r + 1) = omega (arith, x.most) in
        let t = length_rest s here in
        let one : value (take (r + 1) (drop here (bits_of s))) ≡ 1 =
        sym (front (drop here (bits_of s)) have (r + 1) (omega arith) (omega (arith, t, x.ends, x.there))) ∙ ap (λ (y : ℕ). y / 2 ^ (have - (r + 1))) (sym bits_left) ∙ shr-shr v (8 - have) (have - (r + 1)) ∙ rw d q in
        sym (ap span_of (sym x.answer ∙ ap (widened (n - left)) (zeros_broken left here r (drop here (bits_of s)) (omega arith) (omega (arith, t, x.ends, x.there)) one)))

    pub checked_broken : have < left → (v ≡ 0 → ⊥) → (r : ℕ) → r < 8 → v / 2 ^ (8 - (r + 1)) ≡ 1 → Err (unread NotZero (here + r)) ≡ span_of (answer_for s at n)
    checked_broken h e r l q =
        broken have r (omega arith) (omega arith) (λ z. e (x.rest ∙ ap (λ (y : ℕ). y * 2 ^ (8 - have)) (sym bits_left ∙ z) ∙ zero-mul (2 ^ (8 - have)))) l q

    -- the input ends behind the byte
    pub checked_end : have < left → v ≡ 0 → length s ≤ i + 1 → Err (unread PastEnd (8 * (i + 1))) ≡ span_of (answer_for s at n)
    checked_end h e l =
        let d = zeros_end left here (drop here (bits_of s)) have (omega (arith, length_rest s here, x.ends, x.there)) h (are_zeros e) in
        ap (λ (w : ℕ). Err (unread PastEnd w)) (sym x.ends) ∙ sym (ap span_of (sym x.answer ∙ ap (widened (n - left)) d))

    -- the next byte
    pub checked_more : have < left → v ≡ 0 → i + 1 < length s → Checked s at n (i + 1) 8 (get_or s (i + 1) 0) (left - have)
    checked_more h e l =
        let p : at + (n - (left - have)) ≡ here + have = omega (arith, x.few) in
        let q : here + have ≡ 8 * (i + 1) = x.ends in
        let w : n - (left - have) ≡ n - left + have = omega (arith, x.few) in
        let g : answer_for s here left ≡ widened have (answer_for s (here + have) (left - have)) =
        zeros_go_on left here (drop here (bits_of s)) have (omega arith) (omega (arith, length_rest s here, x.ends, x.there)) (are_zeros e) ∙ rw (drop-drop have here (bits_of s)) refl in
        record {
          rest = rw (p, q, mul-one (value (take 8 (drop (8 * (i + 1)) (bits_of s))))) (sym (byte_is_bits s bytes (i + 1) l));
          ends = omega (arith, p, q);
          there = l;
          byte = omega (arith, bytes (i + 1));
          most = omega arith;
          some = omega arith;
          few = omega (arith, x.few);
          unread = omega arith;
          answer =
              rw (p, w) (sym (widened_twice (n - left) have (answer_for s (here + have) (left - have)))
              ∙ ap (widened (n - left)) (sym g) ∙ x.answer);
        }

    -- the last byte: what is behind the bits that are left is divided away
    last_bits : left ≤ have → v / 2 ^ (8 - left) ≡ value (take left (drop here (bits_of s)))
    last_bits h =
        let e : 8 - have + (have - left) ≡ 8 - left = omega (arith, x.most) in
        sym (rw e at (shr-shr v (8 - have) (have - left))) ∙ ap (λ (y : ℕ). y / 2 ^ (have - left)) bits_left
        ∙ front (drop here (bits_of s)) have left h (omega (arith, length_rest s here, x.ends, x.there))

    pub checked_last_broken : left ≤ have → (v / 2 ^ (8 - left) ≡ 0 → ⊥) → (r : ℕ) → r < 8 → v / 2 ^ (8 - (r + 1)) ≡ 1 → Err (unread NotZero (here + r)) ≡ span_of (answer_for s at n)
    checked_last_broken h e r l q = broken left r (omega arith) h e l q

    pub checked_all : left ≤ have → v / 2 ^ (8 - left) ≡ 0 → Ok (read_as 0 n) ≡ span_of (answer_for s at n)
    unfolding read zero_bits
    checked_all h e =
        let z : left - left ≡ 0 = omega arith in
        let g : answer_for s here left ≡ ok tt (left + 0) =
        zeros_go_on left here (drop here (bits_of s)) left (omega arith) (omega (arith, length_rest s here, x.ends, x.there, h)) (sym (last_bits h) ∙ e) ∙ rw z refl in
        let w : n - left + (left + 0) ≡ n = omega (arith, x.few) in
        sym (ap span_of (sym x.answer ∙ ap (widened (n - left)) g) ∙ rw w refl)
