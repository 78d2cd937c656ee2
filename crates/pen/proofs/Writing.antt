-- Laws of the pen: one bit, one writing behind another, and that a statement of what was written admits one answer.
use Prim.Native.Nat.{ℕ, zero, suc, ◌+◌, ◌-◌, ◌*◌, ◌/◌, ◌%◌, ◌^◌, ◌<◌, ◌≤◌}
use mathlib.Core.Path.{◌≡◌, refl, ap, sym, ◌∙◌}
use mathlib.Core.List.{List, [], ◌∷◌, ◌++◌, append_assoc, append-nil}
use mathlib.Core.Bool.{Bool, true, false}
use native.Mathlib.Omega.{arith}
use native.Mathlib.Numerals.{add-one}
use native.Mathlib.Nat.{pow-succ', add-mul, mul_assoc}
use lib.ListN.{length, take, drop, set, replicate, length-replicate, length-set, length-append, length-take, take-append-drop}
use lib.Seq.{take-suc-set, drop-set-lt, take_at, drop_at}
use lib.Pow.{shr-shr, pow_pos}
use lib.IntN.{ℤ, pos, negsuc}
use mir.Syntax.{w32}
use mir.Val.{of_z}
use borrow.Author.Tests.{ltb-true}
use Rattle.std.proofs.Math.Bridge.{le_prop}
use Rattle.std.proofs.Common.{pow-add}
use Rattle.tree.specs.Coding.{signed, holds, complement}
use Rattle.tree.specs.Bits.{bits_of, code, odd, value, value_from, bit, Bytes}
use Rattle.tree.specs.Codes.{zeros_of, ue_code}
use Rattle.tree.proofs.Lists.{later_on, bytes_take}
use Rattle.tree.proofs.Bits.{length-code, length_bits, bits_append, bits_determine, code-value, value-code}
use Rattle.tree.proofs.Elements.{zeros_law, zeros_few, length-ue}
use Rattle.pen.specs.declared.Pen.{Pen}
use Rattle.pen.specs.Writing.{bits_written, RoomForBits, Wrote}

odd-mod : (v : ℕ) → odd (v % 2) ≡ odd v
odd-mod v = let h : v % 2 % 2 ≡ v % 2 = omega arith in rw h

-- a code with one bit more
code_more : (k v b : ℕ) → b < 2 → code (k + 1) (v * 2 + b) ≡ code k v ++ (odd b ∷ [])
unfolding code
code_more k v b h =
    let d : (v * 2 + b) / 2 ≡ v = omega arith in
    let m : (v * 2 + b) % 2 ≡ b % 2 = omega arith in
    rw (add-one k, d, m)

-- a bit that waits
pub held_bit : (out : List ℕ) (pen pen' : Pen) (b : ℕ) → b < 2 → pen'.at ≡ pen.at → pen'.waiting ≡ pen.waiting + 1 → pen'.bits ≡ pen.bits * 2 + b
    → Wrote out pen (odd b ∷ []) out pen'
held_bit out pen pen' b h a k v = record {
  up_to = rw (a, k, v, code_more pen.waiting pen.bits b h) (sym (append_assoc (bits_of (take pen.at out)) (code pen.waiting pen.bits) (odd b ∷ [])));
  later = refl;
  same = refl;
  place = omega arith;
}

-- the eighth bit
pub stored_bit : (out : List ℕ) (pen pen' : Pen) (b : ℕ) → b < 2 → pen.waiting ≡ 7 → pen.at < length out → pen'.at ≡ pen.at + 1 → pen'.waiting ≡ 0 → pen'.bits ≡ 0
    → Wrote out pen (odd b ∷ []) (set out pen.at (pen.bits * 2 + b)) pen'
unfolding code bits_of
stored_bit out pen pen' b h e l f k v =
    let a = pen.bits * 2 + b in
    let m : code 8 a ≡ code 7 pen.bits ++ (odd b ∷ []) = code_more 7 pen.bits b h in
    let one : bits_of (a ∷ []) ≡ code 8 a = append-nil (code 8 a) in
    record {
      up_to = rw (f, k) (append-nil (bits_of (take (pen.at + 1) (set out pen.at a)))
          ∙ rw (add-one pen.at, take-suc-set out pen.at a l, bits_append (take pen.at out) (a ∷ []), one, m, e)
          (sym (append_assoc (bits_of (take pen.at out)) (code 7 pen.bits) (odd b ∷ []))));
      later = rw f (drop-set-lt (pen.at + 1) out pen.at a (omega arith));
      same = length-set out pen.at a;
      place = omega arith;
    }

-- one writing behind another
pub wrote_then : {o₀ o₁ o₂ : List ℕ} {p₀ p₁ p₂ : Pen} {bs cs : List Bool} → Wrote o₀ p₀ bs o₁ p₁ → Wrote o₁ p₁ cs o₂ p₂ → Wrote o₀ p₀ (bs ++ cs) o₂ p₂
wrote_then {o₀} {o₁} {o₂} {p₀} {p₁} {p₂} {bs} {cs} p q = record {
  up_to = q.up_to ∙ rw p.up_to (append_assoc (bits_written o₀ p₀) bs cs);
  later = q.later ∙ later_on p₁.at p₂.at o₁ o₀ (omega (arith, q.place, p₀.few, p₁.few, p₂.few)) p.later;
  same = q.same ∙ p.same;
  place = omega (arith, p.place, q.place, length-append bs cs);
}

pub wrote_none : (out : List ℕ) (pen : Pen) → Wrote out pen [] out pen
wrote_none out pen = record {
  up_to = sym (append-nil (bits_written out pen));
  later = refl;
  same = refl;
  place = omega arith;
}

-- room for what follows is left
pub room_left : {o₀ o₁ : List ℕ} {p₀ p₁ : Pen} {bs : List Bool} → Wrote o₀ p₀ bs o₁ p₁ → (n : ℕ) → RoomForBits o₀ p₀ (length bs + n) → RoomForBits o₁ p₁ n
room_left p n r = omega (arith, p.place, p.same)

-- u(n), bit by bit: k bits are written, of v without its last n - k bits
code-next : (n k v : ℕ) → k < n → code (k + 1) (v / 2 ^ (n - (k + 1))) ≡ code k (v / 2 ^ (n - k)) ++ (odd (v / 2 ^ (n - 1 - k) % 2) ∷ [])
unfolding code
code-next n k v h =
    let i : n - (k + 1) ≡ n - 1 - k = omega arith in
    let j : n - 1 - k + 1 ≡ n - k = omega arith in
    let d : v / 2 ^ (n - 1 - k) / 2 ≡ v / 2 ^ (n - k) = shr-shr v (n - 1 - k) 1 ∙ ap (λ (m : ℕ). v / 2 ^ m) j in
    rw (i, add-one k, odd-mod (v / 2 ^ (n - 1 - k)), d)

module _ (o₀ o₁ : List ℕ) (p₀ p₁ : Pen) (n k v : ℕ) (so_far : Wrote o₀ p₀ (code k (v / 2 ^ (n - k))) o₁ p₁) where
  pub next_bit : (o₂ : List ℕ) (p₂ : Pen) → k < n → Wrote o₁ p₁ (odd (v / 2 ^ (n - 1 - k) % 2) ∷ []) o₂ p₂ → Wrote o₀ p₀ (code (k + 1) (v / 2 ^ (n - (k + 1)))) o₂ p₂
  next_bit o₂ p₂ h q = rw (code-next n k v h) (wrote_then so_far q)

  pub next_room : k < n → RoomForBits o₀ p₀ n → RoomForBits o₁ p₁ 1
  next_room h r = room_left so_far 1 (omega (arith, length-code k (v / 2 ^ (n - k))))

-- ue(v): zeros, and v + 1, whose first bit is the one
value_from_lem : (v : ℕ) (l : List Bool) → value_from v l ≡ v * 2 ^ length l + value l
unfolding value_from
value_from_lem v [] = omega arith
value_from_lem v (b ∷ l) =
    let p = pow-succ' 2 (length l) in
    let e : (v * 2 + bit b) * 2 ^ length l ≡ v * (2 * 2 ^ length l) + bit b * 2 ^ length l = spread v (bit b) (2 ^ length l) in
    let f : (0 * 2 + bit b) * 2 ^ length l ≡ bit b * 2 ^ length l = ap (λ (m : ℕ). m * 2 ^ length l) (zero_twice (bit b)) in
    value_from_lem (v * 2 + bit b) l ∙ rw (value_from_lem (0 * 2 + bit b) l, e, f, p) (omega arith)
  where
    zero_twice : (m : ℕ) → 0 * 2 + m ≡ m
    zero_twice m = omega arith

    spread : (v b m : ℕ) → (v * 2 + b) * m ≡ v * (2 * m) + b * m
    spread v b m = add-mul (v * 2) b m ∙ ap (λ (x : ℕ). x + b * m) (mul_assoc v 2 m)

-- a number whose highest bit is bit k, in k + 1 bits
code_top : (k v : ℕ) → 2 ^ k ≤ v → v < 2 * 2 ^ k → code (suc k) v ≡ true ∷ code k (v - 2 ^ k)
unfolding value_from
code_top k v low high =
    let l = code k (v - 2 ^ k) in
    let e : value (true ∷ l) ≡ v =
    value_from_lem (0 * 2 + 1) l ∙ rw (length-code k (v - 2 ^ k), value-code k (v - 2 ^ k) (omega arith)) (omega arith) in
    ap (code (suc k)) (sym e) ∙ code-value (suc k) (true ∷ l) (ap suc (length-code k (v - 2 ^ k)))

pub ue_whole : (v : ℕ) → ue_code v ≡ replicate (zeros_of v) false ++ code (zeros_of v + 1) (v + 1)
unfolding ue_code
ue_whole v =
    let z = zeros_law v in
    rw (add-one (zeros_of v), code_top (zeros_of v) (v + 1) z.0 z.1)

pub zeros_of_word : (v : ℕ) → v + 1 < 2 ^ 32 → zeros_of v ≤ 31
zeros_of_word v h = zeros_few 31 v h

-- what the bits of a ue(v) code are counted by
pub ruleset ue_lengths = (zeros_of_word, length-ue, length-replicate)

-- i(n): of a number in 32 bits, with its sign, the last n
code_higher : (n v k : ℕ) → code n (v + k * 2 ^ n) ≡ code n v
unfolding code
code_higher zero v k = refl
code_higher (suc n) v k =
    let m = k * 2 ^ n in
    let e : k * 2 ^ suc n ≡ 2 * m = rw (pow-succ' 2 n) (omega arith) in
    let d : (v + 2 * m) / 2 ≡ v / 2 + m = omega arith in
    let o : (v + 2 * m) % 2 ≡ v % 2 = omega arith in
    rw (e, d, o, code_higher n (v / 2) k)

pub code_signed : (n : ℕ) (z : ℤ) → n ≤ 32 → holds (signed n) z ≡ true → code n (of_z w32 z) ≡ code n (complement n z)
code_signed n (pos v) h held = refl
code_signed n (negsuc v) h held =
    let l = ltb-true v (2 ^ n - 2 ^ (n - 1)) held in
    let i : 32 - n + n ≡ 32 = omega arith in
    let p : 2 ^ (32 - n) * 2 ^ n ≡ 2 ^ 32 = sym (pow-add 2 (32 - n) n) ∙ ap (λ (m : ℕ). 2 ^ m) i in
    let k : 2 ^ (32 - n) - 1 + 1 ≡ 2 ^ (32 - n) = omega (arith, pow_pos (32 - n)) in
    let q : (2 ^ (32 - n) - 1) * 2 ^ n + 1 * 2 ^ n ≡ 2 ^ (32 - n) * 2 ^ n = sym (add-mul (2 ^ (32 - n) - 1) 1 (2 ^ n)) ∙ ap (λ (m : ℕ). m * 2 ^ n) k in
    let e : 2 ^ 32 - suc v ≡ 2 ^ n - suc v + (2 ^ (32 - n) - 1) * 2 ^ n = omega arith in
    ap (code n) e ∙ code_higher n (2 ^ n - suc v) (2 ^ (32 - n) - 1)

-- the statement of what was written admits one buffer and one pen
same_parts : {A : Type 0} (a b c d : List A) → length a ≡ length c → a ++ b ≡ c ++ d → (a ≡ c) × (b ≡ d)
same_parts a b c d l e = (
  sym (take_at a b (length a) refl) ∙ ap (take (length a)) e ∙ take_at c d (length a) (sym l),
  sym (drop_at a b (length a) refl) ∙ ap (drop (length a)) e ∙ drop_at c d (length a) (sym l),
)

pub wrote_one : {out : List ℕ} {pen : Pen} {bits : List Bool} {o₁ o₂ : List ℕ} {p₁ p₂ : Pen} → Bytes o₁ → Bytes o₂
    → Wrote out pen bits o₁ p₁ → Wrote out pen bits o₂ p₂ → (p₁ ≡ p₂) × (o₁ ≡ o₂)
wrote_one {out} {pen} {bits} {o₁} {o₂} {p₁} {p₂} b₁ b₂ w₁ w₂ =
    let a : p₁.at ≡ p₂.at = omega (arith, w₁.place, w₂.place, p₁.few, p₂.few) in
    let k : p₁.waiting ≡ p₂.waiting = omega (arith, w₁.place, w₂.place, p₁.few, p₂.few) in
    let t₁ = take p₁.at o₁ in
    let t₂ = take p₂.at o₂ in
    let l : length (bits_of t₁) ≡ length (bits_of t₂) =
    omega (arith, length_bits t₁, length_bits t₂, length-take p₁.at o₁, length-take p₂.at o₂, w₁.same, w₂.same) in
    let s = same_parts (bits_of t₁) (code p₁.waiting p₁.bits) (bits_of t₂) (code p₂.waiting p₂.bits) l (w₁.up_to ∙ sym w₂.up_to) in
    let t : t₁ ≡ t₂ = bits_determine t₁ t₂ (bytes_take p₁.at o₁ b₁) (bytes_take p₂.at o₂ b₂) s.0 in
    let d : drop p₁.at o₁ ≡ drop p₂.at o₂ = w₁.later ∙ ap (λ (n : ℕ). drop n out) a ∙ sym w₂.later in
    let v : p₁.bits ≡ p₂.bits =
    sym (value-code p₁.waiting p₁.bits p₁.small) ∙ ap value s.1 ∙ value-code p₂.waiting p₂.bits p₂.small in (
      whole p₁.at p₁.waiting p₁.bits p₂.at p₂.waiting p₂.bits a k v p₁.few p₁.small p₂.few p₂.small,
      sym (take-append-drop p₁.at o₁) ∙ ap (λ (x : List ℕ). x ++ drop p₁.at o₁) t ∙ ap (λ (x : List ℕ). t₂ ++ x) d ∙ take-append-drop p₂.at o₂,
    )
  where
    pen_of : (a k v : ℕ) → k < 8 → v < 2 ^ k → Pen
    pen_of a k v f s = record { at = a; waiting = k; bits = v; few = f; small = s }

    alike : (a k v : ℕ) (f f' : k < 8) (s s' : v < 2 ^ k) → pen_of a k v f s ≡ pen_of a k v f' s'
    alike a k v f f' s s' = ap (λ (x : k < 8). pen_of a k v x s) (le_prop f f') ∙ ap (pen_of a k v f') (le_prop s s')

    whole : (a k v a' k' v' : ℕ) → a ≡ a' → k ≡ k' → v ≡ v' → (f : k < 8) (s : v < 2 ^ k) (f' : k' < 8) (s' : v' < 2 ^ k') → pen_of a k v f s ≡ pen_of a' k' v' f' s'
    whole a k v a' k' v' e f g = rw (e, f, g) (λ x y x' y'. alike a' k' v' x x' y y')
