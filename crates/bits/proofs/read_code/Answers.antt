-- `bits::read_code` meets its contract: byte by byte, v is the number of the bits that are loaded.
use Prim.Native.Nat.{ℕ, suc, ◌+◌, ◌-◌, ◌*◌, ◌/◌, ◌^◌, ◌<◌, ◌≤◌}
use mathlib.Core.Path.{◌≡◌, ap, sym, ◌∙◌}
use mathlib.Core.Logic.{inl, inr}
use mathlib.Core.List.{List}
use mathlib.Core.Bool.{Bool}
use native.Mathlib.Omega.{arith}
use native.Mathlib.Nat.{add-zero, pow-suc}
use lib.ListN.{length, get_or, take, drop}
use lib.Seq.{get_or-take, get_or-drop}
use lib.Pow.{pow_mono, pow_pos}
use Rattle.tree.specs.Bits.{bits_of, value}
use Rattle.tree.proofs.Bits.{length_rest, value-take_lt}
use Rattle.window.proofs.Laws.{joined, front}
use Rattle.std.specs.Prelude.{Err}
use Rattle.std.specs.List.{slice_range}
use Rattle.bits.specs.Answer.{zeros_that_fit, number_of}
use Rattle.bits.proofs.Reading.{byte_more, ue_cut, ue_is}
use Rattle.bits.proofs.read_code.Goals as goal

-- behind k zeros and a one, n bits are a number below 2 ^ (n - k)
few_digits : (l : List Bool) (k n : ℕ) → k < n → n ≤ length l → value (take (k + 1) l) ≡ 1 → value (take n l) < 2 ^ (n - k)
few_digits l k n h j e =
    let m : k + 1 + (n - (k + 1)) ≡ n = omega arith in
    let d : n - k ≡ suc (n - (k + 1)) = omega arith in
    let w = joined l (k + 1) (n - (k + 1)) (omega arith) in
    let b = value-take_lt (drop (k + 1) l) (n - (k + 1)) (n - (k + 1)) (omega arith) in
    rw (d, pow-suc 2 (n - (k + 1))) (omega (arith, rw (m, e) at w, b))

-- all bits of a code with k zeros are a number above 0, which is below 2 ^ (k + 1)
whole_code : (l : List Bool) (k : ℕ) → 2 * k + 1 ≤ length l → value (take (k + 1) l) ≡ 1 → (1 ≤ value (take (2 * k + 1) l)) × (value (take (2 * k + 1) l) < 2 ^ (k + 1))
whole_code l k h e =
    let m : k + 1 + k ≡ 2 * k + 1 = omega arith in
    let d : 2 * k + 1 - k ≡ k + 1 = omega arith in
    let w = joined l (k + 1) k (omega arith) in
    (omega (arith, rw (m, e) at w, pow_pos k), rw d at (few_digits l k (2 * k + 1) (omega arith) h e))

-- bits on the way to them are a number that fits
fits_on_the_way : (l : List Bool) (k n v : ℕ) → v ≡ value (take n l) → k < n → n < 2 * k + 1 → n ≤ length l → k ≤ zeros_that_fit → value (take (k + 1) l) ≡ 1 → v < 4294967296
fits_on_the_way l k n v e h j t z o =
    let p : 2 ^ (n - k) ≤ 2 ^ 32 = pow_mono {j = 32} (omega arith) in
    omega (arith, few_digits l k n h t o, p)

-- of n bits, the code's: their number is above 0 and fits 32 bits, as there are so few zeros
code_of : (l : List Bool) (k n v : ℕ) → v ≡ value (take n l) → 2 * k + 1 ≤ n → n ≤ length l → 2 * k + 1 ≤ length l → k ≤ zeros_that_fit → value (take (k + 1) l) ≡ 1
    → (v / 2 ^ (n - (2 * k + 1)) ≡ value (take (2 * k + 1) l)) × (1 ≤ value (take (2 * k + 1) l)) × (value (take (2 * k + 1) l) < 4294967296)
code_of l k n v e h t j z o =
    let d = whole_code l k j o in
    let p : 2 ^ (k + 1) ≤ 2 ^ 32 = pow_mono {j = 32} (omega arith) in
    (ap (λ (x : ℕ). x / 2 ^ (n - (2 * k + 1))) e ∙ front l n (2 * k + 1) h t, d.0, omega (arith, d.1, p))

-- bytes of a slice from a place on
byte_of : (s more : List ℕ) (next end : ℕ) → more ≡ slice_range s next end → (i : ℕ) → next + i < end → get_or more i 0 ≡ get_or s (next + i) 0
byte_of s more next end e i h = rw e (get_or-take (end - next) (drop next s) i 0 (omega arith) ∙ get_or-drop next s i 0)

-- the code ends in the byte that holds its first one
pub overflow_sub-result-then-width-lead : goal.overflow_sub-result-then-width-lead
overflow_sub-result-then-width-lead c =
    let a = c.args in
    let r = length_rest a.s.now a.at in
    let w = code_of (drop a.at (bits_of a.s.now)) a.zeros a.lead.width a.lead.value c.requires.0 (omega arith) (omega (arith, r)) (omega (arith, r)) c.requires.6 c.requires.5 in
    rw w.0 w.1

pub overflow_cast-result : goal.overflow_cast-result
overflow_cast-result c =
    let a = c.args in
    let r = length_rest a.s.now a.at in
    let w = code_of (drop a.at (bits_of a.s.now)) a.zeros a.lead.width a.lead.value c.requires.0 (omega arith) (omega (arith, r)) (omega (arith, r)) c.requires.6 c.requires.5 in
    rw w.0 (omega (arith, w.2))

pub returns-then-width-lead : goal.returns-then-width-lead
returns-then-width-lead c most some =
    let a = c.args in
    let b = drop a.at (bits_of a.s.now) in
    let r = length_rest a.s.now a.at in
    let w = code_of b a.zeros a.lead.width a.lead.value c.requires.0 (omega arith) (omega (arith, r)) (omega (arith, r)) c.requires.6 c.requires.5 in
    rw w.0 (sym (ap number_of (ue_is most a.at b a.zeros some (omega (arith, r)) c.requires.5 (omega (arith, r)))))

-- a byte of it is missing
pub returns-in_default : goal.returns-in_default
returns-in_default c most some =
    let a = c.args in
    let r = length_rest a.s.now a.at in
    let p = c.requires in
    let h : length (drop a.at (bits_of a.s.now)) < 2 * a.zeros + 1 = elim c.in_default.ensures.lookup.0 [ inl x ↦ omega (arith, x) | inr x ↦ omega (arith, r, p, x) ] in
    ap Err c.at.ensures ∙ sym (ap number_of (ue_cut most a.at (drop a.at (bits_of a.s.now)) a.zeros some (omega (arith, r, p)) p.5 h))

pub loop-byte-init : goal.loop-byte-init
loop-byte-init c = rw (add-zero c.args.lead.width) c.requires.0

-- so many bits are loaded
pub overflow_mul-v : goal.overflow_mul-v
overflow_mul-v c =
    let a = c.args in
    let more = c.in-Some.ensures.lookup.0 in
    let h = fits_on_the_way (drop a.at (bits_of a.s.now)) a.zeros (a.lead.width + 8 * c.loop-byte.byte-index) c.loop-byte.v c.loop-byte.invariant (omega arith) (omega (arith, more)) (omega (arith, more, length_rest a.s.now a.at)) c.requires.6 c.requires.5 in
    omega (arith, h)

pub overflow_add-v : goal.overflow_add-v
overflow_add-v c =
    let a = c.args in
    let k = c.loop-byte.byte-index in
    let more = c.in-Some.ensures.lookup.0 in
    let h = fits_on_the_way (drop a.at (bits_of a.s.now)) a.zeros (a.lead.width + 8 * k) c.loop-byte.v c.loop-byte.invariant (omega arith) (omega (arith, more)) (omega (arith, more, length_rest a.s.now a.at)) c.requires.6 c.requires.5 in
    omega (arith, h, byte_of a.s.now c.in-Some.more.now a.lead.next (a.lead.next + (2 * a.zeros + 1 - a.lead.width + 7) / 8) more.2 k (omega (arith, more)), (c.type_inv.s (a.lead.next + k)).fits)

pub loop-byte-preserved : goal.loop-byte-preserved
loop-byte-preserved c =
    let a = c.args in
    let k = c.loop-byte.byte-index in
    let more = c.in-Some.ensures.lookup.0 in
    let e : a.lead.width + 8 * (k + 1) ≡ a.lead.width + 8 * k + 8 = omega arith in
    let m = byte_more a.s.now (λ j. (c.type_inv.s j).fits) a.at (a.lead.width + 8 * k) (a.lead.next + k) (omega arith) (omega (arith, more)) in
    rw (byte_of a.s.now c.in-Some.more.now a.lead.next (a.lead.next + (2 * a.zeros + 1 - a.lead.width + 7) / 8) more.2 k (omega (arith, more)), c.loop-byte.invariant, e) m

-- all bits that were loaded, and among them the code's
pub overflow_sub-result-2 : goal.overflow_sub-result-2
overflow_sub-result-2 c =
    let a = c.args in
    let more = c.in-Some.ensures.lookup.0 in
    let r = length_rest a.s.now a.at in
    let n : c.loop-byte.byte-index ≡ (2 * a.zeros + 1 - a.lead.width + 7) / 8 = omega (arith, more) in
    let v = rw n at c.loop-byte.invariant in
    let w = code_of (drop a.at (bits_of a.s.now)) a.zeros (a.lead.width + 8 * ((2 * a.zeros + 1 - a.lead.width + 7) / 8)) c.loop-byte.v v (omega arith) (omega (arith, more, r)) (omega (arith, more, r)) c.requires.6 c.requires.5 in
    rw w.0 w.1

pub overflow_cast-result-2 : goal.overflow_cast-result-2
overflow_cast-result-2 c =
    let a = c.args in
    let more = c.in-Some.ensures.lookup.0 in
    let r = length_rest a.s.now a.at in
    let n : c.loop-byte.byte-index ≡ (2 * a.zeros + 1 - a.lead.width + 7) / 8 = omega (arith, more) in
    let v = rw n at c.loop-byte.invariant in
    let w = code_of (drop a.at (bits_of a.s.now)) a.zeros (a.lead.width + 8 * ((2 * a.zeros + 1 - a.lead.width + 7) / 8)) c.loop-byte.v v (omega arith) (omega (arith, more, r)) (omega (arith, more, r)) c.requires.6 c.requires.5 in
    rw w.0 (omega (arith, w.2))

pub returns : goal.returns
returns c most some =
    let a = c.args in
    let b = drop a.at (bits_of a.s.now) in
    let more = c.in-Some.ensures.lookup.0 in
    let r = length_rest a.s.now a.at in
    let n : c.loop-byte.byte-index ≡ (2 * a.zeros + 1 - a.lead.width + 7) / 8 = omega (arith, more) in
    let v = rw n at c.loop-byte.invariant in
    let w = code_of b a.zeros (a.lead.width + 8 * ((2 * a.zeros + 1 - a.lead.width + 7) / 8)) c.loop-byte.v v (omega arith) (omega (arith, more, r)) (omega (arith, more, r)) c.requires.6 c.requires.5 in
    rw w.0 (sym (ap number_of (ue_is most a.at b a.zeros some (omega (arith, r)) c.requires.5 (omega (arith, more, r)))))
