-- Laws by which the functions that read meet their definitions.
use Prim.Native.Nat.{ℕ, zero, suc, ◌+◌, ◌-◌, ◌*◌, ◌/◌, ◌%◌, ◌^◌, ◌<◌, ◌≤◌}
use mathlib.Core.Path.{◌≡◌, refl, ap, sym, ◌∙◌}
use mathlib.Core.List.{List, [], ◌∷◌, ◌++◌, append_assoc}
use mathlib.Core.Bool.{Bool, true, false}
use native.Mathlib.Omega.{arith}
use native.Mathlib.Nat.{add-zero, div-one, zero-div}
use native.Mathlib.Numerals.{add-one}
use lib.ListN.{length, get_or, take, drop, replicate, length-take, length-drop, take-append-drop, drop_of_length-le}
use lib.IntN.{pos}
use lib.Pow.{pow_pos}
use lib.Seq.{drop-drop}
use borrow.Author.Tests.{le-ltb}
use Rattle.refusals.specs.Refusals.{not_zero}
use Rattle.refusals.specs.Numbered.{refusal_of, number_of as refusal_number}
use Rattle.tree.specs.Bits.{code, bits_of, value}
use Rattle.tree.specs.Reading.{Rule, Fault, number_in, element_in, Out, ok, no, widened, mapped, cut_off, overlong, breaks, u, zeros_then_one, ue, and_then}
use Rattle.tree.specs.Coding.{unsigned, variable, fixed, most_zeros}
use Rattle.tree.specs.Syntax.{range_rule, read, zero_bits}
use Rattle.tree.specs.Meaning.{Element, Means, Breaks}
use Rattle.tree.specs.Renamed.{renamed}
use Rattle.tree.proofs.Bits.{length_bits, code-value, code-zero}
use Rattle.tree.proofs.Meaning.{every_answer_is_true}
use Rattle.tree.proofs.Breaks.{breaks_zeros}
use Rattle.tree.proofs.Elements.{u_ok, u_short, zeros_one, length_zeros_one, codes_zeros_one, zero_more}
use Rattle.tree.proofs.Renamed.{renamed-u, renamed-ue}
use Rattle.tree.proofs.Names.{coded_named, fault_is_named, names_zeros}
use Rattle.tree.proofs.Steps as steps
use Rattle.window.specs.Bytes.{bytes_number}
use Rattle.window.proofs.Laws.{joined, front, number_one, byte_is_bits, bits_in_bytes}
use Rattle.std.specs.Prelude.{Result, Ok, Err, cond, leb, ltb}
use Rattle.bits.specs.declared.Number.{Number}
use Rattle.bits.specs.declared.Unread.{Unread}
use Rattle.bits.specs.Answer.{nameless, unread_as, read_as, number_of, span_of}

-- what an answer says of the reading that it is of
pub is_ok : {N : Type 0} (o : Out N ℕ) (v n : ℕ) → Ok (read_as v n) ≡ number_of o → o ≡ ok v n
is_ok (ok a m) v n e =
    let q : read_as v n ≡ read_as a m = cc in
    let x : v ≡ a = ap (λ (r : Number). r.value) q in
    let y : n ≡ m = ap (λ (r : Number). r.width) q in
    rw (x, y)
is_ok (no f) v n e = let z : ◌≡◌ {A = ℕ} 0 1 = cc in absurd (omega arith)

-- a fault, by what is told of it
abbrev pub Told : {N A : Type 0} → Out N A → Unread → Type 0
Told {N} o u = (f : Fault N) × (o ≡ no f) × (u ≡ unread_as f)

pub is_no : {N : Type 0} (o : Out N ℕ) (u : Unread) → Err u ≡ number_of o → Told o u
is_no (ok a m) u e = let z : ◌≡◌ {A = ℕ} 0 1 = cc in absurd (omega arith)
is_no (no f) u e = (f, refl, cc)

-- the same of zero bits
pub spans_ok : {N : Type 0} (o : Out N (Unit {0})) (v n : ℕ) → Ok (read_as v n) ≡ span_of o → o ≡ ok tt n
spans_ok (ok a m) v n e = let q : read_as v n ≡ read_as 0 m = cc in let x : n ≡ m = ap (λ (r : Number). r.width) q in rw x
spans_ok (no f) v n e = let z : ◌≡◌ {A = ℕ} 0 1 = cc in absurd (omega arith)

pub spans_no : {N : Type 0} (o : Out N (Unit {0})) (u : Unread) → Err u ≡ span_of o → Told o u
spans_no (ok a m) u e = let z : ◌≡◌ {A = ℕ} 0 1 = cc in absurd (omega arith)
spans_no (no f) u e = (f, refl, cc)

-- ---- the name makes no difference to an answer

answer_renamed : {N : Type 0} (g : Unit {0} → N) (o : Out (Unit {0}) ℕ) → number_of (renamed g o) ≡ number_of o
answer_renamed g (ok v n) = refl
answer_renamed g (no (cut_off at n)) = refl
answer_renamed g (no (overlong at n)) = refl
answer_renamed g (no (breaks r)) = refl

module _ {N : Type 0} (name : N) (at : ℕ) (s : List Bool) where
  abbrev called : Unit {0} → N
  called u = name

  pub named_u : (n : ℕ) → number_of (u nameless n at s) ≡ number_of (u name n at s)
  named_u n = sym (ap number_of (renamed-u called nameless n at s) ∙ answer_renamed called (u nameless n at s))

  pub named_ue : (most : ℕ) → number_of (ue nameless most at s) ≡ number_of (ue name most at s)
  named_ue most = sym (ap number_of (renamed-ue called nameless most at s) ∙ answer_renamed called (ue nameless most at s))

-- an answer behind n bits
abbrev further : ℕ → Result Number Unread → Result Number Unread
further n (Ok r) = Ok (read_as r.value (n + r.width))
further n (Err u) = Err u

span_widened : {N : Type 0} (n : ℕ) (o : Out N (Unit {0})) → span_of (widened n o) ≡ further n (span_of o)
span_widened n (ok z m) = refl
span_widened n (no f) = refl

pub named_zeros : {N : Type 0} (name : N) (n at : ℕ) (s : List Bool) → span_of (read (zero_bits nameless n) at s) ≡ span_of (read (zero_bits name n) at s)
unfolding read zero_bits
named_zeros name zero at s = refl
named_zeros name (suc n) at [] = ap span_of (steps.zeros_end nameless n at) ∙ sym (ap span_of (steps.zeros_end name n at))
named_zeros name (suc n) at (true ∷ s) = ap span_of (steps.zeros_one_lem nameless n at s) ∙ sym (ap span_of (steps.zeros_one_lem name n at s))
named_zeros name (suc n) at (false ∷ s) =
    ap span_of (steps.zeros_zero nameless n at s) ∙ span_widened 1 (read (zero_bits nameless n) (at + 1) s) ∙ ap (further 1) (named_zeros name n (at + 1) s)
    ∙ sym (ap span_of (steps.zeros_zero name n at s) ∙ span_widened 1 (read (zero_bits name n) (at + 1) s))

-- ---- a refusal, to who knows the name

-- a fault of that element, by what is told of it
abbrev pub ToldOf : {N A : Type 0} → Out N A → N → Unread → Type 0
ToldOf {N} o name u = (f : Fault N) × (o ≡ no f) × (name ≡ element_in f) × (u ≡ unread_as f)

module _ {N : Type 0} (name : N) (at : ℕ) (s : List Bool) (why : Unread) where
  abbrev Own : N → Type 0
  Own n = name ≡ n

  pub refused_u : (n : ℕ) → Err why ≡ number_of (u nameless n at s) → ToldOf (u name n at s) name why
  refused_u n e = go (is_no (u name n at s) why (e ∙ named_u name at s n))
    where
      go : Told (u name n at s) why → ToldOf (u name n at s) name why
      go (f, q, x) = (f, q, coded_named Own (fixed (unsigned n)) name at s f refl (ap (mapped pos) q), x)

  pub refused_ue : Err why ≡ number_of (ue nameless most_zeros at s) → ToldOf (ue name most_zeros at s) name why
  refused_ue e = go (is_no (ue name most_zeros at s) why (e ∙ named_ue name at s most_zeros))
    where
      go : Told (ue name most_zeros at s) why → ToldOf (ue name most_zeros at s) name why
      go (f, q, x) = (f, q, coded_named Own variable name at s f refl (ap (mapped pos) q), x)

  pub refused_zeros : (n : ℕ) → Err why ≡ span_of (read (zero_bits nameless n) at s) → ToldOf (read (zero_bits name n) at s) name why
  refused_zeros n e = go (spans_no (read (zero_bits name n) at s) why (e ∙ named_zeros name n at s))
    where
      go : Told (read (zero_bits name n) at s) why → ToldOf (read (zero_bits name n) at s) name why
      go (f, q, x) = (f, q, fault_is_named Own (zero_bits name n) at s f (names_zeros Own name n refl) q, x)

-- ---- bits by the bytes that they lie in

module _ (s : List ℕ) (bytes : (i : ℕ) → get_or s i 0 < 256) (at : ℕ) where
  -- what is left of a byte from a position on: its head is cut off
  pub rest_of_byte : at / 8 < length s → (power : ℕ) → power ≡ 2 ^ (8 - at % 8) → get_or s (at / 8) 0 % power ≡ value (take (8 - at % 8) (drop at (bits_of s)))
  rest_of_byte h power p =
      let e : 8 * 1 - (at % 8 + (8 - at % 8)) ≡ 0 = omega arith in
      rw p (ap (λ (v : ℕ). v % 2 ^ (8 - at % 8)) (number_one s (at / 8) ∙ sym (div-one (bytes_number s (at / 8) 1)) ∙ ap (λ (k : ℕ). bytes_number s (at / 8) 1 / 2 ^ k) (sym e)))
      ∙ bits_in_bytes s bytes at (8 - at % 8) 1 (omega arith) (omega arith)

  -- n bits that end before byte i, and that byte
  pub byte_more : (n i : ℕ) → at + n ≡ 8 * i → i < length s → value (take n (drop at (bits_of s))) * 256 + get_or s i 0 ≡ value (take (n + 8) (drop at (bits_of s)))
  byte_more n i e h =
      let l : n + 8 ≤ length (drop at (bits_of s)) = omega (arith, length-drop at (bits_of s), length_bits s) in
      let d : value (take 8 (drop n (drop at (bits_of s)))) ≡ get_or s i 0 = ap (λ (t : List Bool). value (take 8 t)) (drop-drop n at (bits_of s) ∙ ap (λ (p : ℕ). drop p (bits_of s)) e) ∙ byte_is_bits s bytes i h in
      sym (joined (drop at (bits_of s)) n 8 l ∙ rw d refl)

-- ---- zeros, and the first one behind them, by the number that bits are

module _ (l : List Bool) where
  -- bits that are 0 are zeros
  pub all_zeros_lem : (m : ℕ) → m ≤ length l → value (take m l) ≡ 0 → l ≡ replicate m false ++ drop m l
  all_zeros_lem m h e =
      let c = code-value m (take m l) (omega (arith, length-take m l)) in
      sym (ap (λ (t : List Bool). t ++ drop m l) (sym (code-zero m) ∙ ap (code m) (sym e) ∙ c) ∙ take-append-drop m l)

  -- bits that are 1 are zeros and a one
  zeros_and_one : (k : ℕ) → k + 1 ≤ length l → value (take (k + 1) l) ≡ 1 → l ≡ zeros_one k ++ drop (k + 1) l
  unfolding code
  zeros_and_one k h e =
      let c = code-value (k + 1) (take (k + 1) l) (omega (arith, length-take (k + 1) l)) in
      let o : code (k + 1) 1 ≡ zeros_one k = rw (add-one k, code-zero k) in
      sym (ap (λ (t : List Bool). t ++ drop (k + 1) l) (sym o ∙ ap (code (k + 1)) (sym e) ∙ c) ∙ take-append-drop (k + 1) l)

-- ---- ue(v)

-- zeros that are past
zeros_past : (most at m j : ℕ) (t : List Bool) → j + m ≤ most → zeros_then_one nameless most at j (replicate m false ++ t) ≡ zeros_then_one nameless most at (j + m) t
zeros_past most at zero j t h = rw (add-zero j)
zeros_past most at (suc m) j t h =
    let e : j + 1 + m ≡ j + suc m = omega arith in
    zero_more nameless most at j (replicate m false ++ t) (omega arith) ∙ (rw e at (zeros_past most at m (j + 1) t (omega arith)))

zeros_too_many : (most at m j : ℕ) (t : List Bool) → j + m ≡ most → zeros_then_one nameless most at j (replicate (suc m) false ++ t) ≡ no (overlong at nameless)
unfolding zeros_then_one
zeros_too_many most at zero j t h = rw (le-ltb j most (omega arith))
zeros_too_many most at (suc m) j t h =
    zero_more nameless most at j (replicate (suc m) false ++ t) (omega arith) ∙ zeros_too_many most at m (j + 1) t (omega arith)

module _ (most at : ℕ) (l : List Bool) where
  ue_of : (g : Fault (Unit {0})) → zeros_then_one nameless most at 0 l ≡ no g → ue nameless most at l ≡ no g
  unfolding ue
  ue_of g e = rw e refl

  -- the input ends among the zeros
  pub ue_end : (n : ℕ) → length l ≡ n → n ≤ most → value (take n l) ≡ 0 → ue nameless most at l ≡ no (cut_off at nameless)
  unfolding zeros_then_one
  ue_end n f h e =
      let d : drop n l ≡ [] = drop_of_length-le l {i = n} (omega arith) in
      let z : l ≡ replicate n false ++ [] = all_zeros_lem l n (omega arith) e ∙ ap (λ (t : List Bool). replicate n false ++ t) d in
      ue_of (cut_off at nameless) (ap (zeros_then_one nameless most at 0) z ∙ zeros_past most at n 0 [] (omega arith))

  -- one zero too many
  pub ue_overlong : (m : ℕ) → most < m → m ≤ length l → value (take m l) ≡ 0 → ue nameless most at l ≡ no (overlong at nameless)
  ue_overlong m k h e =
      let f : value (take (suc most) l) ≡ 0 = sym (front l m (suc most) (omega arith) h) ∙ rw e (zero-div (2 ^ (m - suc most))) in
      ue_of (overlong at nameless) (ap (zeros_then_one nameless most at 0) (all_zeros_lem l (suc most) (omega arith) f) ∙ zeros_too_many most at most 0 (drop (suc most) l) (omega arith))

  -- k zeros and the one
  module _ (k : ℕ) (few : k ≤ most) (there : k + 1 ≤ length l) (one : value (take (k + 1) l) ≡ 1) where
    zeros_read : zeros_then_one nameless most at 0 l ≡ ok k (k + 1)
    zeros_read =
        ap (zeros_then_one nameless most at 0) (zeros_and_one l k there one) ∙ (codes_zeros_one nameless at most).takes k few (drop (k + 1) l)
        ∙ ap (ok k) (length_zeros_one k)

    -- the input ends among the bits behind them
    pub ue_cut : length l < 2 * k + 1 → ue nameless most at l ≡ no (cut_off at nameless)
    unfolding ue
    ue_cut h = rw (zeros_read, u_short nameless k at (drop (k + 1) l) (omega (arith, length-drop (k + 1) l))) refl

    -- the code is complete: its number is one less than what all of its bits are
    pub ue_is : 2 * k + 1 ≤ length l → ue nameless most at l ≡ ok (value (take (2 * k + 1) l) - 1) (2 * k + 1)
    unfolding ue
    ue_is h =
        let w : k + 1 + k ≡ 2 * k + 1 = omega arith in
        let j = joined l (k + 1) k (omega arith) in
        let n : 2 ^ k - 1 + value (take k (drop (k + 1) l)) ≡ value (take (2 * k + 1) l) - 1 = omega (arith, rw (w, one) at j, pow_pos k) in
        rw (zeros_read, u_ok nameless k at (drop (k + 1) l) (omega (arith, length-drop (k + 1) l)), w, n) refl

pub widened_twice : {N A : Type 0} (m n : ℕ) (o : Out N A) → widened m (widened n o) ≡ widened (m + n) o
widened_twice m n (ok a j) = let e : m + (n + j) ≡ m + n + j = omega arith in rw e
widened_twice m n (no r) = refl

pub widened_none : {N A : Type 0} (o : Out N A) → widened 0 o ≡ o
widened_none (ok a j) = let e : 0 + j ≡ j = omega arith in rw e
widened_none (no r) = refl

-- ---- zero bits

-- those that are past
zero_bits_past : (m n at : ℕ) (t : List Bool) → m ≤ n → read (zero_bits nameless n) at (replicate m false ++ t) ≡ widened m (read (zero_bits nameless (n - m)) (at + m) t)
zero_bits_past zero n at t h =
    let e : n - 0 ≡ n = omega arith in
    rw (e, add-zero at) (sym (widened_none (read (zero_bits nameless n) at t)))
zero_bits_past (suc m) zero at t h = absurd (omega arith)
zero_bits_past (suc m) (suc n) at t h =
    let e : at + 1 + m ≡ at + suc m = omega arith in
    let d : suc n - suc m ≡ n - m = omega arith in
    let w : suc m ≡ 1 + m = omega arith in
    steps.zeros_zero nameless n at (replicate m false ++ t) ∙ ap (widened 1) (zero_bits_past m n (at + 1) t (omega arith))
    ∙ widened_twice 1 m (read (zero_bits nameless (n - m)) (at + 1 + m) t) ∙ rw (d, e, w) refl

module _ (n at : ℕ) (l : List Bool) where
  -- m of them are zeros
  pub zeros_go_on : (m : ℕ) → m ≤ n → m ≤ length l → value (take m l) ≡ 0 → read (zero_bits nameless n) at l ≡ widened m (read (zero_bits nameless (n - m)) (at + m) (drop m l))
  zeros_go_on m h k e = ap (read (zero_bits nameless n) at) (all_zeros_lem l m k e) ∙ zero_bits_past m n at (drop m l) h

  -- the input ends among them
  pub zeros_end : (m : ℕ) → length l ≡ m → m < n → value (take m l) ≡ 0 → read (zero_bits nameless n) at l ≡ no (cut_off (at + m) nameless)
  zeros_end m f h e =
      let d : drop m l ≡ [] = drop_of_length-le l {i = m} (omega arith) in
      let k : n - m ≡ suc (n - m - 1) = omega arith in
      zeros_go_on m (omega arith) (omega arith) e ∙ rw (d, k, steps.zeros_end nameless (n - m - 1) (at + m)) refl

-- the first one among them, behind k zeros
pub zeros_broken : (n at k : ℕ) (l : List Bool) → k < n → k + 1 ≤ length l → value (take (k + 1) l) ≡ 1
    → read (zero_bits nameless n) at l ≡ no (breaks (range_rule nameless not_zero (pos 0) (pos 0) (at + k) (pos 1)))
zeros_broken n at k l h j e =
    let d : n - k ≡ suc (n - k - 1) = omega arith in
    let z : l ≡ replicate k false ++ (true ∷ drop (k + 1) l) = zeros_and_one l k j e ∙ append_assoc (replicate k false) (true ∷ []) (drop (k + 1) l) in
    ap (read (zero_bits nameless n) at) z ∙ zero_bits_past k n at (true ∷ drop (k + 1) l) (omega arith)
    ∙ rw (d, steps.zeros_one_lem nameless (n - k - 1) (at + k) (drop (k + 1) l)) refl

-- ---- the number of a refusal

-- an answer without a fault, or with one whose number has its own refusal
abbrev Numbered : {N A : Type 0} → Out N A → Type 0
Numbered (ok a n) = Unit {0}
Numbered (no f) = refusal_number (refusal_of (number_in f)) ≡ number_in f

-- one of two such answers is one
numbered_if : {N A : Type 0} (b : Bool) (o p : Out N A) → Numbered o → Numbered p → Numbered (cond b o p)
numbered_if true o p x y = x
numbered_if false o p x y = y

-- such an answer stays one behind bits that are taken already, and with another value
numbered_behind : {N : Type 0} (n : ℕ) (g : ℕ → ℕ) (o : Out N ℕ) → Numbered o → Numbered (widened n (mapped g o))
numbered_behind n g (ok a m) x = tt
numbered_behind n g (no f) x = x

module _ {N : Type 0} (name : N) where
  -- u(n) can only be cut off
  u_numbered : (n at : ℕ) (s : List Bool) → Numbered (u name n at s)
  unfolding u
  u_numbered n at s = numbered_if (leb n (length s)) (ok (value (take n s)) n) (no (cut_off at name)) tt refl

  -- the zeros of a ue(v) code can be cut off or one too many
  zeros_numbered : (most at k : ℕ) (s : List Bool) → Numbered (zeros_then_one name most at k s)
  unfolding zeros_then_one
  zeros_numbered most at k [] = refl
  zeros_numbered most at k (true ∷ s) = tt
  zeros_numbered most at k (false ∷ s) = numbered_if (ltb k most) (zeros_then_one name most at (k + 1) s) (no (overlong at name)) (zeros_numbered most at (k + 1) s) refl

  -- behind them the code is a u(k)
  ue_numbered : (most at : ℕ) (s : List Bool) → Numbered (ue name most at s)
  unfolding ue
  ue_numbered most at s = go (zeros_then_one name most at 0 s) (zeros_numbered most at 0 s)
    where
      go : (o : Out N ℕ) → Numbered o → Numbered (and_then o (λ k past t. mapped (λ v. 2 ^ k - 1 + v) (u name k at t)) at s)
      go (ok k m) x = numbered_behind m (λ v. 2 ^ k - 1 + v) (u name k at (drop m s)) (u_numbered k at (drop m s))
      go (no f) x = x

  -- a number of n bits is refused by a number that has its own refusal
  pub u_is_named : (n at : ℕ) (s : List Bool) (f : Fault N) → u name n at s ≡ no f → refusal_number (refusal_of (number_in f)) ≡ number_in f
  u_is_named n at s f e = rw e at (u_numbered n at s)

  -- so is a ue(v) code
  pub ue_is_named : (most at : ℕ) (s : List Bool) (f : Fault N) → ue name most at s ≡ no f → refusal_number (refusal_of (number_in f)) ≡ number_in f
  ue_is_named most at s f e = rw e at (ue_numbered most at s)

  -- and so are zero bits, of which the only rule is that each is zero
  pub zeros_are_named : (n at : ℕ) (s : List Bool) (f : Fault N) → read (zero_bits name n) at s ≡ no f → refusal_number (refusal_of (number_in f)) ≡ number_in f
  zeros_are_named n at s (cut_off offset x) e = refl
  zeros_are_named n at s (overlong offset x) e = refl
  zeros_are_named n at s (breaks r) e =
      let m : Means (zero_bits name n) at s (no (breaks r)) = rw e at (every_answer_is_true (zero_bits name n) at s) in
      rw (each_not_zero at m.0 r m.2) refl
    where
      IsNotZero : ℕ → List (Element N) → Rule N → Type 0
      IsNotZero there es q = q.number ≡ not_zero

      each_not_zero : Breaks IsNotZero (zero_bits name n)
      each_not_zero = breaks_zeros IsNotZero (λ there es fs q h. h) name (λ there z. refl) n
