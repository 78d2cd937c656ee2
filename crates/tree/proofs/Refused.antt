-- What it means that an element's reader refuses: the input ends within the element, or a ue(v) code has a zero too many.
use Prim.Native.Nat.{ℕ, zero, suc, ◌+◌, ◌-◌, ◌^◌, ◌<◌, ◌≤◌}
use mathlib.Core.Path.{◌≡◌, refl, ap, sym, ◌∙◌}
use mathlib.Core.List.{List, [], ◌∷◌, ◌++◌, append_assoc, append-nil}
use mathlib.Core.Bool.{Bool, true, false}
use mathlib.Core.Logic.{◌⊎◌, inl, inr}
use native.Mathlib.Omega.{arith}
use borrow.Author.Tests.{leb-false, ltb-true, ltb-false, le-ltb, lt-ltb}
use lib.Dec.{leb, ltb}
use lib.IntN.{ℤ, pos}
use lib.ListN.{length, take, drop, replicate, length-append, length-replicate, drop_of_length-le}
use lib.Seq.{drop_at}
use Rattle.tree.specs.Bits.{value}
use Rattle.tree.specs.Reading.{Fault, cut_off, overlong, Out, ok, no, mapped, signed_of, u, i, ue, zeros_then_one}
use Rattle.tree.specs.Coding.{Descriptor, variable, fixed, unsigned, signed, coded, code_in, most_zeros}
use Rattle.tree.specs.Meaning.{CutOff, TooMany}
use Rattle.tree.proofs.Codes.{no_not_ok, ok_not_no, same_no}
use Rattle.tree.proofs.Elements.{u_ok, codes_coded, codes_zeros_one, zeros_one}

-- ---- what makes the readers refuse

refused_u : {N : Type 0} (name : N) (n at : ℕ) (s : List Bool) (f : Fault N) → u name n at s ≡ no f → (f ≡ cut_off at name) × (length s < n)
unfolding u
refused_u {N} name n at s f e = go (leb n (length s)) refl
  where
    go : (b : Bool) → leb n (length s) ≡ b → (f ≡ cut_off at name) × (length s < n)
    go true q = ok_not_no (rw q at e)
    go false q = let x : no (cut_off at name) ≡ no f = rw q at e in (sym (same_no {A = ℕ} (cut_off at name) f x), leb-false n (length s) q)

refused_mapped : {N A B : Type 0} (h : A → B) (o : Out N A) (f : Fault N) → mapped h o ≡ no f → o ≡ no f
refused_mapped h (ok a n) f e = ok_not_no e
refused_mapped {N} {A} {B} h (no w) f e = ap no (same_no {A = B} w f e)

-- the zeros of a ue(v) code: none but zeros are there, or one too many
ZerosOnly : {N : Type 0} → N → ℕ → ℕ → ℕ → List Bool → Fault N → Type 0
ZerosOnly name most at k s f = (j : ℕ) × (f ≡ cut_off at name) × (k + j ≤ most) × (s ≡ replicate j false)

OneTooMany : {N : Type 0} → N → ℕ → ℕ → ℕ → List Bool → Fault N → Type 0
OneTooMany name most at k s f = (rest : List Bool) × (f ≡ overlong at name) × (s ≡ replicate (most - k) false ++ (false ∷ rest))

refused_zeros : {N : Type 0} (name : N) (most at k : ℕ) (s : List Bool) (f : Fault N) → k ≤ most → zeros_then_one name most at k s ≡ no f
    → ZerosOnly name most at k s f ⊎ OneTooMany name most at k s f
unfolding zeros_then_one ZerosOnly OneTooMany
refused_zeros name most at k [] f h e = inl (0, sym (same_no {A = ℕ} (cut_off at name) f e), omega arith, refl)
refused_zeros name most at k (true ∷ s) f h e = ok_not_no e
refused_zeros {N} name most at k (false ∷ s) f h e = go (refused_zeros name most at (k + 1) s f) (ltb k most) refl
  where
    more_zeros : k < most → ZerosOnly name most at (k + 1) s f ⊎ OneTooMany name most at (k + 1) s f → ZerosOnly name most at k (false ∷ s) f ⊎ OneTooMany name most at k (false ∷ s) f
    more_zeros l (inl z) = inl (suc z.0, z.1, omega (arith, z.2), ap (λ (x : List Bool). false ∷ x) z.3)
    more_zeros l (inr z) =
        let m : most - k ≡ suc (most - (k + 1)) = omega arith in
        inr (z.0, z.1, rw m (ap (λ (x : List Bool). false ∷ x) z.2))

    go : (k + 1 ≤ most → zeros_then_one name most at (k + 1) s ≡ no f → ZerosOnly name most at (k + 1) s f ⊎ OneTooMany name most at (k + 1) s f)
        → (b : Bool) → ltb k most ≡ b → ZerosOnly name most at k (false ∷ s) f ⊎ OneTooMany name most at k (false ∷ s) f
    go further true q = let l = ltb-true k most q in more_zeros l (further (omega arith) (rw q at e))
    go further false q =
        let l = ltb-false k most q in
        let m : most - k ≡ 0 = omega arith in
        let x : no (overlong at name) ≡ no f = rw q at e in
        inr (s, sym (same_no {A = ℕ} (overlong at name) f x), rw m refl)

-- ---- bits that an element can be completed from

completed : {N : Type 0} (d : Descriptor) (name : N) (at : ℕ) (s m : List Bool) (z : ℤ) (k : ℕ) → coded d name at (s ++ m) ≡ ok z k → k ≡ length (s ++ m) → 0 < length m → CutOff d s
completed d name at s m z k e l h =
    let c = (codes_coded d name at).only (s ++ m) z k e in
    let n : length (s ++ m) ≤ k = omega arith in
    let r : drop k (s ++ m) ≡ [] = drop_of_length-le (s ++ m) n in
    record { value = z; missing = m; held = c.0; begun = c.1 ∙ rw r (append-nil (code_in d z)); some = h }

-- a number of n bits
cut_u : {N : Type 0} (name : N) (n at : ℕ) (s : List Bool) → length s < n
    → (m : List Bool) × (0 < length m) × (n ≡ length (s ++ m)) × (u name n at (s ++ m) ≡ ok (value (take n (s ++ m))) n)
cut_u name n at s h =
    let m = replicate (n - length s) false in
    let l : n ≡ length (s ++ m) = omega (arith, length-append s m, length-replicate (n - length s) false) in
    (m, omega (arith, length-replicate (n - length s) false), l, u_ok name n at (s ++ m) (omega arith))

-- a whole ue(v) code
whole_ue : {N : Type 0} (name : N) (most at k : ℕ) (y : List Bool) → k ≤ most → length y ≡ k
    → ue name most at (zeros_one k ++ y) ≡ ok (2 ^ k - 1 + value (take k y)) (length (zeros_one k) + k)
unfolding ue
whole_ue name most at k y h l = rw ((codes_zeros_one name at most).takes k h y, drop_at (zeros_one k) y (length (zeros_one k)) refl, u_ok name k at y (omega arith))

cut_ue : {N : Type 0} (name : N) (at k : ℕ) (s m y : List Bool) → k ≤ most_zeros → length y ≡ k → s ++ m ≡ zeros_one k ++ y → 0 < length m → CutOff variable s
cut_ue name at k s m y h l e some =
    let r : ue name most_zeros at (s ++ m) ≡ ok (2 ^ k - 1 + value (take k y)) (length (zeros_one k) + k) = ap (ue name most_zeros at) e ∙ whole_ue name most_zeros at k y h l in
    let n : length (zeros_one k) + k ≡ length (s ++ m) = omega (arith, ap length e, length-append (zeros_one k) y) in
    completed variable name at s m (pos (2 ^ k - 1 + value (take k y))) (length (zeros_one k) + k) (rw r refl) n some

Why : {N : Type 0} → Descriptor → N → ℕ → List Bool → Fault N → Type 0
Why d name at s f = ((f ≡ cut_off at name) × CutOff d s) ⊎ ((f ≡ overlong at name) × TooMany d s)

why_ue : {N : Type 0} (name : N) (at : ℕ) (s : List Bool) (f : Fault N) → ue name most_zeros at s ≡ no f → Why variable name at s f
unfolding ue Why ZerosOnly OneTooMany
why_ue {N} name at s f e = go (zeros_then_one name most_zeros at 0 s) refl
  where
    first : ZerosOnly name most_zeros at 0 s f ⊎ OneTooMany name most_zeros at 0 s f → Why variable name at s f
    first (inl z) =
        let j = z.0 in
        let x : s ++ (true ∷ replicate j false) ≡ zeros_one j ++ replicate j false = rw z.3 (sym (append_assoc (replicate j false) (true ∷ []) (replicate j false))) in
        inl (z.1, cut_ue name at j s (true ∷ replicate j false) (replicate j false) (omega (arith, z.2)) (length-replicate j false) x (omega arith))
    first (inr z) = inr (z.1, record { code = refl; rest = z.0; zeros = z.2 })

    go : (o : Out N ℕ) → zeros_then_one name most_zeros at 0 s ≡ o → Why variable name at s f
    go (no w) q =
        let x : no w ≡ no f = rw q at e in
        first (refused_zeros name most_zeros at 0 s f (omega arith) (q ∙ ap no (same_no {A = ℕ} w f x)))
    go (ok k m) q = behind (u name k at (drop m s)) refl
      where
        behind : (o : Out N ℕ) → u name k at (drop m s) ≡ o → Why variable name at s f
        behind (ok v n) r = ok_not_no (rw (q, r) at e)
        behind (no w) r =
            let x : no w ≡ no f = rw (q, r) at e in
            let b = refused_u name k at (drop m s) f (r ∙ ap no (same_no {A = ℕ} w f x)) in
            let c = (codes_zeros_one name at most_zeros).only s k m q in
            let y = cut_u name k at (drop m s) b.1 in
            let j : s ++ y.0 ≡ zeros_one k ++ (drop m s ++ y.0) = ap (λ (l : List Bool). l ++ y.0) c.1 ∙ append_assoc (zeros_one k) (drop m s) y.0 in
            inl (b.0, cut_ue name at k s y.0 (drop m s ++ y.0) c.0 (sym y.2) j y.1)

-- fewer than n bits are the beginning of a field of n
pub cut_off_field : {N : Type 0} (name : N) (n at : ℕ) (s : List Bool) → length s < n → CutOff (fixed (unsigned n)) s
cut_off_field name n at s h =
    let y = cut_u name n at s h in
    completed (fixed (unsigned n)) name at s y.0 (pos (value (take n (s ++ y.0)))) n (rw y.3 refl) y.2 y.1

-- why an element's reader refuses
pub refused_coded : {N : Type 0} (d : Descriptor) (name : N) (at : ℕ) (s : List Bool) (f : Fault N) → coded d name at s ≡ no f
    → ((f ≡ cut_off at name) × CutOff d s) ⊎ ((f ≡ overlong at name) × TooMany d s)
unfolding Why i
refused_coded variable name at s f e = why_ue name at s f (refused_mapped pos (ue name most_zeros at s) f e)
refused_coded (fixed (unsigned n)) name at s f e =
    let b = refused_u name n at s f (refused_mapped pos (u name n at s) f e) in
    inl (b.0, cut_off_field name n at s b.1)
refused_coded (fixed (signed n)) name at s f e =
    let b = refused_u name n at s f (refused_mapped (signed_of n) (u name n at s) f e) in
    let y = cut_u name n at s b.1 in
    inl (b.0, completed (fixed (signed n)) name at s y.0 (signed_of n (value (take n (s ++ y.0)))) n (rw y.3 refl) y.2 y.1)

-- ---- and that it refuses where it should

many_zeros : {N : Type 0} (name : N) (most at k j : ℕ) (t : List Bool) → k + j ≡ most → zeros_then_one name most at k (replicate j false ++ (false ∷ t)) ≡ no (overlong at name)
unfolding zeros_then_one
many_zeros name most at k zero t h = rw (le-ltb k most (omega arith))
many_zeros name most at k (suc j) t h = rw (lt-ltb k most (omega arith)) (many_zeros name most at (k + 1) j t (omega arith))

pub gets_too_many : {N : Type 0} (d : Descriptor) (name : N) (at : ℕ) (t : List Bool) → TooMany d t → coded d name at t ≡ no (overlong at name)
unfolding ue
gets_too_many d name at t c = rw (c.code, c.zeros, many_zeros name most_zeros at 0 most_zeros c.rest refl)

pub gets_cut_off : {N : Type 0} (d : Descriptor) (name : N) (at : ℕ) (t : List Bool) → CutOff d t → coded d name at t ≡ no (cut_off at name)
gets_cut_off {N} d name at t c = go (coded d name at t) refl
  where
    read_whole : (r : List Bool) → coded d name at ((t ++ c.missing) ++ r) ≡ ok c.value (length (code_in d c.value))
    read_whole r = rw c.begun ((codes_coded d name at).takes c.value c.held r)

    not_many : TooMany d t → ⊥
    not_many m =
        let x : coded d name at ((t ++ c.missing) ++ []) ≡ no (overlong at name) = gets_too_many d name at ((t ++ c.missing) ++ []) (record {
          code = m.code;
          rest = m.rest ++ (c.missing ++ []);
          zeros = append_assoc t c.missing [] ∙ ap (λ (l : List Bool). l ++ (c.missing ++ [])) m.zeros ∙ append_assoc (replicate most_zeros false) (false ∷ m.rest) (c.missing ++ []);
        }) in
        no_not_ok (sym x ∙ read_whole [])

    by_why : (w : Fault N) → coded d name at t ≡ no w → ((w ≡ cut_off at name) × CutOff d t) ⊎ ((w ≡ overlong at name) × TooMany d t) → coded d name at t ≡ no (cut_off at name)
    by_why w q (inl x) = q ∙ ap no x.0
    by_why w q (inr x) = absurd (not_many x.1)

    go : (o : Out N ℤ) → coded d name at t ≡ o → coded d name at t ≡ no (cut_off at name)
    go (ok z n) q =
        let a = (codes_coded d name at).only t z n q in
        let r = drop n t in
        let s : (t ++ c.missing) ++ [] ≡ code_in d z ++ (r ++ (c.missing ++ [])) =
        append_assoc t c.missing [] ∙ ap (λ (l : List Bool). l ++ (c.missing ++ [])) a.1 ∙ append_assoc (code_in d z) r (c.missing ++ []) in
        let x : ok c.value (length (code_in d c.value)) ≡ ok z (length (code_in d z)) =
        sym (read_whole []) ∙ ap (coded d name at) s ∙ (codes_coded d name at).takes z a.0 (r ++ (c.missing ++ [])) in
        let y : length (code_in d c.value) ≡ length (code_in d z) = cc in
        absurd (omega (arith, y, ap length c.begun, length-append t c.missing, c.some, ap length a.1, length-append (code_in d z) r))
    go (no w) q = by_why w q (refused_coded d name at t w q)
