-- The wrapper is followed by exactly its bytes, and a fault in it is about the byte there.
use Prim.Native.Nat.{ℕ, ◌+◌, ◌<◌}
use mathlib.Core.Path.{◌≡◌, refl, ap, sym, ◌∙◌}
use mathlib.Core.List.{List, [], ◌∷◌, ◌++◌, map}
use mathlib.Core.Bool.{Bool, true, false, cond}
use mathlib.Core.Logic.{◌⊎◌, inl, inr}
use native.Mathlib.Omega.{arith}
use borrow.Author.Tests.{lt-ltb, le-leb}
use lib.Dec.{eqb, leb}
use lib.ListN.{drop}
use lib.Seq.{drop_at}
use lib.IntN.{pos}
use Rattle.refusals.specs.Refusals.{wrapper_differs}
use Rattle.tree.specs.Bits.{code, bits_of, Bytes}
use Rattle.tree.specs.Reading.{Fault, cut_off, breaks, Out, ok, no, widened}
use Rattle.tree.specs.Coding.{unsigned, fixed}
use Rattle.tree.specs.Syntax.{Syntax, ◌>>=◌, ranged, range_rule, read, read_whole}
use Rattle.tree.specs.Meaning.{Element, element, sum_of_widths, all_bits, complete, Follow, Breaks, AboutLast, Means}
use Rattle.tree.specs.Wrapper.{wrapper_table, read_behind}
use Rattle.tree.proofs.Truth.{clash, range_of_one}
use Rattle.tree.proofs.Bits.{length-code}
use Rattle.tree.proofs.Codes.{same_no}
use Rattle.tree.proofs.Elements.{codes_u, u_short}
use Rattle.tree.proofs.Meaning.{length-all, every_answer_is_true, a_true_answer_is_given}
use Rattle.tree.proofs.Spells.{same_number, ranged_only, ranged_together, done_only}
use Rattle.tree.proofs.Breaks.{breaks_done, breaks_ranged, breaks_then, grow_last, own_last}

module _ {N : Type 0} (name : N) where
  abbrev pub byte_element : ℕ → Element N
  byte_element b = element name (fixed (unsigned 8)) (pos b)

  wrapper_takes : (bs : List ℕ) → Bytes bs → (at : ℕ) → Follow (wrapper_table name bs) at (map byte_element bs) (complete tt)
  unfolding wrapper_table Follow
  wrapper_takes [] h at = (refl, refl)
  wrapper_takes (b ∷ bs) h at =
      let l : leb b b ≡ true = le-leb b b (omega arith) in
      ranged_together name (fixed (unsigned 8)) wrapper_differs (pos b) (pos b) (λ z. wrapper_table name bs) at (pos b) (map byte_element bs) (complete tt) (lt-ltb b 256 h.0) (rw l refl) (wrapper_takes bs h.1 (at + 8))

  wrapper_only : (bs : List ℕ) (at : ℕ) (es : List (Element N)) → Follow (wrapper_table name bs) at es (complete tt) → es ≡ map byte_element bs
  unfolding wrapper_table
  wrapper_only [] at es h = (done_only tt tt at es h).0
  wrapper_only (b ∷ bs) at es h =
      let m = ranged_only name (fixed (unsigned 8)) wrapper_differs (pos b) (pos b) (λ z. wrapper_table name bs) at es tt h in
      m.2 ∙ rw (same_number b m.0 m.4) (ap (λ (l : List (Element N)). byte_element b ∷ l) (wrapper_only bs (at + 8) m.1 m.5))

  -- its bits are those of its bytes
  wrapper_bits : (bs : List ℕ) → all_bits (map byte_element bs) ≡ bits_of bs
  unfolding all_bits bits_of
  wrapper_bits [] = refl
  wrapper_bits (b ∷ bs) = ap (λ (l : List Bool). code 8 b ++ l) (wrapper_bits bs)

  -- 3 is about the byte that was read last, at its own offset
  pub wrapper_speaks : (bs : List ℕ) → Breaks AboutLast (wrapper_table name bs)
  unfolding wrapper_table
  wrapper_speaks [] = breaks_done AboutLast tt
  wrapper_speaks (b ∷ bs) =
      breaks_then AboutLast grow_last (ranged name (fixed (unsigned 8)) wrapper_differs (pos b) (pos b)) (λ z. wrapper_table name bs)
      (breaks_ranged AboutLast name (fixed (unsigned 8)) wrapper_differs (pos b) (pos b) (own_last name (fixed (unsigned 8)) wrapper_differs (pos b) (pos b))) (λ z. wrapper_speaks bs)

  -- and its number is 3
  pub wrapper_number : (bs : List ℕ) → Breaks (λ at es r. r.number ≡ wrapper_differs) (wrapper_table name bs)
  unfolding wrapper_table
  wrapper_number [] = breaks_done (λ at es r. r.number ≡ wrapper_differs) tt
  wrapper_number (b ∷ bs) =
      breaks_then (λ at es r. r.number ≡ wrapper_differs) (λ at es fs r h. h) (ranged name (fixed (unsigned 8)) wrapper_differs (pos b) (pos b)) (λ z. wrapper_table name bs)
      (breaks_ranged (λ at es r. r.number ≡ wrapper_differs) name (fixed (unsigned 8)) wrapper_differs (pos b) (pos b) (λ at z. refl)) (λ z. wrapper_number bs)

  -- it is read byte by byte, as the loop goes: one is missing, or is the one expected, or differs
  pub wrapper_end : (w : ℕ) (ws : List ℕ) (at : ℕ) → read (wrapper_table name (w ∷ ws)) at (bits_of []) ≡ no (cut_off at name)
  unfolding wrapper_table bits_of read ◌>>=◌
  wrapper_end w ws at = rw (u_short name 8 at [] (omega arith)) refl

  pub wrapper_byte_lem : (w : ℕ) (ws : List ℕ) (at b : ℕ) (s : List ℕ) → b < 256
      → read (wrapper_table name (w ∷ ws)) at (bits_of (b ∷ s)) ≡ cond (eqb b w) (widened 8 (read (wrapper_table name ws) (at + 8) (bits_of s))) (no (breaks (range_rule name wrapper_differs (pos w) (pos w) at (pos b))))
  unfolding wrapper_table bits_of read ◌>>=◌
  wrapper_byte_lem w ws at b s h =
      let c = (codes_u name 8 at).takes b h (bits_of s) in
      rw (c, length-code 8 b, drop_at (code 8 b) (bits_of s) 8 (length-code 8 b), range_of_one w b) (go (eqb b w))
    where
      go : (c : Bool) → widened 8 (cond c (read (wrapper_table name ws) (at + 8) (bits_of s)) (no (breaks (range_rule name wrapper_differs (pos w) (pos w) at (pos b)))))
          ≡ cond c (widened 8 (read (wrapper_table name ws) (at + 8) (bits_of s))) (no (breaks (range_rule name wrapper_differs (pos w) (pos w) at (pos b))))
      go true = refl
      go false = refl

  -- wrapped data is accepted exactly if it is the wrapper's bytes and data that is accepted, with the same answer: the wrapper is not counted
  module _ {A : Type 0} (bs : List ℕ) (end : N) (p : Syntax N A) where
    pub behind_the_wrapper : Bytes bs → (t : List Bool) → read_behind name bs end p (bits_of bs ++ t) ≡ read_whole end p t
    behind_the_wrapper h t =
        let es = map byte_element bs in
        let n = sum_of_widths es in
        let b : bits_of bs ++ t ≡ all_bits es ++ t = ap (λ (l : List Bool). l ++ t) (sym (wrapper_bits bs)) in
        let d : drop n (bits_of bs ++ t) ≡ t = ap (drop n) b ∙ drop_at (all_bits es) t n (length-all es) in
        let r : read (wrapper_table name bs) 0 (bits_of bs ++ t) ≡ ok tt n =
        a_true_answer_is_given (wrapper_table name bs) 0 (bits_of bs ++ t) (ok tt n) (es, wrapper_takes bs h 0, b ∙ ap (λ (l : List Bool). all_bits es ++ l) (sym d), refl) in
        rw (r, d) refl

    pub accepted_behind_the_wrapper : (s : List Bool) (a : A) (n : ℕ) → read_behind name bs end p s ≡ ok a n → (t : List Bool) × (s ≡ bits_of bs ++ t) × (read_whole end p t ≡ ok a n)
    accepted_behind_the_wrapper s a n e = go (read (wrapper_table name bs) 0 s) refl
      where
        go : (o : Out N Unit) → read (wrapper_table name bs) 0 s ≡ o → (t : List Bool) × (s ≡ bits_of bs ++ t) × (read_whole end p t ≡ ok a n)
        go (ok x k) q =
            let m : Means (wrapper_table name bs) 0 s (ok x k) = rw q at (every_answer_is_true (wrapper_table name bs) 0 s) in
            let f = wrapper_only bs 0 m.0 m.1 in
            (drop k s, m.2 ∙ ap (λ (l : List Bool). l ++ drop k s) (ap all_bits f ∙ wrapper_bits bs), rw q at e)
        go (no f) q = let x : no f ≡ ok a n = rw q at e in let z : ◌≡◌ {A = ℕ} 0 1 = cc in clash z

    -- and it is refused exactly if a byte of the wrapper is missing or differs, or it is the wrapper's bytes and data that is refused, for the same reason
    pub refused_behind_the_wrapper : (s : List Bool) (f : Fault N) → read_behind name bs end p s ≡ no f
        → Means (wrapper_table name bs) 0 s (no f) ⊎ ((t : List Bool) × (s ≡ bits_of bs ++ t) × (read_whole end p t ≡ no f))
    refused_behind_the_wrapper s f e = go (read (wrapper_table name bs) 0 s) refl
      where
        go : (o : Out N Unit) → read (wrapper_table name bs) 0 s ≡ o → Means (wrapper_table name bs) 0 s (no f) ⊎ ((t : List Bool) × (s ≡ bits_of bs ++ t) × (read_whole end p t ≡ no f))
        go (ok x k) q =
            let m : Means (wrapper_table name bs) 0 s (ok x k) = rw q at (every_answer_is_true (wrapper_table name bs) 0 s) in
            let w = wrapper_only bs 0 m.0 m.1 in
            inr (drop k s, m.2 ∙ ap (λ (l : List Bool). l ++ drop k s) (ap all_bits w ∙ wrapper_bits bs), rw q at e)
        go (no g) q = let x : no g ≡ no f = rw q at e in inl (rw (q ∙ ap no (same_no {A = A} g f x)) at (every_answer_is_true (wrapper_table name bs) 0 s))

    pub behind_the_wrapper_refused : Bytes bs → (s : List Bool) (f : Fault N)
        → Means (wrapper_table name bs) 0 s (no f) ⊎ ((t : List Bool) × (s ≡ bits_of bs ++ t) × (read_whole end p t ≡ no f)) → read_behind name bs end p s ≡ no f
    behind_the_wrapper_refused h s f (inl m) = rw (a_true_answer_is_given (wrapper_table name bs) 0 s (no f) m) refl
    behind_the_wrapper_refused h s f (inr m) = ap (read_behind name bs end p) m.1 ∙ behind_the_wrapper h m.0 ∙ m.2
