-- The first failure decides: whatever follows, a refusal stands unless the input was cut off. For every table.
use Prim.Native.Nat.{ℕ, ◌+◌, ◌/◌, ◌≤◌}
use mathlib.Core.Path.{◌≡◌, refl, ap, sym, ◌∙◌}
use mathlib.Core.List.{List, ◌∷◌, ◌++◌, append_assoc}
use mathlib.Core.Bool.{Bool, true, false}
use mathlib.Core.Logic.{◌⊎◌, inl, inr}
use native.Mathlib.Omega.{arith}
use borrow.Author.Tests.{le-leb, lt-leb, ltb-true, ltb-false}
use lib.Dec.{ltb}
use lib.ListN.{length, drop, replicate, length-append}
use lib.Seq.{drop_at}
use Rattle.refusals.specs.Refusals.{past_end}
use Rattle.tree.specs.Reading.{meets, Fault, cut_off, overlong, breaks, number_in, Out, ok, no}
use Rattle.tree.specs.Coding.{most_zeros}
use Rattle.tree.specs.Syntax.{Syntax, read, left_over, read_whole}
use Rattle.tree.specs.Meaning.{Element, sum_of_widths, all_bits, complete, Follow, Means, MeansWhole}
use Rattle.tree.specs.Bits.{bits_of, Bytes}
use Rattle.tree.specs.Wrapper.{wrapper_table, read_behind}
use Rattle.tree.specs.Stands.{is_cut_off, ToldAlike}
use Rattle.tree.proofs.Truth.{clash}
use Rattle.tree.proofs.Codes.{no_not_ok}
use Rattle.tree.proofs.Meaning.{length-all, every_answer_is_true, a_true_answer_is_given}
use Rattle.tree.proofs.Wrapper.{behind_the_wrapper, accepted_behind_the_wrapper, refused_behind_the_wrapper, behind_the_wrapper_refused}
use Rattle.tree.proofs.Whole.{every_whole_answer_is_true, a_true_whole_answer_is_given}

-- a number other than 1
pub other_than_1 : {N : Type 0} (f : Fault N) → (number_in f ≡ past_end → ⊥) → is_cut_off f ≡ false
other_than_1 (cut_off offset name) h = absurd (h refl)
other_than_1 (overlong offset name) h = refl
other_than_1 (breaks r) h = refl

-- ---- bytes that are left over

module _ {N : Type 0} (end : N) (at : ℕ) (t : List Bool) where
  pub left_over_lem : meets (left_over end at t) ≡ false → 8 ≤ length t
  left_over_lem h = go (ltb (length t) 8) refl
    where
      go : (b : Bool) → ltb (length t) 8 ≡ b → 8 ≤ length t
      go true q =
          let l = ltb-true (length t) 8 q in
          let k : length t / 8 ≡ 0 = omega arith in
          let m : meets (left_over end at t) ≡ true = rw k refl in
          let z : ◌≡◌ {A = ℕ} 0 1 = cc in clash z
      go false q = ltb-false (length t) 8 q

  pub over_left : 8 ≤ length t → meets (left_over end at t) ≡ false
  over_left h = rw (le-leb 0 (length t / 8) (omega arith), lt-leb (length t / 8) 0 (omega arith)) refl

-- ---- a table

module _ {N A : Type 0} (p : Syntax N A) (at : ℕ) (s t : List Bool) where
  behind : (es : List (Element N)) (u : List Bool) → s ≡ all_bits es ++ u → s ++ t ≡ all_bits es ++ (u ++ t)
  behind es u e = ap (λ (l : List Bool). l ++ t) e ∙ append_assoc (all_bits es) u t

  -- what is complete is complete whatever follows
  pub complete_stands : (a : A) (n : ℕ) → read p at s ≡ ok a n → read p at (s ++ t) ≡ ok a n
  complete_stands a n e =
      let m : Means p at s (ok a n) = rw e at (every_answer_is_true p at s) in
      let x = behind m.0 (drop n s) m.2 in
      let d : drop n (s ++ t) ≡ drop n s ++ t = ap (drop n) x ∙ drop_at (all_bits m.0) (drop n s ++ t) n (length-all m.0 ∙ sym m.3) in
      a_true_answer_is_given p at (s ++ t) (ok a n) (m.0, m.1, x ∙ ap (λ (l : List Bool). all_bits m.0 ++ l) (sym d), m.3)

  means_stands : (f : Fault N) → is_cut_off f ≡ false → Means p at s (no f) → Means p at (s ++ t) (no f)
  means_stands (cut_off offset name) c m = let z : ◌≡◌ {A = ℕ} 0 1 = cc in clash z
  means_stands (overlong offset name) c m = (
    m.0,
    m.1 ++ t,
    m.2,
    m.3,
    behind m.0 m.1 m.4,
    m.5,
    record {
      code = m.6.code;
      rest = m.6.rest ++ t;
      zeros = ap (λ (l : List Bool). l ++ t) m.6.zeros ∙ append_assoc (replicate most_zeros false) (false ∷ m.6.rest) t;
    },
  )
  means_stands (breaks r) c m = (m.0, m.1 ++ t, m.2, behind m.0 m.1 m.3)

  -- and a refusal stands as it is
  pub refused_stands : (f : Fault N) → is_cut_off f ≡ false → read p at s ≡ no f → read p at (s ++ t) ≡ no f
  refused_stands f c e = a_true_answer_is_given p at (s ++ t) (no f) (means_stands f c (rw e at (every_answer_is_true p at s)))

-- ---- a table behind which the input ends

module _ {N A : Type 0} (end : N) (p : Syntax N A) where
  -- a complete table with a byte or more behind it: bytes remain
  pub anything_behind : (es : List (Element N)) (a : A) (t : List Bool) → Follow p 0 es (complete a) → 8 ≤ length t → read_whole end p (all_bits es ++ t) ≡ no (breaks (left_over end (sum_of_widths es) t))
  anything_behind es a t f h =
      a_true_whole_answer_is_given end p (all_bits es ++ t) (no (breaks (left_over end (sum_of_widths es) t))) (inr (a, es, t, f, refl, refl, over_left end (sum_of_widths es) t h))

  module _ (s t : List Bool) where
    -- THE FIRST FAILURE DECIDES: a refusal stands whatever follows, unless the input was cut off
    pub a_refusal_stands : (f : Fault N) → is_cut_off f ≡ false → read_whole end p s ≡ no f → (g : Fault N) × (read_whole end p (s ++ t) ≡ no g) × ToldAlike f g
    a_refusal_stands f c e = go (rw e at (every_whole_answer_is_true end p s))
      where
        go : MeansWhole end p s (no f) → (g : Fault N) × (read_whole end p (s ++ t) ≡ no g) × ToldAlike f g
        go (inl m) = (f, a_true_whole_answer_is_given end p (s ++ t) (no f) (inl (means_stands p 0 s t f c m)), record { number = refl; offset = refl; element = refl; whole = λ h. refl })
        go (inr m) =
            let es = m.1 in
            let u = m.2 in
            let n = sum_of_widths es in
            let l : 8 ≤ length (u ++ t) = omega (arith, left_over_lem end n u m.6, length-append u t) in
            let x : s ++ t ≡ all_bits es ++ (u ++ t) = behind p 0 s t es u m.4 in
            (breaks (left_over end n (u ++ t)), ap (read_whole end p) x ∙ anything_behind es m.0 (u ++ t) m.3 l, rw m.5 (record { number = refl; offset = refl; element = refl; whole = λ h. absurd (h refl) }))

    -- of an input that is accepted, what is a byte or more shorter is cut off
    pub a_beginning_is_cut_off : (a : A) (n : ℕ) → read_whole end p (s ++ t) ≡ ok a n → 8 ≤ length t → (offset : ℕ) × (name : N) × (read_whole end p s ≡ no (cut_off offset name))
    a_beginning_is_cut_off a n e h = go (read_whole end p s) refl
      where
        stands : (f : Fault N) → is_cut_off f ≡ false → read_whole end p s ≡ no f → ⊥
        stands f c q = let k = a_refusal_stands f c q in no_not_ok (sym k.1 ∙ e)

        go : (o : Out N A) → read_whole end p s ≡ o → (offset : ℕ) × (name : N) × (read_whole end p s ≡ no (cut_off offset name))
        go (ok b k) q =
            let m : MeansWhole end p s (ok b k) = rw q at (every_whole_answer_is_true end p s) in
            let l : 8 ≤ length (m.1 ++ t) = omega (arith, length-append m.1 t) in
            no_not_ok (sym (ap (read_whole end p) (behind p 0 s t m.0 m.1 m.3) ∙ anything_behind m.0 b (m.1 ++ t) m.2 l) ∙ e)
        go (no (cut_off offset name)) q = (offset, name, q)
        go (no (overlong offset name)) q = absurd (stands (overlong offset name) refl q)
        go (no (breaks r)) q = absurd (stands (breaks r) refl q)

-- ---- and in a wrapper

module _ {N A : Type 0} (name end : N) (w : List ℕ) (hw : Bytes w) (p : Syntax N A) (s t : List Bool) where
  pub a_wrapped_refusal_stands : (f : Fault N) → is_cut_off f ≡ false → read_behind name w end p s ≡ no f → (g : Fault N) × (read_behind name w end p (s ++ t) ≡ no g) × ToldAlike f g
  a_wrapped_refusal_stands f c e = go (refused_behind_the_wrapper name w end p s f e)
    where
      go : Means (wrapper_table name w) 0 s (no f) ⊎ ((u : List Bool) × (s ≡ bits_of w ++ u) × (read_whole end p u ≡ no f)) → (g : Fault N) × (read_behind name w end p (s ++ t) ≡ no g) × ToldAlike f g
      go (inl m) = (f, behind_the_wrapper_refused name w end p hw (s ++ t) f (inl (means_stands (wrapper_table name w) 0 s t f c m)), record { number = refl; offset = refl; element = refl; whole = λ h. refl })
      go (inr m) =
          let k = a_refusal_stands end p m.0 t f c m.2 in
          (k.0, behind_the_wrapper_refused name w end p hw (s ++ t) k.0 (inr (m.0 ++ t, ap (λ (l : List Bool). l ++ t) m.1 ∙ append_assoc (bits_of w) m.0 t, k.1)), k.2)

  pub a_wrapped_beginning_is_cut_off : (a : A) (n : ℕ) → read_behind name w end p (s ++ t) ≡ ok a n → 8 ≤ length t → (offset : ℕ) × (x : N) × (read_behind name w end p s ≡ no (cut_off offset x))
  a_wrapped_beginning_is_cut_off a n e h = go (read_behind name w end p s) refl
    where
      stands : (f : Fault N) → is_cut_off f ≡ false → read_behind name w end p s ≡ no f → ⊥
      stands f c q = let k = a_wrapped_refusal_stands f c q in no_not_ok (sym k.1 ∙ e)

      -- not both the data and what is a byte or more longer are accepted
      both : (u : List Bool) (b : A) (k : ℕ) → s ≡ bits_of w ++ u → read_whole end p u ≡ ok b k → ⊥
      both u b k l q =
          let x : s ++ t ≡ bits_of w ++ (u ++ t) = ap (λ (l : List Bool). l ++ t) l ∙ append_assoc (bits_of w) u t in
          let y : read_whole end p (u ++ t) ≡ ok a n = sym (ap (read_behind name w end p) x ∙ behind_the_wrapper name w end p hw (u ++ t)) ∙ e in
          cut (a_beginning_is_cut_off end p u t a n y h)
        where
          cut : (offset : ℕ) × (x : N) × (read_whole end p u ≡ no (cut_off offset x)) → ⊥
          cut c = no_not_ok (sym c.2 ∙ q)

      go : (o : Out N A) → read_behind name w end p s ≡ o → (offset : ℕ) × (x : N) × (read_behind name w end p s ≡ no (cut_off offset x))
      go (ok b k) q =
          let m = accepted_behind_the_wrapper name w end p s b k q in
          absurd (both m.0 b k m.1 m.2)
      go (no (cut_off offset x)) q = (offset, x, q)
      go (no (overlong offset x)) q = absurd (stands (overlong offset x) refl q)
      go (no (breaks r)) q = absurd (stands (breaks r) refl q)
