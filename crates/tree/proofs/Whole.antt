-- A table behind which the input ends: every answer is true, and no other is.
use Prim.Native.Nat.{◌+◌}
use mathlib.Core.Path.{◌≡◌, refl, ap, sym, ◌∙◌}
use mathlib.Core.List.{List, ◌++◌}
use mathlib.Core.Bool.{Bool, true, false, cond}
use mathlib.Core.Logic.{inl, inr}
use native.Mathlib.Omega.{arith}
use native.Mathlib.Nat.{zero-add, add-zero}
use lib.ListN.{drop}
use lib.Seq.{drop_at}
use Rattle.tree.specs.Reading.{meets, breaks, Out, ok, no, and_then, widened}
use Rattle.tree.specs.Syntax.{Syntax, read, left_over, read_whole}
use Rattle.tree.specs.Meaning.{sum_of_widths, all_bits, Means, MeansWhole}
use Rattle.tree.proofs.Meaning.{length-all, every_answer_is_true, a_true_answer_is_given}

pub every_whole_answer_is_true : {N A : Type 0} (end : N) (p : Syntax N A) (s : List Bool) → MeansWhole end p s (read_whole end p s)
unfolding read_whole
every_whole_answer_is_true {N} {A} end p s = go (read p 0 s) (every_answer_is_true p 0 s)
  where
    go : (o : Out N A) → Means p 0 s o
        → MeansWhole end p s (and_then o (λ a at t. cond (meets (left_over end at t)) (ok a 0) (no (breaks (left_over end at t)))) 0 s)
    go (ok a n) m = rw (zero-add n) (ended (meets (left_over end n (drop n s))) refl)
      where
        ended : (b : Bool) → meets (left_over end n (drop n s)) ≡ b → MeansWhole end p s (widened n (cond b (ok a 0) (no (breaks (left_over end n (drop n s))))))
        ended true q = (m.0, drop n s, m.1, m.2, omega (arith, m.3), q)
        ended false q = inr (a, m.0, drop n s, m.1, m.2, rw (← m.3) refl, q)
    go (no f) m = inl m

pub a_true_whole_answer_is_given : {N A : Type 0} (end : N) (p : Syntax N A) (s : List Bool) (o : Out N A) → MeansWhole end p s o → read_whole end p s ≡ o
unfolding read_whole
a_true_whole_answer_is_given {N} {A} end p s (ok a n) m =
    let d : drop n s ≡ m.1 = ap (drop n) m.3 ∙ drop_at (all_bits m.0) m.1 n (length-all m.0 ∙ sym m.4) in
    let r : read p 0 s ≡ ok a n = a_true_answer_is_given p 0 s (ok a n) (m.0, m.2, m.3 ∙ ap (λ (l : List Bool). all_bits m.0 ++ l) (sym d), m.4) in
    rw (r, zero-add n, d, m.5) (ap (ok a) (add-zero n))
a_true_whole_answer_is_given {N} {A} end p s (no f) (inl m) = rw (a_true_answer_is_given p 0 s (no f) m)
a_true_whole_answer_is_given {N} {A} end p s (no f) (inr m) =
    let n = sum_of_widths m.1 in
    let d : drop n s ≡ m.2 = ap (drop n) m.4 ∙ drop_at (all_bits m.1) m.2 n (length-all m.1) in
    let r : read p 0 s ≡ ok m.0 n = a_true_answer_is_given p 0 s (ok m.0 n) (m.1, m.3, m.4 ∙ ap (λ (l : List Bool). all_bits m.1 ++ l) (sym d), refl) in
    rw (r, zero-add n, d, m.6, m.5) refl
