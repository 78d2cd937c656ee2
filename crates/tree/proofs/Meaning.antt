-- Every answer is true, and no other is: one law for every syntax tree.
use Prim.Native.Nat.{ℕ, ◌+◌}
use mathlib.Core.Path.{◌≡◌, refl, ap, sym, ◌∙◌}
use mathlib.Core.List.{List, [], ◌∷◌, ◌++◌, append_assoc}
use mathlib.Core.Bool.{Bool, true, false, cond}
use mathlib.Core.Logic.{◌⊎◌, inl, inr}
use native.Mathlib.Omega.{arith}
use native.Mathlib.Nat.{add-zero, add_assoc}
use lib.IntN.{ℤ}
use lib.ListN.{length, drop, length-append}
use lib.Seq.{drop_at, drop-drop}
use Rattle.tree.specs.Reading.{Rule, meets, Fault, cut_off, overlong, breaks, Out, ok, no, widened, and_then}
use Rattle.tree.specs.Coding.{Descriptor, holds_in, code_in, coded}
use Rattle.tree.specs.Syntax.{Syntax, done, reads, checks, here, read}
use Rattle.tree.specs.Meaning.{Element, width, element_bits, sum_of_widths, all_bits, Next, complete, awaits, broken, Follow, CutOff, TooMany, Means}
use Rattle.tree.proofs.Elements.{codes_coded, length-code_in}
use Rattle.tree.proofs.Refused.{refused_coded, gets_cut_off, gets_too_many}

-- ---- rows of elements

pub all_bits-append : {N : Type 0} (es fs : List (Element N)) → all_bits (es ++ fs) ≡ all_bits es ++ all_bits fs
unfolding all_bits
all_bits-append [] fs = refl
all_bits-append (e ∷ es) fs = ap (λ (l : List Bool). element_bits e ++ l) (all_bits-append es fs) ∙ sym (append_assoc (element_bits e) (all_bits es) (all_bits fs))

pub widths_append : {N : Type 0} (es fs : List (Element N)) → sum_of_widths (es ++ fs) ≡ sum_of_widths es + sum_of_widths fs
unfolding sum_of_widths
widths_append [] fs = omega arith
widths_append (e ∷ es) fs = omega (arith, widths_append es fs)

-- all bits are as many as the widths say
pub length-all : {N : Type 0} (es : List (Element N)) → length (all_bits es) ≡ sum_of_widths es
unfolding all_bits sum_of_widths
length-all [] = refl
length-all (e ∷ es) = omega (arith, length-append (element_bits e) (all_bits es), length-code_in e.descriptor e.value, length-all es)

-- ---- every answer is true

-- a table that is followed wherever another is
means_same : {N A : Type 0} (p q : Syntax N A) (at : ℕ) (s : List Bool) → ((es : List (Element N)) (x : Next N A) → Follow p at es x → Follow q at es x)
    → (o : Out N A) → Means p at s o → Means q at s o
means_same p q at s h (ok a n) m = (m.0, h m.0 (complete a) m.1, m.2, m.3)
means_same p q at s h (no (cut_off offset name)) m = (m.0, m.1, m.2, h m.0 (awaits name m.2) m.3, m.4, m.5, m.6)
means_same p q at s h (no (overlong offset name)) m = (m.0, m.1, m.2, h m.0 (awaits name m.2) m.3, m.4, m.5, m.6)
means_same p q at s h (no (breaks r)) m = (m.0, m.1, h m.0 (broken r) m.2, m.3)

-- one element, which is there, and what follows it
module _ {N A : Type 0} (n : N) (d : Descriptor) (f : ℤ → Syntax N A) (at : ℕ) (s : List Bool) (z : ℤ) (m : ℕ) (q : coded d n at s ≡ ok z m) where
  abbrev first : Element N
  first = record { name = n; descriptor = d; value = z }

  wide : m ≡ width first
  wide = ((codes_coded d n at).only s z m q).2 ∙ length-code_in d z

  begins : s ≡ element_bits first ++ drop m s
  begins = ((codes_coded d n at).only s z m q).1

  joins : (es : List (Element N)) (t : List Bool) → drop m s ≡ all_bits es ++ t → s ≡ all_bits (first ∷ es) ++ t
  unfolding all_bits
  joins es t e = begins ∙ ap (λ (l : List Bool). element_bits first ++ l) e ∙ sym (append_assoc (element_bits first) (all_bits es) t)

  follows : (es : List (Element N)) (x : Next N A) → Follow (f z) (at + m) es x → Follow (reads n d f) at (first ∷ es) x
  unfolding Follow
  follows es x h = ((refl, refl, ((codes_coded d n at).only s z m q).0), rw (← wide) h)

  further : (es : List (Element N)) (offset : ℕ) → offset ≡ at + m + sum_of_widths es → offset ≡ at + sum_of_widths (first ∷ es)
  unfolding sum_of_widths
  further es offset e = omega (arith, e, wide)

  element-read : (o : Out N A) → Means (f z) (at + m) (drop m s) o → Means (reads n d f) at s (widened m o)
  unfolding sum_of_widths
  element-read (ok a k) h =
      let l : drop k (drop m s) ≡ drop (m + k) s = drop-drop k m s in
      (first ∷ h.0, follows h.0 (complete a) h.1, joins h.0 (drop (m + k) s) (h.2 ∙ ap (λ (t : List Bool). all_bits h.0 ++ t) l), omega (arith, h.3, wide))
  element-read (no (cut_off offset name)) h =
      (first ∷ h.0, h.1, h.2, follows h.0 (awaits name h.2) h.3, joins h.0 h.1 h.4, further h.0 offset h.5, h.6)
  element-read (no (overlong offset name)) h =
      (first ∷ h.0, h.1, h.2, follows h.0 (awaits name h.2) h.3, joins h.0 h.1 h.4, further h.0 offset h.5, h.6)
  element-read (no (breaks r)) h = (first ∷ h.0, h.1, follows h.0 (broken r) h.2, joins h.0 h.1 h.3)

-- an element that is not there
element_missing : {N A : Type 0} (n : N) (d : Descriptor) (f : ℤ → Syntax N A) (at : ℕ) (s : List Bool) (w : Fault N)
    → ((w ≡ cut_off at n) × CutOff d s) ⊎ ((w ≡ overlong at n) × TooMany d s) → Means (reads n d f) at s (no w)
unfolding Follow all_bits sum_of_widths
element_missing n d f at s w (inl h) = rw h.0 ([], s, d, refl, refl, sym (add-zero at), h.1)
element_missing n d f at s w (inr h) = rw h.0 ([], s, d, refl, refl, sym (add-zero at), h.1)

-- a rule that is met, and one that is not
rule_met : {N A : Type 0} (r : Rule N) (p : Syntax N A) (at : ℕ) → meets r ≡ true → (es : List (Element N)) (x : Next N A) → Follow p at es x → Follow (checks r p) at es x
unfolding Follow
rule_met r p at m es x h = rw m h

rule_broken_lem : {N A : Type 0} (r : Rule N) (p : Syntax N A) (at : ℕ) (s : List Bool) → meets r ≡ false → Means (checks r p) at s (no (breaks r))
unfolding Follow all_bits
rule_broken_lem r p at s m = ([], s, rw m (refl, refl), refl)

-- THE LAW. What reading answers is true, for every tree, position and input.
pub every_answer_is_true : {N A : Type 0} (p : Syntax N A) (at : ℕ) (s : List Bool) → Means p at s (read p at s)
unfolding read Follow all_bits sum_of_widths
every_answer_is_true (done a) at s = ([], (refl, refl), refl, refl)
every_answer_is_true {N} {A} (reads n d f) at s = go (λ z. every_answer_is_true (f z)) (coded d n at s) refl
  where
    go : ((z : ℤ) (there : ℕ) (t : List Bool) → Means (f z) there t (read (f z) there t)) → (o : Out N ℤ) → coded d n at s ≡ o
        → Means (reads n d f) at s (and_then o (λ z. read (f z)) at s)
    go ih (ok z m) q = element-read n d f at s z m q (read (f z) (at + m) (drop m s)) (ih z (at + m) (drop m s))
    go ih (no w) q = element_missing n d f at s w (refused_coded d n at s w q)
every_answer_is_true {N} {A} (checks r p) at s = go (every_answer_is_true p at s) (meets r) refl
  where
    go : Means p at s (read p at s) → (b : Bool) → meets r ≡ b → Means (checks r p) at s (cond b (read p at s) (no (breaks r)))
    go ih true q = means_same p (checks r p) at s (rule_met r p at q) (read p at s) ih
    go ih false q = rule_broken_lem r p at s q
every_answer_is_true (here f) at s = means_same (f at) (here f) at s (λ es x h. h) (read (f at) at s) (every_answer_is_true (f at) at s)

-- ---- and no other answer is

-- what is answered behind the elements, by what comes next
abbrev Ends : {N A : Type 0} → Next N A → ℕ → List Bool → Out N A → Type 0
Ends (complete a) at t o = o ≡ ok a 0
Ends {N} (awaits n d) at t o = (w : Fault N) × (coded d n at t ≡ no w) × (o ≡ no w)
Ends (broken r) at t o = o ≡ no (breaks r)

widened-widened : {N A : Type 0} (m n : ℕ) (o : Out N A) → widened m (widened n o) ≡ widened (m + n) o
widened-widened m n (ok a k) = ap (ok a) (omega arith)
widened-widened m n (no r) = refl

pub follow_is_read : {N A : Type 0} (p : Syntax N A) (at : ℕ) (es : List (Element N)) (x : Next N A) → Follow p at es x
    → (t : List Bool) (o : Out N A) → Ends x (at + sum_of_widths es) t o → read p at (all_bits es ++ t) ≡ widened (sum_of_widths es) o
unfolding Follow read all_bits sum_of_widths
follow_is_read {N} {A} (done a) at es x h t o e = ended es h.0
  where
    at_end : Ends x (at + sum_of_widths es) t o → o ≡ ok a 0
    at_end = rw h.1 (λ k. k)

    ended : (es : List (Element N)) → es ≡ [] → ok a 0 ≡ widened (sum_of_widths es) o
    ended es q = rw (q, at_end e) refl
follow_is_read {N} {A} (reads n d f) at [] x h t o e = let k : Ends (awaits n d) (at + 0) t o = rw h at e in now k
  where
    now : Ends (awaits n d) (at + 0) t o → and_then (coded d n at t) (λ z. read (f z)) at t ≡ widened 0 o
    now k = let c : coded d n at t ≡ no k.0 = rw (← add-zero at) k.1 in rw (c, k.2)
follow_is_read {N} {A} (reads n d f) at (y ∷ es) x h t o e = step (follow_is_read (f y.value) (at + width y) es x h.1 t o) h.0.0 h.0.1 h.0.2
  where
    step : (Ends x (at + width y + sum_of_widths es) t o → read (f y.value) (at + width y) (all_bits es ++ t) ≡ widened (sum_of_widths es) o)
        → y.name ≡ n → y.descriptor ≡ d → holds_in d y.value ≡ true → and_then (coded d n at ((element_bits y ++ all_bits es) ++ t)) (λ z. read (f z)) at ((element_bits y ++ all_bits es) ++ t) ≡ widened (width y + sum_of_widths es) o
    step ih a b c =
        let l : (element_bits y ++ all_bits es) ++ t ≡ code_in d y.value ++ (all_bits es ++ t) = rw (← b) (append_assoc (element_bits y) (all_bits es) t) in
        let w : length (code_in d y.value) ≡ width y = rw (← b) (length-code_in y.descriptor y.value) in
        let i : read (f y.value) (at + width y) (all_bits es ++ t) ≡ widened (sum_of_widths es) o = ih (rw (add_assoc at (width y) (sum_of_widths es)) e) in
        rw (l, (codes_coded d n at).takes y.value c (all_bits es ++ t), drop_at (code_in d y.value) (all_bits es ++ t) (length (code_in d y.value)) refl, w, i)
        (widened-widened (width y) (sum_of_widths es) o)
follow_is_read {N} {A} (checks r p) at es x h t o e = go (follow_is_read p at es x) (meets r) refl
  where
    stops : (es ≡ []) × (x ≡ broken r) → no (breaks r) ≡ widened (sum_of_widths es) o
    stops k = let v : Ends (broken r) (at + sum_of_widths es) t o = rw k.1 at e in rw v

    go : (Follow p at es x → (t : List Bool) (o : Out N A) → Ends x (at + sum_of_widths es) t o → read p at (all_bits es ++ t) ≡ widened (sum_of_widths es) o)
        → (b : Bool) → meets r ≡ b → cond (meets r) (read p at (all_bits es ++ t)) (no (breaks r)) ≡ widened (sum_of_widths es) o
    go ih true q = rw q (ih (rw q at h) t o e)
    go ih false q = rw q (stops (rw q at h))
follow_is_read (here f) at es x h t o e = follow_is_read (f at) at es x h t o e

-- what is true of an input is what reading answers
pub a_true_answer_is_given : {N A : Type 0} (p : Syntax N A) (at : ℕ) (s : List Bool) (o : Out N A) → Means p at s o → read p at s ≡ o
a_true_answer_is_given p at s (ok a n) m =
    ap (read p at) m.2 ∙ follow_is_read p at m.0 (complete a) m.1 (drop n s) (ok a 0) refl ∙ ap (ok a) (omega (arith, m.3))
a_true_answer_is_given p at s (no (cut_off offset name)) m =
    ap (read p at) m.4 ∙ follow_is_read p at m.0 (awaits name m.2) m.3 m.1 (no (cut_off offset name))
    (cut_off offset name, rw m.5 (gets_cut_off m.2 name (at + sum_of_widths m.0) m.1 m.6), refl)
a_true_answer_is_given p at s (no (overlong offset name)) m =
    ap (read p at) m.4 ∙ follow_is_read p at m.0 (awaits name m.2) m.3 m.1 (no (overlong offset name))
    (overlong offset name, rw m.5 (gets_too_many m.2 name (at + sum_of_widths m.0) m.1 m.6), refl)
a_true_answer_is_given p at s (no (breaks r)) m = ap (read p at) m.3 ∙ follow_is_read p at m.0 (broken r) m.2 m.1 (no (breaks r)) refl
