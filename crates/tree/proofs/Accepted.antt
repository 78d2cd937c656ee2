-- Exactness over bytes, for every table of which one knows by which elements it is followed (`Spells`) and that these end at a byte boundary.
use Prim.Native.Nat.{ℕ, zero, suc, ◌+◌, ◌-◌, ◌*◌, ◌/◌, ◌%◌}
use mathlib.Core.Path.{◌≡◌, refl, ap, sym, ◌∙◌}
use mathlib.Core.List.{List, [], ◌∷◌, ◌++◌, append-nil}
use mathlib.Core.Bool.{Bool}
use native.Mathlib.Omega.{arith}
use lib.ListN.{length, replicate, length-append}
use lib.IntN.{pos}
use Rattle.tree.specs.Bits.{bits_of, pack, Bytes}
use Rattle.tree.specs.Reading.{ok, to_boundary}
use Rattle.tree.specs.Syntax.{Syntax, read_whole}
use Rattle.tree.specs.Meaning.{Element, zero_bit, sum_of_widths, all_bits, Spells, MeansWhole}
use Rattle.tree.specs.Parts.{padded_to_byte}
use Rattle.tree.specs.Wrapper.{read_behind}
use Rattle.tree.proofs.Lists.{bytes_append}
use Rattle.tree.proofs.Bits.{bits_pack, pack_bits, length_bits, bits_append, bits_determine, packed_bytes}
use Rattle.tree.proofs.Meaning.{widths_append, length-all}
use Rattle.tree.proofs.Whole.{every_whole_answer_is_true, a_true_whole_answer_is_given}
use Rattle.tree.proofs.Spells.{same_number}
use Rattle.tree.proofs.Wrapper.{behind_the_wrapper, accepted_behind_the_wrapper}

pub widths_zeros : {N : Type 0} (n : ℕ) (name : N) → sum_of_widths (replicate n (zero_bit name)) ≡ n
unfolding sum_of_widths
widths_zeros zero name = refl
widths_zeros (suc n) name = omega (arith, widths_zeros n name)

-- with zero bits to the next byte boundary elements end there
pub padded_whole : {N : Type 0} (name : N) (es : List (Element N)) → sum_of_widths (padded_to_byte name es) % 8 ≡ 0
padded_whole name es =
    let n = sum_of_widths es in
    rw (widths_append es (replicate (to_boundary n) (zero_bit name)), widths_zeros (to_boundary n) name) (even n)
  where
    even : (n : ℕ) → (n + (8 - n % 8) % 8) % 8 ≡ 0
    even n = omega arith

nothing_left : (t : List Bool) (k n w : ℕ) → n ≡ 8 * k → w % 8 ≡ 0 → n ≡ w + length t → pos (length t / 8) ≡ pos 0 → t ≡ []
nothing_left [] k n w a b c d = refl
nothing_left (x ∷ t) k n w a b c d = let e : length (x ∷ t) / 8 ≡ 0 = cc in absurd (omega arith)

module _ {N A : Type 0} (end : N) (p : Syntax N A) (e : A → List (Element N)) (Fit : A → Type 0) (spells : Spells p 0 e Fit) (whole : (a : A) → sum_of_widths (e a) % 8 ≡ 0) where
  -- an accepted input is the bytes of a value that fits, and the bits read are the sum of the widths of its elements
  pub accepted_means : (s : List ℕ) → Bytes s → (a : A) (n : ℕ) → read_whole end p (bits_of s) ≡ ok a n → Fit a × (s ≡ pack (all_bits (e a))) × (n ≡ sum_of_widths (e a))
  accepted_means s h a n q =
      let m : MeansWhole end p (bits_of s) (ok a n) = rw q at (every_whole_answer_is_true end p (bits_of s)) in
      let w = spells.only m.0 a m.2 in
      let b : bits_of s ≡ all_bits (e a) ++ m.1 = m.3 ∙ ap (λ (es : List (Element N)). all_bits es ++ m.1) w.1 in
      let l : length (bits_of s) ≡ sum_of_widths (e a) + length m.1 = omega (arith, ap length b, length-append (all_bits (e a)) m.1, length-all (e a)) in
      let t : m.1 ≡ [] = nothing_left m.1 (length s) (length (bits_of s)) (sum_of_widths (e a)) (length_bits s) (whole a) l (same_number 0 (pos (length m.1 / 8)) m.5) in
      let c : bits_of s ≡ all_bits (e a) = b ∙ ap (λ (l : List Bool). all_bits (e a) ++ l) t ∙ append-nil (all_bits (e a)) in
      (w.0, sym (pack_bits s h) ∙ ap pack c, m.4 ∙ ap sum_of_widths w.1)

  -- and the bytes of every value that fits are accepted
  pub what_fits_is_accepted : (a : A) → Fit a → read_whole end p (bits_of (pack (all_bits (e a)))) ≡ ok a (sum_of_widths (e a))
  what_fits_is_accepted a w =
      let l : length (all_bits (e a)) % 8 ≡ 0 = rw (length-all (e a)) (whole a) in
      ap (read_whole end p) (bits_pack (all_bits (e a)) l)
      ∙ a_true_whole_answer_is_given end p (all_bits (e a)) (ok a (sum_of_widths (e a))) (e a, [], spells.takes a w, sym (append-nil (all_bits (e a))), refl, refl)

-- ---- and behind a wrapper

-- bytes whose bits begin with those of others begin with these
pub behind_bytes : (s w : List ℕ) (t : List Bool) → Bytes s → Bytes w → bits_of s ≡ bits_of w ++ t → (s ≡ w ++ pack t) × (bits_of (pack t) ≡ t)
behind_bytes s w t hs hw e =
    let l : length t % 8 ≡ 0 = omega (arith, ap length e, length-append (bits_of w) t, length_bits s, length_bits w) in
    let b : bits_of (pack t) ≡ t = bits_pack t l in
    let c : bits_of s ≡ bits_of (w ++ pack t) = e ∙ ap (λ (x : List Bool). bits_of w ++ x) (sym b) ∙ sym (bits_append w (pack t)) in
    (bits_determine s (w ++ pack t) hs (bytes_append w (pack t) hw (packed_bytes (length t / 8) t)) c, b)

module _ {N A : Type 0} (name end : N) (w : List ℕ) (hw : Bytes w) (p : Syntax N A) (e : A → List (Element N)) (Fit : A → Type 0) (spells : Spells p 0 e Fit) (whole : (a : A) → sum_of_widths (e a) % 8 ≡ 0) where
  pub accepted_wrapped_means : (s : List ℕ) → Bytes s → (a : A) (n : ℕ) → read_behind name w end p (bits_of s) ≡ ok a n → Fit a × (s ≡ w ++ pack (all_bits (e a))) × (n ≡ sum_of_widths (e a))
  accepted_wrapped_means s h a n q =
      let m = accepted_behind_the_wrapper name w end p (bits_of s) a n q in
      let t = m.0 in
      let b = behind_bytes s w t h hw m.1 in
      let r : read_whole end p (bits_of (pack t)) ≡ ok a n = ap (read_whole end p) b.1 ∙ m.2 in
      let x = accepted_means end p e Fit spells whole (pack t) (packed_bytes (length t / 8) t) a n r in
      (x.0, b.0 ∙ ap (λ (l : List ℕ). w ++ l) x.1, x.2)

  pub what_fits_is_accepted_wrapped : (a : A) → Fit a → read_behind name w end p (bits_of (w ++ pack (all_bits (e a)))) ≡ ok a (sum_of_widths (e a))
  what_fits_is_accepted_wrapped a f =
      let l = pack (all_bits (e a)) in
      ap (read_behind name w end p) (bits_append w l) ∙ behind_the_wrapper name w end p hw (bits_of l) ∙ what_fits_is_accepted end p e Fit spells whole a f
