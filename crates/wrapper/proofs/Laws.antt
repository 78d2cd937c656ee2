-- Laws of the wrapper's bytes: compared one by one, and written.
use Prim.Native.Nat.{ℕ, suc, ◌+◌, ◌-◌, ◌*◌, ◌/◌, ◌<◌, ◌≤◌}
use mathlib.Core.Path.{◌≡◌, refl, ap, sym, ◌∙◌}
use mathlib.Core.List.{List, [], ◌∷◌, ◌++◌, append-nil}
use mathlib.Core.Bool.{Bool, true, false, cond, ◌&&◌}
use native.Mathlib.Omega.{arith}
use native.Mathlib.Numerals.{add-one}
use borrow.Author.Tests.{eq-eqb, ne_eqb, leb-true, leb-false, le-leb, lt-leb}
use lib.Dec.{eqb}
use lib.IntN.{pos}
use lib.ListN.{length, get_or, take, drop, drop_of_length-le, length-append, length-drop, take-append-drop}
use lib.Seq.{drop-cons, drop_at, take_all, length-take-le}
use borrow.Rule.Slice.PartMut.{put_mid}
use Rattle.std.specs.Prelude.{Ok, Err}
use Rattle.std.specs.Result.{is_ok}
use Rattle.refusals.specs.Refusals.{wrapper_differs}
use Rattle.refusals.specs.Numbered.{number_of, refusal_of}
use Rattle.refusals.specs.declared.Refusal.{Refusal}
use Rattle.refusals.specs.declared.Refusal.TheVariants.{PastEnd, WrapperDiffers, UnfitOutput, NotValid}
use Rattle.tree.specs.Bits.{bits_of, Bytes}
use Rattle.tree.specs.Reading.{Fault, cut_off, number_in, breaks, Out, ok, no, widened}
use Rattle.tree.specs.Coding.{unsigned, fixed}
use Rattle.tree.specs.Syntax.{range_rule, read}
use Rattle.tree.specs.Meaning.{Element, sum_of_widths, complete, Follow, Means}
use Rattle.tree.specs.Wrapper.{wrapper_table}
use Rattle.tree.proofs.Truth.{clash}
use Rattle.tree.proofs.Bits.{length_bits, bits_append}
use Rattle.tree.proofs.Meaning.{every_answer_is_true}
use Rattle.tree.proofs.Spells.{ranged_only, done_only}
use Rattle.tree.proofs.Steps.{takes_what_is_there}
use Rattle.tree.proofs.Wrapper.{wrapper_end, wrapper_byte_lem}
use Rattle.output.specs.Output.{fits, outcome_as, buffer_as}
use Rattle.record.specs.Name.{Name, «wrapper»}
use Rattle.syntax.specs.Data.{bare_data}
use Rattle.syntax.specs.Wrapper.{wrapper_bytes, wrapped_data, told_at}
use Rattle.syntax.proofs.Named.{marked_in_the_wrapper}
use Rattle.element.specs.declared.Element.TheVariants.{Wrapper as Title}
use Rattle.cause.specs.declared.Cause.{Cause}
use Rattle.cause.specs.Cause.{untold, range, cause_of}
use Rattle.reader.specs.Reading.{reading_of, refused_reading}
use Rattle.wrapper.specs.declared.Differs.{Differs}
use Rattle.wrapper.specs.Wrapper.{begins_with, differs, wrapper_of}

-- ---- the bytes, one by one

-- what is read from byte i on
abbrev pub from_byte : List ℕ → ℕ → Out Name (Unit {0})
from_byte s i = read (wrapper_table «wrapper» (drop i wrapper_bytes)) (8 * i) (bits_of (drop i s))

abbrev pub fault : Refusal → ℕ → Cause → Differs
fault r at c = record { refusal = r; offset = at; cause = c }

-- the bits that are taken already make no difference
any_width : (n : ℕ) (o : Out Name (Unit {0})) → wrapper_of (widened n o) ≡ wrapper_of o
any_width n (ok t m) = refl
any_width n (no f) = refl

module _ (s : List ℕ) (i : ℕ) (h : i < 8) where
  abbrev byte : ℕ
  byte = get_or wrapper_bytes i 0

  expected : drop i wrapper_bytes ≡ byte ∷ drop (suc i) wrapper_bytes
  expected = drop-cons wrapper_bytes i 0 h

  -- a byte's offset
  in_bytes : 8 * i / 8 ≡ i
  in_bytes = omega arith

  pub missing : length s ≤ i → Err (fault PastEnd i (untold Title)) ≡ wrapper_of (from_byte s i)
  missing l =
      let e : from_byte s i ≡ no (cut_off (8 * i) «wrapper») = rw (expected, drop_of_length-le s l) (wrapper_end «wrapper» byte (drop (suc i) wrapper_bytes) (8 * i)) in
      sym (ap wrapper_of e ∙ ap (λ (k : ℕ). Err (fault PastEnd k (untold Title))) in_bytes)

  module _ (l : i < length s) (b : get_or s i 0 < 256) where
    compared : from_byte s i ≡ cond (eqb (get_or s i 0) byte) (widened 8 (read (wrapper_table «wrapper» (drop (suc i) wrapper_bytes)) (8 * i + 8) (bits_of (drop (suc i) s)))) (no (breaks (range_rule «wrapper» wrapper_differs (pos byte) (pos byte) (8 * i) (pos (get_or s i 0)))))
    compared = rw (expected, drop-cons s i 0 l) (wrapper_byte_lem «wrapper» byte (drop (suc i) wrapper_bytes) (8 * i) (get_or s i 0) (drop (suc i) s) b)

    pub other : (get_or s i 0 ≡ byte → ⊥) → Err (fault WrapperDiffers i (range Title (get_or s i 0) byte byte)) ≡ wrapper_of (from_byte s i)
    other e = sym (ap wrapper_of compared ∙ rw (ne_eqb (get_or s i 0) byte e) (ap (λ (k : ℕ). Err (fault WrapperDiffers k (range Title (get_or s i 0) byte byte))) in_bytes))

    pub agrees : get_or s i 0 ≡ byte → wrapper_of (from_byte s i) ≡ wrapper_of (from_byte s (i + 1))
    agrees e =
        let p : 8 * i + 8 ≡ 8 * (i + 1) = omega arith in
        let on : read (wrapper_table «wrapper» (drop (suc i) wrapper_bytes)) (8 * i + 8) (bits_of (drop (suc i) s)) ≡ from_byte s (i + 1) =
        ap (λ (j : ℕ). read (wrapper_table «wrapper» (drop j wrapper_bytes)) (8 * i + 8) (bits_of (drop j s))) (sym (add-one i))
        ∙ ap (λ (at : ℕ). read (wrapper_table «wrapper» (drop (i + 1) wrapper_bytes)) at (bits_of (drop (i + 1) s))) p in
        ap wrapper_of compared ∙ rw (eq-eqb (get_or s i 0) byte e) (any_width 8 (read (wrapper_table «wrapper» (drop (suc i) wrapper_bytes)) (8 * i + 8) (bits_of (drop (suc i) s))) ∙ ap wrapper_of on)

-- ---- what an answer says

pub is_there : (o : Out Name (Unit {0})) → Ok tt ≡ wrapper_of o → (n : ℕ) × (o ≡ ok tt n)
is_there (ok t n) e = (n, refl)
is_there (no f) e = let z : ◌≡◌ {A = ℕ} 0 1 = cc in clash z

is_refused : (o : Out Name (Unit {0})) (d : Differs) → Err d ≡ wrapper_of o → (f : Fault Name) × (o ≡ no f) × (d ≡ differs f)
is_refused (ok t n) d e = let z : ◌≡◌ {A = ℕ} 0 1 = cc in clash z
is_refused (no f) d e = (f, refl, cc)

-- a refusal of the wrapper has its own number
abbrev named : Out Name (Unit {0}) → Type 0
named (ok t n) = Unit {0}
named (no f) = number_of (refusal_of (number_in f)) ≡ number_in f

each_is_named : (ws : List ℕ) (at : ℕ) (s : List ℕ) → Bytes s → named (read (wrapper_table «wrapper» ws) at (bits_of s))
unfolding read wrapper_table
each_is_named [] at s h = tt
each_is_named (w ∷ ws) at [] h = rw (wrapper_end «wrapper» w ws at) refl
each_is_named (w ∷ ws) at (b ∷ s) h = rw (wrapper_byte_lem «wrapper» w ws at b s h.0) (go (eqb b w) (each_is_named ws (at + 8) s h.1))
  where
    further : (o : Out Name (Unit {0})) → named o → named (widened 8 o)
    further (ok t n) q = tt
    further (no f) q = q

    go : (e : Bool) → named (read (wrapper_table «wrapper» ws) (at + 8) (bits_of s))
        → named (cond e (widened 8 (read (wrapper_table «wrapper» ws) (at + 8) (bits_of s))) (no (breaks (range_rule «wrapper» wrapper_differs (pos w) (pos w) at (pos b)))))
    go true q = further (read (wrapper_table «wrapper» ws) (at + 8) (bits_of s)) q
    go false q = refl

-- and is one of the whole
pub wrapped_no : (s : List ℕ) → Bytes s → (d : Differs) → Err d ≡ wrapper_of (read (wrapper_table «wrapper» wrapper_bytes) 0 (bits_of s))
    → refused_reading (number_of d.refusal) d.offset true d.cause ≡ reading_of (wrapped_data (bits_of s))
wrapped_no s h d e = go (is_refused (read (wrapper_table «wrapper» wrapper_bytes) 0 (bits_of s)) d e)
  where
    go : (f : Fault Name) × (read (wrapper_table «wrapper» wrapper_bytes) 0 (bits_of s) ≡ no f) × (d ≡ differs f) → refused_reading (number_of d.refusal) d.offset true d.cause ≡ reading_of (wrapped_data (bits_of s))
    go (f, q, v) =
        let n : number_of (refusal_of (number_in f)) ≡ number_in f = rw q at (each_is_named wrapper_bytes 0 s h) in
        rw (v, n) (ap (λ (b : Bool). refused_reading (number_in f) (told_at f) b (cause_of f)) (sym (marked_in_the_wrapper (bits_of s) f q)) ∙ sym (rw q refl))

-- the wrapper's bytes have eight bits each
wrapper_width : (ws : List ℕ) (at : ℕ) (es : List (Element Name)) → Follow (wrapper_table «wrapper» ws) at es (complete tt) → sum_of_widths es ≡ 8 * length ws
unfolding wrapper_table sum_of_widths
wrapper_width [] at es h = ap sum_of_widths (done_only tt tt at es h).0
wrapper_width (w ∷ ws) at es h =
    let m = ranged_only «wrapper» (fixed (unsigned 8)) wrapper_differs (pos w) (pos w) (λ z. wrapper_table «wrapper» ws) at es tt h in
    omega (arith, ap sum_of_widths m.2, wrapper_width ws (at + 8) m.1 m.5)

-- where they are there, the data is what lies behind them
pub wrapped_is : (s : List ℕ) → Ok tt ≡ wrapper_of (read (wrapper_table «wrapper» wrapper_bytes) 0 (bits_of s)) → (8 ≤ length s) × (bare_data (bits_of (drop 8 s)) ≡ wrapped_data (bits_of s))
wrapped_is s e = go (is_there (read (wrapper_table «wrapper» wrapper_bytes) 0 (bits_of s)) e)
  where
    go : (n : ℕ) × (read (wrapper_table «wrapper» wrapper_bytes) 0 (bits_of s) ≡ ok tt n) → (8 ≤ length s) × (bare_data (bits_of (drop 8 s)) ≡ wrapped_data (bits_of s))
    go (n, q) =
        let m : Means (wrapper_table «wrapper» wrapper_bytes) 0 (bits_of s) (ok tt n) = rw q at (every_answer_is_true (wrapper_table «wrapper» wrapper_bytes) 0 (bits_of s)) in
        let w : n ≡ 64 = m.3 ∙ wrapper_width wrapper_bytes 0 m.0 m.1 in
        let l : 8 ≤ length s = omega (arith, w, takes_what_is_there (wrapper_table «wrapper» wrapper_bytes) 0 (bits_of s) tt n q, length_bits s) in
        let b : bits_of s ≡ bits_of (take 8 s) ++ bits_of (drop 8 s) = ap bits_of (sym (take-append-drop 8 s)) ∙ bits_append (take 8 s) (drop 8 s) in
        let k : length (bits_of (take 8 s)) ≡ 64 = omega (arith, length_bits (take 8 s), length-take-le 8 s l) in
        let d : drop 64 (bits_of s) ≡ bits_of (drop 8 s) = ap (drop 64) b ∙ drop_at (bits_of (take 8 s)) (bits_of (drop 8 s)) 64 k in
        (l, sym (rw (q, w, d) refl))

-- ---- whether they are there

-- the wrapper's table is met
abbrev is_met : Out Name (Unit {0}) → Bool
is_met o = is_ok (wrapper_of o)

-- exactly if the bytes begin with the table's
met_begins : (ws : List ℕ) (at : ℕ) (s : List ℕ) → Bytes s → is_met (read (wrapper_table «wrapper» ws) at (bits_of s)) ≡ begins_with ws s
unfolding begins_with read wrapper_table
met_begins [] at s h = refl
met_begins (w ∷ ws) at [] h = ap is_met (wrapper_end «wrapper» w ws at)
met_begins (w ∷ ws) at (b ∷ s) h = ap is_met (wrapper_byte_lem «wrapper» w ws at b s h.0) ∙ go (eqb b w) (met_begins ws (at + 8) s h.1)
  where
    further : (o : Out Name (Unit {0})) → is_met (widened 8 o) ≡ is_met o
    further (ok t n) = refl
    further (no f) = refl

    go : (e : Bool) → is_met (read (wrapper_table «wrapper» ws) (at + 8) (bits_of s)) ≡ begins_with ws s
        → is_met (cond e (widened 8 (read (wrapper_table «wrapper» ws) (at + 8) (bits_of s))) (no (breaks (range_rule «wrapper» wrapper_differs (pos w) (pos w) at (pos b))))) ≡ (e && begins_with ws s)
    go true q = further (read (wrapper_table «wrapper» ws) (at + 8) (bits_of s)) ∙ q
    go false q = refl

pub begins_is : (s : List ℕ) → Bytes s → is_ok (wrapper_of (read (wrapper_table «wrapper» wrapper_bytes) 0 (bits_of s))) ≡ begins_with wrapper_bytes s
begins_is s h = met_begins wrapper_bytes 0 s h

-- fewer bytes do not begin with these
pub too_short : (ws s : List ℕ) → length s < length ws → false ≡ begins_with ws s
unfolding begins_with
too_short [] s h = absurd (omega arith)
too_short (w ∷ ws) [] h = refl
too_short (w ∷ ws) (b ∷ s) h = go (eqb b w) (too_short ws s (omega arith))
  where
    go : (e : Bool) → false ≡ begins_with ws s → false ≡ (e && begins_with ws s)
    go true q = q
    go false q = refl

-- ---- writing

-- the whole fits exactly if the data fits behind the wrapper
whole_fits : (bytes out : List ℕ) → 8 ≤ length out → fits (wrapper_bytes ++ bytes) out ≡ fits bytes (drop 8 out)
whole_fits bytes out h = go (fits bytes (drop 8 out)) refl
  where
    go : (b : Bool) → fits bytes (drop 8 out) ≡ b → fits (wrapper_bytes ++ bytes) out ≡ b
    go true e = le-leb (length (wrapper_bytes ++ bytes)) (length out) (omega (arith, leb-true (length bytes) (length (drop 8 out)) e, length-drop 8 out, length-append wrapper_bytes bytes))
    go false e = lt-leb (length (wrapper_bytes ++ bytes)) (length out) (omega (arith, leb-false (length bytes) (length (drop 8 out)) e, length-drop 8 out, length-append wrapper_bytes bytes))

-- where the data is refused, no byte behind the wrapper's place changes, and none of the whole
refused_there : (bytes : List ℕ) (good : Bool) (out : List ℕ) (r : Refusal) → 8 ≤ length out → Err r ≡ outcome_as bytes good (drop 8 out)
    → (buffer_as bytes good (drop 8 out) ≡ drop 8 out) × (out ≡ buffer_as (wrapper_bytes ++ bytes) good out)
refused_there bytes good out r h e = rw (whole_fits bytes out h) (go good (fits bytes (drop 8 out)) e)
  where
    go : (t u : Bool) → Err r ≡ cond t (cond u (Ok (length bytes)) (Err UnfitOutput)) (Err NotValid)
        → (cond (t && u) (bytes ++ drop (length bytes) (drop 8 out)) (drop 8 out) ≡ drop 8 out)
        × (out ≡ cond (t && u) ((wrapper_bytes ++ bytes) ++ drop (length (wrapper_bytes ++ bytes)) out) out)
    go true true f = let z : ◌≡◌ {A = ℕ} 0 1 = cc in clash z
    go true false f = (refl, refl)
    go false u f = (refl, refl)

-- so the buffer is as it was, where p is the part behind that place
pub refused_behind : (bytes : List ℕ) (good : Bool) (out p : List ℕ) (r : Refusal) → 8 ≤ length out
    → Err r ≡ outcome_as bytes good (take (length out - 8) (drop 8 out)) → p ≡ buffer_as bytes good (take (length out - 8) (drop 8 out)) → put_mid 8 (length out - 8) out p ≡ buffer_as (wrapper_bytes ++ bytes) good out
refused_behind bytes good out p r h e q =
    let part : take (length out - 8) (drop 8 out) ≡ drop 8 out = take_all (length out - 8) (drop 8 out) (omega (arith, length-drop 8 out)) in
    let x = refused_there bytes good out r h (rw part at e) in
    let z : drop (length out - 8) (drop 8 out) ≡ [] = drop_of_length-le (drop 8 out) (omega (arith, length-drop 8 out)) in
    let w : p ≡ drop 8 out = rw part at q ∙ x.0 in
    rw (z, append-nil p, w) (take-append-drop 8 out ∙ x.1)
