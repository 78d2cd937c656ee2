-- Laws by which the functions that read the fields of a level meet their definitions.
use Prim.Native.Nat.{ℕ, suc, ◌+◌, ◌-◌, ◌*◌, ◌/◌, ◌%◌, ◌^◌, ◌<◌, ◌≤◌}
use mathlib.Core.Path.{◌≡◌, refl, ap, sym, ◌∙◌}
use mathlib.Core.List.{List, [], ◌∷◌, ◌++◌, map}
use mathlib.Core.Bool.{Bool, true, false, cond}
use native.Mathlib.Omega.{arith}
use native.Mathlib.Nat.{add-zero, zero-mul, add-mul, div-eq_of_lt, div-eq-sub-div}
use borrow.Author.Tests.{ltb-true, ltb-false, ne_eqb}
use lib.Dec.{ltb}
use lib.IntN.{ℤ}
use lib.ListN.{length, take, drop, get_or, take-append-drop}
use lib.Pow.{pow_mono}
use lib.Seq.{drop-drop}
use mir.Syntax.{w16}
use mir.Val.{SFits}
use Rattle.std.specs.Prelude.{Result, Ok, Err}
use Rattle.refusals.specs.declared.Refusal.TheVariants.{PastEnd}
use Rattle.tree.specs.Bits.{bits_of, value}
use Rattle.tree.specs.Reading.{cut_off, Out, ok, no, mapped, signed_of}
use Rattle.tree.specs.Coding.{Coding, width_of, total_width}
use Rattle.tree.specs.Syntax.{Field, coding_of, row, read}
use Rattle.tree.proofs.Elements.{twice_half, signed_low, signed_high}
use Rattle.tree.proofs.Bits.{length_rest}
use Rattle.tree.proofs.Steps.{field_value, values_in, cut_in, row_there, row_cut}
use Rattle.window.proofs.Laws.{within}
use Rattle.element.specs.declared.Element.{Element}
use Rattle.element.specs.declared.Element.TheVariants.{Nothing}
use Rattle.element.specs.declared.Refused.{Refused}
use Rattle.element.specs.Refused.{refused}
use Rattle.record.specs.declared.Block.{Block}
use Rattle.record.specs.declared.Block.TheVariants.{Nothing as NoBlock}
use Rattle.record.specs.Name.{Name, element_of}
use Rattle.record.specs.Level.{Level, fields_of, codings}
use Rattle.record.proofs.Laws.{no_level}
use Rattle.syntax.specs.Data.{block_of}
use Rattle.syntax.specs.Told.{refused_as, Tells}
use Rattle.fields.specs.declared.Step.{Step}
use Rattle.fields.specs.Step.{step_of, whole_fields, cut_behind}

-- a block that was read
abbrev is_step : Block → ℕ → Result Step Refused
is_step b n = Ok (record { block = b; width = n })

-- ---- fields

-- the values of fields that fill a word to its end: what is behind one is as wide as the fields after it
abbrev pub word_values : List Coding → ℕ → List ℤ
word_values [] word = []
word_values (c ∷ cs) word = field_value c (word / 2 ^ total_width cs % 2 ^ width_of c) ∷ word_values cs word

-- the same, out of the word that the fields are from a position on
abbrev pub values_at : List Coding → List Bool → ℕ → List ℤ
values_at cs bits at = word_values cs (value (take (total_width cs) (drop at bits)))

-- a word of w bits gives the values of the fields that lie behind its first a bits and fill it to its end
word_values_lem : (cs : List Coding) (bits : List Bool) (w a : ℕ) → a + total_width cs ≡ w → w ≤ length bits → values_in cs (drop a bits) ≡ word_values cs (value (take w bits))
unfolding values_in total_width
word_values_lem [] bits w a e h = refl
word_values_lem (c ∷ cs) bits w a e h =
    let b : w - (a + width_of c) ≡ total_width cs = omega arith in
    rw (← rw b at (within bits w a (width_of c) (omega arith) h), drop-drop (width_of c) a bits, word_values_lem cs bits w (a + width_of c) (omega arith) h)

-- the values of a row of fields in two parts
values_joined : (cs ds : List Coding) (bits : List Bool) → values_in (cs ++ ds) bits ≡ values_in cs bits ++ values_in ds (drop (total_width cs) bits)
unfolding values_in total_width
values_joined [] ds bits = refl
values_joined (c ∷ cs) ds bits = rw (values_joined cs ds (drop (width_of c) bits), drop-drop (total_width cs) (width_of c) bits)

-- and the width of a row in two parts
width_joined : (cs ds : List Coding) → total_width (cs ++ ds) ≡ total_width cs + total_width ds
unfolding total_width
width_joined [] ds = omega arith
width_joined (c ∷ cs) ds = omega (arith, width_joined cs ds)

-- the values of a row: of the first k fields out of one word, and of the others out of the next
values_at_lem : (k : ℕ) (cs : List Coding) (s : List ℕ) (at : ℕ) → at + total_width cs ≤ 8 * length s
    → values_in cs (drop at (bits_of s)) ≡ values_at (take k cs) (bits_of s) at ++ values_at (drop k cs) (bits_of s) (at + total_width (take k cs))
values_at_lem k cs s at h =
    let w = total_width (take k cs) in
    let t = rw take-append-drop at (width_joined (take k cs) (drop k cs)) in
    let x = word_values_lem (take k cs) (drop at (bits_of s)) w 0 (omega arith) (omega (arith, length_rest s at)) in
    let y = word_values_lem (drop k cs) (drop (at + w) (bits_of s)) (total_width (drop k cs)) 0 (omega arith) (omega (arith, length_rest s (at + w))) in
    rw (← x, ← y, ← drop-drop w at (bits_of s)) (rw take-append-drop at (values_joined (take k cs) (drop k cs) (drop at (bits_of s))))

-- ---- which field is cut off

-- a field and those behind it have one width, but for the last
abbrev pub OneWidth : {N : Type 0} → ℕ → Field N → List (Field N) → Type 0
OneWidth w f [] = Unit {0}
OneWidth w f (g ∷ fs) = (width_of f.coding ≡ w) × OneWidth w g fs

-- with one whole field more
one_whole_more : (n w k : ℕ) → 0 < w → w ≤ n → whole_fields n w (suc k) ≡ suc (whole_fields (n - w) w k)
one_whole_more n w k p h = omega (arith, div-eq-sub-div p h)

-- the names of fields
abbrev titles : List (Field Name) → List Element
titles fs = map (λ (f : Field Name). element_of f.name) fs

-- of the field that is cut off, where n bits are there
cut_told : (w : ℕ) → 0 < w → (f : Field Name) (fs : List (Field Name)) → OneWidth w f fs → (at n : ℕ) → refused_as (cut_in f fs at n) ≡ cut_behind (titles (f ∷ fs)) w at (whole_fields n w (length fs))
unfolding cut_in
cut_told w p f [] h at n =
    let z : whole_fields n w 0 ≡ 0 = omega arith in
    rw (z, zero-mul w, add-zero at)
cut_told w p f (g ∷ fs) h at n = rw h.0 (go (cut_told w p g fs h.1 (at + w) (n - w)) (ltb n w) refl)
  where
    further : (k : ℕ) → cut_behind (titles (g ∷ fs)) w (at + w) k ≡ cut_behind (titles (f ∷ g ∷ fs)) w at (suc k)
    further k =
        let s : suc k ≡ k + 1 = omega arith in
        let e : at + w + k * w ≡ at + (k + 1) * w = omega (arith, add-mul k 1 w) in
        ap (refused PastEnd (get_or (titles (g ∷ fs)) k Nothing)) (e ∙ ap (λ (j : ℕ). at + j * w) (sym s))

    go : refused_as (cut_in g fs (at + w) (n - w)) ≡ cut_behind (titles (g ∷ fs)) w (at + w) (whole_fields (n - w) w (length fs)) → (b : Bool) → ltb n w ≡ b
        → refused_as (cond b (cut_off at f.name) (cut_in g fs (at + w) (n - w))) ≡ cut_behind (titles (f ∷ g ∷ fs)) w at (whole_fields n w (suc (length fs)))
    go ih true e =
        let q : n / w ≡ 0 = div-eq_of_lt (ltb-true n w e) in
        let z : whole_fields n w (suc (length fs)) ≡ 0 = omega (arith, q) in
        rw (z, zero-mul w, add-zero at)
    go ih false e = ih ∙ rw (one_whole_more n w (length fs) p (ltb-false n w e)) (further (whole_fields (n - w) w (length fs)))

-- 16 bits hold a signed field of at most 16 bits
pub signed_fits : (n v : ℕ) → 0 < n → n ≤ 16 → v < 2 ^ n → SFits w16 (signed_of n v)
signed_fits n v some most h = go (ltb v (2 ^ (n - 1))) refl
  where
    go : (b : Bool) → ltb v (2 ^ (n - 1)) ≡ b → SFits w16 (signed_of n v)
    go true q =
        let l = ltb-true v (2 ^ (n - 1)) q in
        let p : 2 ^ (n - 1) ≤ 2 ^ 15 = pow_mono {j = 15} (omega arith) in
        rw (signed_low n v l) (record { sfits = omega arith })
    go false q =
        let l = ltb-false v (2 ^ (n - 1)) q in
        let p : 2 ^ (n - 1) ≤ 2 ^ 15 = pow_mono {j = 15} (omega arith) in
        rw (signed_high n v l h) (record { sfits = omega (arith, twice_half n some) })

-- the answer for the fields of a level, where they are there, the first k in one word and the others in the next, and where they are not
module _ (l : ℕ) (s : List ℕ) (at : ℕ) where
  pub fields_is : (k : ℕ) → at + total_width (codings l) ≤ 8 * length s
      → is_step (block_of l (values_at (take k (codings l)) (bits_of s) at ++ values_at (drop k (codings l)) (bits_of s) (at + total_width (take k (codings l))))) (total_width (codings l))
      ≡ step_of (mapped (block_of l) (read (row (fields_of l)) at (drop at (bits_of s))))
  fields_is k h = rw (row_there (fields_of l) at (drop at (bits_of s)) (omega (arith, length_rest s at)), values_at_lem k (codings l) s at h)

  -- not all bits are there
  pub fields_refused : (w : ℕ) → 0 < w → (f : Field Name) (fs : List (Field Name)) → fields_of l ≡ f ∷ fs → OneWidth w f fs → at ≤ 8 * length s → 8 * length s < at + total_width (codings l)
      → Err (cut_behind (titles (fields_of l)) w at (whole_fields (8 * length s - at) w (length fs))) ≡ step_of (mapped (block_of l) (read (row (fields_of l)) at (drop at (bits_of s))))
  fields_refused w p f fs e o h k =
      let r = length_rest s at in
      let short : length (drop at (bits_of s)) < total_width (map coding_of (f ∷ fs)) = omega (arith, r, ap (λ (gs : List (Field Name)). total_width (map coding_of gs)) e) in
      let told = ap (λ (n : ℕ). refused_as (cut_in f fs at n)) r ∙ cut_told w p f fs o at (8 * length s - at) in
      rw (e, row_cut f fs at (drop at (bits_of s)) short) (ap Err (sym told))

-- a level that is not known has no fields
pub fields_none : (l at : ℕ) (s : List Bool) → (l ≡ 1 → ⊥) → (l ≡ 2 → ⊥) → (l ≡ 5 → ⊥) → is_step NoBlock 0 ≡ step_of (mapped (block_of l) (read (row (fields_of l)) at s))
unfolding read row
fields_none l at s f g h =
    let c : fields_of l ≡ [] = ap (λ (v : Level). v.fields) (no_level l f g h) in
    let b : block_of l [] ≡ NoBlock = rw (ne_eqb l 1 f, ne_eqb l 2 g, ne_eqb l 5 h) in
    rw (c, b)

-- ---- answers

-- what an answer says of the reading that it is of
pub step_ok : (o : Out Name Block) (t : Step) → Ok t ≡ step_of o → o ≡ ok t.block t.width
step_ok (ok b n) t e = cc
step_ok (no f) t e = cc

pub step_no : (o : Out Name Block) (r : Refused) → Err r ≡ step_of o → Tells o r
step_no (ok b n) r e = cc
step_no (no f) r e = (f, refl, cc)
