-- Laws of the parts of a payload as the writer puts them: their lengths, and how they join.
use Prim.Native.Nat.{ℕ, zero, suc, ◌+◌, ◌*◌, ◌/◌, ◌%◌, ◌<◌, ◌≤◌}
use mathlib.Core.Path.{◌≡◌, refl, ap, sym, ◌∙◌}
use mathlib.Core.List.{List, [], ◌∷◌, ◌++◌, map, append_assoc, append-nil}
use mathlib.Core.Bool.{Bool, true, false, cond}
use native.Mathlib.Omega.{arith}
use borrow.Author.Tests.{ltb-true}
use lib.Dec.{ltb}
use lib.IntN.{ℤ, pos, negsuc}
use native.Mathlib.Nat.{mul-suc}
use Rattle.std.specs.List.{flat_map}
use Rattle.std.proofs.lemmas.List.{take_more, flat_map_more}
use Rattle.std.proofs.lemmas.List.Folds.{length-flat_map-take}
use lib.ListN.{length, get_or, take, drop, replicate, length-append, length-take, take-append-drop}
use lib.Signed.{mag}
use mir.Val.{to_z, of_z}
use mir.ValLaws.{to_z-of_z}
use mir.Syntax.{w16, w32}
use Rattle.tree.specs.Bits.{bit, code, bits_of, pack, Bytes}
use Rattle.tree.specs.Codes.{halvings, ue_code}
use Rattle.tree.specs.Coding.{signed, holds, hold_all, complement, field_code, fields_code, total_width}
use Rattle.tree.specs.Reading.{to_boundary}
use Rattle.tree.specs.Syntax.{Field, coding_of}
use Rattle.tree.specs.Meaning.{Element, zero_bit, all_bits, sum_of_widths, field_elements}
use Rattle.tree.proofs.Lists.{bytes_take}
use Rattle.tree.proofs.Bits.{length-code, pack_bits}
use Rattle.tree.proofs.Meaning.{all_bits-append, length-all}
use Rattle.pen.specs.declared.Pen.{Pen}
use Rattle.pen.specs.Writing.{start_pen, Wrote}
use Rattle.pen.proofs.Writing.{wrote_then}
use Rattle.record.specs.declared.Block.{Block}
use Rattle.record.specs.declared.Block.TheVariants.{Nothing, Level1, Level2, Level5}
use Rattle.record.specs.Name.{Name}
use Rattle.record.specs.Level.{level, codings, padding, level_of, values_of, fields_of}
use Rattle.record.specs.declared.Record.{Record}
use Rattle.record.specs.Blocks.{in_range}
use Rattle.record.proofs.Laws.{and_left, and_right}
use Rattle.syntax.specs.Element.{to_byte, block_elements, head_elements, elements, payload, bits_of_data}
use Rattle.syntax.proofs.Largest.{payload-length}
use Rattle.syntax.proofs.Exact.{whole}
use Rattle.writer.specs.Writing.{flag_code}

-- the flag's code has at least its own bit
pub length_flag : (flag : Bool) (n : ℕ) → 1 ≤ length (flag_code flag n)
length_flag flag n = omega (arith, length-append (code 1 (bit flag)) (cond flag (ue_code n) []), length-code 1 (bit flag))

-- ---- the bits of rows of elements

-- zero bits, and a row of fields
bits_zeros : (n : ℕ) (name : Name) → all_bits (replicate n (zero_bit name)) ≡ replicate n false
unfolding all_bits code
bits_zeros zero name = refl
bits_zeros (suc n) name = ap (λ (l : List Bool). false ∷ l) (bits_zeros n name)

bits_fields : (fs : List (Field Name)) (zs : List ℤ) → all_bits (field_elements fs zs) ≡ fields_code (map coding_of fs) zs
unfolding all_bits field_elements fields_code
bits_fields [] zs = refl
bits_fields (f ∷ fs) [] = refl
bits_fields (f ∷ fs) (z ∷ zs) = ap (λ (l : List Bool). field_code f.coding z ++ l) (bits_fields fs zs)

-- the one code of a block
pub block_bits_lem : (b : Block) → all_bits (block_elements b)
    ≡ ue_code (level (level_of b)).bytes ++ (code 8 (level_of b) ++ (fields_code (codings (level_of b)) (values_of b) ++ replicate (padding (level_of b)) false))
unfolding all_bits
block_bits_lem b =
    ap (λ (l : List Bool). ue_code (level (level_of b)).bytes ++ (code 8 (level_of b) ++ l))
    (all_bits-append (field_elements (fields_of (level_of b)) (values_of b)) _ ∙ rw (bits_fields (fields_of (level_of b)) (values_of b), bits_zeros (padding (level_of b)) _))

-- zero bits to the next byte boundary
bits_to_byte : (es : List (Element Name)) → all_bits (to_byte es) ≡ all_bits es ++ replicate (to_boundary (length (all_bits es))) false
bits_to_byte es = all_bits-append es _ ∙ rw (bits_zeros (to_boundary (sum_of_widths es)) _, length-all es)

-- the elements up to num_ext_blocks
pub head_bits_lem : (flag : Bool) (n : ℕ) → all_bits (head_elements flag n) ≡ ue_code 1 ++ (ue_code 0 ++ flag_code flag n)
unfolding all_bits
head_bits_lem true n = rw (append-nil (ue_code n))
head_bits_lem false n = refl

pub head_length : (flag : Bool) (n : ℕ) → sum_of_widths (head_elements flag n) ≡ length (ue_code 1) + (length (ue_code 0) + length (flag_code flag n))
head_length flag n =
    sym (length-all (head_elements flag n)) ∙ ap length (head_bits_lem flag n)
    ∙ omega (arith, length-append (ue_code 1) (ue_code 0 ++ flag_code flag n), length-append (ue_code 0) (flag_code flag n))

-- the fields of each level
pub level1-code : (a b c : ℕ) → fields_code (codings 1) (pos a ∷ pos b ∷ pos c ∷ []) ≡ flat_map (code 12) (a ∷ b ∷ c ∷ [])
unfolding fields_code
level1-code a b c = refl

pub level2-code : (t s o p c g : ℕ) (m : ℤ) → fields_code (codings 2) (pos t ∷ pos s ∷ pos o ∷ pos p ∷ pos c ∷ pos g ∷ m ∷ [])
    ≡ flat_map (code 12) (t ∷ s ∷ o ∷ p ∷ c ∷ g ∷ []) ++ code 13 (complement 13 m)
unfolding fields_code
level2-code t s o p c g m = simp (append_assoc, append-nil)

pub level5-code : (l r t b : ℕ) → fields_code (codings 5) (pos l ∷ pos r ∷ pos t ∷ pos b ∷ []) ≡ flat_map (code 13) (l ∷ r ∷ t ∷ b ∷ [])
unfolding fields_code
level5-code l r t b = refl

-- one item more of a list, and its bits behind those before it
pub flat_map_next : {A : Type 0} (f : A → List Bool) (xs : List A) (i : ℕ) (d : A) → i < length xs → flat_map f (take (i + 1) xs) ≡ flat_map f (take i xs) ++ f (get_or xs i d)
flat_map_next f xs i d h = rw (take_more xs i d h) (sym (flat_map_more f [] (take i xs) (get_or xs i d)))

-- a row of fields: its length, and room for one behind those before it
pub length-row : (n : ℕ) (vs : List ℕ) → length (flat_map (code n) vs) ≡ n * length vs
length-row n [] = omega arith
length-row n (v ∷ vs) = omega (arith, length-append (code n v) (flat_map (code n) vs), length-code n v, length-row n vs, mul-suc n (length vs))

pub row_room : (n : ℕ) (vs : List ℕ) (i : ℕ) → i < length vs → length (flat_map (code n) (take i vs)) + n ≤ length (flat_map (code n) vs)
row_room n vs i h = omega (arith, length-flat_map-take (code n) vs i 0 h, length-code n (get_or vs i 0))

-- ms_weight of a block in range is what its casts to 16 and to 32 bits give
pub weight_held : (t s o p c g : ℕ) (m : ℤ) → in_range (Level2 t s o p c g m) ≡ true
    → (holds (signed 13) m ≡ true) × (to_z w32 (of_z w32 (to_z w16 (of_z w16 m))) ≡ m)
unfolding hold_all
weight_held t s o p c g m h =
    let h1 = and_right (ltb t 4096) _ h in
    let h2 = and_right (ltb s 4096) _ h1 in
    let h3 = and_right (ltb o 4096) _ h2 in
    let h4 = and_right (ltb p 4096) _ h3 in
    let h5 = and_right (ltb c 4096) _ h4 in
    let h6 = and_right (ltb g 4096) _ h5 in
    let h7 = and_left (holds (signed 13) m) true h6 in
    (h7, same m (small m h7))
  where
    small : (m : ℤ) → holds (signed 13) m ≡ true → mag m < 4096
    small (pos v) h = ltb-true v 4096 h
    small (negsuc v) h = ltb-true v 4096 h

    same : (m : ℤ) → mag m < 4096 → to_z w32 (of_z w32 (to_z w16 (of_z w16 m))) ≡ m
    same m h = rw (to_z-of_z w16 m (record { sfits = omega arith })) (to_z-of_z w32 m (record { sfits = omega arith }))

-- the widths of a block's parts
pub block_parts : (b : Block) → sum_of_widths (block_elements b) ≡ length (ue_code (level (level_of b)).bytes) + 8 + total_width (codings (level_of b)) + padding (level_of b)
unfolding sum_of_widths field_elements total_width halvings ue_code code
block_parts Nothing = refl
block_parts (Level1 min max avg) = refl
block_parts (Level2 t s o p c g m) = refl
block_parts (Level5 l r t b) = refl

pub padding_small : (b : Block) → padding (level_of b) ≤ 32
unfolding total_width
padding_small Nothing = omega arith
padding_small (Level1 min max avg) = omega arith
padding_small (Level2 t s o p c g m) = omega arith
padding_small (Level5 l r t b) = omega arith

-- zero bits to the next byte boundary, from the start of a buffer
module _ {o₀ o₁ : List ℕ} {p₁ : Pen} (es : List (Element Name)) (so_far : Wrote o₀ start_pen (all_bits es) o₁ p₁) where
  here : 8 * p₁.at + p₁.waiting ≡ length (all_bits es)
  here = omega (arith, so_far.place)

  pub byte_wrote : {o₂ : List ℕ} {p₂ : Pen} → Wrote o₁ p₁ (replicate (to_boundary (8 * p₁.at + p₁.waiting)) false) o₂ p₂ → Wrote o₀ start_pen (all_bits (to_byte es)) o₂ p₂
  byte_wrote q = rw (bits_to_byte es, ← here) (wrote_then so_far q)

-- what it holds after whole bytes were written from its start
pub all_written : {out out' : List ℕ} {pen : Pen} {bits : List Bool} → Wrote out start_pen bits out' pen → length bits % 8 ≡ 0 → length bits ≤ 8 * length out → Bytes out'
    → out' ≡ pack bits ++ drop (length (pack bits)) out
unfolding code bits_of
all_written {out} {out'} {pen} {bits} w e r h =
    let k : pen.waiting ≡ 0 = omega (arith, w.place, pen.few) in
    let a : pen.at ≡ length bits / 8 = omega (arith, w.place, pen.few) in
    let t = take pen.at out' in
    let b : bits_of t ≡ bits = sym (append-nil (bits_of t)) ∙ (rw k at w.up_to) in
    let p : t ≡ pack bits = sym (pack_bits t (bytes_take pen.at out' h)) ∙ ap pack b in
    let n : length (pack bits) ≡ pen.at = ap length (sym p) ∙ omega (arith, length-take pen.at out', w.same) in
    sym (take-append-drop pen.at out') ∙ rw (p, n) (ap (λ (l : List ℕ). pack bits ++ l) w.later)

-- the bits of a payload are 8 for each of its bytes
pub bits_of_bytes : (r : Record) → bits_of_data r ≡ 8 * length (payload r)
bits_of_bytes r = omega (arith, payload-length r, whole r, length-all (elements r))
