-- Laws of the room that a payload needs: the widths of its parts.
use Prim.Native.Nat.{ℕ, zero, suc, ◌+◌, ◌*◌, ◌/◌, ◌<◌, ◌≤◌}
use mathlib.Core.Path.{◌≡◌, refl, ap, sym, ◌∙◌}
use mathlib.Core.List.{List, [], ◌∷◌, ◌++◌}
use mathlib.Core.Bool.{Bool, true, false, cond}
use native.Mathlib.Omega.{arith}
use lib.Dec.{eqb}
use Rattle.std.specs.List.{sum_by, flat_map}
use Rattle.std.specs.Int.{div_ceil}
use Rattle.std.proofs.lemmas.List.{take-map}
use Rattle.std.proofs.lemmas.List.Sums.{sum_by-cons}
use Rattle.record.specs.declared.Place.{Place}
use Rattle.tree.specs.Meaning.{all_bits}
use Rattle.tree.proofs.Meaning.{all_bits-append, length-all}
use Rattle.writer.specs.Writing.{block_code}
use mathlib.Core.List.{map}
use lib.ListN.{length, take, length-take, get_or}
use Rattle.tree.specs.Coding.{total_width}
use Rattle.tree.specs.Reading.{to_boundary}
use Rattle.tree.specs.Meaning.{sum_of_widths, field_elements}
use Rattle.tree.specs.Codes.{halvings, zeros_of}
use Rattle.tree.proofs.Elements.{zeros_few}
use Rattle.tree.proofs.Meaning.{widths_append}
use Rattle.record.specs.declared.Block.{Block}
use Rattle.record.specs.declared.Block.TheVariants.{Nothing, Level1, Level2, Level5}
use Rattle.record.specs.declared.Record.{Record}
use Rattle.record.specs.Level.{level, level1, level2, level5, reserved, level_of}
use Rattle.record.specs.Blocks.{most_blocks, empty_place, block_in, all_blocks, blocks}
use Rattle.record.proofs.Laws.{and_left, and_right}
use Rattle.valid.specs.Valid.{every}
use Rattle.syntax.specs.Element.{head_elements, open_elements, block_elements, blocks_elements, elements, payload, bits_of_data}
use Rattle.syntax.proofs.Largest.{widths_to_byte, payload-length}

-- a level's length and the zeros of its code
pub bytes_small : (l : ℕ) → ((level l).bytes ≤ 11) × (zeros_of (level l).bytes ≤ 3)
bytes_small l = let h = go (eqb l 1) (eqb l 2) (eqb l 5) in (h, zeros_few 3 (level l).bytes (omega arith))
  where
    go : (a b c : Bool) → (cond a level1 (cond b level2 (cond c level5 reserved))).bytes ≤ 11
    go true b c = omega arith
    go false true c = omega arith
    go false false true = omega arith
    go false false false = omega arith

pub zeros_of_byte : (v : ℕ) → v < 256 → zeros_of v ≤ 8
zeros_of_byte v h = zeros_few 8 v (omega arith)

-- the bits of a block, by its level
pub block_width : (b : Block) → sum_of_widths (block_elements b) ≡ 2 * zeros_of (level (level_of b)).bytes + 9 + 8 * (level (level_of b)).bytes
unfolding sum_of_widths field_elements total_width halvings
block_width Nothing = refl
block_width (Level1 min max avg) = refl
block_width (Level2 t s o p c g m) = refl
block_width (Level5 l r t b) = refl

pub block_small : (b : Block) → sum_of_widths (block_elements b) ≤ 103
block_small b = omega (arith, block_width b, bytes_small (level_of b))

-- the bits of the blocks in places: their widths one by one, and their codes
widths_are : (ps : List Place) → sum_by (λ (p : Place). sum_of_widths (block_elements p.block)) ps ≡ sum_of_widths (blocks_elements (map block_in ps))
unfolding blocks_elements sum_of_widths
widths_are [] = refl
widths_are (p ∷ ps) =
    sum_by-cons (λ (p : Place). sum_of_widths (block_elements p.block)) p ps
    ∙ omega (arith, widths_are ps, widths_append (block_elements p.block) (blocks_elements (map block_in ps)))

widths_small : (bs : List Block) → sum_of_widths (blocks_elements bs) ≤ 103 * length bs
unfolding blocks_elements sum_of_widths
widths_small [] = omega arith
widths_small (b ∷ bs) = omega (arith, widths_small bs, block_small b, widths_append (block_elements b) (blocks_elements bs))

pub blocks_width : (r : Record) → sum_by (λ (p : Place). sum_of_widths (block_elements p.block)) (take r.count r.places) ≡ sum_of_widths (blocks_elements (blocks r))
blocks_width r = rw (take-map block_in r.count r.places) (widths_are (take r.count r.places))

pub blocks_small : (r : Record) → r.count ≤ most_blocks → sum_of_widths (blocks_elements (blocks r)) ≤ 1854
blocks_small r h = omega (arith, widths_small (blocks r), length-take r.count (all_blocks r))

codes_are : (ps : List Place) → flat_map block_code ps ≡ all_bits (blocks_elements (map block_in ps))
unfolding blocks_elements all_bits
codes_are [] = refl
codes_are (p ∷ ps) = ap (λ (l : List Bool). block_code p ++ l) (codes_are ps) ∙ sym (all_bits-append (block_elements p.block) (blocks_elements (map block_in ps)))

pub blocks_code : (r : Record) → flat_map block_code (take r.count r.places) ≡ all_bits (blocks_elements (blocks r))
blocks_code r = rw (take-map block_in r.count r.places) (codes_are (take r.count r.places))

-- where a payload has room, so has what stands before the blocks, and behind it the blocks
pub data_room : (r : Record) (n : ℕ) → bits_of_data r ≤ n → length (all_bits (open_elements r.refresh r.count)) + length (flat_map block_code (take r.count r.places)) ≤ n
unfolding elements
data_room r n h =
    let es = open_elements r.refresh r.count in
    let bs = blocks_elements (blocks r) in
    omega (arith, ap length (blocks_code r), length-all es, length-all bs, widths_to_byte (es ++ bs), widths_append es bs)

-- each block in range
pub every_at : (test : Block → Bool) (ps : List Place) (j : ℕ) → j < length ps → every test (map block_in ps) ≡ true → test (get_or ps j empty_place).block ≡ true
unfolding every
every_at test [] j h e = absurd (omega arith)
every_at test (p ∷ ps) zero h e = and_left (test p.block) (every test (map block_in ps)) e
every_at test (p ∷ ps) (suc j) h e = every_at test ps j (omega arith) (and_right (test p.block) (every test (map block_in ps)) e)

-- the bits before the blocks
pub head_width : (flag : Bool) (n : ℕ) → sum_of_widths (head_elements flag n) ≡ cond flag (2 * zeros_of n + 6) 5
unfolding sum_of_widths halvings
head_width true n = omega arith
head_width false n = refl

pub open_width : (flag : Bool) (n w : ℕ) (b : Bool) → eqb n 0 ≡ b → w ≡ sum_of_widths (head_elements flag n) → sum_of_widths (open_elements flag n) ≡ cond b w (w + to_boundary w)
open_width flag n w true e h = rw (e, h)
open_width flag n w false e h = rw (e, h) (widths_to_byte (head_elements flag n))

pub open_least : (flag : Bool) (n : ℕ) → sum_of_widths (head_elements flag n) ≤ sum_of_widths (open_elements flag n)
open_least flag n = go (eqb n 0) refl
  where
    go : (b : Bool) → eqb n 0 ≡ b → sum_of_widths (head_elements flag n) ≤ sum_of_widths (open_elements flag n)
    go true e = omega (arith, open_width flag n (sum_of_widths (head_elements flag n)) true e refl)
    go false e = omega (arith, open_width flag n (sum_of_widths (head_elements flag n)) false e refl)

-- the bytes of a payload
pub needed : (r : Record) (a b : ℕ) → a ≡ sum_of_widths (open_elements r.refresh r.count) → b ≡ sum_of_widths (blocks_elements (blocks r)) → div_ceil (a + b) 8 ≡ length (payload r)
unfolding elements
needed r a b e f =
    let es = open_elements r.refresh r.count in
    let s : sum_of_widths (es ++ blocks_elements (blocks r)) ≡ a + b = widths_append es (blocks_elements (blocks r)) ∙ rw (e, f) in
    let p : length (payload r) ≡ (a + b + to_boundary (a + b)) / 8 = payload-length r ∙ ap (λ (n : ℕ). n / 8) (widths_to_byte (es ++ blocks_elements (blocks r)) ∙ rw s) in
    omega (arith, p)
