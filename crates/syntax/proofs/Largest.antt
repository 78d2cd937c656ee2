-- The largest payload: no valid record has a longer one than `largest`, and that one has 224 bytes; no data has a longer one than
-- `longest_data`, and that one has 260,766.
use Prim.Native.Nat.{ℕ, zero, suc, ◌+◌, ◌*◌, ◌/◌, ◌^◌, ◌<◌, ◌≤◌}
use mathlib.Core.Path.{◌≡◌, refl, ap, ◌∙◌}
use mathlib.Core.List.{List, [], ◌∷◌, ◌++◌, map}
use mathlib.Core.Bool.{Bool, true, false, cond, ◌&&◌}
use native.Mathlib.Omega.{arith}
use borrow.Author.Tests.{leb-true}
use lib.Dec.{eqb}
use lib.IntN.{ℤ, pos}
use lib.ListN.{length, replicate, length-replicate}
use Rattle.tree.specs.Codes.{halvings}
use Rattle.tree.specs.Reading.{to_boundary}
use Rattle.tree.specs.Syntax.{coding_of}
use Rattle.tree.specs.Meaning.{Element, all_bits, sum_of_widths, field_elements}
use Rattle.tree.specs.Coding.{unsigned, variable, width_in, total_width, hold_all}
use Rattle.tree.proofs.Truth.{clash}
use Rattle.tree.proofs.Bits.{length-packed}
use Rattle.tree.proofs.Elements.{zeros_few}
use Rattle.tree.proofs.Meaning.{widths_append, length-all}
use Rattle.tree.proofs.Accepted.{widths_zeros}
use Rattle.tree.proofs.Widths.{widths_fields}
use Rattle.record.specs.declared.Block.{Block}
use Rattle.record.specs.declared.Block.TheVariants.{Nothing, Level1, Level2, Level5}
use Rattle.record.specs.declared.Record.{Record}
use Rattle.record.specs.Name.{Name}
use Rattle.record.specs.Blocks.{blocks}
use Rattle.valid.specs.Valid.{many, valid, every, targets, among, all_differ, Proper}
use Rattle.valid.proofs.Clauses.{valid_means}
use Rattle.record.proofs.Laws.{and_left, and_right, tests}
use Rattle.syntax.specs.Data.{most_announced, most_reserved, Item, kept, passed, kept_in, reserved_bits, Data}
use Rattle.syntax.specs.Element.{to_byte, block_elements, blocks_elements, head_elements, open_elements, elements, payload, bits_of_data, item_elements, items_elements, item_fits, item_follows, all_fit, data_elements, data_payload, data_width, WellFormedData}
use Rattle.syntax.specs.Largest.{largest, trims, longest_data}
use Rattle.syntax.proofs.Blocks.{reserved-codings}

-- 01's table: a whole block of level 1 has 53 bits, of level 2 103, of level 5 71
pub widths_blocks : (bs : List Block) → sum_of_widths (blocks_elements bs) ≡ 9 * many 0 bs + 53 * many 1 bs + 103 * many 2 bs + 71 * many 5 bs
unfolding sum_of_widths blocks_elements many field_elements total_width halvings
widths_blocks [] = refl
widths_blocks (Nothing ∷ bs) = omega (arith, widths_append (block_elements Nothing) (blocks_elements bs), widths_blocks bs)
widths_blocks (Level1 min max avg ∷ bs) = omega (arith, widths_append (block_elements (Level1 min max avg)) (blocks_elements bs), widths_blocks bs)
widths_blocks (Level2 t s o p c g m ∷ bs) = omega (arith, widths_append (block_elements (Level2 t s o p c g m)) (blocks_elements bs), widths_blocks bs)
widths_blocks (Level5 l r t b ∷ bs) = omega (arith, widths_append (block_elements (Level5 l r t b)) (blocks_elements bs), widths_blocks bs)

pub widths_to_byte : (es : List (Element Name)) → sum_of_widths (to_byte es) ≡ sum_of_widths es + to_boundary (sum_of_widths es)
widths_to_byte es = widths_append es _ ∙ ap (λ (n : ℕ). sum_of_widths es + n) (widths_zeros (to_boundary (sum_of_widths es)) _)

-- a number of blocks whose code has at most k zeros
pub widths_head : (flag : Bool) (n k : ℕ) → n + 1 < 2 ^ suc k → sum_of_widths (head_elements flag n) ≤ 6 + 2 * k
unfolding sum_of_widths halvings
widths_head true n k h = omega (arith, zeros_few k n h)
widths_head false n k h = omega arith

-- and zero bits to the next byte boundary
pub widths_open : (flag : Bool) (n k j : ℕ) → n + 1 < 2 ^ suc k → 6 + 2 * k ≤ 8 * j → sum_of_widths (open_elements flag n) ≤ 8 * j
widths_open flag n k j h l = go (eqb n 0)
  where
    w : sum_of_widths (head_elements flag n) ≤ 6 + 2 * k
    w = widths_head flag n k h

    go : (b : Bool) → sum_of_widths (cond b (head_elements flag n) (to_byte (head_elements flag n))) ≤ 8 * j
    go true = omega (arith, w)
    go false = omega (arith, w, widths_to_byte (head_elements flag n))

-- 01: 14 header bits, 2 zeros, 1,772 block bits make 1,788 bits, then 4 zeros
pub most_bits_lem : (r : Record) → Proper r → bits_of_data r ≤ 1792
unfolding elements
most_bits_lem r p =
    let v = valid_means r p.valid_record in
    let bs = blocks r in
    let es = open_elements r.refresh r.count ++ blocks_elements bs in
    let w : sum_of_widths es ≤ 1788 =
    omega (
      arith,
      widths_append (open_elements r.refresh r.count) (blocks_elements bs),
      widths_open r.refresh r.count 4 2 (omega (arith, v.few)) (omega arith),
      widths_blocks bs,
      v.levels 0,
      v.levels 1,
      v.levels 2,
      v.levels 5,
    ) in
    omega (arith, widths_to_byte es)

pub payload-length : (r : Record) → length (payload r) ≡ bits_of_data r / 8
payload-length r = length-packed (length (all_bits (elements r)) / 8) (all_bits (elements r)) ∙ ap (λ (n : ℕ). n / 8) (length-all (elements r))

pub largest_bits : bits_of_data largest ≡ 1792
unfolding elements sum_of_widths blocks_elements field_elements total_width halvings largest trims
largest_bits = refl

pub largest-length : length (payload largest) ≡ 224
largest-length = payload-length largest ∙ ap (λ (n : ℕ). n / 8) largest_bits

pub largest_proper : Proper largest
unfolding largest trims valid every many targets among all_differ hold_all
largest_proper = record { places = refl; valid_record = refl }

pub no_payload_is_longer : (r : Record) → Proper r → length (payload r) ≤ length (payload largest)
no_payload_is_longer r p = omega (arith, payload-length r, most_bits_lem r p, largest-length)

-- ---- data

-- a reserved block of 1,023 bytes has 8,213 bits, and no block has more
abbrev pub block_most : ℕ
block_most = 21 + 8 + 8 * most_reserved

widths_ones : (k : ℕ) → total_width (replicate k (unsigned 1)) ≡ k
unfolding total_width
widths_ones zero = refl
widths_ones (suc k) = omega (arith, widths_ones k)

pub reserved-width : (n : ℕ) → total_width (map coding_of (reserved_bits n)) ≡ 8 * n
reserved-width n = ap total_width (reserved-codings n) ∙ widths_ones (8 * n)

pub widths_reserved : (l n : ℕ) (zs : List ℤ) → hold_all (replicate (8 * n) (unsigned 1)) zs ≡ true → sum_of_widths (item_elements (passed l n zs)) ≡ width_in variable (pos n) + 8 + 8 * n
unfolding sum_of_widths
widths_reserved l n zs h = omega (arith, widths_fields (reserved_bits n) zs (rw (reserved-codings n) h), reserved-width n)

pub widths_item : (i : Item) → item_fits i ≡ true → sum_of_widths (item_elements i) ≤ block_most
unfolding sum_of_widths field_elements total_width halvings
widths_item (kept Nothing) h = omega arith
widths_item (kept (Level1 min max avg)) h = omega arith
widths_item (kept (Level2 t s o p c g m)) h = omega arith
widths_item (kept (Level5 l r t b)) h = omega arith
widths_item (passed l n zs) h =
    let m = leb-true n most_reserved (search tests depth 12) in
    let e : hold_all (replicate (8 * n) (unsigned 1)) zs ≡ true = search tests depth 12 in
    omega (arith, widths_reserved l n zs e, zeros_few 10 n (omega arith))

pub widths_items : (before : List Block) (is : List Item) → all_fit before is ≡ true → sum_of_widths (items_elements is) ≤ block_most * length is
unfolding sum_of_widths items_elements all_fit
widths_items before [] h = omega arith
widths_items before (i ∷ is) h =
    let after = before ++ kept_in (i ∷ []) in
    let f = and_left (item_fits i && item_follows before i) (all_fit after is) h in
    let r = and_right (item_fits i && item_follows before i) (all_fit after is) h in
    omega (arith, widths_append (item_elements i) (items_elements is), widths_item i (and_left (item_fits i) (item_follows before i) f), widths_items after is r)

-- 20 header bits, 4 zeros, 254 × 8,213 block bits make 2,086,126 bits, then 2 zeros
abbrev pub most_bits : ℕ
most_bits = 8 * 260766

pub most_data_bits : (d : Data) → WellFormedData d → data_width d ≤ most_bits
unfolding data_elements
most_data_bits d w =
    let es = open_elements d.refresh (length d.items) ++ items_elements d.items in
    let few = w.few in
    let first = widths_open d.refresh (length d.items) 7 3 (omega arith) (omega arith) in
    let all = widths_items [] d.items w.fit in
    let e : sum_of_widths es ≤ 24 + block_most * most_announced =
    omega (arith, widths_append (open_elements d.refresh (length d.items)) (items_elements d.items)) in
    omega (arith, widths_to_byte es)

pub data_payload-length : (d : Data) → length (data_payload d) ≡ data_width d / 8
data_payload-length d = length-packed (length (all_bits (data_elements d)) / 8) (all_bits (data_elements d)) ∙ ap (λ (n : ℕ). n / 8) (length-all (data_elements d))

-- the longest is well formed, and has so many
zeros_held : (k : ℕ) → hold_all (replicate k (unsigned 1)) (replicate k (pos 0)) ≡ true
unfolding hold_all
zeros_held zero = refl
zeros_held (suc k) = zeros_held k

module _ (i : Item) (f : item_fits i ≡ true) (k : kept_in (i ∷ []) ≡ []) (j : (before : List Block) → item_follows before i ≡ true) where
  all_the_same : (n : ℕ) → all_fit [] (replicate n i) ≡ true
  unfolding all_fit
  all_the_same zero = refl
  all_the_same (suc n) = rw (f, j [], k) (all_the_same n)

  same_widths : (n : ℕ) → sum_of_widths (items_elements (replicate n i)) ≡ sum_of_widths (item_elements i) * n
  unfolding items_elements sum_of_widths
  same_widths zero = omega arith
  same_widths (suc n) = omega (arith, widths_append (item_elements i) (items_elements (replicate n i)), same_widths n)

abbrev longest_block : Item
longest_block = passed 0 most_reserved (replicate (8 * most_reserved) (pos 0))

longest_fits : item_fits longest_block ≡ true
longest_fits = zeros_held (8 * most_reserved)

pub longest_is_well_formed : WellFormedData longest_data
unfolding longest_data kept_in
longest_is_well_formed = record {
  few = omega (arith, length-replicate most_announced longest_block);
  flag = λ q. let z : ◌≡◌ {A = ℕ} 0 1 = cc in clash z;
  fit = all_the_same longest_block longest_fits refl (λ before. refl) most_announced;
}

open_most : sum_of_widths (open_elements true most_announced) ≡ 24
unfolding sum_of_widths halvings
open_most = refl

pub longest-length : length (data_payload longest_data) ≡ 260766
unfolding longest_data data_elements kept_in halvings
longest-length =
    let es = open_elements true (length longest_data.items) ++ items_elements longest_data.items in
    let l : length longest_data.items ≡ most_announced = length-replicate most_announced longest_block in
    let o : sum_of_widths (open_elements true (length longest_data.items)) ≡ 24 = rw l open_most in
    let w : sum_of_widths es ≡ 24 + block_most * most_announced =
    omega (arith, widths_append (open_elements true (length longest_data.items)) (items_elements longest_data.items), same_widths longest_block longest_fits refl (λ before. refl) most_announced, widths_reserved 0 most_reserved (replicate (8 * most_reserved) (pos 0)) (zeros_held (8 * most_reserved))) in
    omega (arith, data_payload-length longest_data, widths_to_byte es)

pub no_data_is_longer : (d : Data) → WellFormedData d → length (data_payload d) ≤ length (data_payload longest_data)
no_data_is_longer d w = omega (arith, data_payload-length d, most_data_bits d w, longest-length)
