-- The longest listing: no reading that can be listed has a longer one than `longest`, and that one has 1,586 bytes.
use Prim.Native.Nat.{ℕ, suc, ◌+◌, ◌-◌, ◌*◌, ◌^◌, ◌<◌, ◌≤◌}
use mathlib.Core.Path.{◌≡◌, refl}
use mathlib.Core.List.{List, [], ◌∷◌, map}
use mathlib.Core.Bool.{Bool, true, false, cond, not, ◌||◌}
use native.Mathlib.Omega.{arith}
use borrow.Author.Tests.{ltb-true}
use lib.Dec.{eqb}
use lib.IntN.{ℤ, pos, negsuc}
use lib.ListN.{length}
use Rattle.tree.specs.Bits.{bit}
use Rattle.tree.specs.Coding.{Coding, unsigned, signed, holds, hold_all}
use Rattle.tree.specs.Syntax.{Field}
use Rattle.tree.proofs.Bits.{bit_lt}
use Rattle.tree.proofs.Elements.{other_half}
use Rattle.text.specs.Text.{ascii, size_within, size, digits, numeral, line, text}
use Rattle.text.proofs.Decimals.{size_small, length-decimal, few_digits, no_more_digits}
use Rattle.text.proofs.Lines.{length-line, length-text-append}
use Rattle.record.specs.Blocks.{most_blocks, blocks, in_range}
use Rattle.record.specs.declared.Block.{Block}
use Rattle.record.specs.declared.Block.TheVariants.{Nothing, Level1, Level2, Level5}
use Rattle.record.specs.declared.Record.{Record}
use Rattle.record.specs.Name.{metadata_refresh_flag, num_ext_blocks, ext_block_level, Name}
use Rattle.record.specs.Level.{level, level_of, values_of}
use Rattle.record.proofs.Laws.{and_left, and_right}
use Rattle.valid.specs.Valid.{every, many, targets, among, all_differ, valid}
use Rattle.valid.proofs.Clauses.{valid_means}
use Rattle.reader.specs.declared.Reading.{Reading}
use Rattle.listing.specs.Listing.{key, field_lines, block_lines, blocks_lines, head_lines, accepted_lines, refused_lines, listing, listable}
use Rattle.listing.specs.Longest.{longest, wide_trims}

-- ---- fields and blocks

-- the most bytes of a field's number: the digits of the power of two that it does not pass, and a sign where it may have one
abbrev most_bytes : Coding → ℕ
most_bytes (unsigned n) = size (2 ^ n)
most_bytes (signed n) = 1 + size (2 ^ (n - 1))

-- no number that a field holds has more
few_bytes : (c : Coding) (z : ℤ) → holds c z ≡ true → length (numeral z) ≤ most_bytes c
unfolding ascii
few_bytes (unsigned n) (pos v) h = let b = ltb-true v (2 ^ n) h in no_more_digits v (2 ^ n) (omega arith)
few_bytes (unsigned n) (negsuc v) h = let z : ◌≡◌ {A = ℕ} 0 1 = cc in absurd (omega arith)
few_bytes (signed n) (pos v) h = let b = ltb-true v (2 ^ (n - 1)) h in omega (arith, no_more_digits v (2 ^ (n - 1)) (omega arith))
few_bytes (signed n) (negsuc v) h = let b = ltb-true v (2 ^ n - 2 ^ (n - 1)) h in omega (arith, no_more_digits (suc v) (2 ^ (n - 1)) (omega (arith, b, other_half n)))

-- the most bytes of the lines of a row of fields
unfoldable most_in_row : List (Field Name) → ℕ
most_in_row [] = 0
most_in_row (f ∷ fs) = length (ascii (key f.name)) + most_bytes f.coding + 2 + most_in_row fs

-- no row of fields that holds its numbers has more
few_in_row : (fs : List (Field Name)) (zs : List ℤ) → hold_all (map (λ f. f.coding) fs) zs ≡ true → length (text (field_lines fs zs)) ≤ most_in_row fs
unfolding most_in_row field_lines hold_all text
few_in_row [] zs h = omega arith
few_in_row (f ∷ fs) [] h = omega arith
few_in_row (f ∷ fs) (z ∷ zs) h =
    let b = few_bytes f.coding z (and_left (holds f.coding z) (hold_all (map (λ f. f.coding) fs) zs) h) in
    let r = few_in_row fs zs (and_right (holds f.coding z) (hold_all (map (λ f. f.coding) fs) zs) h) in
    omega (arith, length-line (line (key f.name) z) (field_lines fs zs))

-- the most bytes of a block of level l: the line of its level, and those of its fields
unfoldable most_in_block : ℕ → ℕ
most_in_block l = length (text (line (key ext_block_level) (pos l) ∷ [])) + most_in_row (level l).fields

-- no block in range has more
few_in_block : (b : Block) → in_range b ≡ true → length (text (block_lines b)) ≤ most_in_block (level_of b)
unfolding most_in_block
few_in_block b h =
    omega (
      arith,
      length-text-append (line (key ext_block_level) (pos (level_of b)) ∷ []) (field_lines (level (level_of b)).fields (values_of b)),
      few_in_row (level (level_of b)).fields (values_of b) h,
    )

-- a block's most is that of its level
block_bytes : (b : Block) → most_in_block (level_of b) ≡ most_in_block 0 * bit (eqb (level_of b) 0) + most_in_block 1 * bit (eqb (level_of b) 1) + most_in_block 2 * bit (eqb (level_of b) 2) + most_in_block 5 * bit (eqb (level_of b) 5)
unfolding most_in_block most_in_row text ascii size_within digits
block_bytes Nothing = refl
block_bytes (Level1 min max avg) = refl
block_bytes (Level2 t s o p c g m) = refl
block_bytes (Level5 l r t b) = refl

-- so many for each block of its level
few_in_blocks : (bs : List Block) → every in_range bs ≡ true
    → length (text (blocks_lines bs)) ≤ most_in_block 0 * many 0 bs + most_in_block 1 * many 1 bs + most_in_block 2 * many 2 bs + most_in_block 5 * many 5 bs
unfolding every blocks_lines text many most_in_block most_in_row ascii size_within digits
few_in_blocks [] h = omega arith
few_in_blocks (b ∷ bs) h =
    let r = few_in_blocks bs (and_right (in_range b) (every in_range bs) h) in
    let f = few_in_block b (and_left (in_range b) (every in_range bs) h) in
    omega (arith, length-text-append (block_lines b) (blocks_lines bs), block_bytes b)

-- ---- readings

-- the four lines before the blocks
head_bytes : (flag : Bool) (bits count : ℕ) → length (text (head_lines flag bits count)) ≡ 33 + size bits + size count
unfolding text ascii
head_bytes flag bits count =
    let bs = line "bits" (pos bits) ∷ line (key num_ext_blocks) (pos count) ∷ [] in
    omega (
      arith,
      length-line (line "result" (pos 0)) (line (key metadata_refresh_flag) (pos (bit flag)) ∷ bs),
      length-line (line (key metadata_refresh_flag) (pos (bit flag))) bs,
      length-line (line "bits" (pos bits)) (line (key num_ext_blocks) (pos count) ∷ []),
      length-line (line (key num_ext_blocks) (pos count)) [],
      length-decimal 0,
      size_small 0 (omega arith),
      length-decimal (bit flag),
      size_small (bit flag) (omega (arith, bit_lt flag)),
      length-decimal bits,
      length-decimal count,
    )

-- the most bytes of an accepted reading: the lines before the blocks, and the blocks that a record may hold
abbrev most_in_accepted : ℕ
most_in_accepted = length (text (head_lines true (2 ^ 32 - 1) most_blocks)) + most_in_block 1 * (level 1).most + most_in_block 2 * (level 2).most + most_in_block 5 * (level 5).most

few_in_accepted : (r : Record) (bits : ℕ) → bits < 2 ^ 32 → valid r ≡ true → length (text (accepted_lines r bits)) ≤ most_in_accepted
unfolding most_in_block most_in_row text ascii size_within digits
few_in_accepted r bits h k =
    let v = valid_means r k in
    omega (
      arith,
      length-text-append (head_lines r.refresh bits r.count) (blocks_lines (blocks r)),
      head_bytes r.refresh bits r.count,
      length-decimal bits,
      no_more_digits bits (2 ^ 32 - 1) (omega arith),
      length-decimal r.count,
      no_more_digits r.count most_blocks v.few,
      few_in_blocks (blocks r) v.ranges,
      v.levels 0,
      v.levels 1,
      v.levels 2,
      v.levels 5,
    )

-- a refusal is one short line
few_in_refused : (n : ℕ) → n < 256 → length (text (refused_lines n)) ≤ 11
unfolding text ascii
few_in_refused n h = omega (arith, length-line (line "result" (pos n)) [], length-decimal n, few_digits 2 n (omega arith))

-- the one place where the number stands; the code's is computed, and proved to be this length
pub longest_bytes : length (listing longest) ≡ 1586
unfolding listing longest wide_trims text ascii digits size_within blocks_lines field_lines
longest_bytes = refl

pub longest-listable : listable longest ≡ true
unfolding longest wide_trims valid every many targets among all_differ hold_all
longest-listable = refl

-- `longest` has the most that an accepted reading may have
longest_accepted : length (listing longest) ≡ most_in_accepted
unfolding listing longest wide_trims text ascii digits size_within blocks_lines field_lines most_in_block most_in_row
longest_accepted = refl

-- no listing is longer: the result is a number of 8 bits and the bits read are one of 32, as in every reading
pub no_listing_is_longer : (q : Reading) → q.result < 256 → q.bits < 2 ^ 32 → listable q ≡ true → length (listing q) ≤ length (listing longest)
unfolding listing
no_listing_is_longer q h k l = go (eqb q.result 0) l
  where
    go : (t : Bool) → not t || valid q.«record» ≡ true
        → length (text (cond t (accepted_lines q.«record» q.bits) (refused_lines q.result))) ≤ length (listing longest)
    go true l = rw longest_accepted (few_in_accepted q.«record» q.bits k l)
    go false l = omega (arith, few_in_refused q.result h, longest_bytes)
