-- ST2094-10_data as one table: A/341, tables E.1.1 to E.1.3, with the rules of document 01 and of request b where each is checked.
use Rattle.std.specs.Prelude.{ℕ, zero, suc, ◌*◌, List, [], ◌∷◌, ◌++◌, map, Bool, true, false, cond, eqb, ltb, get_or, replicate, ℤ, pos}
use Rattle.refusals.specs.Refusals.{wrong_identifier, wrong_version, too_many_blocks, wrong_length, not_in_order, repeated_target}
use Rattle.tree.specs.Reading.{Allowed, between, other_than, Rule, Out}
use Rattle.tree.specs.Coding.{unsigned, variable, fixed, natural}
use Rattle.tree.specs.Syntax.{Syntax, done, position, must, any, ranged, Field, row, one_bit, zero_bits, alignment, read_whole, ◌>>◌, ◌>>=◌}
use Rattle.record.specs.declared.Block.{Block}
use Rattle.record.specs.declared.Block.TheVariants.{Nothing, Level1, Level2, Level5}
use Rattle.record.specs.declared.Record.{Record}
use Rattle.record.specs.Name.{Name, app_identifier, app_version, metadata_refresh_flag, num_ext_blocks, dm_alignment_zero_bit, ext_block_length, ext_block_level, avg_PQ, target_max_PQ, ext_dm_alignment_zero_bit, «end»}
use Rattle.record.specs.Level.{level, known, padding, fields_of}
use Rattle.record.specs.Made.{record_of}
use Rattle.valid.specs.Valid.{many, targets}

-- 02, b: up to 254 blocks may be announced, and a block of a reserved level has at most 1,023 bytes
abbrev pub most_announced : ℕ
most_announced = 254

abbrev pub most_reserved : ℕ
most_reserved = 1023

-- what stands before the blocks: the flag, and how many blocks are announced
pub record Head : Type 0 where
  pub refresh : Bool
  pub count : ℕ

abbrev pub announced : Bool → ℕ → Head
announced flag n = record { refresh = flag; count = n }

-- num_ext_blocks
unfoldable pub block_count : Syntax Name Head
block_count = do
  n ← ranged num_ext_blocks variable too_many_blocks (pos 0) (pos most_announced)
  done (announced true (natural n))

-- table E.1.1, as far as num_ext_blocks
unfoldable pub head : Syntax Name Head
head = do
  a ← ranged app_identifier variable wrong_identifier (pos 1) (pos 1)
  v ← ranged app_version variable wrong_version (pos 0) (pos 0)
  f ← any metadata_refresh_flag (fixed (unsigned 1))
  cond (eqb (natural f) 1) block_count (done (announced false 0))

-- a block of a known level, which is kept; or one of a reserved level, which is passed over: its level, its length in bytes, and its bits
pub data Item : Type 0 where
  kept : Block → Item
  passed : (level bytes : ℕ) → List ℤ → Item

abbrev value_at : List ℤ → ℕ → ℤ
value_at zs k = get_or zs k (pos 0)

abbrev number_at : List ℤ → ℕ → ℕ
number_at zs k = natural (value_at zs k)

-- the block of a level with these values, in the order of the level's fields
abbrev pub block_of : ℕ → List ℤ → Block
block_of l zs =
    cond (eqb l 1) (Level1 (number_at zs 0) (number_at zs 1) (number_at zs 2))
    (cond (eqb l 2) (Level2 (number_at zs 0) (number_at zs 1) (number_at zs 2) (number_at zs 3) (number_at zs 4) (number_at zs 5) (value_at zs 6))
    (cond (eqb l 5) (Level5 (number_at zs 0) (number_at zs 1) (number_at zs 2) (number_at zs 3)) Nothing))

-- 9: the lengths that a block of level l may have: of a known level its own, of a reserved one any up to 1,023 bytes
abbrev pub lengths : ℕ → Allowed
lengths l = cond (known l) (between (pos (level l).bytes) (pos (level l).bytes)) (between (pos 0) (pos most_reserved))

-- 9: ext_block_length, which begins at `start`, is one of these
abbrev pub length_rule : ℕ → ℤ → ℕ → Rule Name
length_rule start n l = record { number = wrong_length; offset = start; element = ext_block_length; value = n; allowed = lengths l }

-- 10: in a block of level 1, which begins at `start`, avg_PQ is from min_PQ to max_PQ
abbrev pub average_rule : ℕ → ℕ → ℕ → ℕ → Rule Name
average_rule start min max avg = record { number = not_in_order; offset = start; element = avg_PQ; value = pos avg; allowed = between (pos min) (pos max) }

abbrev pub order_rules : ℕ → Item → Syntax Name Unit
order_rules start (kept Nothing) = done tt
order_rules start (kept (Level1 min max avg)) = must (average_rule start min max avg)
order_rules start (kept (Level2 t s o p c g m)) = done tt
order_rules start (kept (Level5 l r t b)) = done tt
order_rules start (passed l n zs) = done tt

-- the levels of which no further block may come
abbrev pub is_full : List Block → ℕ → List ℤ
is_full before l = cond (ltb (many l before) (level l).most) [] (pos l ∷ [])

abbrev pub full : List Block → List ℤ
full before = is_full before 1 ++ (is_full before 2 ++ is_full before 5)

-- 17, 18, 19: a block that begins at `start` is no second one of level 1 or 5 and no 17th of level 2
abbrev pub surplus_rule : ℕ → List Block → ℕ → Rule Name
surplus_rule start before l = record { number = (level l).surplus; offset = start; element = ext_block_level; value = pos l; allowed = other_than (full before) }

-- 11: its target_max_PQ is not already met
abbrev pub target_rule : ℕ → List Block → ℕ → Rule Name
target_rule start before t = record { number = repeated_target; offset = start; element = target_max_PQ; value = pos t; allowed = other_than (map pos (targets before)) }

-- the rules for a block behind the known ones before it; a reserved one may stand anywhere
abbrev pub may_follow_rules : ℕ → List Block → Item → Syntax Name Unit
may_follow_rules start before (kept Nothing) = done tt
may_follow_rules start before (kept (Level1 min max avg)) = must (surplus_rule start before 1)
may_follow_rules start before (kept (Level2 t s o p c g m)) = must (surplus_rule start before 2) >> must (target_rule start before t)
may_follow_rules start before (kept (Level5 l r t b)) = must (surplus_rule start before 5)
may_follow_rules start before (passed l n zs) = done tt

-- table E.1.3: the fields of a known level, and zero bits until 8 × length bits have passed since the level
unfoldable pub content : ℕ → Syntax Name Item
content l = do
  zs ← row (fields_of l)
  z ← zero_bits ext_dm_alignment_zero_bit (padding l)
  done (kept (block_of l zs))

-- the bits of a reserved block whose length is n: 8 × n of them, of any kind, each an element of its own
abbrev pub reserved_bits : ℕ → List (Field Name)
reserved_bits n = replicate (8 * n) (one_bit ext_dm_alignment_zero_bit)

-- the content of a block of a reserved level l, whose length is n
unfoldable pub reserved_content : (l n : ℕ) → Syntax Name Item
reserved_content l n = do
  zs ← row (reserved_bits n)
  done (passed l n zs)

-- table E.1.2, of a block that begins at `start`: its length, its level, and what follows them
unfoldable pub whole_block : ℕ → Syntax Name Item
whole_block start = do
  n ← any ext_block_length variable
  l ← any ext_block_level (fixed (unsigned 8))
  own ← must (length_rule start n (natural l))
  cond (known (natural l)) (content (natural l)) (reserved_content (natural l) (natural n))

-- and behind it the order of level 1
unfoldable pub block : Syntax Name Item
block = do
  start ← position
  i ← whole_block start
  o ← order_rules start i
  done i

-- the known blocks among several, and how many are passed over
unfoldable pub kept_in : List Item → List Block
kept_in [] = []
kept_in (kept b ∷ is) = b ∷ kept_in is
kept_in (passed l n zs ∷ is) = kept_in is

unfoldable pub passed_in : List Item → ℕ
passed_in [] = 0
passed_in (kept b ∷ is) = passed_in is
passed_in (passed l n zs ∷ is) = suc (passed_in is)

-- n blocks, each of which may follow the known ones before it
unfoldable pub blocks_after : List Block → ℕ → Syntax Name (List Item)
blocks_after before zero = done []
blocks_after before (suc n) = do
  start ← position
  i ← block
  o ← may_follow_rules start before i
  is ← blocks_after (before ++ kept_in (i ∷ [])) n
  done (i ∷ is)

-- what ST2094-10_data holds: the flag, and the blocks in their order, reserved ones among them
pub record Data : Type 0 where
  pub refresh : Bool
  pub items : List Item

-- the record of it is that of the known blocks
abbrev pub record_from : Data → Record
record_from d = record_of d.refresh (kept_in d.items)

-- if( num_ext_blocks ): zero bits to the next byte boundary
abbrev pub first_alignment : ℕ → Syntax Name Unit
first_alignment n = cond (eqb n 0) (done tt) (alignment dm_alignment_zero_bit)

-- table E.1.1
unfoldable pub ST2094-10_data : Syntax Name Data
ST2094-10_data = do
  h ← head
  y ← first_alignment h.count
  is ← blocks_after [] h.count
  z ← alignment dm_alignment_zero_bit
  done (record { refresh = h.refresh; items = is })

-- reading bare data, behind which the input ends
abbrev pub bare_data : List Bool → Out Name Data
bare_data s = read_whole «end» ST2094-10_data s
