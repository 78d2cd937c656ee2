-- When a record is valid, clause by clause (01, The record; The data, bit by bit).
use Rattle.std.specs.Prelude.{ℕ, ◌+◌, ◌≤◌, ◌≡◌, List, [], ◌∷◌, ◌++◌, map, Bool, true, false, cond, not, ◌&&◌, ◌||◌, leb, ltb, eqb, length, set}
use Rattle.refusals.specs.Refusals.{repeated_target}
use Rattle.tree.specs.Bits.{bit}
use Rattle.record.specs.declared.Block.{Block}
use Rattle.record.specs.declared.Block.TheVariants.{Nothing, Level1, Level2, Level5}
use Rattle.record.specs.declared.Record.{Record}
use Rattle.record.specs.Name.{Name, ext_block_level, target_max_PQ}
use Rattle.record.specs.Level.{level, level_of}
use Rattle.record.specs.Blocks.{most_blocks, blocks, beyond, in_range, in_order}

unfoldable pub every : (Block → Bool) → List Block → Bool
every test [] = true
every test (b ∷ bs) = test b && every test bs

abbrev pub is_nothing : Block → Bool
is_nothing b = eqb (level_of b) 0

abbrev pub is_block : Block → Bool
is_block b = not (is_nothing b)

-- how many blocks are of level l
unfoldable pub many : ℕ → List Block → ℕ
many l [] = 0
many l (b ∷ bs) = bit (eqb (level_of b) l) + many l bs

-- the target_max_PQ values of the level 2 blocks
unfoldable pub targets : List Block → List ℕ
targets [] = []
targets (Nothing ∷ bs) = targets bs
targets (Level1 min max avg ∷ bs) = targets bs
targets (Level2 t s o p c g m ∷ bs) = t ∷ targets bs
targets (Level5 l r t b ∷ bs) = targets bs

unfoldable pub among : ℕ → List ℕ → Bool
among x [] = false
among x (y ∷ ys) = eqb x y || among x ys

-- no number twice
unfoldable pub all_differ : List ℕ → Bool
all_differ [] = true
all_differ (x ∷ xs) = not (among x xs) && all_differ xs

-- the clauses of a valid record
pub record Valid (r : Record) : Type 0 where
  pub few : r.count ≤ most_blocks
  pub filled : every is_block (blocks r) ≡ true
  pub empty : every is_nothing (beyond r) ≡ true
  pub flag : r.refresh ≡ false → r.count ≡ 0
  pub ranges : every in_range (blocks r) ≡ true
  pub order : every in_order (blocks r) ≡ true
  pub levels : (l : ℕ) → many l (blocks r) ≤ (level l).most
  pub targets_differ : all_differ (targets (blocks r)) ≡ true

-- the same, decided
unfoldable pub valid : Record → Bool
valid r =
    leb r.count most_blocks && every is_block (blocks r) && every is_nothing (beyond r) && (r.refresh || eqb r.count 0)
    && every in_range (blocks r) && every in_order (blocks r)
    && leb (many 1 (blocks r)) (level 1).most && leb (many 2 (blocks r)) (level 2).most && leb (many 5 (blocks r)) (level 5).most
    && all_differ (targets (blocks r))

-- a valid record of a program, which always has its 18 places
pub record Proper (r : Record) : Type 0 where
  pub places : length r.places ≡ most_blocks
  pub valid_record : valid r ≡ true

-- a block that no level 2 block before it has the target_max_PQ of
abbrev pub new_target : List Block → Block → Bool
new_target before Nothing = true
new_target before (Level1 min max avg) = true
new_target before (Level2 t s o p c g m) = not (among t (targets before))
new_target before (Level5 l r t b) = true

-- there may be one more of its level
abbrev pub not_too_many : List Block → Block → Bool
not_too_many before b = ltb (many (level_of b) before) (level (level_of b)).most

-- a block that may stand behind those before it: none of the repeats that refusals 11 and 17 to 19 name
unfoldable pub may_follow : List Block → Block → Bool
may_follow before b = not_too_many before b && new_target before b

-- 02, e: of one that may not, which repeat it is: one too many of its level, or else a target_max_PQ already met
abbrev pub repeat_number : List Block → Block → ℕ
repeat_number before b = cond (not_too_many before b) repeated_target (level (level_of b)).surplus

-- 02, f: and which element it is about
abbrev pub repeat_element : List Block → Block → Name
repeat_element before b = cond (not_too_many before b) target_max_PQ ext_block_level

-- a block that meets the clauses for one block
abbrev pub valid_block : Block → Bool
valid_block b = is_block b && in_range b && in_order b

-- blocks behind those before them, of which each is fine and may follow
unfoldable pub well_formed : List Block → List Block → Bool
well_formed before [] = true
well_formed before (b ∷ bs) = valid_block b && may_follow before b && well_formed (before ++ (b ∷ [])) bs

-- the record with b as its next block
abbrev pub with_block : Record → Block → Record
with_block r b = record { refresh = r.refresh; count = r.count + 1; places = set r.places r.count (record { block = b }) }
