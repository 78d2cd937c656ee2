-- The clauses of a valid record: the test says them all and no more, and the walk over the blocks decides those on the blocks.
use Prim.Native.Nat.{ℕ, zero, suc, ◌+◌, ◌<◌, ◌≤◌}
use mathlib.Core.Path.{◌≡◌, refl, ap, sym, ◌∙◌}
use mathlib.Core.List.{List, [], ◌∷◌, ◌++◌, map, append-nil}
use mathlib.Core.Bool.{Bool, true, false, not, ◌&&◌, ◌||◌, and-true, and-false}
use native.Mathlib.Omega.{arith}
use native.Mathlib.Nat.{add-zero}
use native.Mathlib.Numerals.{add-one}
use borrow.Author.Tests.{leb-true, ltb-true, eqb-true, le-leb, lt-ltb, eq-eqb}
use lib.Dec.{eqb, ltb, leb}
use lib.ListN.{length, set, length-map}
use lib.Seq.{append_snoc, take-suc-set}
use Rattle.tree.specs.Bits.{bit}
use Rattle.record.specs.declared.Block.{Block}
use Rattle.record.specs.declared.Block.TheVariants.{Nothing, Level1, Level2, Level5}
use Rattle.record.specs.declared.Record.{Record}
use Rattle.record.specs.Level.{level, level_of}
use Rattle.record.specs.Blocks.{most_blocks, block_in, all_blocks, blocks, beyond, in_range, in_order, empty_record}
use Rattle.record.proofs.Laws.{same_test, and_right, and_both, tests}
use Rattle.valid.specs.Valid.{every, is_block, is_nothing, many, targets, all_differ, valid_block, may_follow, well_formed, Valid, valid, with_block}
use Rattle.valid.proofs.Laws.{every_more, many_more, targets_more, well_formed-append}

-- a list with one block more passes the walk exactly if it did before, and the block is fine and may follow
pub well_formed_more : (bs : List Block) (b : Block) → well_formed [] (bs ++ (b ∷ [])) ≡ well_formed [] bs && (valid_block b && may_follow bs b)
unfolding well_formed
well_formed_more bs b = rw (well_formed-append [] bs (b ∷ []), and-true)

map-set : {A B : Type 0} (f : A → B) (l : List A) (i : ℕ) (a : A) → map f (set l i a) ≡ set (map f l) i (f a)
map-set f [] i a = refl
map-set f (x ∷ l) zero a = refl
map-set {B = B} f (x ∷ l) (suc i) a = ap (λ (k : List B). f x ∷ k) (map-set f l i a)

-- `with_block` puts one block behind the blocks of a record
pub blocks_more : (r : Record) (b : Block) → r.count < length r.places → blocks (with_block r b) ≡ blocks r ++ (b ∷ [])
blocks_more r b h =
    let k : r.count < length (all_blocks r) = rw (length-map r.places block_in) h in
    rw (map-set block_in r.places r.count, add-one, take-suc-set (all_blocks r) r.count b k)

-- a count that a test may raise by one stays within k
room : (m k : ℕ) (t : Bool) → leb (m + bit t) k ≡ leb m k && (not t || ltb m k)
room m k true =
    same_test (leb (m + 1) k) (leb m k && ltb m k)
    (λ h. let g = leb-true (m + 1) k h in and_both (leb m k) (ltb m k) (le-leb m k (omega arith)) (lt-ltb m k (omega arith)))
    (λ h. let g = ltb-true m k (and_right (leb m k) (ltb m k) h) in le-leb (m + 1) k (omega arith))
room m k false = rw (add-zero, and-true)

-- level l has room for b, if b is of that level
abbrev room_in : ℕ → List Block → Block → Bool
room_in l bs b = not (eqb (level_of b) l) || ltb (many l bs) (level l).most

within_more : (l : ℕ) (bs : List Block) (b : Block)
    → leb (many l (bs ++ (b ∷ []))) (level l).most ≡ leb (many l bs) (level l).most && room_in l bs b
within_more l bs b = rw (many_more l bs b) (room (many l bs) (level l).most (eqb (level_of b) l))

-- a block has room in each level exactly if it has room in its own
levels_more : (bs : List Block) (b : Block)
    → is_block b && (room_in 1 bs b && room_in 2 bs b && room_in 5 bs b) ≡ is_block b && ltb (many (level_of b) bs) (level (level_of b)).most
levels_more bs Nothing = refl
levels_more bs (Level1 min max avg) = simp and-true
levels_more bs (Level2 t s o p c g m) = simp and-true
levels_more bs (Level5 l r t b) = refl

-- the clauses on the blocks, as one test
abbrev clauses : List Block → Bool
clauses bs =
    every is_block bs && every in_range bs && every in_order bs
    && leb (many 1 bs) (level 1).most && leb (many 2 bs) (level 2).most && leb (many 5 bs) (level 5).most
    && all_differ (targets bs)

clauses_more : (bs : List Block) (b : Block) → clauses (bs ++ (b ∷ [])) ≡ clauses bs && (valid_block b && may_follow bs b)
unfolding may_follow
clauses_more bs b =
    let k = levels_more bs b in
    rw (every_more is_block bs b, every_more in_range bs b, every_more in_order bs b, within_more 1 bs b, within_more 2 bs b, within_more 5 bs b, targets_more bs b)
    (same_test _ _
    (λ h. let y : is_block b && ltb (many (level_of b) bs) (level (level_of b)).most ≡ true = sym k ∙ (search tests depth 12) in search tests depth 12)
    (λ h. let y : is_block b && (room_in 1 bs b && room_in 2 bs b && room_in 5 bs b) ≡ true = k ∙ (search tests depth 12) in search tests depth 12))

-- what holds of the blocks before holds of all
walk_clauses : (before bs : List Block) → well_formed [] before ≡ clauses before → well_formed [] (before ++ bs) ≡ clauses (before ++ bs)
walk_clauses before [] h = rw append-nil h
walk_clauses before (b ∷ bs) h =
    rw (← append_snoc before b bs)
    (walk_clauses (before ++ (b ∷ [])) bs (well_formed_more before b ∙ ap (λ (t : Bool). t && (valid_block b && may_follow before b)) h ∙ sym (clauses_more before b)))

-- a list of blocks passes the walk exactly if it meets the clauses on blocks
pub walk_is_clauses : (bs : List Block)
    → well_formed [] bs
    ≡ every is_block bs && every in_range bs && every in_order bs
    && leb (many 1 bs) (level 1).most && leb (many 2 bs) (level 2).most && leb (many 5 bs) (level 5).most
    && all_differ (targets bs)
unfolding well_formed every many all_differ targets
walk_is_clauses bs = walk_clauses [] bs refl

-- a record is valid exactly if it has at most 18 blocks, no block where the flag is 0, a list of blocks that passes the walk, and nothing behind them
pub valid_is_walk : (r : Record)
    → valid r ≡ leb r.count most_blocks && ((r.refresh || eqb r.count 0) && well_formed [] (blocks r) && every is_nothing (beyond r))
unfolding valid
valid_is_walk r = rw (walk_is_clauses (blocks r)) (same_test _ _ (λ h. search tests depth 12) (λ h. search tests depth 12))

-- so a walk that fails decides, a block behind the count does, and where both pass the flag decides
pub walk_fails : (r : Record) → false ≡ well_formed [] (blocks r) → false ≡ valid r
walk_fails r w = rw (valid_is_walk r, ← w, and-false (r.refresh || eqb r.count 0), and-false (leb r.count most_blocks))

pub rest_fails : (r : Record) → false ≡ every is_nothing (beyond r) → false ≡ valid r
rest_fails r e =
    rw (valid_is_walk r, ← e, and-false ((r.refresh || eqb r.count 0) && well_formed [] (blocks r)), and-false (leb r.count most_blocks))

pub flag_decides : (r : Record) → r.count ≤ most_blocks → true ≡ well_formed [] (blocks r) → true ≡ every is_nothing (beyond r) → r.refresh || eqb r.count 0 ≡ valid r
flag_decides r h w e = rw (valid_is_walk r, le-leb r.count most_blocks h, ← w, ← e, and-true ((r.refresh || eqb r.count 0) && true), and-true (r.refresh || eqb r.count 0))

-- the empty record is valid
pub empty_is_valid : valid empty_record ≡ true
unfolding valid every many all_differ targets
empty_is_valid = refl

-- where a block's own level has room, each level has
room_in_lem : (l : ℕ) (bs : List Block) (b : Block) → ltb (many (level_of b) bs) (level (level_of b)).most ≡ true → room_in l bs b ≡ true
room_in_lem l bs b h = go (eqb (level_of b) l) refl
  where
    go : (t : Bool) → eqb (level_of b) l ≡ t → not t || ltb (many l bs) (level l).most ≡ true
    go true e = rw (← eqb-true (level_of b) l e) h
    go false e = refl

-- a walk keeps each level within its most
walk_levels : (before bs : List Block) → ((l : ℕ) → many l before ≤ (level l).most) → well_formed before bs ≡ true → (l : ℕ) → many l (before ++ bs) ≤ (level l).most
unfolding well_formed may_follow
walk_levels before [] h w l = rw append-nil (h l)
walk_levels before (b ∷ bs) h w l =
    rw (← append_snoc before b bs)
    (walk_levels (before ++ (b ∷ [])) bs
    (λ k. leb-true _ _ (within_more k before b ∙ and_both _ _ (le-leb _ _ (h k)) (room_in_lem k before b (search tests depth 12))))
    (search tests depth 12)
    l)

-- each block is of level 1, 2 or 5
by_levels : (bs : List Block) → every is_block bs ≡ true → length bs ≡ many 1 bs + many 2 bs + many 5 bs
unfolding every many
by_levels [] h = refl
by_levels (Nothing ∷ bs) h = let z : ◌≡◌ {A = ℕ} 0 1 = cc in absurd (omega arith)
by_levels (Level1 min max avg ∷ bs) h = omega (arith, by_levels bs h)
by_levels (Level2 t s o p c g m ∷ bs) h = omega (arith, by_levels bs h)
by_levels (Level5 l r t b ∷ bs) h = omega (arith, by_levels bs h)

-- so that one of level 1, sixteen of level 2 and one of level 5 are the most: a record's 18 places suffice for blocks that pass the walk
pub few_blocks : (bs : List Block) → well_formed [] bs ≡ true → length bs ≤ most_blocks
few_blocks bs w =
    let h = sym (walk_is_clauses bs) ∙ w in
    let e = by_levels bs (search tests depth 12) in
    let a = leb-true (many 1 bs) 1 (search tests depth 12) in
    let b = leb-true (many 2 bs) 16 (search tests depth 12) in
    let c = leb-true (many 5 bs) 1 (search tests depth 12) in
    omega arith

-- of which sixteen at most are of level 2
pub few_of_level_2 : (bs : List Block) → well_formed [] bs ≡ true → many 2 bs ≤ (level 2).most
few_of_level_2 bs w = let h = sym (walk_is_clauses bs) ∙ w in leb-true (many 2 bs) (level 2).most (search tests depth 12)

-- what the test of the flag says
pub flag_means : (f : Bool) (n : ℕ) → f || eqb n 0 ≡ true → f ≡ false → n ≡ 0
flag_means f n h e = eqb-true n 0 (rw e at h)

pub means_flag : (f : Bool) (n : ℕ) → (f ≡ false → n ≡ 0) → f || eqb n 0 ≡ true
means_flag true n h = refl
means_flag false n h = eq-eqb n 0 (h refl)

-- a record that passes the test meets every clause
pub valid_means : (r : Record) → valid r ≡ true → Valid r
unfolding valid many
valid_means r h =
    let walk : well_formed [] (blocks r) ≡ true = walk_is_clauses (blocks r) ∙ (search tests depth 12) in
    record {
      few = leb-true _ _ (search tests depth 12);
      filled = search tests depth 12;
      empty = search tests depth 12;
      flag = flag_means r.refresh r.count (search tests depth 12);
      ranges = search tests depth 12;
      order = search tests depth 12;
      levels = walk_levels [] (blocks r) (λ l. omega arith) walk;
      targets_differ = search tests depth 12;
    }

-- a record that meets every clause passes the test
pub means_valid : (r : Record) → Valid r → valid r ≡ true
unfolding valid
means_valid r v =
    rw (
      le-leb r.count most_blocks v.few,
      v.filled,
      v.empty,
      means_flag r.refresh r.count v.flag,
      v.ranges,
      v.order,
      le-leb _ _ (v.levels 1),
      le-leb _ _ (v.levels 2),
      le-leb _ _ (v.levels 5),
      v.targets_differ,
    )
