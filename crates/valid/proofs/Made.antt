-- Records made of blocks: what they hold, when they are valid, and that every valid record is one.
use Prim.Native.Nat.{ℕ, zero, suc, ◌+◌, ◌-◌, ◌<◌, ◌≤◌}
use mathlib.Core.Path.{◌≡◌, refl, ap, sym, ◌∙◌}
use mathlib.Core.List.{List, [], ◌∷◌, ◌++◌, map, append_assoc}
use mathlib.Core.Bool.{Bool, true, ◌||◌}
use native.Mathlib.Omega.{arith}
use borrow.Author.Tests.{leb-true, le-leb}
use lib.Dec.{eqb}
use lib.ListN.{length, take, drop, replicate, length-append, length-replicate, length-map, length-take, length-drop, take-append-drop}
use lib.Seq.{set_at, take_at, drop_at}
use Rattle.record.specs.declared.Block.{Block}
use Rattle.record.specs.declared.Block.TheVariants.{Nothing, Level1, Level2, Level5}
use Rattle.record.specs.declared.Place.{Place}
use Rattle.record.specs.declared.Record.{Record}
use Rattle.record.specs.Made.{place_with, record_of}
use Rattle.record.specs.Blocks.{most_blocks, empty_place, block_in, all_blocks, blocks, beyond}
use Rattle.record.proofs.Laws.{and_left, and_right, tests}
use Rattle.valid.specs.Valid.{every, is_nothing, well_formed, valid, with_block}
use Rattle.valid.proofs.Clauses.{valid_is_walk}

-- a record by its parts
abbrev made : Bool → ℕ → List Place → Record
made flag count places = record { refresh = flag; count = count; places = places }

blocks_in : (bs : List Block) (k : ℕ) → map block_in (map place_with bs ++ replicate k empty_place) ≡ bs ++ replicate k Nothing
blocks_in [] zero = refl
blocks_in [] (suc k) = ap (λ (l : List Block). Nothing ∷ l) (blocks_in [] k)
blocks_in (b ∷ bs) k = ap (λ (l : List Block). b ∷ l) (blocks_in bs k)

-- it holds those blocks
pub blocks_made : (flag : Bool) (bs : List Block) → blocks (record_of flag bs) ≡ bs
blocks_made flag bs = rw (blocks_in bs (most_blocks - length bs)) (take_at bs (replicate (most_blocks - length bs) Nothing) (length bs) refl)

pub places_made : (flag : Bool) (bs : List Block) → length bs ≤ most_blocks → length (record_of flag bs).places ≡ most_blocks
places_made flag bs h =
    omega (arith, length-append (map place_with bs) (replicate (most_blocks - length bs) empty_place), length-map bs place_with, length-replicate (most_blocks - length bs) empty_place)

all_nothing : (k : ℕ) → every is_nothing (replicate k Nothing) ≡ true
unfolding every
all_nothing zero = refl
all_nothing (suc k) = all_nothing k

-- it is valid if the blocks pass the walk
pub valid_made : (flag : Bool) (bs : List Block) → length bs ≤ most_blocks → flag || eqb (length bs) 0 ≡ true → well_formed [] bs ≡ true → valid (record_of flag bs) ≡ true
valid_made flag bs l f w =
    let walk : well_formed [] (blocks (record_of flag bs)) ≡ true = rw (blocks_made flag bs) w in
    let rest : every is_nothing (beyond (record_of flag bs)) ≡ true =
    rw (blocks_in bs (most_blocks - length bs), drop_at bs (replicate (most_blocks - length bs) Nothing) (length bs) refl) (all_nothing (most_blocks - length bs)) in
    valid_is_walk (record_of flag bs) ∙ rw (le-leb (length bs) most_blocks l, f, walk, rest)

map_snoc : (bs : List Block) (b : Block) → map place_with (bs ++ (b ∷ [])) ≡ map place_with bs ++ (place_with b ∷ [])
map_snoc [] b = refl
map_snoc (x ∷ bs) b = ap (λ (l : List Place). place_with x ∷ l) (map_snoc bs b)

-- with one block more
pub made_more : (flag : Bool) (bs : List Block) (b : Block) → length bs < most_blocks → with_block (record_of flag bs) b ≡ record_of flag (bs ++ (b ∷ []))
made_more flag bs b h =
    let e : most_blocks - length bs ≡ suc (17 - length bs) = omega arith in
    let l : length (bs ++ (b ∷ [])) ≡ length bs + 1 = length-append bs (b ∷ []) in
    let g : most_blocks - (length bs + 1) ≡ 17 - length bs = omega arith in
    rw (l, g, map_snoc bs b, append_assoc (map place_with bs) (place_with b ∷ []) (replicate (17 - length bs) empty_place), e)
    (ap (made flag (length bs + 1)) (set_at (map place_with bs) empty_place (replicate (17 - length bs) empty_place) (place_with b) (length bs) (length-map bs place_with)))

-- a valid record is the record of its flag and its blocks
is_nothing_lem : (b : Block) → is_nothing b ≡ true → b ≡ Nothing
is_nothing_lem Nothing e = refl
is_nothing_lem (Level1 min max avg) e = let z : ◌≡◌ {A = ℕ} 0 1 = cc in absurd (omega arith)
is_nothing_lem (Level2 t s o p c g m) e = let z : ◌≡◌ {A = ℕ} 0 1 = cc in absurd (omega arith)
is_nothing_lem (Level5 l r t b) e = let z : ◌≡◌ {A = ℕ} 0 1 = cc in absurd (omega arith)

all_nowhere : (ps : List Place) → every is_nothing (map block_in ps) ≡ true → ps ≡ replicate (length ps) empty_place
unfolding every
all_nowhere [] e = refl
all_nowhere (p ∷ ps) e =
    let a = and_left (is_nothing p.block) (every is_nothing (map block_in ps)) e in
    let b = and_right (is_nothing p.block) (every is_nothing (map block_in ps)) e in
    let x : place_with p.block ∷ ps ≡ empty_place ∷ replicate (length ps) empty_place = rw (is_nothing_lem p.block a) (ap (λ (l : List Place). empty_place ∷ l) (all_nowhere ps b)) in
    x

map_back : (ps : List Place) → map place_with (map block_in ps) ≡ ps
map_back [] = refl
map_back (p ∷ ps) = ap (λ (l : List Place). p ∷ l) (map_back ps)

map-take : (c : ℕ) (ps : List Place) → take c (map block_in ps) ≡ map block_in (take c ps)
map-take zero ps = refl
map-take (suc c) [] = refl
map-take (suc c) (p ∷ ps) = ap (λ (l : List Block). p.block ∷ l) (map-take c ps)

map-drop : (c : ℕ) (ps : List Place) → drop c (map block_in ps) ≡ map block_in (drop c ps)
map-drop zero ps = refl
map-drop (suc c) [] = refl
map-drop (suc c) (p ∷ ps) = map-drop c ps

-- what the walk and the flag say of a valid record
pub record Walked (r : Record) : Type 0 where
  pub few : r.count ≤ most_blocks
  pub flag : r.refresh || eqb r.count 0 ≡ true
  pub walk : well_formed [] (blocks r) ≡ true
  pub rest : every is_nothing (beyond r) ≡ true

pub walked : (r : Record) → valid r ≡ true → Walked r
walked r h =
    let v = sym (valid_is_walk r) ∙ h in
    record {
      few = leb-true r.count most_blocks (search tests depth 12);
      flag = search tests depth 12;
      walk = search tests depth 12;
      rest = search tests depth 12;
    }

pub length-blocks : (r : Record) → length r.places ≡ most_blocks → r.count ≤ most_blocks → length (blocks r) ≡ r.count
length-blocks r l h = omega (arith, length-take r.count (all_blocks r), length-map r.places block_in)

pub valid_is_made : (r : Record) → length r.places ≡ most_blocks → valid r ≡ true → r ≡ record_of r.refresh (blocks r)
valid_is_made r l h =
    let w = walked r h in
    let n = length-blocks r l w.few in
    let d : drop r.count r.places ≡ replicate (most_blocks - r.count) empty_place =
    all_nowhere (drop r.count r.places) (rw (map-drop r.count r.places) at w.rest)
    ∙ ap (λ (k : ℕ). replicate k empty_place) (length-drop r.count r.places ∙ ap (λ (k : ℕ). k - r.count) l) in
    let t : map place_with (blocks r) ≡ take r.count r.places =
    ap (λ (bs : List Block). map place_with bs) (map-take r.count r.places) ∙ map_back (take r.count r.places) in
    let q : r.places ≡ map place_with (blocks r) ++ replicate (most_blocks - r.count) empty_place = sym (take-append-drop r.count r.places) ∙ rw (t, d) in
    ap (made r.refresh r.count) q ∙ rw n
