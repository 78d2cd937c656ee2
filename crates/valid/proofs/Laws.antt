-- Laws of lists of blocks, each said once.
use Prim.Native.Nat.{ℕ, ◌+◌, ◌<◌}
use mathlib.Core.Path.{◌≡◌, refl, ap, sym}
use mathlib.Core.List.{List, [], ◌∷◌, ◌++◌, map, append-nil}
use mathlib.Core.Bool.{Bool, true, false, not, ◌&&◌, ◌||◌, and-true, and-false, and_assoc, or_assoc}
use native.Mathlib.Omega.{arith}
use native.Mathlib.Numerals.{add-one}
use lib.Dec.{eqb}
use lib.ListN.{length, get_or, take, drop}
use lib.Seq.{drop-cons, append_snoc}
use Rattle.std.proofs.lemmas.List.{map_more}
use Rattle.tree.specs.Bits.{bit}
use Rattle.record.specs.declared.Block.{Block}
use Rattle.record.specs.declared.Block.TheVariants.{Nothing, Level1, Level2, Level5}
use Rattle.record.specs.declared.Place.{Place}
use Rattle.record.specs.Level.{level_of}
use Rattle.record.specs.Blocks.{empty_place, block_in}
use Rattle.record.proofs.Laws.{not_or, eqb_turned}
use Rattle.valid.specs.Valid.{every, many, targets, among, all_differ, new_target, valid_block, may_follow, well_formed}

-- ---- one list behind another

pub targets-append : (xs ys : List Block) → targets (xs ++ ys) ≡ targets xs ++ targets ys
unfolding targets
targets-append [] ys = refl
targets-append (Nothing ∷ xs) ys = targets-append xs ys
targets-append (Level1 min max avg ∷ xs) ys = targets-append xs ys
targets-append (Level2 t s o p c g m ∷ xs) ys = ap (λ (ts : List ℕ). t ∷ ts) (targets-append xs ys)
targets-append (Level5 l r t b ∷ xs) ys = targets-append xs ys

pub among-append : (x : ℕ) (ys zs : List ℕ) → among x (ys ++ zs) ≡ among x ys || among x zs
unfolding among
among-append x [] zs = refl
among-append x (y ∷ ys) zs = rw (among-append x ys zs, or_assoc)

pub new_target-append : (xs ys : List Block) (b : Block) → new_target (xs ++ ys) b ≡ new_target xs b && new_target ys b
new_target-append xs ys Nothing = refl
new_target-append xs ys (Level1 min max avg) = refl
new_target-append xs ys (Level2 t s o p c g m) = rw (targets-append xs ys, among-append, not_or)
new_target-append xs ys (Level5 l r t b) = refl

-- where no level 2 block stands before it, each block's target is new
pub new_target_none : (before : List Block) (b : Block) → targets before ≡ [] → new_target before b ≡ true
unfolding among
new_target_none before Nothing h = refl
new_target_none before (Level1 min max avg) h = refl
new_target_none before (Level2 t s o p c g m) h = rw h
new_target_none before (Level5 l r t b) h = refl

pub well_formed-append : (before xs ys : List Block) → well_formed before (xs ++ ys) ≡ well_formed before xs && well_formed (before ++ xs) ys
unfolding well_formed
well_formed-append before [] ys = rw append-nil
well_formed-append before (x ∷ xs) ys = simp (well_formed-append (before ++ (x ∷ [])) xs ys, append_snoc, and_assoc)

-- ---- one block more

pub every_more : (test : Block → Bool) (bs : List Block) (b : Block) → every test (bs ++ (b ∷ [])) ≡ every test bs && test b
unfolding every
every_more test [] b = and-true (test b)
every_more test (x ∷ bs) b = rw (every_more test bs b, and_assoc)

pub many_more : (l : ℕ) (bs : List Block) (b : Block) → many l (bs ++ (b ∷ [])) ≡ many l bs + bit (eqb (level_of b) l)
unfolding many
many_more l [] b = omega arith
many_more l (x ∷ bs) b = omega (arith, many_more l bs b)

-- the tests of `all_differ_more`, in its order
shuffle : (p q d r : Bool) → not (p || (q || false)) && (d && not r) ≡ not p && d && not (q || r)
shuffle true q d r = refl
shuffle false true d r = sym (and-false d)
shuffle false false d r = refl

all_differ_more : (xs : List ℕ) (x : ℕ) → all_differ (xs ++ (x ∷ [])) ≡ all_differ xs && not (among x xs)
unfolding all_differ among
all_differ_more [] x = refl
all_differ_more (y ∷ ys) x = rw (among-append y ys (x ∷ []), all_differ_more ys x, eqb_turned y x, shuffle)

pub targets_more : (bs : List Block) (b : Block) → all_differ (targets (bs ++ (b ∷ []))) ≡ all_differ (targets bs) && new_target bs b
unfolding targets
targets_more bs Nothing = rw (targets-append bs (Nothing ∷ []), append-nil, and-true)
targets_more bs (Level1 min max avg) = rw (targets-append bs (Level1 min max avg ∷ []), append-nil, and-true)
targets_more bs (Level2 t s o p c g m) = rw (targets-append bs (Level2 t s o p c g m ∷ []), all_differ_more)
targets_more bs (Level5 l r t b) = rw (targets-append bs (Level5 l r t b ∷ []), append-nil, and-true)

-- ---- blocks in places, one by one

module _ (ps : List Place) (i : ℕ) (h : i < length ps) where
  abbrev here : Block
  here = block_in (get_or ps i empty_place)

  before_more : map block_in (take (i + 1) ps) ≡ map block_in (take i ps) ++ (here ∷ [])
  before_more = map_more block_in ps i empty_place h

  -- how many of a level there are, with one place more
  pub many_places : (l : ℕ) → many l (map block_in (take (i + 1) ps)) ≡ many l (map block_in (take i ps)) + bit (eqb (level_of here) l)
  many_places l = rw before_more (many_more l (map block_in (take i ps)) here)

  -- whether a block's target is new, behind one place more
  pub new_target_places : (b : Block) → new_target (map block_in (take (i + 1) ps)) b ≡ new_target (map block_in (take i ps)) b && new_target (here ∷ []) b
  new_target_places b = rw before_more (new_target-append (map block_in (take i ps)) (here ∷ []) b)

  -- the walk over the blocks, at the place
  pub walk_more :
      well_formed (map block_in (take i ps)) (map block_in (drop i ps))
      ≡ valid_block here && may_follow (map block_in (take i ps)) here && well_formed (map block_in (take (i + 1) ps)) (map block_in (drop (i + 1) ps))
  unfolding well_formed
  walk_more = rw (before_more, drop-cons ps i empty_place h, add-one i)
