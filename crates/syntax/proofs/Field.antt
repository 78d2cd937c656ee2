-- The values of a level's fields: which the fields hold, and the block that they make.
use Prim.Native.Nat.{ℕ, suc}
use mathlib.Core.Path.{◌≡◌, refl, ap}
use mathlib.Core.List.{List, [], ◌∷◌}
use mathlib.Core.Bool.{Bool, true, false}
use native.Mathlib.Omega.{arith}
use borrow.Author.Tests.{eqb-true}
use lib.Dec.{eqb}
use lib.ListN.{length}
use lib.IntN.{ℤ, pos, negsuc}
use Rattle.tree.specs.Coding.{holds, hold_all, natural, Coding, unsigned}
use Rattle.record.specs.declared.Block.{Block}
use Rattle.record.specs.declared.Block.TheVariants.{Nothing, Level1, Level2, Level5}
use Rattle.record.specs.Level.{known, codings, level_of, values_of}
use Rattle.record.proofs.Laws.{and_left, and_right}
use Rattle.syntax.specs.Data.{block_of}

-- ---- the block that values make

-- values that fields hold are as many as the fields, and without a sign where the field has none
length_held : (cs : List Coding) (zs : List ℤ) → hold_all cs zs ≡ true → length zs ≡ length cs
unfolding hold_all
length_held [] [] h = refl
length_held [] (z ∷ zs) h = let z : ◌≡◌ {A = ℕ} 0 1 = cc in absurd (omega arith)
length_held (c ∷ cs) [] h = let z : ◌≡◌ {A = ℕ} 0 1 = cc in absurd (omega arith)
length_held (c ∷ cs) (z ∷ zs) h = ap suc (length_held cs zs (and_right (holds c z) (hold_all cs zs) h))

natural_is : (n : ℕ) (z : ℤ) → holds (unsigned n) z ≡ true → pos (natural z) ≡ z
natural_is n (pos v) h = refl
natural_is n (negsuc v) h = let z : ◌≡◌ {A = ℕ} 0 1 = cc in absurd (omega arith)

abbrev u12 : Coding
u12 = unsigned 12

abbrev u13 : Coding
u13 = unsigned 13

values1 : (zs : List ℤ) → hold_all (codings 1) zs ≡ true → values_of (block_of 1 zs) ≡ zs
unfolding hold_all
values1 [] h = let e = length_held (codings 1) [] h in absurd (omega arith)
values1 (a ∷ []) h = let e = length_held (codings 1) (a ∷ []) h in absurd (omega arith)
values1 (a ∷ b ∷ []) h = let e = length_held (codings 1) (a ∷ b ∷ []) h in absurd (omega arith)
values1 (a ∷ b ∷ c ∷ []) h =
    let h1 = and_right (holds u12 a) _ h in
    let h2 = and_right (holds u12 b) _ h1 in
    rw (natural_is 12 a (and_left (holds u12 a) _ h), natural_is 12 b (and_left (holds u12 b) _ h1), natural_is 12 c (and_left (holds u12 c) _ h2))
values1 (a ∷ b ∷ c ∷ d ∷ zs) h = let e = length_held (codings 1) (a ∷ b ∷ c ∷ d ∷ zs) h in absurd (omega arith)

values2 : (zs : List ℤ) → hold_all (codings 2) zs ≡ true → values_of (block_of 2 zs) ≡ zs
unfolding hold_all
values2 [] h = let e = length_held (codings 2) [] h in absurd (omega arith)
values2 (a ∷ []) h = let e = length_held (codings 2) (a ∷ []) h in absurd (omega arith)
values2 (a ∷ b ∷ []) h = let e = length_held (codings 2) (a ∷ b ∷ []) h in absurd (omega arith)
values2 (a ∷ b ∷ c ∷ []) h = let e = length_held (codings 2) (a ∷ b ∷ c ∷ []) h in absurd (omega arith)
values2 (a ∷ b ∷ c ∷ d ∷ []) h = let e = length_held (codings 2) (a ∷ b ∷ c ∷ d ∷ []) h in absurd (omega arith)
values2 (a ∷ b ∷ c ∷ d ∷ f ∷ []) h = let e = length_held (codings 2) (a ∷ b ∷ c ∷ d ∷ f ∷ []) h in absurd (omega arith)
values2 (a ∷ b ∷ c ∷ d ∷ f ∷ g ∷ []) h = let e = length_held (codings 2) (a ∷ b ∷ c ∷ d ∷ f ∷ g ∷ []) h in absurd (omega arith)
values2 (a ∷ b ∷ c ∷ d ∷ f ∷ g ∷ m ∷ []) h =
    let h1 = and_right (holds u12 a) _ h in
    let h2 = and_right (holds u12 b) _ h1 in
    let h3 = and_right (holds u12 c) _ h2 in
    let h4 = and_right (holds u12 d) _ h3 in
    let h5 = and_right (holds u12 f) _ h4 in
    rw (
      natural_is 12 a (and_left (holds u12 a) _ h),
      natural_is 12 b (and_left (holds u12 b) _ h1),
      natural_is 12 c (and_left (holds u12 c) _ h2),
      natural_is 12 d (and_left (holds u12 d) _ h3),
      natural_is 12 f (and_left (holds u12 f) _ h4),
      natural_is 12 g (and_left (holds u12 g) _ h5),
    )
values2 (a ∷ b ∷ c ∷ d ∷ f ∷ g ∷ m ∷ n ∷ zs) h = let e = length_held (codings 2) (a ∷ b ∷ c ∷ d ∷ f ∷ g ∷ m ∷ n ∷ zs) h in absurd (omega arith)

values5 : (zs : List ℤ) → hold_all (codings 5) zs ≡ true → values_of (block_of 5 zs) ≡ zs
unfolding hold_all
values5 [] h = let e = length_held (codings 5) [] h in absurd (omega arith)
values5 (a ∷ []) h = let e = length_held (codings 5) (a ∷ []) h in absurd (omega arith)
values5 (a ∷ b ∷ []) h = let e = length_held (codings 5) (a ∷ b ∷ []) h in absurd (omega arith)
values5 (a ∷ b ∷ c ∷ []) h = let e = length_held (codings 5) (a ∷ b ∷ c ∷ []) h in absurd (omega arith)
values5 (a ∷ b ∷ c ∷ d ∷ []) h =
    let h1 = and_right (holds u13 a) _ h in
    let h2 = and_right (holds u13 b) _ h1 in
    let h3 = and_right (holds u13 c) _ h2 in
    rw (
      natural_is 13 a (and_left (holds u13 a) _ h),
      natural_is 13 b (and_left (holds u13 b) _ h1),
      natural_is 13 c (and_left (holds u13 c) _ h2),
      natural_is 13 d (and_left (holds u13 d) _ h3),
    )
values5 (a ∷ b ∷ c ∷ d ∷ f ∷ zs) h = let e = length_held (codings 5) (a ∷ b ∷ c ∷ d ∷ f ∷ zs) h in absurd (omega arith)

-- a known level is 1, 2 or 5
pub by_level : (P : ℕ → Type 0) → P 1 → P 2 → P 5 → (l : ℕ) → known l ≡ true → P l
by_level P p1 p2 p5 l k = go (eqb l 1) (eqb l 2) (eqb l 5) refl refl refl
  where
    go : (a b c : Bool) → eqb l 1 ≡ a → eqb l 2 ≡ b → eqb l 5 ≡ c → P l
    go true b c x y z = rw (eqb-true l 1 x) p1
    go false true c x y z = rw (eqb-true l 2 y) p2
    go false false true x y z = rw (eqb-true l 5 z) p5
    go false false false x y z = let f : false ≡ true = rw (x, y, z) at k in let z : ◌≡◌ {A = ℕ} 0 1 = cc in absurd (omega arith)

-- the values of the block that a level's values make
pub values_of_lem : (l : ℕ) → known l ≡ true → (zs : List ℤ) → hold_all (codings l) zs ≡ true → values_of (block_of l zs) ≡ zs
values_of_lem = by_level (λ l. (zs : List ℤ) → hold_all (codings l) zs ≡ true → values_of (block_of l zs) ≡ zs) values1 values2 values5

-- and its level
pub level_of_lem : (l : ℕ) → known l ≡ true → (zs : List ℤ) → level_of (block_of l zs) ≡ l
level_of_lem = by_level (λ l. (zs : List ℤ) → level_of (block_of l zs) ≡ l) (λ zs. refl) (λ zs. refl) (λ zs. refl)

-- the block that a block's own values make
pub block_of_lem : (b : Block) → block_of (level_of b) (values_of b) ≡ b
block_of_lem Nothing = refl
block_of_lem (Level1 min max avg) = refl
block_of_lem (Level2 t s o p c g m) = refl
block_of_lem (Level5 l r t b) = refl
