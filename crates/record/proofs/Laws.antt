-- Laws of lists of blocks, each said once, and of the tests that they are made of.
use Prim.Native.Nat.{ℕ, ◌+◌, ◌<◌}
use mathlib.Core.Path.{◌≡◌, refl, sym}
use mathlib.Core.List.{[], ◌∷◌, ◌++◌}
use mathlib.Core.Bool.{Bool, true, false, not, ◌&&◌, ◌||◌, and-eq-true_iff}
use native.Mathlib.Numerals.{add-one}
use borrow.Author.Tests.{ne_eqb, eq-eqb, eqb-true}
use lib.Dec.{eqb}
use lib.ListN.{length, get_or, take, length-map, get_or-map}
use lib.Seq.{take-suc}
use Rattle.record.specs.declared.Block.{Block}
use Rattle.record.specs.declared.Block.TheVariants.{Nothing}
use Rattle.record.specs.declared.Record.{Record}
use Rattle.record.specs.Level.{level, reserved}
use Rattle.record.specs.Blocks.{empty_place, block_in, all_blocks}

-- ---- tests

-- two tests that pass together are one
pub same_test : (a b : Bool) → (a ≡ true → b ≡ true) → (b ≡ true → a ≡ true) → a ≡ b
same_test true b f g = sym (f refl)
same_test false true f g = g refl
same_test false false f g = refl

pub and_left : (a b : Bool) → a && b ≡ true → a ≡ true
and_left a b h = ((and-eq-true_iff a b).0 h).0

pub and_right : (a b : Bool) → a && b ≡ true → b ≡ true
and_right a b h = ((and-eq-true_iff a b).0 h).1

pub and_both : (a b : Bool) → a ≡ true → b ≡ true → a && b ≡ true
and_both a b h k = rw (h, k)

-- what a row of tests says, and what proves it
pub ruleset tests = (and_left, and_right, and_both)

pub not_or : (a b : Bool) → not (a || b) ≡ not a && not b
not_or true b = refl
not_or false b = refl

pub eqb_turned : (x y : ℕ) → eqb x y ≡ eqb y x
eqb_turned x y =
    same_test (eqb x y) (eqb y x)
    (λ h. eq-eqb y x (sym (eqb-true x y h)))
    (λ h. eq-eqb x y (sym (eqb-true y x h)))

-- ---- levels

-- a number that is no level of ours is reserved
pub no_level : (l : ℕ) → (l ≡ 1 → ⊥) → (l ≡ 2 → ⊥) → (l ≡ 5 → ⊥) → level l ≡ reserved
no_level l f g h = rw (ne_eqb l 1 f, ne_eqb l 2 g, ne_eqb l 5 h)

-- ---- the blocks of a record, place by place

abbrev pub block_at : Record → ℕ → Block
block_at r j = block_in (get_or r.places j empty_place)

module _ (r : Record) (j : ℕ) (h : j < length r.places) where
  inside : j < length (all_blocks r)
  inside = rw (length-map r.places block_in) h

  pub take_more : take (j + 1) (all_blocks r) ≡ take j (all_blocks r) ++ (block_at r j ∷ [])
  take_more = rw (add-one j, take-suc (all_blocks r) j Nothing inside, get_or-map block_in r.places j empty_place)
