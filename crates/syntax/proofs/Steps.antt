-- How code meets the rules of a block: what it decides by, and what reading comes to either way.
use Prim.Native.Nat.{ℕ}
use mathlib.Core.Path.{◌≡◌, refl, ap, ◌∙◌}
use mathlib.Core.List.{List}
use mathlib.Core.Bool.{Bool, true, false, cond, not, ◌&&◌}
use native.Mathlib.Omega.{arith}
use borrow.Author.Tests.{le-leb}
use lib.Dec.{eqb, leb, ltb}
use lib.IntN.{pos}
use Rattle.refusals.specs.Refusals.{not_in_order}
use Rattle.tree.specs.Reading.{Rule, meets, breaks, no}
use Rattle.tree.specs.Syntax.{Syntax, ◌>>=◌, must, read}
use Rattle.tree.proofs.Truth.{clash, range_of_one}
use Rattle.tree.proofs.Steps.{read-must}
use Rattle.record.specs.declared.Block.{Block}
use Rattle.record.specs.declared.Block.TheVariants.{Nothing, Level1, Level2, Level5}
use Rattle.record.specs.Name.{Name, avg_PQ}
use Rattle.record.specs.Level.{level, known}
use Rattle.record.specs.Blocks.{in_order}
use Rattle.valid.specs.Valid.{is_block, many, targets, among, may_follow, repeat_number, repeat_element}
use Rattle.syntax.specs.Data.{most_reserved, kept, length_rule, average_rule, order_rules, surplus_rule, target_rule, may_follow_rules}
use Rattle.syntax.proofs.Items.{room_met, target_met}

module _ {B : Type 0} (g : Unit {0} → Syntax Name B) (at : ℕ) (s : List Bool) where
  -- a rule, by the test that decides it
  by_test : (r : Rule Name) (b : Bool) → meets r ≡ b → read (must r >>= g) at s ≡ cond b (read (g tt) at s) (no (breaks r))
  by_test r b q = read-must r g at s ∙ ap (λ (c : Bool). cond c (read (g tt) at s) (no (breaks r))) q

  -- 9, of a known level and of a reserved one
  pub read_own_length : (start n l : ℕ) → known l ≡ true → read (must (length_rule start (pos n) l) >>= g) at s ≡ cond (eqb n (level l).bytes) (read (g tt) at s) (no (breaks (length_rule start (pos n) l)))
  read_own_length start n l k = by_test (length_rule start (pos n) l) (eqb n (level l).bytes) (rw k (range_of_one (level l).bytes n))

  pub read-reserved-length : (start n l : ℕ) → known l ≡ false → read (must (length_rule start (pos n) l) >>= g) at s ≡ cond (leb n most_reserved) (read (g tt) at s) (no (breaks (length_rule start (pos n) l)))
  read-reserved-length start n l k = by_test (length_rule start (pos n) l) (leb n most_reserved) (rw (k, le-leb 0 n (omega arith)) refl)

  -- 10
  pub read-in_order : (start : ℕ) (b : Block) → in_order b ≡ true → read (order_rules start (kept b) >>= g) at s ≡ read (g tt) at s
  unfolding read ◌>>=◌
  read-in_order start Nothing h = refl
  read-in_order start (Level1 min max avg) h = by_test (average_rule start min max avg) true h
  read-in_order start (Level2 t q o p c w m) h = refl
  read-in_order start (Level5 l r t b) h = refl

  pub read-not_in_order : (start : ℕ) (b : Block) → in_order b ≡ false → (r : Rule Name) × (r.number ≡ not_in_order) × (r.element ≡ avg_PQ) × (r.offset ≡ start) × (read (order_rules start (kept b) >>= g) at s ≡ no (breaks r))
  read-not_in_order start Nothing h = let z : ◌≡◌ {A = ℕ} 0 1 = cc in clash z
  read-not_in_order start (Level1 min max avg) h = (average_rule start min max avg, refl, refl, refl, by_test (average_rule start min max avg) false h)
  read-not_in_order start (Level2 t q o p c w m) h = let z : ◌≡◌ {A = ℕ} 0 1 = cc in clash z
  read-not_in_order start (Level5 l r t b) h = let z : ◌≡◌ {A = ℕ} 0 1 = cc in clash z

-- 17 to 19, then 11
module _ {B : Type 0} (g : Unit {0} → Syntax Name B) (at : ℕ) (s : List Bool) (start : ℕ) (before : List Block) where
  abbrev spare : ℕ → Bool
  spare l = ltb (many l before) (level l).most

  -- of level 2 there are two rules, of which the first that is broken speaks
  both_rules : (t : ℕ) (a b : Bool) → meets (surplus_rule start before 2) ≡ a → meets (target_rule start before t) ≡ b
      → read (must (surplus_rule start before 2) >>= λ u. must (target_rule start before t) >>= g) at s ≡ cond a (cond b (read (g tt) at s) (no (breaks (target_rule start before t)))) (no (breaks (surplus_rule start before 2)))
  both_rules t a b p q =
      by_test (λ u. must (target_rule start before t) >>= g) at s (surplus_rule start before 2) a p
      ∙ ap (λ o. cond a o (no (breaks (surplus_rule start before 2)))) (by_test g at s (target_rule start before t) b q)

  pub read-may_follow : (b : Block) → is_block b ≡ true → may_follow before b ≡ true → read (may_follow_rules start before (kept b) >>= g) at s ≡ read (g tt) at s
  unfolding ◌>>=◌ may_follow
  read-may_follow Nothing f h = let z : ◌≡◌ {A = ℕ} 0 1 = cc in clash z
  read-may_follow (Level1 min max avg) f h = one (spare 1) refl h
    where
      one : (a : Bool) → spare 1 ≡ a → a && true ≡ true → read (must (surplus_rule start before 1) >>= g) at s ≡ read (g tt) at s
      one true q k = by_test g at s (surplus_rule start before 1) true (room_met start before (Level1 min max avg) f ∙ q)
      one false q k = let z : ◌≡◌ {A = ℕ} 0 1 = cc in clash z
  read-may_follow (Level2 t y o p c w m) f h = two (spare 2) (not (among t (targets before))) refl refl h
    where
      two : (a b : Bool) → spare 2 ≡ a → not (among t (targets before)) ≡ b → a && b ≡ true → read (must (surplus_rule start before 2) >>= λ u. must (target_rule start before t) >>= g) at s ≡ read (g tt) at s
      two true true q r k = both_rules t true true (room_met start before (Level2 t y o p c w m) f ∙ q) (target_met start before t ∙ r)
      two true false q r k = let z : ◌≡◌ {A = ℕ} 0 1 = cc in clash z
      two false b q r k = let z : ◌≡◌ {A = ℕ} 0 1 = cc in clash z
  read-may_follow (Level5 l r t b) f h = one (spare 5) refl h
    where
      one : (a : Bool) → spare 5 ≡ a → a && true ≡ true → read (must (surplus_rule start before 5) >>= g) at s ≡ read (g tt) at s
      one true q k = by_test g at s (surplus_rule start before 5) true (room_met start before (Level5 l r t b) f ∙ q)
      one false q k = let z : ◌≡◌ {A = ℕ} 0 1 = cc in clash z

  -- of one that may not, the rule that is broken: its number and its element are those of the repeat, and its offset the block's
  abbrev Repeats : Block → Type 0
  Repeats b = (r : Rule Name) × (r.number ≡ repeat_number before b) × (r.element ≡ repeat_element before b) × (r.offset ≡ start) × (read (may_follow_rules start before (kept b) >>= g) at s ≡ no (breaks r))

  pub read_may_not_follow : (b : Block) → is_block b ≡ true → may_follow before b ≡ false → Repeats b
  unfolding ◌>>=◌ may_follow
  read_may_not_follow Nothing f h = let z : ◌≡◌ {A = ℕ} 0 1 = cc in clash z
  read_may_not_follow (Level1 min max avg) f h = one (spare 1) refl h
    where
      one : (a : Bool) → spare 1 ≡ a → a && true ≡ false → Repeats (Level1 min max avg)
      one true q k = let z : ◌≡◌ {A = ℕ} 0 1 = cc in clash z
      one false q k = (surplus_rule start before 1, rw q, rw q, refl, by_test g at s (surplus_rule start before 1) false (room_met start before (Level1 min max avg) f ∙ q))
  read_may_not_follow (Level2 t y o p c w m) f h = two (spare 2) (not (among t (targets before))) refl refl h
    where
      two : (a b : Bool) → spare 2 ≡ a → not (among t (targets before)) ≡ b → a && b ≡ false → Repeats (Level2 t y o p c w m)
      two true true q r k = let z : ◌≡◌ {A = ℕ} 0 1 = cc in clash z
      two true false q r k = (target_rule start before t, rw q, rw q, refl, both_rules t true false (room_met start before (Level2 t y o p c w m) f ∙ q) (target_met start before t ∙ r))
      two false b q r k = (surplus_rule start before 2, rw q, rw q, refl, both_rules t false b (room_met start before (Level2 t y o p c w m) f ∙ q) (target_met start before t ∙ r))
  read_may_not_follow (Level5 l r t b) f h = one (spare 5) refl h
    where
      one : (a : Bool) → spare 5 ≡ a → a && true ≡ false → Repeats (Level5 l r t b)
      one true q k = let z : ◌≡◌ {A = ℕ} 0 1 = cc in clash z
      one false q k = (surplus_rule start before 5, rw q, rw q, refl, by_test g at s (surplus_rule start before 5) false (room_met start before (Level5 l r t b) f ∙ q))
