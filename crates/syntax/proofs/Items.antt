-- Blocks behind each other, with the rules that are checked behind each: followed by exactly the elements of blocks that fit.
use Prim.Native.Nat.{ℕ, zero, suc, ◌+◌}
use mathlib.Core.Path.{◌≡◌, refl, ap, sym, ◌∙◌}
use mathlib.Core.List.{List, [], ◌∷◌, ◌++◌, append-nil, map}
use mathlib.Core.Bool.{Bool, true, false, cond, not, ◌&&◌, ◌||◌}
use native.Mathlib.Omega.{arith}
use lib.Dec.{eqb, ltb}
use lib.ListN.{length}
use lib.IntN.{ℤ, pos}
use Rattle.tree.specs.Reading.{among_z, Rule, meets}
use Rattle.tree.specs.Syntax.{Syntax, done, ◌>>=◌, must}
use Rattle.tree.specs.Meaning.{Element, sum_of_widths, Next, complete, broken, Follow}
use Rattle.tree.proofs.Truth.{clash}
use Rattle.tree.proofs.Tables.{together}
use Rattle.tree.proofs.Spells.{joined, alone, apart_complete, must_met, must_together, complete_not_broken, done_only}
use Rattle.record.specs.declared.Block.{Block}
use Rattle.record.specs.declared.Block.TheVariants.{Nothing, Level1, Level2, Level5}
use Rattle.record.specs.Name.{Name}
use Rattle.record.specs.Level.{level, level_of}
use Rattle.record.proofs.Laws.{and_left, and_right, and_both}
use Rattle.valid.specs.Valid.{is_block, many, targets, among, may_follow}
use Rattle.syntax.specs.Data.{Item, kept, passed, kept_in, surplus_rule, target_rule, may_follow_rules, block, blocks_after}
use Rattle.syntax.specs.Element.{item_elements, items_elements, item_fits, item_follows, all_fit}
use Rattle.syntax.proofs.Blocks.{block_takes, block_only}

-- ---- what may follow the known blocks before it

module _ (start : ℕ) (before : List Block) where
  abbrev full_of : Bool → Bool → Bool → List ℤ
  full_of a b c = cond a [] (pos 1 ∷ []) ++ (cond b [] (pos 2 ∷ []) ++ cond c [] (pos 5 ∷ []))

  room1 : (a b c : Bool) → not (among_z (pos 1) (full_of a b c)) ≡ a
  unfolding among_z
  room1 true true true = refl
  room1 true true false = refl
  room1 true false true = refl
  room1 true false false = refl
  room1 false b c = refl

  room2 : (a b c : Bool) → not (among_z (pos 2) (full_of a b c)) ≡ b
  unfolding among_z
  room2 true true true = refl
  room2 true true false = refl
  room2 true false c = refl
  room2 false true true = refl
  room2 false true false = refl
  room2 false false c = refl

  room5 : (a b c : Bool) → not (among_z (pos 5) (full_of a b c)) ≡ c
  unfolding among_z
  room5 true true true = refl
  room5 true true false = refl
  room5 true false true = refl
  room5 true false false = refl
  room5 false true true = refl
  room5 false true false = refl
  room5 false false true = refl
  room5 false false false = refl

  abbrev spare : ℕ → Bool
  spare l = ltb (many l before) (level l).most

  -- 11: a block of a known level meets the rule exactly if its level has room
  pub room_met : (b : Block) → is_block b ≡ true → meets (surplus_rule start before (level_of b)) ≡ spare (level_of b)
  room_met Nothing h = let z : ◌≡◌ {A = ℕ} 0 1 = cc in clash z
  room_met (Level1 min max avg) h = room1 (spare 1) (spare 2) (spare 5)
  room_met (Level2 t s o p c w m) h = room2 (spare 1) (spare 2) (spare 5)
  room_met (Level5 l r t b) h = room5 (spare 1) (spare 2) (spare 5)

  -- and a target_max_PQ does if it is new
  pub target_met : (t : ℕ) → meets (target_rule start before t) ≡ not (among t (targets before))
  unfolding among_z among
  target_met t = ap not (same (targets before))
    where
      same : (ts : List ℕ) → among_z (pos t) (map pos ts) ≡ among t ts
      same [] = refl
      same (y ∷ ys) = ap (λ (b : Bool). eqb t y || b) (same ys)

  module _ {B : Type 0} (g : Unit {0} → Syntax Name B) (at : ℕ) (es : List (Element Name)) where
    rules_take : (i : Item) (x : Next Name B) → item_fits i ≡ true → item_follows before i ≡ true → Follow (g tt) at es x → Follow (may_follow_rules start before i >>= g) at es x
    unfolding ◌>>=◌ may_follow
    rules_take (kept Nothing) x f h k = k
    rules_take (kept (Level1 min max avg)) x f h k = must_together (surplus_rule start before 1) g at es x (room_met (Level1 min max avg) refl ∙ and_left (spare 1) true h) k
    rules_take (kept (Level2 t s o p c w m)) x f h k =
        must_together (surplus_rule start before 2) (λ u. must (target_rule start before t) >>= g) at es x (room_met (Level2 t s o p c w m) refl ∙ and_left (spare 2) (not (among t (targets before))) h)
        (must_together (target_rule start before t) g at es x (target_met t ∙ and_right (spare 2) (not (among t (targets before))) h) k)
    rules_take (kept (Level5 l r t b)) x f h k = must_together (surplus_rule start before 5) g at es x (room_met (Level5 l r t b) refl ∙ and_left (spare 5) true h) k
    rules_take (passed l n zs) x f h k = k

    pub rules_met : (i : Item) (x : Next Name B) → ((q : Rule Name) → x ≡ broken q → ⊥) → item_fits i ≡ true → Follow (may_follow_rules start before i >>= g) at es x → (item_follows before i ≡ true) × Follow (g tt) at es x
    unfolding ◌>>=◌ may_follow
    rules_met (kept Nothing) x on f h = let z : ◌≡◌ {A = ℕ} 0 1 = cc in clash z
    rules_met (kept (Level1 min max avg)) x on f h =
        let m = must_met (surplus_rule start before 1) g at es x on h in
        (and_both (spare 1) true (sym (room_met (Level1 min max avg) refl) ∙ m.0) refl, m.1)
    rules_met (kept (Level2 t s o p c w v)) x on f h =
        let m = must_met (surplus_rule start before 2) (λ u. must (target_rule start before t) >>= g) at es x on h in
        let n = must_met (target_rule start before t) g at es x on m.1 in
        (and_both (spare 2) (not (among t (targets before))) (sym (room_met (Level2 t s o p c w v) refl) ∙ m.0) (sym (target_met t) ∙ n.0), n.1)
    rules_met (kept (Level5 l r t b)) x on f h =
        let m = must_met (surplus_rule start before 5) g at es x on h in
        (and_both (spare 5) true (sym (room_met (Level5 l r t b) refl) ∙ m.0) refl, m.1)
    rules_met (passed l n zs) x on f h = (refl, h)

-- ---- n blocks

abbrev pub behind : ℕ → List Block → ℕ → Item → Syntax Name (List Item)
behind start before n i = may_follow_rules start before i >>= λ o. blocks_after (before ++ kept_in (i ∷ [])) n >>= λ is. done (i ∷ is)

-- a block that fits and may follow, and what follows it
pub one_block_more : (n : ℕ) (before : List Block) (i : Item) (at : ℕ) (es : List (Element Name)) (x : Next Name (List Item)) → item_fits i && item_follows before i ≡ true
    → Follow (blocks_after (before ++ kept_in (i ∷ [])) n >>= λ js. done (i ∷ js)) (at + sum_of_widths (item_elements i)) es x → Follow (blocks_after before (suc n)) at (item_elements i ++ es) x
unfolding blocks_after Follow ◌>>=◌
one_block_more n before i at es x h k =
    let own = and_left (item_fits i) (item_follows before i) h in
    together block (behind at before n) at (item_elements i) es i x (block_takes i own at)
    (rules_take at before (λ o. blocks_after (before ++ kept_in (i ∷ [])) n >>= λ js. done (i ∷ js)) (at + sum_of_widths (item_elements i)) es i x own (and_right (item_fits i) (item_follows before i) h) k)

pub blocks-take : (n : ℕ) (before : List Block) (is : List Item) → length is ≡ n → all_fit before is ≡ true → (at : ℕ) → Follow (blocks_after before n) at (items_elements is) (complete is)
unfolding blocks_after items_elements all_fit Follow ◌>>=◌
blocks-take zero before [] l h at = (refl, refl)
blocks-take zero before (i ∷ is) l h at = absurd (omega arith)
blocks-take (suc n) before [] l h at = absurd (omega arith)
blocks-take (suc n) before (i ∷ is) l h at =
    let after = before ++ kept_in (i ∷ []) in
    let there = at + sum_of_widths (item_elements i) in
    let k = blocks-take n after is (omega arith) (and_right (item_fits i && item_follows before i) (all_fit after is) h) there in
    let t = together (blocks_after after n) (λ js. done (i ∷ js)) there (items_elements is) [] is (complete (i ∷ is)) k (refl, refl) in
    one_block_more n before i at (items_elements is) (complete (i ∷ is)) (and_left (item_fits i && item_follows before i) (all_fit after is) h) (rw (append-nil (items_elements is)) at t)

pub blocks_only : (n : ℕ) (before : List Block) (at : ℕ) (es : List (Element Name)) (is : List Item) → Follow (blocks_after before n) at es (complete is)
    → (length is ≡ n) × (all_fit before is ≡ true) × (es ≡ items_elements is)
unfolding blocks_after items_elements all_fit Follow ◌>>=◌
blocks_only zero before at es is h = let d = done_only [] is at es h in rw d.1 (refl, refl, d.0)
blocks_only (suc n) before at es is h =
    let a = apart_complete block (behind at before n) at es is h in
    let i = a.made in
    let own = block_only at a.first i a.one in
    let there = at + sum_of_widths a.first in
    let after = before ++ kept_in (i ∷ []) in
    let r = rules_met at before (λ o. blocks_after after n >>= λ js. done (i ∷ js)) there a.second i (complete is) complete_not_broken own.0 a.two in
    let c = apart_complete (blocks_after after n) (λ js. done (i ∷ js)) there a.second is r.1 in
    let k = blocks_only n after there c.first c.made c.one in
    let d = done_only (i ∷ c.made) is (there + sum_of_widths c.first) c.second c.two in
    let s : a.second ≡ items_elements c.made = alone a.second c.first c.second (items_elements c.made) c.all d.0 k.2 in
    let e : es ≡ item_elements i ++ items_elements c.made = joined es a.first a.second (item_elements i) (items_elements c.made) a.all own.1 s in
    rw d.1 (ap suc k.0, and_both (item_fits i && item_follows before i) (all_fit after c.made) (and_both (item_fits i) (item_follows before i) own.0 r.0) k.1, e)
