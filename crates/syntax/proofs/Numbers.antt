-- Each place of a ue(v) number checks its own range (02, d): a number that is not allowed there, of up to 31 zeros, gets that place's refusal,
-- whatever follows it. A length is judged when its level is known. And 2 is what a 32nd zero gets, and nothing else does.
use Prim.Native.Nat.{ℕ, zero, suc, ◌+◌, ◌^◌, ◌<◌, ◌≤◌}
use mathlib.Core.Path.{◌≡◌, refl, ap, ◌∙◌}
use mathlib.Core.List.{List, [], ◌∷◌, ◌++◌, append_assoc}
use mathlib.Core.Bool.{Bool, true, false, ◌&&◌}
use mathlib.Core.Logic.{inl}
use native.Mathlib.Omega.{arith}
use native.Mathlib.Nat.{zero-add, add-zero, add_assoc}
use borrow.Author.Tests.{ne_eqb, lt-leb, lt-ltb, le-leb}
use lib.Dec.{eqb, leb}
use lib.ListN.{length, replicate}
use lib.IntN.{pos}
use Rattle.refusals.specs.Refusals.{too_many_zeros, wrong_identifier, wrong_version, too_many_blocks}
use Rattle.tree.specs.Reading.{allows, Rule, meets, Fault, cut_off, overlong, breaks, number_in, no}
use Rattle.tree.specs.Codes.{halvings}
use Rattle.tree.specs.Coding.{most_zeros, unsigned, variable, fixed, natural}
use Rattle.tree.specs.Syntax.{range_rule, ◌>>=◌, done}
use Rattle.tree.specs.Meaning.{Element, sum_of_widths, all_bits, Next, awaits, broken, Follow}
use Rattle.tree.proofs.Truth.{clash, range_of_one}
use Rattle.tree.proofs.Elements.{ue-holds}
use Rattle.tree.proofs.Meaning.{widths_append}
use Rattle.tree.proofs.Tables.{together, Within, next_in_both, next_itself}
use Rattle.tree.proofs.Spells.{ranged_together, ranged_broken, any_together}
use Rattle.tree.proofs.Refused.{cut_off_field}
use Rattle.record.specs.declared.Block.{Block}
use Rattle.record.specs.Name.{Name, app_identifier, app_version, metadata_refresh_flag, num_ext_blocks, ext_block_length, ext_block_level}
use Rattle.record.proofs.Laws.{and_left, and_right}
use Rattle.valid.specs.Valid.{among}
use Rattle.syntax.specs.Data.{most_announced, announced, block_count, head, Item, kept_in, lengths, length_rule, whole_block, block, blocks_after, Data, first_alignment, ST2094-10_data, bare_data}
use Rattle.syntax.specs.Element.{variable_element, fixed_element, head_elements, open_elements, item_elements, items_elements, item_fits, item_follows, all_fit}
use Rattle.syntax.specs.Reason.{Reason}
use Rattle.syntax.proofs.Items.{behind, one_block_more}
use Rattle.syntax.proofs.Exact.{after_flag, after_version, after_identifier, after_head, after_first, lastly, first_gap, head_takes, first_takes, opens_with}
use Rattle.syntax.proofs.Reasons.{data_speaks, the_reason_is_true, a_true_reason_is_given}
use Rattle.syntax.proofs.Stands.{no_rule_has}

-- a rule that the elements es break is the refusal of every input that begins with them
refused_by : (es : List (Element Name)) (t : List Bool) (r : Rule Name) → meets r ≡ false → Follow ST2094-10_data 0 es (broken r) → bare_data (all_bits es ++ t) ≡ no (breaks r)
refused_by es t r m f = a_true_reason_is_given (all_bits es ++ t) (breaks r) (es, t, refl, m, inl (f, data_speaks 0 es r f))

-- ---- app_identifier, app_version, num_ext_blocks

-- only w is allowed, and v is another one
not_the_one : (v w : ℕ) → (v ≡ w → ⊥) → leb w v && leb v w ≡ false
not_the_one v w h = range_of_one w v ∙ ne_eqb v w h

pub another_identifier : (v : ℕ) (t : List Bool) → v + 1 < 2 ^ suc most_zeros → (v ≡ 1 → ⊥)
    → bare_data (all_bits (variable_element app_identifier v ∷ []) ++ t) ≡ no (breaks (range_rule app_identifier wrong_identifier (pos 1) (pos 1) 0 (pos v)))
unfolding ST2094-10_data head
another_identifier v t h other =
    let r = range_rule app_identifier wrong_identifier (pos 1) (pos 1) 0 (pos v) in
    let m = not_the_one v 1 other in
    refused_by (variable_element app_identifier v ∷ []) t r m
    (next_in_both head after_head 0 (variable_element app_identifier v ∷ []) (broken r) (broken r)
    (ranged_broken app_identifier variable wrong_identifier (pos 1) (pos 1) after_identifier 0 (pos v) (ue-holds v h) m) refl)

pub another_version : (v : ℕ) (t : List Bool) → v + 1 < 2 ^ suc most_zeros → (v ≡ 0 → ⊥)
    → bare_data (all_bits (variable_element app_identifier 1 ∷ variable_element app_version v ∷ []) ++ t) ≡ no (breaks (range_rule app_version wrong_version (pos 0) (pos 0) 3 (pos v)))
unfolding ST2094-10_data head halvings
another_version v t h other =
    let r = range_rule app_version wrong_version (pos 0) (pos 0) 3 (pos v) in
    let m = not_the_one v 0 other in
    let es = variable_element app_identifier 1 ∷ variable_element app_version v ∷ [] in
    refused_by es t r m
    (next_in_both head after_head 0 es (broken r) (broken r)
    (ranged_together app_identifier variable wrong_identifier (pos 1) (pos 1) after_identifier 0 (pos 1) (variable_element app_version v ∷ []) (broken r) refl refl
    (ranged_broken app_version variable wrong_version (pos 0) (pos 0) after_version 3 (pos v) (ue-holds v h) m))
    refl)

pub too_many_announced : (n : ℕ) (t : List Bool) → n + 1 < 2 ^ suc most_zeros → most_announced < n
    → bare_data (all_bits (head_elements true n) ++ t) ≡ no (breaks (range_rule num_ext_blocks too_many_blocks (pos 0) (pos most_announced) 5 (pos n)))
unfolding ST2094-10_data head block_count halvings
too_many_announced n t h many =
    let r = range_rule num_ext_blocks too_many_blocks (pos 0) (pos most_announced) 5 (pos n) in
    let m : leb 0 n && leb n most_announced ≡ false = rw (le-leb 0 n (omega arith), lt-leb n most_announced many) refl in
    refused_by (head_elements true n) t r m
    (next_in_both head after_head 0 (head_elements true n) (broken r) (broken r)
    (ranged_together app_identifier variable wrong_identifier (pos 1) (pos 1) after_identifier 0 (pos 1) _ (broken r) refl refl
    (ranged_together app_version variable wrong_version (pos 0) (pos 0) after_version 3 (pos 0) _ (broken r) refl refl
    (any_together metadata_refresh_flag (fixed (unsigned 1)) after_flag 4 (pos 1) _ (broken r) refl
    (ranged_broken num_ext_blocks variable too_many_blocks (pos 0) (pos most_announced) (λ n. done (announced true (natural n))) 5 (pos n) (ue-holds n h) m))))
    refl)

-- ---- ext_block_length

-- behind blocks that fit, and are fewer than are announced, comes another one
next-block : (n : ℕ) (before : List Block) (is : List Item) (at : ℕ) (fs : List (Element Name)) (y : Next Name Item) (x : Next Name (List Item))
    → length is < n → all_fit before is ≡ true → Follow block (at + sum_of_widths (items_elements is)) fs y → Within y x → Follow (blocks_after before n) at (items_elements is ++ fs) x
unfolding blocks_after items_elements all_fit sum_of_widths Follow ◌>>=◌
next-block zero before is at fs y x l h k w = absurd (omega arith)
next-block (suc n) before [] at fs y x l h k w = next_in_both block (behind at before n) at fs y x (rw (add-zero at) at k) w
next-block (suc n) before (i ∷ is) at fs y x l h k w =
    let after = before ++ kept_in (i ∷ []) in
    let there = at + sum_of_widths (item_elements i) in
    let a = add_assoc at (sum_of_widths (item_elements i)) (sum_of_widths (items_elements is)) in
    let m = next-block n after is there fs y x (omega arith) (and_right (item_fits i && item_follows before i) (all_fit after is) h)
    (rw (widths_append (item_elements i) (items_elements is), ← a) at k) w in
    rw (append_assoc (item_elements i) (items_elements is) fs)
    (one_block_more n before i at (items_elements is ++ fs) x (and_left (item_fits i && item_follows before i) (all_fit after is) h)
    (next_in_both (blocks_after after n) (λ js. done (i ∷ js)) there (items_elements is ++ fs) x x m (next_itself y x w)))

-- the elements up to a block's length: so many blocks are announced, and the blocks `is` stand before it
module _ (count : ℕ) (is : List Item) (few : count ≤ most_announced) (fewer : length is < count) (fit : all_fit [] is ≡ true) where
  abbrev earlier : List (Element Name)
  earlier = open_elements true count ++ items_elements is

  -- what comes next in the block comes next in the data
  next_in_data : (fs : List (Element Name)) (y : Next Name Item) (x : Next Name Data) (z : Next Name (List Item)) → Within y z → Within z x → Follow block (sum_of_widths earlier) fs y → Follow ST2094-10_data 0 (earlier ++ fs) x
  unfolding ST2094-10_data Follow
  next_in_data fs y x z w v k =
      let h = announced true count in
      let one = head_elements true count in
      let two = first_gap (eqb count 0) (sum_of_widths one) in
      let o = opens_with true count in
      let there = sum_of_widths one + sum_of_widths two in
      let e : sum_of_widths earlier ≡ there + sum_of_widths (items_elements is) =
      widths_append (open_elements true count) (items_elements is) ∙ ap (λ (n : ℕ). n + sum_of_widths (items_elements is)) (ap sum_of_widths o ∙ widths_append one two) in
      let k3 = next-block count [] is there fs y z fewer fit (rw e at k) w in
      let k4 = next_in_both (blocks_after [] count) (lastly h) there (items_elements is ++ fs) z x k3 v in
      let k5 = together (first_alignment count) (λ y. after_first h) (sum_of_widths one) two (items_elements is ++ fs) tt x (first_takes (eqb count 0) (sum_of_widths one)) k4 in
      let k6 = together head after_head 0 one (two ++ (items_elements is ++ fs)) h x (head_takes true count (record { few = few; flag = λ q. let z : ◌≡◌ {A = ℕ} 0 1 = cc in clash z }) 0) (rw (zero-add (sum_of_widths one)) k5) in
      rw (o, append_assoc (one ++ two) (items_elements is) fs, append_assoc one two (items_elements is ++ fs)) k6

  module _ (n : ℕ) (h : n + 1 < 2 ^ suc most_zeros) where
    -- with its level behind it, of which it is no length
    pub another_length : (l : ℕ) (t : List Bool) → l < 256 → allows (lengths l) (pos n) ≡ false
        → bare_data (all_bits (earlier ++ (variable_element ext_block_length n ∷ fixed_element 8 ext_block_level l ∷ [])) ++ t) ≡ no (breaks (length_rule (sum_of_widths earlier) (pos n) l))
    unfolding block whole_block Follow ◌>>=◌
    another_length l t small m =
        let r = length_rule (sum_of_widths earlier) (pos n) l in
        let fs = variable_element ext_block_length n ∷ fixed_element 8 ext_block_level l ∷ [] in
        refused_by (earlier ++ fs) t r m (next_in_data fs (broken r) (broken r) (broken r) refl refl ((refl, refl, ue-holds n h), ((refl, refl, lt-ltb l 256 small), rw m (refl, refl))))

    -- without it, whatever the length is
    pub no_level : (t : List Bool) → length t < 8
        → bare_data (all_bits (earlier ++ (variable_element ext_block_length n ∷ [])) ++ t) ≡ no (cut_off (sum_of_widths (earlier ++ (variable_element ext_block_length n ∷ []))) ext_block_level)
    unfolding block whole_block Follow ◌>>=◌
    no_level t short =
        let es = earlier ++ (variable_element ext_block_length n ∷ []) in
        let d = fixed (unsigned 8) in
        a_true_reason_is_given (all_bits es ++ t) (cut_off (sum_of_widths es) ext_block_level)
        (es, t, d, next_in_data (variable_element ext_block_length n ∷ []) (awaits ext_block_level d) (awaits ext_block_level d) (awaits ext_block_level d) refl refl ((refl, refl, ue-holds n h), refl), refl, refl, cut_off_field ext_block_level 8 0 t short)

-- ---- 2

-- a 32nd zero where a code comes next
pub a_zero_too_many : (es : List (Element Name)) (name : Name) (t : List Bool) → Follow ST2094-10_data 0 es (awaits name variable)
    → bare_data (all_bits es ++ (replicate (suc most_zeros) false ++ t)) ≡ no (overlong (sum_of_widths es) name)
a_zero_too_many es name t f =
    let zeros = replicate (suc most_zeros) false ++ t in
    a_true_reason_is_given (all_bits es ++ zeros) (overlong (sum_of_widths es) name) (es, zeros, variable, f, refl, refl, record { code = refl; rest = t; zeros = refl })

-- and nothing else
abbrev ZeroTooMany : List Bool → Type 0
ZeroTooMany s = (es : List (Element Name)) × (name : Name) × (t : List Bool) × Follow ST2094-10_data 0 es (awaits name variable) × (s ≡ all_bits es ++ (replicate (suc most_zeros) false ++ t))

pub only_a_zero_too_many : (s : List Bool) (f : Fault Name) → bare_data s ≡ no f → number_in f ≡ too_many_zeros → ZeroTooMany s
unfolding among
only_a_zero_too_many s f e n = go f (the_reason_is_true s f e) n
  where
    go : (f : Fault Name) → Reason s f → number_in f ≡ too_many_zeros → ZeroTooMany s
    go (cut_off offset name) m n = absurd (omega arith)
    go (overlong offset name) m n =
        let c = m.6 in
        (m.0, name, c.rest, rw c.code at m.3, m.4 ∙ ap (λ (l : List Bool). all_bits m.0 ++ l) c.zeros)
    go (breaks q) m n = absurd (no_rule_has too_many_zeros refl (λ e. omega arith) m.0 m.1 q m.4 n)
