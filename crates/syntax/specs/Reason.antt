-- What a refusal says, and when it is true.
use Rattle.std.specs.Prelude.{ℕ, ◌+◌, ◌≡◌, List, [], ◌∷◌, ◌++◌, Bool, true, ◌⊎◌, ℤ, pos}
use Rattle.refusals.specs.Refusals.{past_end, too_many_zeros, wrapper_differs, wrong_identifier, wrong_version, too_many_blocks, not_zero, wrong_length, not_in_order, repeated_target, second_level1, second_level5, seventeenth_level2, bytes_remain}
use Rattle.tree.specs.Bits.{bits_of}
use Rattle.tree.specs.Reading.{Rule, meets, Fault, no}
use Rattle.tree.specs.Coding.{unsigned, variable, fixed, natural}
use Rattle.tree.specs.Syntax.{range_rule}
use Rattle.tree.specs.Reasons as generic
use Rattle.tree.specs.Meaning.{Element, element, sum_of_widths, Means}
use Rattle.tree.specs.Wrapper.{wrapper_table}
use Rattle.record.specs.declared.Block.{Block}
use Rattle.record.specs.declared.Block.TheVariants.{Level1, Level2}
use Rattle.record.specs.Name.{Name, app_identifier, app_version, num_ext_blocks, dm_alignment_zero_bit, ext_block_length, ext_block_level, ext_dm_alignment_zero_bit, «end», «wrapper»}
use Rattle.record.specs.Level.{level_of}
use Rattle.valid.specs.Valid.{valid_block}
use Rattle.syntax.specs.Data.{most_announced, length_rule, average_rule, surplus_rule, target_rule, Item, kept_in, ST2094-10_data}
use Rattle.syntax.specs.Element.{block_elements, items_elements}
use Rattle.syntax.specs.Wrapper.{wrapper_bytes}

-- THE TABLE OF REASONS. Behind the elements `earlier`: the elements from the refusal's offset on, and the rule that they break.
pub data About (earlier : List (Element Name)) : List (Element Name) → Rule Name → Type 0 where
  -- 4, 5, 6, 7: the element itself is none of those that are allowed
  identifier : (at : ℕ) (z : ℤ) → About earlier (element app_identifier variable z ∷ []) (range_rule app_identifier wrong_identifier (pos 1) (pos 1) at z)
  version : (at : ℕ) (z : ℤ) → About earlier (element app_version variable z ∷ []) (range_rule app_version wrong_version (pos 0) (pos 0) at z)
  count : (at : ℕ) (z : ℤ) → About earlier (element num_ext_blocks variable z ∷ []) (range_rule num_ext_blocks too_many_blocks (pos 0) (pos most_announced) at z)
  alignment_bit : (at : ℕ) (z : ℤ) → About earlier (element dm_alignment_zero_bit (fixed (unsigned 1)) z ∷ []) (range_rule dm_alignment_zero_bit not_zero (pos 0) (pos 0) at z)
  block_alignment_bit : (at : ℕ) (z : ℤ) → About earlier (element ext_dm_alignment_zero_bit (fixed (unsigned 1)) z ∷ []) (range_rule ext_dm_alignment_zero_bit not_zero (pos 0) (pos 0) at z)
  -- 9: the length is none of those that the level behind it may have
  other_length : (at : ℕ) (n l : ℤ) → About earlier (element ext_block_length variable n ∷ element ext_block_level (fixed (unsigned 8)) l ∷ []) (length_rule at n (natural l))
  -- 10: in a whole block of level 1, avg_PQ is not from min_PQ to max_PQ
  average : (at min max avg : ℕ) → About earlier (block_elements (Level1 min max avg)) (average_rule at min max avg)
  -- 17, 18, 19: a whole block, fine in itself, of a level of which the blocks before it are all that may come
  surplus : (at : ℕ) (b : Block) (opening : List (Element Name)) (is : List Item) → earlier ≡ opening ++ items_elements is → valid_block b ≡ true
      → About earlier (block_elements b) (surplus_rule at (kept_in is) (level_of b))
  -- 11: a whole block of level 2, fine in itself and not one too many, whose target_max_PQ one of the blocks before it has
  target : (at t s o p c g : ℕ) (m : ℤ) (opening : List (Element Name)) (is : List Item) → earlier ≡ opening ++ items_elements is → valid_block (Level2 t s o p c g m) ≡ true
      → meets (surplus_rule at (kept_in is) 2) ≡ true → About earlier (block_elements (Level2 t s o p c g m)) (target_rule at (kept_in is) t)

-- the elements es, from position at on, end with those that the rule is about, which begin at its offset
pub record Speaks (at : ℕ) (es : List (Element Name)) (r : Rule Name) : Type 0 where
  pub earlier : List (Element Name)
  pub theirs : List (Element Name)
  pub all : es ≡ earlier ++ theirs
  pub offset : r.offset ≡ at + sum_of_widths earlier
  pub about : About earlier theirs r

-- the rule's element is among these, with the rule's value
abbrev pub Named : Rule Name → List (Element Name) → Type 0
Named r [] = ⊥
Named r (x ∷ es) = ((x.name ≡ r.element) × (x.value ≡ r.value)) ⊎ Named r es

-- THE REASON (tree, `Reasons`): for 1 and 2 of the element that comes next; else of a row of this table, or of bytes that are left over
abbrev pub Reason : List Bool → Fault Name → Type 0
Reason s f = generic.Reason «end» ST2094-10_data Speaks s f

-- THE REASON of wrapped data: a byte of the wrapper is missing or differs, as the wrapper's own table has it; or the wrapper's bytes stand
-- there, and behind them data that is refused, for its reason
abbrev pub WrappedReason : List Bool → Fault Name → Type 0
WrappedReason s f = Means (wrapper_table «wrapper» wrapper_bytes) 0 s (no f) ⊎ ((t : List Bool) × (s ≡ bits_of wrapper_bytes ++ t) × Reason t f)

-- the numbers of the rules, and all that data can be refused with
abbrev pub rule_numbers : List ℕ
rule_numbers = wrong_identifier ∷ wrong_version ∷ too_many_blocks ∷ not_zero ∷ wrong_length ∷ not_in_order ∷ repeated_target ∷ second_level1 ∷ second_level5 ∷ seventeenth_level2 ∷ []

abbrev pub data_numbers : List ℕ
data_numbers = past_end ∷ too_many_zeros ∷ bytes_remain ∷ rule_numbers

-- and wrapped data
abbrev pub wrapped_numbers : List ℕ
wrapped_numbers = wrapper_differs ∷ data_numbers
