-- 02, e: a fault is marked exactly if it is in the wrapper. No element of the data has the wrapper's name, and each of the wrapper has.
use Prim.Native.Nat.{ℕ, zero, suc, ◌*◌, ◌/◌}
use mathlib.Core.Path.{◌≡◌, refl, ap}
use mathlib.Core.List.{List, [], ◌∷◌, ◌++◌}
use mathlib.Core.Bool.{Bool, true, false, cond}
use lib.Dec.{eqb}
use lib.IntN.{pos}
use lib.ListN.{replicate}
use Rattle.refusals.specs.Refusals.{wrong_identifier, wrong_version, too_many_blocks}
use Rattle.tree.specs.Reading.{Fault, offset_in, no}
use Rattle.tree.specs.Coding.{unsigned, variable, fixed, natural}
use Rattle.tree.specs.Syntax.{done, position, must, any, ranged, one_bit, row, zero_bits, alignment, read, ◌>>=◌}
use Rattle.tree.specs.Wrapper.{wrapper_table}
use Rattle.tree.specs.Reasons.{Names}
use Rattle.tree.proofs.Names.{fault_is_named, whole_fault_is_named, names_done, names_then, names_if, names_here, names-must, names-any, names-ranged, FieldNames, names-row, names_zeros, names-alignment, names_wrapper}
use Rattle.record.specs.declared.Block.{Block}
use Rattle.record.specs.declared.Block.TheVariants.{Nothing, Level1, Level2, Level5}
use Rattle.record.specs.Name.{Name, is_wrapper, app_identifier, app_version, metadata_refresh_flag, num_ext_blocks, dm_alignment_zero_bit, ext_block_length, ext_block_level, ext_dm_alignment_zero_bit, «end», «wrapper»}
use Rattle.record.specs.Level.{level1, level2, level5, reserved, known, padding, fields_of}
use Rattle.syntax.specs.Data.{most_announced, announced, block_count, head, Item, kept, passed, kept_in, block_of, length_rule, average_rule, order_rules, surplus_rule, target_rule, may_follow_rules, content, reserved_bits, reserved_content, whole_block, block, blocks_after, first_alignment, ST2094-10_data, bare_data}
use Rattle.syntax.specs.Wrapper.{wrapper_bytes, inside_wrapper, told_at}
use Rattle.syntax.proofs.Blocks.{after_fields, content_of, after_level, after_length}
use Rattle.syntax.proofs.Items.{behind}
use Rattle.syntax.proofs.Exact.{after_flag, after_version, after_identifier, holding, lastly, after_first, after_head}

abbrev Inside : Name → Type 0
Inside n = is_wrapper n ≡ false

-- ---- a block

fields_named : (l : ℕ) → FieldNames Inside (fields_of l)
fields_named l = go (eqb l 1) (eqb l 2) (eqb l 5)
  where
    go : (a b c : Bool) → FieldNames Inside (cond a level1 (cond b level2 (cond c level5 reserved))).fields
    go true b c = (refl, (refl, (refl, tt)))
    go false true c = (refl, (refl, (refl, (refl, (refl, (refl, (refl, tt)))))))
    go false false true = (refl, (refl, (refl, (refl, tt))))
    go false false false = tt

bits_named : (n : ℕ) → FieldNames Inside (replicate n (one_bit ext_dm_alignment_zero_bit))
bits_named zero = tt
bits_named (suc n) = (refl, bits_named n)

content_named : (l : ℕ) → Names Inside (content l)
unfolding content
content_named l =
    names_then Inside (row (fields_of l)) (after_fields l) (names-row Inside (fields_of l) (fields_named l))
    (λ zs. names_then Inside (zero_bits ext_dm_alignment_zero_bit (padding l)) (λ z. done (kept (block_of l zs))) (names_zeros Inside ext_dm_alignment_zero_bit (padding l) refl) (λ z. names_done Inside (kept (block_of l zs))))

reserved_named : (l n : ℕ) → Names Inside (reserved_content l n)
unfolding reserved_content
reserved_named l n = names_then Inside (row (reserved_bits n)) (λ zs. done (passed l n zs)) (names-row Inside (reserved_bits n) (bits_named (8 * n))) (λ zs. names_done Inside (passed l n zs))

whole_block_named : (start : ℕ) → Names Inside (whole_block start)
unfolding whole_block
whole_block_named start =
    names_then Inside (any ext_block_length variable) (after_length start) (names-any Inside ext_block_length variable refl)
    (λ n. names_then Inside (any ext_block_level (fixed (unsigned 8))) (after_level start n) (names-any Inside ext_block_level (fixed (unsigned 8)) refl)
    (λ l. names_then Inside (must (length_rule start n (natural l))) (λ own. content_of (natural l) (natural n)) (names-must Inside (length_rule start n (natural l)) refl)
    (λ own. names_if Inside (known (natural l)) (content (natural l)) (reserved_content (natural l) (natural n)) (content_named (natural l)) (reserved_named (natural l) (natural n)))))

order_named : (start : ℕ) (i : Item) → Names Inside (order_rules start i)
order_named start (kept Nothing) = names_done Inside tt
order_named start (kept (Level1 min max avg)) = names-must Inside (average_rule start min max avg) refl
order_named start (kept (Level2 t s o p c g m)) = names_done Inside tt
order_named start (kept (Level5 l r t b)) = names_done Inside tt
order_named start (passed l n zs) = names_done Inside tt

block_named_lem : Names Inside block
unfolding block
block_named_lem =
    names_then Inside position (λ start. whole_block start >>= λ i. order_rules start i >>= λ o. done i) (names_here Inside done (λ at. names_done Inside at))
    (λ start. names_then Inside (whole_block start) (λ i. order_rules start i >>= λ o. done i) (whole_block_named start)
    (λ i. names_then Inside (order_rules start i) (λ o. done i) (order_named start i) (λ o. names_done Inside i)))

follow_named : (start : ℕ) (before : List Block) (i : Item) → Names Inside (may_follow_rules start before i)
follow_named start before (kept Nothing) = names_done Inside tt
follow_named start before (kept (Level1 min max avg)) = names-must Inside (surplus_rule start before 1) refl
follow_named start before (kept (Level2 t s o p c g m)) =
    names_then Inside (must (surplus_rule start before 2)) (λ u. must (target_rule start before t)) (names-must Inside (surplus_rule start before 2) refl) (λ u. names-must Inside (target_rule start before t) refl)
follow_named start before (kept (Level5 l r t b)) = names-must Inside (surplus_rule start before 5) refl
follow_named start before (passed l n zs) = names_done Inside tt

blocks_named : (n : ℕ) (before : List Block) → Names Inside (blocks_after before n)
unfolding blocks_after
blocks_named zero before = names_done Inside []
blocks_named (suc n) before =
    names_then Inside position (λ start. block >>= behind start before n) (names_here Inside done (λ at. names_done Inside at))
    (λ start. names_then Inside block (behind start before n) block_named_lem
    (λ i. names_then Inside (may_follow_rules start before i) (λ o. blocks_after (before ++ kept_in (i ∷ [])) n >>= λ is. done (i ∷ is)) (follow_named start before i)
    (λ o. names_then Inside (blocks_after (before ++ kept_in (i ∷ [])) n) (λ is. done (i ∷ is)) (blocks_named n (before ++ kept_in (i ∷ []))) (λ is. names_done Inside (i ∷ is)))))

-- ---- the whole table

count_named : Names Inside block_count
unfolding block_count
count_named =
    names_then Inside (ranged num_ext_blocks variable too_many_blocks (pos 0) (pos most_announced)) (λ n. done (announced true (natural n)))
    (names-ranged Inside num_ext_blocks variable too_many_blocks (pos 0) (pos most_announced) refl) (λ n. names_done Inside (announced true (natural n)))

head_named : Names Inside head
unfolding head
head_named =
    names_then Inside (ranged app_identifier variable wrong_identifier (pos 1) (pos 1)) after_identifier (names-ranged Inside app_identifier variable wrong_identifier (pos 1) (pos 1) refl)
    (λ a. names_then Inside (ranged app_version variable wrong_version (pos 0) (pos 0)) after_version (names-ranged Inside app_version variable wrong_version (pos 0) (pos 0) refl)
    (λ v. names_then Inside (any metadata_refresh_flag (fixed (unsigned 1))) after_flag (names-any Inside metadata_refresh_flag (fixed (unsigned 1)) refl)
    (λ f. names_if Inside (eqb (natural f) 1) block_count (done (announced false 0)) count_named (names_done Inside (announced false 0)))))

alignment_named : Names Inside (alignment dm_alignment_zero_bit)
alignment_named = names-alignment Inside dm_alignment_zero_bit refl

data_named : Names Inside ST2094-10_data
unfolding ST2094-10_data
data_named =
    names_then Inside head after_head head_named
    (λ h. names_then Inside (first_alignment h.count) (λ y. after_first h) (names_if Inside (eqb h.count 0) (done tt) (alignment dm_alignment_zero_bit) (names_done Inside tt) alignment_named)
    (λ y. names_then Inside (blocks_after [] h.count) (lastly h) (blocks_named h.count [])
    (λ is. names_then Inside (alignment dm_alignment_zero_bit) (λ z. done (holding h is)) alignment_named (λ z. names_done Inside (holding h is)))))

-- ---- which faults are marked

module _ (s : List Bool) (f : Fault Name) where
  -- none in the data
  pub not_in_the_wrapper : bare_data s ≡ no f → inside_wrapper f ≡ false
  not_in_the_wrapper e = whole_fault_is_named Inside «end» ST2094-10_data s f refl data_named e

  -- which is told by its offset as it is
  pub told_in_bits : bare_data s ≡ no f → told_at f ≡ offset_in f
  told_in_bits e = ap (λ (b : Bool). cond b (offset_in f / 8) (offset_in f)) (not_in_the_wrapper e)

  -- and each in the wrapper
  pub marked_in_the_wrapper : read (wrapper_table «wrapper» wrapper_bytes) 0 s ≡ no f → inside_wrapper f ≡ true
  marked_in_the_wrapper e = fault_is_named (λ n. is_wrapper n ≡ true) (wrapper_table «wrapper» wrapper_bytes) 0 s f (names_wrapper (λ n. is_wrapper n ≡ true) «wrapper» wrapper_bytes refl) e

  pub told_in_bytes : read (wrapper_table «wrapper» wrapper_bytes) 0 s ≡ no f → told_at f ≡ offset_in f / 8
  told_in_bytes e = ap (λ (b : Bool). cond b (offset_in f / 8) (offset_in f)) (marked_in_the_wrapper e)
