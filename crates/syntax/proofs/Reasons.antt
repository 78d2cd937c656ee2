-- Every reason is true, and a true reason is given: which elements a broken rule is about, and what stands before them.
use Prim.Native.Nat.{ℕ, zero, suc, ◌+◌}
use mathlib.Core.Path.{◌≡◌, refl, ap, sym, ◌∙◌}
use mathlib.Core.List.{List, [], ◌∷◌, ◌++◌, append-nil, append_assoc}
use mathlib.Core.Bool.{Bool, true, false, ◌||◌}
use mathlib.Core.Logic.{◌⊎◌, inl, inr}
use native.Mathlib.Omega.{arith}
use native.Mathlib.Nat.{add-zero}
use lib.Dec.{eqb}
use lib.IntN.{ℤ, pos}
use Rattle.refusals.specs.Refusals.{past_end, too_many_zeros, wrong_identifier, wrong_version, too_many_blocks, bytes_remain}
use Rattle.tree.specs.Reading.{Rule, meets, Fault, cut_off, overlong, breaks, number_in, no}
use Rattle.tree.specs.Coding.{unsigned, variable, fixed, width_in, natural}
use Rattle.tree.specs.Syntax.{Syntax, done, ◌>>=◌, any, ranged, must, row, zero_bits, alignment, left_over}
use Rattle.tree.specs.Meaning.{Element, element, field_elements, sum_of_widths, Next, complete, awaits, broken, Follow, BreaksAt, Breaks}
use Rattle.tree.proofs.Truth.{clash}
use Rattle.tree.proofs.Meaning.{widths_append}
use Rattle.tree.proofs.Spells.{Goes, any_apart, must_apart}
use Rattle.tree.proofs.Breaks.{breaks_done, breaks_any, breaks_if, breaks_behind, breaks_then, breaks_ranged, breaks_row, breaks_zeros, breaks_alignment}
use Rattle.tree.proofs.Reasons.{reason_is_true, true_reason_is_given}
use Rattle.record.specs.declared.Block.{Block}
use Rattle.record.specs.declared.Block.TheVariants.{Nothing, Level1, Level2, Level5}
use Rattle.record.specs.Name.{Name, app_identifier, app_version, metadata_refresh_flag, num_ext_blocks, dm_alignment_zero_bit, ext_block_length, ext_block_level, ext_dm_alignment_zero_bit, «end»}
use Rattle.record.specs.Level.{level, known, level_of, padding, fields_of}
use Rattle.valid.specs.Valid.{among, valid_block}
use Rattle.syntax.specs.Data.{most_announced, announced, block_count, head, Item, kept, passed, kept_in, Data, block_of, length_rule, average_rule, order_rules, surplus_rule, target_rule, may_follow_rules, content, reserved_bits, reserved_content, whole_block, block, blocks_after, first_alignment, ST2094-10_data, bare_data}
use Rattle.syntax.specs.Element.{block_elements, item_elements, items_elements, item_fits}
use Rattle.syntax.specs.Reason.{About, identifier, version, count, alignment_bit, block_alignment_bit, other_length, average, surplus, target, Speaks, Named, Reason, rule_numbers, data_numbers}
use Rattle.syntax.proofs.Blocks.{after_fields, content_of, after_level, after_length, whole_block_only, block_only}
use Rattle.syntax.proofs.Items.{behind}
use Rattle.syntax.proofs.Exact.{after_flag, after_version, after_identifier, holding, lastly, after_first, after_head}

-- what is said of a rule stays true behind earlier elements
grow_about : (es earlier theirs : List (Element Name)) (r : Rule Name) → About earlier theirs r → About (es ++ earlier) theirs r
grow_about es earlier theirs r (identifier at z) = identifier at z
grow_about es earlier theirs r (version at z) = version at z
grow_about es earlier theirs r (count at z) = count at z
grow_about es earlier theirs r (alignment_bit at z) = alignment_bit at z
grow_about es earlier theirs r (block_alignment_bit at z) = block_alignment_bit at z
grow_about es earlier theirs r (other_length at n l) = other_length at n l
grow_about es earlier theirs r (average at min max avg) = average at min max avg
grow_about es earlier theirs r (surplus at b opening is e f) = surplus at b (es ++ opening) is (ap (λ (l : List (Element Name)). es ++ l) e ∙ sym (append_assoc es opening (items_elements is))) f
grow_about es earlier theirs r (target at t s o p c g m opening is e f h) =
    target at t s o p c g m (es ++ opening) is (ap (λ (l : List (Element Name)). es ++ l) e ∙ sym (append_assoc es opening (items_elements is))) f h

pub grow : (at : ℕ) (es fs : List (Element Name)) (r : Rule Name) → Speaks (at + sum_of_widths es) fs r → Speaks at (es ++ fs) r
grow at es fs r k = record {
  earlier = es ++ k.earlier;
  theirs = k.theirs;
  all = ap (λ (l : List (Element Name)). es ++ l) k.all ∙ sym (append_assoc es k.earlier k.theirs);
  offset = omega (arith, k.offset, widths_append es k.earlier);
  about = grow_about es k.earlier k.theirs r k.about;
}

-- elements that begin where they are said to
begins : (at : ℕ) (es : List (Element Name)) (r : Rule Name) → r.offset ≡ at → About [] es r → Speaks at es r
unfolding sum_of_widths
begins at es r o h = record { earlier = []; theirs = es; all = refl; offset = o ∙ sym (add-zero at); about = h }

same_rule : {A : Type 0} (r q : Rule Name) → ◌≡◌ {A = Next Name A} (broken r) (broken q) → r ≡ q
same_rule r q e = cc

-- a rule q behind elements es, and what follows it; the es end with those that it is about
module _ {B : Type 0} (at : ℕ) (es : List (Element Name)) (g : Unit {0} → Syntax Name B) (there : ℕ) (fs : List (Element Name)) (r : Rule Name) where
  one_rule : (q : Rule Name) → Speaks at es q → Follow (must q >>= g) there fs (broken r) → (meets q ≡ true → Follow (g tt) there fs (broken r) → Speaks at (es ++ fs) r) → Speaks at (es ++ fs) r
  one_rule q h k on = go (must_apart q g there fs (broken r) k)
    where
      go : ((meets q ≡ true) × Follow (g tt) there fs (broken r)) ⊎ ((meets q ≡ false) × (fs ≡ []) × (◌≡◌ {A = Next Name B} (broken r) (broken q))) → Speaks at (es ++ fs) r
      go (inl m) = on m.0 m.1
      go (inr m) = rw (same_rule {A = B} r q m.2, m.1, append-nil es) h

-- ---- a block

the_content : (l : ℕ) → Breaks Speaks (content l)
unfolding content
the_content l =
    breaks_then Speaks grow (row (fields_of l)) (after_fields l) (breaks_row Speaks grow (fields_of l))
    (λ zs. breaks_then Speaks grow (zero_bits ext_dm_alignment_zero_bit (padding l)) (λ z. done (kept (block_of l zs))) (breaks_zeros Speaks grow ext_dm_alignment_zero_bit (λ at z. begins at _ _ refl (block_alignment_bit at z)) (padding l)) (λ z. breaks_done Speaks (kept (block_of l zs))))

-- no rule is about a bit of a reserved block
the_reserved_content : (l n : ℕ) → Breaks Speaks (reserved_content l n)
unfolding reserved_content
the_reserved_content l n = breaks_then Speaks grow (row (reserved_bits n)) (λ zs. done (passed l n zs)) (breaks_row Speaks grow (reserved_bits n)) (λ zs. breaks_done Speaks (passed l n zs))

any-content : (l n : ℕ) → Breaks Speaks (content_of l n)
any-content l n = breaks_if Speaks (known l) (content l) (reserved_content l n) (the_content l) (the_reserved_content l n)

-- 9 is about the length, which begins where the block does
module _ (at : ℕ) (r : Rule Name) where
  abbrev length_and_level : ℤ → ℤ → List (Element Name)
  length_and_level n l = element ext_block_length variable n ∷ element ext_block_level (fixed (unsigned 8)) l ∷ []

  ruled : (n l : ℤ) (fs : List (Element Name)) → Follow (after_level at n l) (at + width_in variable n + 8) fs (broken r) → Speaks at (length_and_level n l ++ fs) r
  unfolding sum_of_widths
  ruled n l fs k =
      let p = at + width_in variable n in
      let w : p + 8 ≡ at + sum_of_widths (length_and_level n l) = omega arith in
      one_rule at (length_and_level n l) (λ own. content_of (natural l) (natural n)) (p + 8) fs r (length_rule at n (natural l)) (begins at (length_and_level n l) (length_rule at n (natural l)) refl (other_length at n l)) k
      (λ own i. grow at (length_and_level n l) fs r (moved (p + 8) (at + sum_of_widths (length_and_level n l)) w (any-content (natural l) (natural n) (p + 8) fs r i)))
    where
      moved : {es : List (Element Name)} {q : Rule Name} (x y : ℕ) → x ≡ y → Speaks x es q → Speaks y es q
      moved x y e h = rw (← e) h

  second : (n : ℤ) (es : List (Element Name))
      → ((es ≡ []) × (◌≡◌ {A = Next Name Item} (broken r) (awaits ext_block_level (fixed (unsigned 8))))) ⊎ Goes ext_block_level (fixed (unsigned 8)) (after_level at n) (at + width_in variable n) es (broken r)
      → Speaks at (element ext_block_length variable n ∷ es) r
  second n es (inl k) = let q = k.1 in let z : ◌≡◌ {A = ℕ} 0 1 = cc in clash z
  second n es (inr k) = rw k.all (ruled n k.value k.rest k.on)

  first : (es : List (Element Name)) → ((es ≡ []) × (◌≡◌ {A = Next Name Item} (broken r) (awaits ext_block_length variable))) ⊎ Goes ext_block_length variable (after_length at) at es (broken r) → Speaks at es r
  first es (inl k) = let q = k.1 in let z : ◌≡◌ {A = ℕ} 0 1 = cc in clash z
  first es (inr k) =
      let there = at + width_in variable k.value in
      let m = any_apart ext_block_level (fixed (unsigned 8)) (after_level at k.value) there k.rest (broken r) k.on in
      rw k.all (second k.value k.rest m)

whole_block_lem : (at : ℕ) → BreaksAt Speaks at (whole_block at)
unfolding whole_block
whole_block_lem at es r h = first at r es (any_apart ext_block_length variable (after_length at) at es (broken r) h)

-- 10
module _ {B : Type 0} (at : ℕ) (g : Unit {0} → Syntax Name B) (there : ℕ) (fs : List (Element Name)) (r : Rule Name) where
  order_broken : (i : Item) → Follow (order_rules at i >>= g) there fs (broken r) → (Follow (g tt) there fs (broken r) → Speaks at (item_elements i ++ fs) r) → Speaks at (item_elements i ++ fs) r
  unfolding ◌>>=◌
  order_broken (kept Nothing) h on = on h
  order_broken (kept (Level1 min max avg)) h on =
      one_rule at (block_elements (Level1 min max avg)) g there fs r (average_rule at min max avg) (begins at (block_elements (Level1 min max avg)) (average_rule at min max avg) refl (average at min max avg)) h (λ q. on)
  order_broken (kept (Level2 t s o p c w m)) h on = on h
  order_broken (kept (Level5 l r t b)) h on = on h
  order_broken (passed l n zs) h on = on h

pub one_block : (at : ℕ) → BreaksAt Speaks at block
unfolding block Follow ◌>>=◌
one_block at =
    breaks_behind Speaks at (whole_block at) (λ i. order_rules at i >>= λ o. done i) (whole_block_lem at)
    (λ es fs i r h k. rw (whole_block_only at at es i h).1 (order_broken at (λ o. done i) (at + sum_of_widths es) fs r i k (λ d. breaks_done (λ x y z. Speaks at (item_elements i ++ fs) r) i (at + sum_of_widths es) fs r d)))

-- 11, behind the blocks before the block, of which the known ones count
module _ (from : ℕ) (is : List Item) where
  abbrev start : ℕ
  start = from + sum_of_widths (items_elements is)

  behind_blocks : (b : Block) (q : Rule Name) → q.offset ≡ start → About (items_elements is) (block_elements b) q → Speaks from (items_elements is ++ block_elements b) q
  behind_blocks b q o h = record { earlier = items_elements is; theirs = block_elements b; all = refl; offset = o; about = h }

  module _ {B : Type 0} (g : Unit {0} → Syntax Name B) (there : ℕ) (fs : List (Element Name)) (r : Rule Name) where
    follow_broken : (i : Item) → item_fits i ≡ true → Follow (may_follow_rules start (kept_in is) i >>= g) there fs (broken r)
        → (Follow (g tt) there fs (broken r) → Speaks from ((items_elements is ++ item_elements i) ++ fs) r) → Speaks from ((items_elements is ++ item_elements i) ++ fs) r
    unfolding ◌>>=◌
    follow_broken (kept Nothing) f h on = on h
    follow_broken (kept (Level1 min max avg)) f h on =
        one_rule from (items_elements is ++ block_elements (Level1 min max avg)) g there fs r (surplus_rule start (kept_in is) 1)
        (behind_blocks (Level1 min max avg) (surplus_rule start (kept_in is) 1) refl (surplus start (Level1 min max avg) [] is refl f)) h (λ q. on)
    follow_broken (kept (Level2 t s o p c w m)) f h on =
        let q = target_rule start (kept_in is) t in
        one_rule from (items_elements is ++ block_elements (Level2 t s o p c w m)) (λ u. must q >>= g) there fs r (surplus_rule start (kept_in is) 2)
        (behind_blocks (Level2 t s o p c w m) (surplus_rule start (kept_in is) 2) refl (surplus start (Level2 t s o p c w m) [] is refl f)) h
        (λ room k. one_rule from (items_elements is ++ block_elements (Level2 t s o p c w m)) g there fs r q (behind_blocks (Level2 t s o p c w m) q refl (target start t s o p c w m [] is refl f room)) k (λ q. on))
    follow_broken (kept (Level5 l y t b)) f h on =
        one_rule from (items_elements is ++ block_elements (Level5 l y t b)) g there fs r (surplus_rule start (kept_in is) 5)
        (behind_blocks (Level5 l y t b) (surplus_rule start (kept_in is) 5) refl (surplus start (Level5 l y t b) [] is refl f)) h (λ q. on)
    follow_broken (passed l n zs) f h on = on h

-- ---- the blocks, and the whole table

-- one block more
items_elements_more : (is : List Item) (i : Item) → items_elements (is ++ (i ∷ [])) ≡ items_elements is ++ item_elements i
unfolding items_elements
items_elements_more [] i = append-nil (item_elements i)
items_elements_more (x ∷ is) i = ap (λ (l : List (Element Name)). item_elements x ++ l) (items_elements_more is i) ∙ sym (append_assoc (item_elements x) (items_elements is) (item_elements i))

pub kept_more : (is : List Item) (i : Item) → kept_in (is ++ (i ∷ [])) ≡ kept_in is ++ kept_in (i ∷ [])
unfolding kept_in
kept_more [] i = refl
kept_more (kept b ∷ is) i = ap (λ (l : List Block). b ∷ l) (kept_more is i)
kept_more (passed l n zs ∷ is) i = kept_more is i

-- a rule of n further blocks behind blocks that are complete
abbrev Further : ℕ → Type 0
Further n = (from : ℕ) (is : List Item) (es : List (Element Name)) (r : Rule Name) → Follow (blocks_after (kept_in is) n) (from + sum_of_widths (items_elements is)) es (broken r) → Speaks from (items_elements is ++ es) r

-- behind a block that is complete: its rules, then the further blocks
more_blocks : (n : ℕ) → Further n → (from : ℕ) (is : List Item) (es fs : List (Element Name)) (i : Item) (r : Rule Name) → item_fits i ≡ true → es ≡ item_elements i
    → Follow (behind (from + sum_of_widths (items_elements is)) (kept_in is) n i) (from + sum_of_widths (items_elements is) + sum_of_widths es) fs (broken r)
    → Speaks from (items_elements is ++ (es ++ fs)) r
more_blocks n ih from is es fs i r fits e k =
    let there = from + sum_of_widths (items_elements is) + sum_of_widths es in
    let rest = blocks_after (kept_in is ++ kept_in (i ∷ [])) n in
    let w : there ≡ from + sum_of_widths (items_elements (is ++ (i ∷ []))) = omega (arith, ap sum_of_widths e, ap sum_of_widths (items_elements_more is i), widths_append (items_elements is) (item_elements i)) in
    let last : Follow (rest >>= λ js. done (i ∷ js)) there fs (broken r) → Speaks from ((items_elements is ++ item_elements i) ++ fs) r = λ d. finish there w (apart_broken there d) in
    rw (e, ← append_assoc (items_elements is) (item_elements i) fs)
    (follow_broken from is (λ o. rest >>= λ js. done (i ∷ js)) there fs r i fits k last)
  where
    further : Syntax Name (List Item)
    further = blocks_after (kept_in is ++ kept_in (i ∷ [])) n

    apart_broken : (there : ℕ) → Follow (further >>= λ js. done (i ∷ js)) there fs (broken r) → Follow further there fs (broken r)
    apart_broken there d =
        breaks_behind (λ at gs q. Follow further there gs (broken q)) there further (λ js. done (i ∷ js))
        (λ gs q h. h) (λ es gs js q h m. breaks_done (λ x y z. Follow further there (es ++ gs) (broken q)) (i ∷ js) (there + sum_of_widths es) gs q m) fs r d

    finish : (there : ℕ) → there ≡ from + sum_of_widths (items_elements (is ++ (i ∷ []))) → Follow further there fs (broken r) → Speaks from ((items_elements is ++ item_elements i) ++ fs) r
    finish there w d =
        let f : Follow (blocks_after (kept_in (is ++ (i ∷ []))) n) there fs (broken r) = rw (kept_more is i) d in
        rw (items_elements_more is i) at (ih from (is ++ (i ∷ [])) fs r (rw w at f))

no_blocks : Further zero
unfolding blocks_after
no_blocks from is es r h = breaks_done (λ x y z. Speaks from (items_elements is ++ es) r) [] (from + sum_of_widths (items_elements is)) es r h

some_blocks : (n : ℕ) → Further n → Further (suc n)
unfolding blocks_after Follow ◌>>=◌
some_blocks n ih from is es r h =
    let at = from + sum_of_widths (items_elements is) in
    breaks_behind (λ x gs q. Speaks from (items_elements is ++ gs) q) at block (behind at (kept_in is) n)
    (λ gs q k. grow from (items_elements is) gs q (one_block at gs q k)) (λ fs gs i q k m. more_blocks n ih from is fs gs i q (block_only at fs i k).0 (block_only at fs i k).1 m) es r h

all_blocks : (n : ℕ) → Further n
all_blocks zero = no_blocks
all_blocks (suc n) = some_blocks n (all_blocks n)

the_blocks : (n : ℕ) → Breaks Speaks (blocks_after [] n)
unfolding kept_in items_elements sum_of_widths
the_blocks n at es r h = all_blocks n at [] es r (rw (add-zero at) h)

the_count : Breaks Speaks block_count
unfolding block_count
the_count =
    breaks_then Speaks grow (ranged num_ext_blocks variable too_many_blocks (pos 0) (pos most_announced)) (λ n. done (announced true (natural n)))
    (breaks_ranged Speaks num_ext_blocks variable too_many_blocks (pos 0) (pos most_announced) (λ at z. begins at _ _ refl (count at z))) (λ n. breaks_done Speaks (announced true (natural n)))

pub the_head : Breaks Speaks head
unfolding head
the_head =
    breaks_then Speaks grow (ranged app_identifier variable wrong_identifier (pos 1) (pos 1)) after_identifier
    (breaks_ranged Speaks app_identifier variable wrong_identifier (pos 1) (pos 1) (λ at z. begins at _ _ refl (identifier at z)))
    (λ a. breaks_then Speaks grow (ranged app_version variable wrong_version (pos 0) (pos 0)) after_version
    (breaks_ranged Speaks app_version variable wrong_version (pos 0) (pos 0) (λ at z. begins at _ _ refl (version at z)))
    (λ v. breaks_then Speaks grow (any metadata_refresh_flag (fixed (unsigned 1))) after_flag (breaks_any Speaks metadata_refresh_flag (fixed (unsigned 1)))
    (λ f. breaks_if Speaks (eqb (natural f) 1) block_count (done (announced false 0)) the_count (breaks_done Speaks (announced false 0)))))

pub the_alignment : Breaks Speaks (alignment dm_alignment_zero_bit)
the_alignment = breaks_alignment Speaks grow dm_alignment_zero_bit (λ at z. begins at _ _ refl (alignment_bit at z))

-- a rule of the tables that is broken is about elements that were read
pub data_speaks : Breaks Speaks ST2094-10_data
unfolding ST2094-10_data
data_speaks =
    breaks_then Speaks grow head after_head the_head
    (λ h. breaks_then Speaks grow (first_alignment h.count) (λ y. after_first h) (breaks_if Speaks (eqb h.count 0) (done tt) (alignment dm_alignment_zero_bit) (breaks_done Speaks tt) the_alignment)
    (λ y. breaks_then Speaks grow (blocks_after [] h.count) (lastly h) (the_blocks h.count)
    (λ is. breaks_then Speaks grow (alignment dm_alignment_zero_bit) (λ z. done (holding h is)) the_alignment (λ z. breaks_done Speaks (holding h is)))))

-- THE THEOREM. Every refusal of bare data gives a true reason, and where a reason is true it is given.
pub the_reason_is_true : (s : List Bool) (f : Fault Name) → bare_data s ≡ no f → Reason s f
the_reason_is_true = reason_is_true «end» ST2094-10_data Speaks data_speaks

pub a_true_reason_is_given : (s : List Bool) (f : Fault Name) → Reason s f → bare_data s ≡ no f
a_true_reason_is_given = true_reason_is_given «end» ST2094-10_data Speaks

-- the named element is there, with that value
pub the_named_element_is_there : (earlier theirs : List (Element Name)) (r : Rule Name) → About earlier theirs r → Named r theirs
unfolding field_elements
the_named_element_is_there earlier theirs r (identifier at z) = inl (refl, refl)
the_named_element_is_there earlier theirs r (version at z) = inl (refl, refl)
the_named_element_is_there earlier theirs r (count at z) = inl (refl, refl)
the_named_element_is_there earlier theirs r (alignment_bit at z) = inl (refl, refl)
the_named_element_is_there earlier theirs r (block_alignment_bit at z) = inl (refl, refl)
the_named_element_is_there earlier theirs r (other_length at n l) = inl (refl, refl)
the_named_element_is_there earlier theirs r (average at min max avg) = inr (inr (inr (inr (inl (refl, refl)))))
the_named_element_is_there earlier theirs r (surplus at b opening is e f) = inr (inl (refl, refl))
the_named_element_is_there earlier theirs r (target at t s o p c g m opening is e f h) = inr (inr (inl (refl, refl)))

-- ---- the numbers

-- a rule has one of the rules' numbers
pub listed : (earlier theirs : List (Element Name)) (r : Rule Name) → About earlier theirs r → among r.number rule_numbers ≡ true
unfolding among
listed earlier theirs r (identifier at z) = refl
listed earlier theirs r (version at z) = refl
listed earlier theirs r (count at z) = refl
listed earlier theirs r (alignment_bit at z) = refl
listed earlier theirs r (block_alignment_bit at z) = refl
listed earlier theirs r (other_length at n l) = refl
listed earlier theirs r (average at min max avg) = refl
listed earlier theirs r (surplus at b opening is e f) = of_level b f
  where
    of_level : (b : Block) → valid_block b ≡ true → among (level (level_of b)).surplus rule_numbers ≡ true
    of_level Nothing f = let z : ◌≡◌ {A = ℕ} 0 1 = cc in clash z
    of_level (Level1 min max avg) f = refl
    of_level (Level2 t s o p c g m) f = refl
    of_level (Level5 l r t b) f = refl
listed earlier theirs r (target at t s o p c g m opening is e f h) = refl

one_more : (a b c d : Bool) → d ≡ true → a || (b || (c || d)) ≡ true
one_more true b c d h = refl
one_more false true c d h = refl
one_more false false true d h = refl
one_more false false false d h = h

-- no bare data gets another number
pub data_gets_a_listed_number : (s : List Bool) (f : Fault Name) → bare_data s ≡ no f → among (number_in f) data_numbers ≡ true
unfolding among
data_gets_a_listed_number s f e = go f (the_reason_is_true s f e)
  where
    go : (f : Fault Name) → Reason s f → among (number_in f) data_numbers ≡ true
    go (cut_off offset name) m = refl
    go (overlong offset name) m = refl
    go (breaks r) m = by m.4
      where
        by : (Follow ST2094-10_data 0 m.0 (broken r) × Speaks 0 m.0 r) ⊎ ((a : Data) × Follow ST2094-10_data 0 m.0 (complete a) × (r ≡ left_over «end» (sum_of_widths m.0) m.1))
            → among r.number data_numbers ≡ true
        by (inl k) = one_more (eqb r.number past_end) (eqb r.number too_many_zeros) (eqb r.number bytes_remain) (among r.number rule_numbers) (listed k.1.earlier k.1.theirs r k.1.about)
        by (inr k) = rw k.2 refl
