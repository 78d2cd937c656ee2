-- Which inputs get 1 and 12, and that every other refusal stands whatever bytes follow.
use Prim.Native.Nat.{ℕ, zero, suc, ◌+◌, ◌*◌, ◌/◌, ◌%◌, ◌<◌, ◌≤◌}
use mathlib.Core.Path.{◌≡◌, refl, ap, sym, ◌∙◌}
use mathlib.Core.List.{List, [], ◌∷◌, ◌++◌, map}
use mathlib.Core.Bool.{Bool, true, false, ◌&&◌}
use mathlib.Core.Logic.{◌⊎◌, inl, inr}
use native.Mathlib.Omega.{arith}
use borrow.Author.Tests.{leb-true}
use lib.Dec.{eqb, leb}
use lib.ListN.{length, take, drop, length-drop, take-append-drop}
use lib.IntN.{ℤ, pos, negsuc}
use Rattle.refusals.specs.Refusals.{past_end, wrong_identifier, wrong_version, too_many_blocks, bytes_remain}
use Rattle.tree.specs.Bits.{bits_of, pack, Bytes}
use Rattle.tree.specs.Reading.{Rule, meets, Fault, cut_off, overlong, breaks, number_in, ok, no, to_boundary}
use Rattle.tree.specs.Coding.{unsigned, total_width, variable, fixed, holds_in, width_in, natural}
use Rattle.tree.specs.Codes.{halvings}
use Rattle.tree.specs.Syntax.{done, ◌>>=◌, coding_of, row, zero_bits, alignment, left_over}
use Rattle.tree.specs.Meaning.{Element, sum_of_widths, all_bits, complete, awaits, broken, Follow}
use Rattle.tree.specs.Stands.{ToldAlike}
use Rattle.tree.proofs.Truth.{clash}
use Rattle.tree.proofs.Bits.{bits_append, bits_pack, length_bits, length-packed}
use Rattle.tree.proofs.Elements.{zeros_few}
use Rattle.tree.proofs.Meaning.{length-all}
use Rattle.tree.proofs.Spells.{awaits_not_broken, row_only, same_number}
use Rattle.tree.proofs.Accepted.{widths_zeros, behind_bytes}
use Rattle.tree.proofs.Widths.{widths_fields, EndsBy, variable_width, cut_off_before, ends_done, ends_if, ends_behind, ends_must, ends_any, ends_ranged, ends_row, ends_zeros, ends_alignment}
use Rattle.tree.proofs.Stands as generic
use Rattle.tree.proofs.Stands.{other_than_1, left_over_lem}
use Rattle.record.specs.declared.Block.{Block}
use Rattle.record.specs.declared.Block.TheVariants.{Nothing, Level1, Level2, Level5}
use Rattle.record.specs.Name.{Name, app_identifier, app_version, metadata_refresh_flag, num_ext_blocks, dm_alignment_zero_bit, ext_block_length, ext_block_level, ext_dm_alignment_zero_bit, «end»}
use Rattle.record.specs.Level.{level, known, padding, fields_of}
use Rattle.record.proofs.Laws.{and_right}
use Rattle.valid.specs.Valid.{among}
use Rattle.syntax.specs.Data.{most_announced, most_reserved, Head, announced, block_count, head, Item, kept, passed, kept_in, Data, block_of, length_rule, average_rule, order_rules, content, reserved_bits, reserved_content, whole_block, block, blocks_after, first_alignment, ST2094-10_data, bare_data}
use Rattle.syntax.specs.Element.{item_elements, items_elements, item_fits, data_elements, data_payload, data_width, WellFormedData}
use Rattle.syntax.specs.Reason.{Speaks, Reason, rule_numbers}
use Rattle.syntax.specs.Largest.{longest_data}
use Rattle.syntax.proofs.Field.{by_level}
use Rattle.syntax.proofs.Blocks.{after_fields, content_of, after_level, after_length, block_only}
use Rattle.syntax.proofs.Items.{behind, blocks_only, rules_met}
use Rattle.syntax.proofs.Exact.{after_flag, after_version, after_identifier, holding, lastly, after_first, after_head, first_gap, head_only, first_only, data_spells, whole_data, a_payload_is_accepted, data_payload_bytes}
use Rattle.syntax.proofs.Largest.{block_most, most_bits, reserved-width, widths_item, widths_items, widths_head, longest_is_well_formed, longest-length}
use Rattle.syntax.proofs.Reasons.{listed, the_reason_is_true}

-- ---- a refusal stands

-- THE FIRST FAILURE DECIDES: a refusal other than 1 stands whatever bytes follow, with its number, offset and element
pub a_refusal_stands : (s t : List ℕ) (f : Fault Name) → bare_data (bits_of s) ≡ no f → (number_in f ≡ past_end → ⊥) → (g : Fault Name) × (bare_data (bits_of (s ++ t)) ≡ no g) × ToldAlike f g
a_refusal_stands s t f e h = rw (bits_append s t) (generic.a_refusal_stands «end» ST2094-10_data (bits_of s) (bits_of t) f (other_than_1 f h) e)

-- every proper beginning of a payload gets 1
pub every_proper_beginning_gets_1 : (d : Data) → WellFormedData d → (s t : List ℕ) → data_payload d ≡ s ++ t → 0 < length t → (offset : ℕ) × (name : Name) × (bare_data (bits_of s) ≡ no (cut_off offset name))
every_proper_beginning_gets_1 d w s t e h =
    let a : bare_data (bits_of s ++ bits_of t) ≡ ok d (data_width d) = ap bare_data (sym (bits_append s t) ∙ ap bits_of (sym e)) ∙ a_payload_is_accepted d w in
    generic.a_beginning_is_cut_off «end» ST2094-10_data (bits_of s) (bits_of t) d (data_width d) a (omega (arith, length_bits t))

-- ---- 12

-- a payload with anything behind it gets 12, at the end of its bits
pub a_payload_with_anything_behind_gets_12 : (d : Data) → WellFormedData d → (t : List ℕ) → 0 < length t → bare_data (bits_of (data_payload d ++ t)) ≡ no (breaks (left_over «end» (data_width d) (bits_of t)))
a_payload_with_anything_behind_gets_12 d w t h =
    let l : length (all_bits (data_elements d)) % 8 ≡ 0 = rw (length-all (data_elements d)) (whole_data d) in
    ap bare_data (bits_append (data_payload d) t ∙ ap (λ (bits : List Bool). bits ++ bits_of t) (bits_pack (all_bits (data_elements d)) l))
    ∙ generic.anything_behind «end» ST2094-10_data (data_elements d) d (bits_of t) (data_spells.takes d w) (omega (arith, length_bits t))

-- a rule has one of these numbers
rule_number : (at : ℕ) (es : List (Element Name)) (r : Rule Name) (n : ℕ) → Speaks at es r → r.number ≡ n → among n rule_numbers ≡ true
rule_number at es r n k e = rw e at (listed k.earlier k.theirs r k.about)

-- what a broken rule rests on: elements that break one of the table, or bytes that are left over
abbrev pub BrokenBy : List (Element Name) → List Bool → Rule Name → Type 0
BrokenBy es t q = (Follow ST2094-10_data 0 es (broken q) × Speaks 0 es q) ⊎ ((a : Data) × Follow ST2094-10_data 0 es (complete a) × (q ≡ left_over «end» (sum_of_widths es) t))

-- so a number that none of these has, and that is not 12, is that of no broken rule
pub no_rule_has : (n : ℕ) → among n rule_numbers ≡ false → (n ≡ bytes_remain → ⊥) → (es : List (Element Name)) (t : List Bool) (q : Rule Name) → BrokenBy es t q → q.number ≡ n → ⊥
no_rule_has n none other es t q (inl k) e = let x = rule_number 0 es q n k.1 e in let z : ◌≡◌ {A = ℕ} 0 1 = cc in clash z
no_rule_has n none other es t q (inr k) e = other (sym e ∙ ap (λ (r : Rule Name). r.number) k.2)

-- and only such an input does
pub only_such_an_input_gets_12 : (s : List ℕ) → Bytes s → (f : Fault Name) → bare_data (bits_of s) ≡ no f → number_in f ≡ bytes_remain
    → (d : Data) × (t : List ℕ) × WellFormedData d × (s ≡ data_payload d ++ t) × (0 < length t)
unfolding among
only_such_an_input_gets_12 s h f e n = go f (the_reason_is_true (bits_of s) f e) n
  where
    found : (d : Data) (es : List (Element Name)) (t : List Bool) → Follow ST2094-10_data 0 es (complete d) → bits_of s ≡ all_bits es ++ t → 8 ≤ length t
        → (d : Data) × (t : List ℕ) × WellFormedData d × (s ≡ data_payload d ++ t) × (0 < length t)
    found d es t k b l =
        let w = data_spells.only es d k in
        let even : length (all_bits (data_elements d)) % 8 ≡ 0 = rw (length-all (data_elements d)) (whole_data d) in
        let c : bits_of s ≡ bits_of (data_payload d) ++ t = b ∙ rw (w.1, bits_pack (all_bits (data_elements d)) even) refl in
        let m = behind_bytes s (data_payload d) t h (data_payload_bytes d) c in
        (d, pack t, w.0, m.0, omega (arith, length-packed (length t / 8) t))

    go : (f : Fault Name) → Reason (bits_of s) f → number_in f ≡ bytes_remain → (d : Data) × (t : List ℕ) × WellFormedData d × (s ≡ data_payload d ++ t) × (0 < length t)
    go (cut_off offset name) m n = absurd (omega arith)
    go (overlong offset name) m n = absurd (omega arith)
    go (breaks q) m n = by m.4
      where
        by : BrokenBy m.0 m.1 q → (d : Data) × (t : List ℕ) × WellFormedData d × (s ≡ data_payload d ++ t) × (0 < length t)
        by (inl k) = let x = rule_number 0 m.0 q bytes_remain k.1 n in let z : ◌≡◌ {A = ℕ} 0 1 = cc in clash z
        by (inr k) = found k.0 m.0 m.1 k.1 m.2 (left_over_lem «end» (sum_of_widths m.0) m.1 (rw k.2 at m.3))

-- ---- how far the data is read before it is refused

-- the fields of a level and its zero bits fill 8 × length bits
content-width : (l : ℕ) → known l ≡ true → total_width (map coding_of (fields_of l)) + padding l ≡ 8 * (level l).bytes
unfolding total_width
content-width = by_level (λ l. total_width (map coding_of (fields_of l)) + padding l ≡ 8 * (level l).bytes) refl refl refl

-- a known level's content is no longer than that of a reserved block may be, and the lengths of both have no more than 21 bits
known-width : (l : ℕ) → known l ≡ true → width_in variable (pos (level l).bytes) + 8 + 8 * (level l).bytes ≤ block_most
unfolding halvings
known-width = by_level (λ l. width_in variable (pos (level l).bytes) + 8 + 8 * (level l).bytes ≤ block_most) (omega arith) (omega arith) (omega arith)

module _ (k : ℕ) where
  content_ends : (l at : ℕ) → known l ≡ true → at + 8 * (level l).bytes ≤ k → EndsBy k at (content l)
  unfolding content
  content_ends l at h b =
      let w = content-width l h in
      ends_behind k (row (fields_of l)) (after_fields l) at (ends_row k (fields_of l) at (omega arith))
      (λ es zs f. ends_behind k (zero_bits ext_dm_alignment_zero_bit (padding l)) (λ z. done (kept (block_of l zs))) (at + sum_of_widths es)
      (ends_zeros k ext_dm_alignment_zero_bit (padding l) (at + sum_of_widths es) (omega (arith, ap sum_of_widths (row_only (fields_of l) at es zs f).1, widths_fields (fields_of l) zs (row_only (fields_of l) at es zs f).0)))
      (λ fs u g. ends_done k (kept (block_of l zs)) (at + sum_of_widths es + sum_of_widths fs)))

  reserved_ends : (l n at : ℕ) → at + 8 * n ≤ k → EndsBy k at (reserved_content l n)
  unfolding reserved_content
  reserved_ends l n at b =
      ends_behind k (row (reserved_bits n)) (λ zs. done (passed l n zs)) at (ends_row k (reserved_bits n) at (omega (arith, reserved-width n))) (λ es zs f. ends_done k (passed l n zs) (at + sum_of_widths es))

  -- behind a length and a level
  ruled_ends : (start at : ℕ) (n l : ℤ) → at + block_most ≤ k → holds_in variable n ≡ true → holds_in (fixed (unsigned 8)) l ≡ true → EndsBy k (at + width_in variable n + 8) (after_level start n l)
  ruled_ends start at (pos n) (pos l) b x y =
      let p = at + width_in variable (pos n) + 8 in
      ends_must k (length_rule start (pos n) l) (λ own. content_of l n) p (λ own. go (known l) refl own)
    where
      same : (n m : ℕ) → pos n ≡ pos m → n ≡ m
      same n m e = cc

      go : (t : Bool) → known l ≡ t → meets (length_rule start (pos n) l) ≡ true → EndsBy k (at + width_in variable (pos n) + 8) (content_of l n)
      go true q own =
          let e : n ≡ (level l).bytes = same n (level l).bytes (same_number (level l).bytes (pos n) (rw q at own)) in
          rw q (content_ends l (at + width_in variable (pos n) + 8) q (rw e (omega (arith, known-width l q))))
      go false q own =
          let m : leb 0 n && leb n most_reserved ≡ true = rw q at own in
          let few = leb-true n most_reserved (and_right (leb 0 n) (leb n most_reserved) m) in
          rw q (reserved_ends l n (at + width_in variable (pos n) + 8) (omega (arith, zeros_few 10 n (omega arith))))
  ruled_ends start at (pos n) (negsuc l) b x y = let z : ◌≡◌ {A = ℕ} 0 1 = cc in clash z
  ruled_ends start at (negsuc n) l b x y = let z : ◌≡◌ {A = ℕ} 0 1 = cc in clash z

  whole_block_ends : (start at : ℕ) → at + block_most ≤ k → EndsBy k at (whole_block start)
  unfolding whole_block
  whole_block_ends start at b =
      ends_any k ext_block_length variable (after_length start) at
      (λ n y. (
        omega (arith, variable_width n y),
        ends_any k ext_block_level (fixed (unsigned 8)) (after_level start n) (at + width_in variable n)
            (λ l x. (omega (arith, variable_width n y), ruled_ends start at n l b y x)),
      ))

  order_ends : (start at : ℕ) (i : Item) → EndsBy k at (order_rules start i >>= λ o. done i)
  unfolding ◌>>=◌
  order_ends start at (kept Nothing) = ends_done k (kept Nothing) at
  order_ends start at (kept (Level1 min max avg)) = ends_must k (average_rule start min max avg) (λ o. done (kept (Level1 min max avg))) at (λ met. ends_done k (kept (Level1 min max avg)) at)
  order_ends start at (kept (Level2 t s o p c g m)) = ends_done k (kept (Level2 t s o p c g m)) at
  order_ends start at (kept (Level5 l r t b)) = ends_done k (kept (Level5 l r t b)) at
  order_ends start at (passed l n zs) = ends_done k (passed l n zs) at

  block_ends : (at : ℕ) → at + block_most ≤ k → EndsBy k at block
  unfolding block Follow ◌>>=◌
  block_ends at b =
      ends_behind k (whole_block at) (λ i. order_rules at i >>= λ o. done i) at (whole_block_ends at at b) (λ es i f. order_ends at (at + sum_of_widths es) i)

  -- n further blocks: no block has more than 8,213 bits
  abbrev BlocksEnd : ℕ → Type 0
  BlocksEnd n = (before : List Block) (at : ℕ) → at + block_most * n ≤ k → EndsBy k at (blocks_after before n)

  module _ (n : ℕ) (ih : BlocksEnd n) (before : List Block) (at : ℕ) (room : at + block_most * suc n ≤ k) where
    next_end : (es : List (Element Name)) (i : Item) → item_fits i ≡ true → es ≡ item_elements i → EndsBy k (at + sum_of_widths es) (behind at before n i)
    next_end es i f e gs m d g z y =
        let there = at + sum_of_widths es in
        let after = before ++ kept_in (i ∷ []) in
        let r = rules_met at before (λ o. blocks_after after n >>= λ is. done (i ∷ is)) there gs i (awaits m d) awaits_not_broken f g in
        let u : there + block_most * n ≤ k = omega (arith, ap sum_of_widths e, widths_item i f) in
        ends_behind k (blocks_after after n) (λ is. done (i ∷ is)) there (ih after there u) (λ es is g. ends_done k (i ∷ is) (there + sum_of_widths es)) gs m d r.1 z y

  no_blocks_end : BlocksEnd zero
  unfolding blocks_after
  no_blocks_end before at b = ends_done k [] at

  some_blocks_end : (n : ℕ) → BlocksEnd n → BlocksEnd (suc n)
  unfolding blocks_after Follow ◌>>=◌
  some_blocks_end n ih before at b =
      ends_behind k block (behind at before n) at (block_ends at (omega arith))
      (λ es i f. let w = block_only at es i f in next_end n ih before at b es i w.0 w.1)

  blocks_end : (n : ℕ) → BlocksEnd n
  blocks_end zero = no_blocks_end
  blocks_end (suc n) = some_blocks_end n (blocks_end n)

-- what stands before the blocks
head_ends : EndsBy most_bits 0 head
unfolding head block_count halvings
head_ends =
    ends_ranged most_bits app_identifier variable wrong_identifier (pos 1) (pos 1) after_identifier 0
    (λ a y. (
      omega (arith, variable_width a y),
      λ one. ends_ranged most_bits app_version variable wrong_version (pos 0) (pos 0) after_version (0 + width_in variable a)
          (λ v x. (
            omega (arith, variable_width a y, variable_width v x),
            λ none. ends_any most_bits metadata_refresh_flag (fixed (unsigned 1)) after_flag (0 + width_in variable a + width_in variable v)
                (λ f w. (
                  omega (arith, variable_width a y, variable_width v x),
                  ends_if most_bits (eqb (natural f) 1) block_count (done (announced false 0)) (0 + width_in variable a + width_in variable v + 1)
                      (ends_ranged most_bits num_ext_blocks variable too_many_blocks (pos 0) (pos most_announced) (λ n. done (announced true (natural n))) (0 + width_in variable a + width_in variable v + 1)
                      (λ n u. (omega (arith, variable_width a y, variable_width v x, variable_width n u), λ few. ends_done most_bits (announced true (natural n)) (0 + width_in variable a + width_in variable v + 1 + width_in variable n))))
                      (ends_done most_bits (announced false 0) (0 + width_in variable a + width_in variable v + 1)),
                )),
          )),
    ))

-- the zero bits before the blocks end at bit 24 or before it
first_ends : (none : Bool) (at : ℕ) → at ≤ 20 → at + sum_of_widths (first_gap none at) ≤ 24
unfolding sum_of_widths
first_ends true at h = omega arith
first_ends false at h = omega (arith, widths_zeros (to_boundary at) dm_alignment_zero_bit)

last_ends : (h : Head) (at : ℕ) (is : List Item) → at ≤ 24 + block_most * most_announced → EndsBy most_bits at (lastly h is)
last_ends h at is b =
    ends_behind most_bits (alignment dm_alignment_zero_bit) (λ z. done (holding h is)) at
    (ends_alignment most_bits dm_alignment_zero_bit at (omega arith))
    (λ gs u g. ends_done most_bits (holding h is) (at + sum_of_widths gs))

blocks_and_last_end : (h : Head) (at : ℕ) → h.count ≤ most_announced → at ≤ 24 → EndsBy most_bits at (after_first h)
blocks_and_last_end h at few a =
    ends_behind most_bits (blocks_after [] h.count) (lastly h) at (blocks_end most_bits h.count [] at (omega arith))
    (λ es is f. let w = blocks_only h.count [] at es is f in last_ends h (at + sum_of_widths es) is (short es is h.count few w.0 w.2 (widths_items [] is w.1)))
  where
    short : (es : List (Element Name)) (is : List Item) (n : ℕ) → n ≤ most_announced → length is ≡ n → es ≡ items_elements is → sum_of_widths (items_elements is) ≤ block_most * length is → at + sum_of_widths es ≤ 24 + block_most * most_announced
    short es is n f l e w = omega (arith, ap sum_of_widths e)

after-head_ends : (at : ℕ) (h : Head) → h.count ≤ most_announced → at ≤ 20 → EndsBy most_bits at (after_head h)
after-head_ends at h few a =
    ends_behind most_bits (first_alignment h.count) (λ y. after_first h) at
    (ends_if most_bits (eqb h.count 0) (done tt) (alignment dm_alignment_zero_bit) at (ends_done most_bits tt at) (ends_alignment most_bits dm_alignment_zero_bit at (omega arith)))
    (λ gs u f. blocks_and_last_end h (at + sum_of_widths gs) few (omega (arith, ap sum_of_widths (first_only (eqb h.count 0) at gs f), first_ends (eqb h.count 0) at a)))

-- the whole table
pub data_ends : EndsBy most_bits 0 ST2094-10_data
unfolding ST2094-10_data
data_ends =
    ends_behind most_bits head after_head 0 head_ends
    (λ es h f. let w = head_only 0 es h f in let few = w.0.few in after-head_ends (0 + sum_of_widths es) h few (omega (arith, ap sum_of_widths w.1, widths_head h.refresh h.count 7 (omega arith))))

-- so many bits are enough: the input is not cut off
pub enough_bits : (s : List Bool) → most_bits ≤ length s → (f : Fault Name) → bare_data s ≡ no f → number_in f ≡ past_end → ⊥
unfolding among
enough_bits s l f e n = go f (the_reason_is_true s f e) n
  where
    go : (f : Fault Name) → Reason s f → number_in f ≡ past_end → ⊥
    go (cut_off offset name) m n =
        let b = cut_off_before ST2094-10_data most_bits data_ends s offset name (m.0, m.1, m.2, m.3, m.4, omega (arith, m.5), m.6) in
        absurd (omega (arith, b))
    go (overlong offset name) m n = absurd (omega arith)
    go (breaks q) m n = no_rule_has past_end refl (λ e. omega arith) m.0 m.1 q m.4 n

-- bare data of 260,766 bytes or more never gets 1
pub bare_data_of_260766_bytes_never_gets_1 : (s : List ℕ) → 260766 ≤ length s → (f : Fault Name) → bare_data (bits_of s) ≡ no f → number_in f ≡ past_end → ⊥
bare_data_of_260766_bytes_never_gets_1 s l f e n = enough_bits (bits_of s) (omega (arith, length_bits s)) f e n

-- a payload without its last byte gets 1
one_byte_short : (d : Data) (n : ℕ) → WellFormedData d → length (data_payload d) ≡ suc n → (offset : ℕ) × (name : Name) × (bare_data (bits_of (take n (data_payload d))) ≡ no (cut_off offset name))
one_byte_short d n w l =
    every_proper_beginning_gets_1 d w (take n (data_payload d)) (drop n (data_payload d)) (sym (take-append-drop n (data_payload d))) (omega (arith, length-drop n (data_payload d)))

-- and no shorter length will do: the longest payload has so many, and its first 260,765 bytes get 1
pub the_longest_that_gets_1 : (offset : ℕ) × (name : Name) × (bare_data (bits_of (take 260765 (data_payload longest_data))) ≡ no (cut_off offset name))
the_longest_that_gets_1 = one_byte_short longest_data 260765 longest_is_well_formed longest-length
