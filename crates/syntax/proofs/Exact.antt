-- Exactness: the table is followed by exactly the elements of well-formed data, and an input is accepted exactly if it is the payload of such.
use Prim.Native.Nat.{ℕ, zero, suc, ◌+◌, ◌/◌, ◌%◌, ◌≤◌}
use mathlib.Core.Path.{◌≡◌, refl, ap, sym, ◌∙◌}
use mathlib.Core.List.{List, [], ◌∷◌, ◌++◌, append-nil, append_assoc}
use mathlib.Core.Bool.{Bool, true, false, cond}
use native.Mathlib.Omega.{arith}
use native.Mathlib.Nat.{zero-add}
use borrow.Author.Tests.{leb-true, le-leb, ltb-true}
use lib.Dec.{eqb, leb}
use lib.ListN.{length, replicate}
use lib.IntN.{ℤ, pos, negsuc}
use Rattle.refusals.specs.Refusals.{wrong_identifier, wrong_version, too_many_blocks}
use Rattle.tree.specs.Bits.{bit, bits_of, Bytes}
use Rattle.tree.specs.Reading.{between, allows, ok, to_boundary}
use Rattle.tree.specs.Coding.{unsigned, holds, variable, fixed, width_in, natural}
use Rattle.tree.specs.Syntax.{Syntax, done, any, ranged, alignment, ◌>>=◌}
use Rattle.tree.specs.Meaning.{Element, element, zero_bit, sum_of_widths, all_bits, complete, Follow, Spells}
use Rattle.tree.proofs.Elements.{ue-holds}
use Rattle.tree.proofs.Truth.{clash}
use Rattle.tree.proofs.Bits.{packed_bytes}
use Rattle.tree.proofs.Meaning.{widths_append}
use Rattle.tree.proofs.Tables.{together}
use Rattle.tree.proofs.Spells.{joined, alone, apart_complete, Goes, any_only, any_together, ranged_only, ranged_together, done_only, zeros_take, zeros_only, same_number}
use Rattle.tree.proofs.Accepted as generic
use Rattle.tree.proofs.Accepted.{padded_whole}
use Rattle.record.specs.declared.Record.{Record}
use Rattle.record.specs.Name.{Name, app_identifier, app_version, metadata_refresh_flag, num_ext_blocks, dm_alignment_zero_bit, «end»}
use Rattle.record.specs.Blocks.{blocks}
use Rattle.record.proofs.Laws.{and_right}
use Rattle.syntax.specs.Data.{most_announced, Head, announced, block_count, head, Item, Data, blocks_after, first_alignment, ST2094-10_data, bare_data}
use Rattle.syntax.specs.Element.{variable_element, fixed_element, to_byte, head_elements, open_elements, blocks_elements, items_elements, all_fit, elements, payload, data_elements, data_payload, data_width, WellFormedData}
use Rattle.syntax.proofs.Items.{blocks-take, blocks_only}

-- ---- what stands before the blocks

-- never more than 254, and with the flag 0 none
pub record Announced (h : Head) : Type 0 where
  pub few : h.count ≤ most_announced
  pub flag : h.refresh ≡ false → h.count ≡ 0

abbrev pub after_flag : ℤ → Syntax Name Head
after_flag f = cond (eqb (natural f) 1) block_count (done (announced false 0))

abbrev pub after_version : ℤ → Syntax Name Head
after_version v = any metadata_refresh_flag (fixed (unsigned 1)) >>= after_flag

abbrev pub after_identifier : ℤ → Syntax Name Head
after_identifier a = ranged app_version variable wrong_version (pos 0) (pos 0) >>= after_version

-- the position behind app_version
abbrev version : ℕ → ℕ
version at = at + width_in variable (pos 1) + width_in variable (pos 0)

pub head_takes : (flag : Bool) (n : ℕ) → Announced (announced flag n) → (at : ℕ) → Follow head at (head_elements flag n) (complete (announced flag n))
unfolding head block_count Follow
head_takes true n a at =
    let few = a.few in
    ranged_together app_identifier variable wrong_identifier (pos 1) (pos 1) after_identifier at (pos 1) _ (complete (announced true n)) refl refl
    (ranged_together app_version variable wrong_version (pos 0) (pos 0) after_version (at + width_in variable (pos 1)) (pos 0) _ (complete (announced true n)) refl refl
    (any_together metadata_refresh_flag (fixed (unsigned 1)) after_flag (version at) (pos 1) _ (complete (announced true n)) refl
    (ranged_together num_ext_blocks variable too_many_blocks (pos 0) (pos most_announced) (λ m. done (announced true (natural m))) (version at + 1) (pos n) [] (complete (announced true n))
    (ue-holds n (omega arith)) (rw (le-leb 0 n (omega arith), le-leb n most_announced few) refl) (refl, refl))))
head_takes false n a at =
    let z : n ≡ 0 = a.flag refl in
    rw z
    (ranged_together app_identifier variable wrong_identifier (pos 1) (pos 1) after_identifier at (pos 1) _ (complete (announced false 0)) refl refl
    (ranged_together app_version variable wrong_version (pos 0) (pos 0) after_version (at + width_in variable (pos 1)) (pos 0) _ (complete (announced false 0)) refl refl
    (any_together metadata_refresh_flag (fixed (unsigned 1)) after_flag (version at) (pos 0) _ (complete (announced false 0)) refl
    (refl, refl))))

-- the flag, and the number of blocks
flag_only : (f : ℤ) (at : ℕ) (es : List (Element Name)) (h : Head) → holds (unsigned 1) f ≡ true → Follow (after_flag f) at es (complete h)
    → Announced h × (element metadata_refresh_flag (fixed (unsigned 1)) f ∷ es ≡ fixed_element 1 metadata_refresh_flag (bit h.refresh) ∷ cond h.refresh (variable_element num_ext_blocks h.count ∷ []) [])
unfolding block_count
flag_only (pos zero) at es h b k =
    let d = done_only (announced false 0) h at es k in
    rw d.1 (record { few = omega arith; flag = λ q. refl }, rw d.0 refl)
flag_only (pos (suc zero)) at es h b k =
    let m = ranged_only num_ext_blocks variable too_many_blocks (pos 0) (pos most_announced) (λ n. done (announced true (natural n))) at es h k in
    let d = done_only (announced true (natural m.0)) h (at + width_in variable m.0) m.1 m.5 in
    rw d.1 (counted m.0 m.4 (m.2 ∙ ap (λ (l : List (Element Name)). element num_ext_blocks variable m.0 ∷ l) d.0))
  where
    counted : (z : ℤ) → allows (between (pos 0) (pos most_announced)) z ≡ true → es ≡ element num_ext_blocks variable z ∷ []
        → Announced (announced true (natural z)) × (fixed_element 1 metadata_refresh_flag 1 ∷ es ≡ fixed_element 1 metadata_refresh_flag 1 ∷ variable_element num_ext_blocks (natural z) ∷ [])
    counted (pos n) a e =
        let l = leb-true n most_announced (and_right (leb 0 n) (leb n most_announced) a) in
        (record { few = l; flag = λ q. let z : ◌≡◌ {A = ℕ} 0 1 = cc in clash z }, ap (λ (l : List (Element Name)). fixed_element 1 metadata_refresh_flag 1 ∷ l) e)
    counted (negsuc n) a e = let z : ◌≡◌ {A = ℕ} 0 1 = cc in clash z
flag_only (pos (suc (suc f))) at es h b k = let l = ltb-true (suc (suc f)) 2 b in absurd (omega arith)
flag_only (negsuc f) at es h b k = let z : ◌≡◌ {A = ℕ} 0 1 = cc in clash z

-- what stands behind app_version, and before it
version_only : (at : ℕ) (es : List (Element Name)) (h : Head) → Goes metadata_refresh_flag (fixed (unsigned 1)) after_flag at es (complete h)
    → Announced h × (es ≡ fixed_element 1 metadata_refresh_flag (bit h.refresh) ∷ cond h.refresh (variable_element num_ext_blocks h.count ∷ []) [])
version_only at es h f = let c = flag_only f.value (at + 1) f.rest h f.held f.on in (c.0, f.all ∙ c.1)

pub head_only : (at : ℕ) (es : List (Element Name)) (h : Head) → Follow head at es (complete h) → Announced h × (es ≡ head_elements h.refresh h.count)
unfolding head
head_only at es h k =
    let a = ranged_only app_identifier variable wrong_identifier (pos 1) (pos 1) after_identifier at es h k in
    let v = ranged_only app_version variable wrong_version (pos 0) (pos 0) after_version (at + width_in variable a.0) a.1 h a.5 in
    let there = at + width_in variable a.0 + width_in variable v.0 in
    let f = version_only there v.1 h (any_only metadata_refresh_flag (fixed (unsigned 1)) after_flag there v.1 h v.5) in
    (f.0, opens a.0 v.0 a.1 v.1 a.2 (same_number 1 a.0 a.4) (same_number 0 v.0 v.4) v.2 f.1)
  where
    opens : (a v : ℤ) (k l : List (Element Name)) {m : List (Element Name)} → es ≡ element app_identifier variable a ∷ k → a ≡ pos 1 → v ≡ pos 0 → k ≡ element app_version variable v ∷ l → l ≡ m
        → es ≡ variable_element app_identifier 1 ∷ variable_element app_version 0 ∷ m
    opens a v k l e p q r s = e ∙ rw (r, p, q, s) refl

-- ---- the whole table

abbrev gap : ℕ → List (Element Name)
gap at = replicate (to_boundary at) (zero_bit dm_alignment_zero_bit)

abbrev pub first_gap : Bool → ℕ → List (Element Name)
first_gap none at = cond none [] (gap at)

pub first_takes : (none : Bool) (at : ℕ) → Follow (cond none (done tt) (alignment dm_alignment_zero_bit)) at (first_gap none at) (complete tt)
unfolding Follow
first_takes true at = (refl, refl)
first_takes false at = zeros_take dm_alignment_zero_bit (to_boundary at) at

pub first_only : (none : Bool) (at : ℕ) (es : List (Element Name)) → Follow (cond none (done tt) (alignment dm_alignment_zero_bit)) at es (complete tt) → es ≡ first_gap none at
unfolding Follow
first_only true at es h = h.0
first_only false at es h = zeros_only dm_alignment_zero_bit (to_boundary at) at es h

pub opens_with : (flag : Bool) (n : ℕ) → open_elements flag n ≡ head_elements flag n ++ first_gap (eqb n 0) (sum_of_widths (head_elements flag n))
opens_with flag n = go (eqb n 0)
  where
    go : (b : Bool) → cond b (head_elements flag n) (to_byte (head_elements flag n)) ≡ head_elements flag n ++ first_gap b (sum_of_widths (head_elements flag n))
    go true = sym (append-nil (head_elements flag n))
    go false = refl

-- the elements, part by part, with the position of each
module _ (flag : Bool) (is : List Item) where
  abbrev one : List (Element Name)
  one = head_elements flag (length is)

  abbrev two : List (Element Name)
  two = first_gap (eqb (length is) 0) (sum_of_widths one)

  abbrev three : List (Element Name)
  three = items_elements is

  abbrev four : List (Element Name)
  four = gap (sum_of_widths one + sum_of_widths two + sum_of_widths three)

  in_parts : data_elements (record { refresh = flag; items = is }) ≡ one ++ (two ++ (three ++ four))
  unfolding data_elements
  in_parts =
      let o = opens_with flag (length is) in
      let w : sum_of_widths (open_elements flag (length is) ++ three) ≡ sum_of_widths one + sum_of_widths two + sum_of_widths three =
      widths_append (open_elements flag (length is)) three ∙ ap (λ (n : ℕ). n + sum_of_widths three) (ap sum_of_widths o ∙ widths_append one two) in
      rw (w, o, append_assoc (one ++ two) three four, append_assoc one two (three ++ four)) refl

abbrev pub holding : Head → List Item → Data
holding h is = record { refresh = h.refresh; items = is }

abbrev pub lastly : Head → List Item → Syntax Name Data
lastly h is = alignment dm_alignment_zero_bit >>= λ z. done (holding h is)

abbrev pub after_first : Head → Syntax Name Data
after_first h = blocks_after [] h.count >>= lastly h

abbrev pub after_head : Head → Syntax Name Data
after_head h = first_alignment h.count >>= λ y. after_first h

data_takes : (d : Data) → WellFormedData d → Follow ST2094-10_data 0 (data_elements d) (complete d)
unfolding ST2094-10_data Follow
data_takes d w =
    let flag = d.refresh in
    let is = d.items in
    let h = announced flag (length is) in
    let a = sum_of_widths (one flag is) in
    let b = sum_of_widths (two flag is) in
    let c = sum_of_widths (three flag is) in
    let k1 = head_takes flag (length is) (record { few = w.few; flag = w.flag }) 0 in
    let k2 = first_takes (eqb (length is) 0) a in
    let k3 = blocks-take (length is) [] is refl w.fit (a + b) in
    let k4 = together (alignment dm_alignment_zero_bit) (λ z. done d) (a + b + c) (four flag is) [] tt (complete d) (zeros_take dm_alignment_zero_bit (to_boundary (a + b + c)) (a + b + c)) (refl, refl) in
    let k5 = together (blocks_after [] (length is)) (lastly h) (a + b) (three flag is) (four flag is) is (complete d) k3 (rw (append-nil (four flag is)) at k4) in
    let k6 = together (first_alignment (length is)) (λ y. after_first h) a (two flag is) (three flag is ++ four flag is) tt (complete d) k2 k5 in
    rw (in_parts flag is) (together head after_head 0 (one flag is) (two flag is ++ (three flag is ++ four flag is)) h (complete d) k1 (rw (zero-add a) k6))

-- parts that are as they should be make the elements
puts_together : (flag : Bool) (is : List Item) (es f1 s1 f2 s2 f3 s3 : List (Element Name))
    → es ≡ f1 ++ s1 → f1 ≡ one flag is → s1 ≡ f2 ++ s2 → f2 ≡ first_gap (eqb (length is) 0) (0 + sum_of_widths f1) → s2 ≡ f3 ++ s3 → f3 ≡ three flag is → s3 ≡ gap (0 + sum_of_widths f1 + sum_of_widths f2 + sum_of_widths f3)
    → es ≡ data_elements (record { refresh = flag; items = is })
puts_together flag is es f1 s1 f2 s2 f3 s3 e1 q1 e2 q2 e3 q3 q4 =
    let r2 : f2 ≡ two flag is = q2 ∙ rw (q1, zero-add (sum_of_widths (one flag is))) refl in
    let r4 : s3 ≡ four flag is = q4 ∙ rw (q1, r2, q3, zero-add (sum_of_widths (one flag is))) refl in
    joined es f1 s1 (one flag is) (two flag is ++ (three flag is ++ four flag is)) e1 q1
    (joined s1 f2 s2 (two flag is) (three flag is ++ four flag is) e2 r2
    (joined s2 f3 s3 (three flag is) (four flag is) e3 q3 r4)) ∙ sym (in_parts flag is)

data_only : (es : List (Element Name)) (d : Data) → Follow ST2094-10_data 0 es (complete d) → WellFormedData d × (es ≡ data_elements d)
unfolding ST2094-10_data Follow
data_only es d k =
    let a = apart_complete head after_head 0 es d k in
    let h = a.made in
    let ha = head_only 0 a.first h a.one in
    let at1 = 0 + sum_of_widths a.first in
    let b = apart_complete (first_alignment h.count) (λ y. after_first h) at1 a.second d a.two in
    let hb = first_only (eqb h.count 0) at1 b.first b.one in
    let at2 = at1 + sum_of_widths b.first in
    let c = apart_complete (blocks_after [] h.count) (lastly h) at2 b.second d b.two in
    let hc = blocks_only h.count [] at2 c.first c.made c.one in
    let at3 = at2 + sum_of_widths c.first in
    let g = apart_complete (alignment dm_alignment_zero_bit) (λ z. done (holding h c.made)) at3 c.second d c.two in
    let hg = zeros_only dm_alignment_zero_bit (to_boundary at3) at3 g.first g.one in
    let e = done_only (holding h c.made) d (at3 + sum_of_widths g.first) g.second g.two in
    made h c.made ha.0 hc.0 hc.1 es d e.1
    (puts_together h.refresh c.made es a.first a.second b.first b.second c.first c.second a.all
    (ha.1 ∙ ap (head_elements h.refresh) (sym hc.0)) b.all (hb ∙ ap (λ (n : ℕ). first_gap (eqb n 0) at1) (sym hc.0)) c.all hc.2 (alone c.second g.first g.second (gap at3) g.all e.0 hg))
  where
    made : (h : Head) (is : List Item) → Announced h → length is ≡ h.count → all_fit [] is ≡ true → (es : List (Element Name)) (d : Data) → d ≡ holding h is
        → es ≡ data_elements (holding h is) → WellFormedData d × (es ≡ data_elements d)
    made h is a l f es d q e = rw q (record { few = rw l a.few; flag = λ z. l ∙ a.flag z; fit = f }, e)

-- THE TABLE. It is followed exactly by the elements of well-formed data.
pub data_spells : Spells ST2094-10_data 0 data_elements WellFormedData
data_spells = record { takes = data_takes; only = data_only }

-- ---- bytes

-- the elements of a record, and of data, end at a byte boundary
pub whole : (r : Record) → sum_of_widths (elements r) % 8 ≡ 0
unfolding elements
whole r = padded_whole dm_alignment_zero_bit (open_elements r.refresh r.count ++ blocks_elements (blocks r))

pub whole_data : (d : Data) → sum_of_widths (data_elements d) % 8 ≡ 0
unfolding data_elements
whole_data d = padded_whole dm_alignment_zero_bit (open_elements d.refresh (length d.items) ++ items_elements d.items)

-- THE THEOREM. An input is accepted exactly if it is the payload of well-formed data; then the answer is that data, and the bits read are
-- the sum of the widths of its elements.
pub accepted_is_a_payload : (s : List ℕ) → Bytes s → (d : Data) (n : ℕ) → bare_data (bits_of s) ≡ ok d n → WellFormedData d × (s ≡ data_payload d) × (n ≡ data_width d)
accepted_is_a_payload = generic.accepted_means «end» ST2094-10_data data_elements WellFormedData data_spells whole_data

pub a_payload_is_accepted : (d : Data) → WellFormedData d → bare_data (bits_of (data_payload d)) ≡ ok d (data_width d)
a_payload_is_accepted = generic.what_fits_is_accepted «end» ST2094-10_data data_elements WellFormedData data_spells whole_data

pub data_payload_bytes : (d : Data) → Bytes (data_payload d)
data_payload_bytes d = packed_bytes (length (all_bits (data_elements d)) / 8) (all_bits (data_elements d))

pub payload_bytes : (r : Record) → Bytes (payload r)
payload_bytes r = packed_bytes (length (all_bits (elements r)) / 8) (all_bits (elements r))
