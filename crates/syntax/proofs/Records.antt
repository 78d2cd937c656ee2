-- The record of data, and the data of a record.
use Prim.Native.Nat.{◌+◌}
use mathlib.Core.Path.{◌≡◌, refl, ap, sym, ◌∙◌}
use mathlib.Core.List.{List, [], ◌∷◌, ◌++◌, append-nil, map}
use mathlib.Core.Bool.{true, ◌&&◌}
use native.Mathlib.Omega.{arith}
use lib.ListN.{length, length-map}
use Rattle.tree.specs.Bits.{pack}
use Rattle.tree.specs.Meaning.{Element, sum_of_widths, all_bits}
use Rattle.record.specs.declared.Block.{Block}
use Rattle.record.specs.declared.Record.{Record}
use Rattle.record.specs.Name.{Name}
use Rattle.record.specs.Made.{record_of}
use Rattle.record.specs.Blocks.{blocks}
use Rattle.record.proofs.Laws.{and_left, and_right, and_both}
use Rattle.valid.specs.Valid.{valid_block, may_follow, well_formed, Proper}
use Rattle.valid.proofs.Clauses.{few_blocks, flag_means, means_flag}
use Rattle.valid.proofs.Made.{blocks_made, places_made, valid_made, valid_is_made, walked, length-blocks}
use Rattle.syntax.specs.Data.{Item, kept, passed, kept_in, passed_in, Data, record_from}
use Rattle.syntax.specs.Element.{block_elements, blocks_elements, elements, payload, bits_of_data, items_elements, item_fits, all_fit, data_elements, data_payload, data_width, WellFormedData, data_of}

-- ---- the record of data

-- blocks that fit hold known ones that pass the walk
pub kept_walk : (before : List Block) (is : List Item) → all_fit before is ≡ true → well_formed before (kept_in is) ≡ true
unfolding all_fit kept_in well_formed
kept_walk before [] h = refl
kept_walk before (kept b ∷ is) h =
    let f = and_left (valid_block b && may_follow before b) (all_fit (before ++ (b ∷ [])) is) h in
    and_both (valid_block b && may_follow before b) (well_formed (before ++ (b ∷ [])) (kept_in is)) f (kept_walk (before ++ (b ∷ [])) is (and_right (valid_block b && may_follow before b) (all_fit (before ++ (b ∷ [])) is) h))
kept_walk before (passed l n zs ∷ is) h =
    kept_walk before is (rw (append-nil before) at (and_right (item_fits (passed l n zs) && true) (all_fit (before ++ []) is) h))

-- each block is kept or passed over
pub kept_and_passed : (is : List Item) → length (kept_in is) + passed_in is ≡ length is
unfolding kept_in passed_in
kept_and_passed [] = refl
kept_and_passed (kept b ∷ is) = omega (arith, kept_and_passed is)
kept_and_passed (passed l n zs ∷ is) = omega (arith, kept_and_passed is)

-- THE RECORD of well-formed data is valid, with its 18 places: however many blocks are announced, they suffice
pub the_record_is_valid : (d : Data) → WellFormedData d → Proper (record_from d)
the_record_is_valid d w =
    let bs = kept_in d.items in
    let k = kept_walk [] d.items w.fit in
    let few = few_blocks bs k in
    record {
      places = places_made d.refresh bs few;
      valid_record = valid_made d.refresh bs few (means_flag d.refresh (length bs) (λ q. omega (arith, w.flag q, kept_and_passed d.items))) k;
    }

-- ---- the data of a record

walk_fits : (before : List Block) (bs : List Block) → well_formed before bs ≡ true → all_fit before (map kept bs) ≡ true
unfolding all_fit kept_in well_formed
walk_fits before [] h = refl
walk_fits before (b ∷ bs) h =
    let f = and_left (valid_block b && may_follow before b) (well_formed (before ++ (b ∷ [])) bs) h in
    and_both (valid_block b && may_follow before b) (all_fit (before ++ (b ∷ [])) (map kept bs)) f (walk_fits (before ++ (b ∷ [])) bs (and_right (valid_block b && may_follow before b) (well_formed (before ++ (b ∷ [])) bs) h))

kept_of : (bs : List Block) → (kept_in (map kept bs) ≡ bs) × (passed_in (map kept bs) ≡ 0)
unfolding kept_in passed_in
kept_of [] = (refl, refl)
kept_of (b ∷ bs) = let k = kept_of bs in (ap (λ (l : List Block). b ∷ l) k.0, k.1)

elements_of_lem : (bs : List Block) → items_elements (map kept bs) ≡ blocks_elements bs
unfolding items_elements blocks_elements
elements_of_lem [] = refl
elements_of_lem (b ∷ bs) = ap (λ (l : List (Element Name)). block_elements b ++ l) (elements_of_lem bs)

module _ (r : Record) (p : Proper r) where
  length_of : length (map kept (blocks r)) ≡ r.count
  length_of = length-map (blocks r) kept ∙ length-blocks r p.places (walked r p.valid_record).few

  -- it is well formed, its record is that record, and nothing is passed over
  pub data_is_well_formed : WellFormedData (data_of r)
  data_is_well_formed =
      let w = walked r p.valid_record in
      let few = w.few in
      let l = length_of in
      record { few = omega arith; flag = λ q. l ∙ flag_means r.refresh r.count w.flag q; fit = walk_fits [] (blocks r) w.walk }

  pub record_of_data : record_from (data_of r) ≡ r
  record_of_data = ap (record_of r.refresh) (kept_of (blocks r)).0 ∙ sym (valid_is_made r p.places p.valid_record)

  pub none_passed : passed_in (data_of r).items ≡ 0
  none_passed = (kept_of (blocks r)).1

  -- its elements are the record's, so its payload is the one payload of the record
  same_elements : data_elements (data_of r) ≡ elements r
  unfolding data_elements elements
  same_elements = rw (length_of, elements_of_lem (blocks r)) refl

  pub same_payload : data_payload (data_of r) ≡ payload r
  same_payload = ap (λ (es : List (Element Name)). pack (all_bits es)) same_elements

  pub same_width : data_width (data_of r) ≡ bits_of_data r
  same_width = ap sum_of_widths same_elements

-- ---- nothing passed over

all_kept : (is : List Item) → passed_in is ≡ 0 → is ≡ map kept (kept_in is)
unfolding kept_in passed_in
all_kept [] h = refl
all_kept (kept b ∷ is) h = ap (λ (l : List Item). kept b ∷ l) (all_kept is h)
all_kept (passed l n zs ∷ is) h = absurd (omega arith)

-- data that passes nothing over is that of its record
pub with_nothing_passed : (d : Data) → passed_in d.items ≡ 0 → d ≡ data_of (record_from d)
with_nothing_passed d h =
    let q : d.items ≡ map kept (blocks (record_of d.refresh (kept_in d.items))) = all_kept d.items h ∙ ap (λ (bs : List Block). map kept bs) (sym (blocks_made d.refresh (kept_in d.items))) in
    ap (λ (is : List Item). record { refresh = d.refresh; items = is }) q
