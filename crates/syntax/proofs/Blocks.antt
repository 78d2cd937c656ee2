-- A block is followed by exactly the elements of a block that fits, known or reserved.
use Prim.Native.Nat.{ℕ, zero, suc, ◌+◌, ◌*◌}
use mathlib.Core.Path.{◌≡◌, refl, ap, sym, ◌∙◌}
use mathlib.Core.List.{List, [], ◌∷◌, ◌++◌, append-nil, map}
use mathlib.Core.Bool.{Bool, true, false, cond, not, ◌&&◌}
use native.Mathlib.Omega.{arith}
use borrow.Author.Tests.{leb-true, le-leb}
use lib.Dec.{leb}
use lib.ListN.{replicate}
use lib.IntN.{ℤ, pos, negsuc}
use Rattle.tree.specs.Reading.{meets}
use Rattle.tree.specs.Coding.{Coding, unsigned, holds, variable, fixed, holds_in, width_in, natural, hold_all}
use Rattle.tree.specs.Syntax.{Syntax, done, ◌>>=◌, must, any, coding_of, row, one_bit, zero_bits}
use Rattle.tree.specs.Meaning.{Element, element, zero_bit, field_elements, sum_of_widths, Next, complete, Follow}
use Rattle.tree.proofs.Elements.{ue-holds}
use Rattle.tree.proofs.Truth.{clash}
use Rattle.tree.proofs.Tables.{together}
use Rattle.tree.proofs.Spells.{joined, alone, apart_complete, any_only, any_together, must_only, must_together, done_only, row_takes, row_only, zeros_take, zeros_only, same_number}
use Rattle.record.specs.declared.Block.{Block}
use Rattle.record.specs.declared.Block.TheVariants.{Nothing, Level1, Level2, Level5}
use Rattle.record.specs.Name.{Name, ext_block_length, ext_block_level, ext_dm_alignment_zero_bit}
use Rattle.record.specs.Level.{level, known, codings, padding, level_of, values_of, fields_of}
use Rattle.record.specs.Blocks.{in_range, in_order}
use Rattle.record.proofs.Laws.{and_left, and_right, and_both, tests}
use Rattle.valid.specs.Valid.{is_block}
use Rattle.syntax.specs.Data.{most_reserved, Item, kept, passed, block_of, length_rule, average_rule, order_rules, content, reserved_bits, reserved_content, whole_block, block}
use Rattle.syntax.specs.Element.{block_elements, item_elements, item_fits}
use Rattle.syntax.proofs.Field.{values_of_lem, level_of_lem, block_of_lem}

-- ---- the content of a block of a known level

abbrev pad : ℕ → List (Element Name)
pad l = replicate (padding l) (zero_bit ext_dm_alignment_zero_bit)

abbrev pub after_fields : ℕ → List ℤ → Syntax Name Item
after_fields l zs = zero_bits ext_dm_alignment_zero_bit (padding l) >>= λ z. done (kept (block_of l zs))

content_takes : (b : Block) → in_range b ≡ true → (at : ℕ) → Follow (content (level_of b)) at (field_elements (fields_of (level_of b)) (values_of b) ++ pad (level_of b)) (complete (kept b))
unfolding content Follow
content_takes b h at =
    let l = level_of b in
    let es = field_elements (fields_of l) (values_of b) in
    let z = together (zero_bits ext_dm_alignment_zero_bit (padding l)) (λ z. done (kept (block_of l (values_of b)))) (at + sum_of_widths es) (pad l) [] tt (complete (kept b))
    (zeros_take ext_dm_alignment_zero_bit (padding l) (at + sum_of_widths es)) (refl, ap (λ (c : Block). complete (kept c)) (sym (block_of_lem b))) in
    together (row (fields_of l)) (after_fields l) at es (pad l) (values_of b) (complete (kept b))
    (row_takes (fields_of l) at (values_of b) (h)) (rw (append-nil (pad l)) at z)

content_only : (l at : ℕ) (es : List (Element Name)) (i : Item) → Follow (content l) at es (complete i)
    → (zs : List ℤ) × (hold_all (codings l) zs ≡ true) × (i ≡ kept (block_of l zs)) × (es ≡ field_elements (fields_of l) zs ++ pad l)
unfolding content
content_only l at es i h =
    let a = apart_complete (row (fields_of l)) (after_fields l) at es i h in
    let r = row_only (fields_of l) at a.first a.made a.one in
    let there = at + sum_of_widths a.first in
    let c = apart_complete (zero_bits ext_dm_alignment_zero_bit (padding l)) (λ z. done (kept (block_of l a.made))) there a.second i a.two in
    let z = zeros_only ext_dm_alignment_zero_bit (padding l) there c.first c.one in
    let d = done_only (kept (block_of l a.made)) i (there + sum_of_widths c.first) c.second c.two in
    let s : a.second ≡ pad l = alone a.second c.first c.second (pad l) c.all d.0 z in
    (a.made, r.0, d.1, joined es a.first a.second _ (pad l) a.all r.1 s)

-- ---- the bits of a reserved block

one_bits : (n : ℕ) → map coding_of (replicate n (one_bit ext_dm_alignment_zero_bit)) ≡ replicate n (unsigned 1)
one_bits zero = refl
one_bits (suc n) = ap (λ (cs : List Coding). unsigned 1 ∷ cs) (one_bits n)

pub reserved-codings : (n : ℕ) → map coding_of (reserved_bits n) ≡ replicate (8 * n) (unsigned 1)
reserved-codings n = one_bits (8 * n)

reserved_takes : (l n : ℕ) (zs : List ℤ) → hold_all (replicate (8 * n) (unsigned 1)) zs ≡ true → (at : ℕ) → Follow (reserved_content l n) at (field_elements (reserved_bits n) zs) (complete (passed l n zs))
unfolding reserved_content Follow
reserved_takes l n zs h at =
    let es = field_elements (reserved_bits n) zs in
    let r = row_takes (reserved_bits n) at zs (rw (reserved-codings n) h) in
    rw (append-nil es) at (together (row (reserved_bits n)) (λ ys. done (passed l n ys)) at es [] zs (complete (passed l n zs)) r (refl, refl))

reserved_only : (l n at : ℕ) (es : List (Element Name)) (i : Item) → Follow (reserved_content l n) at es (complete i)
    → (zs : List ℤ) × (hold_all (replicate (8 * n) (unsigned 1)) zs ≡ true) × (i ≡ passed l n zs) × (es ≡ field_elements (reserved_bits n) zs)
unfolding reserved_content
reserved_only l n at es i h =
    let a = apart_complete (row (reserved_bits n)) (λ zs. done (passed l n zs)) at es i h in
    let r = row_only (reserved_bits n) at a.first a.made a.one in
    let d = done_only (passed l n a.made) i (at + sum_of_widths a.first) a.second a.two in
    (a.made, rw (reserved-codings n) at r.0, d.1, alone es a.first a.second _ a.all d.0 r.1)

-- ---- a whole block

-- a block that fits but for the order of level 1
abbrev pub plain : Item → Bool
plain (kept b) = is_block b && in_range b
plain (passed l n zs) = item_fits (passed l n zs)

-- the content of a block of level l, whose length is n
abbrev pub content_of : (l n : ℕ) → Syntax Name Item
content_of l n = cond (known l) (content l) (reserved_content l n)

abbrev pub after_level : ℕ → ℤ → ℤ → Syntax Name Item
after_level start n l = must (length_rule start n (natural l)) >>= λ own. content_of (natural l) (natural n)

abbrev pub after_length : ℕ → ℤ → Syntax Name Item
after_length start n = any ext_block_level (fixed (unsigned 8)) >>= after_level start n

-- what a length and a level open
abbrev pub opened : ℤ → ℤ → List (Element Name) → List (Element Name)
opened n l es = element ext_block_length variable n ∷ element ext_block_level (fixed (unsigned 8)) l ∷ es

module _ (start at : ℕ) where
  -- the length and the level are as the rule has them, and what follows goes by the level
  by_rules : (n l : ℕ) (es : List (Element Name)) (i : Item) → holds_in variable (pos n) ≡ true → holds (unsigned 8) (pos l) ≡ true
      → meets (length_rule start (pos n) l) ≡ true → ((there : ℕ) → Follow (content_of l n) there es (complete i)) → Follow (whole_block start) at (opened (pos n) (pos l) es) (complete i)
  unfolding whole_block
  by_rules n l es i hn hl hr h =
      let p = at + width_in variable (pos n) in
      any_together ext_block_length variable (after_length start) at (pos n) (element ext_block_level (fixed (unsigned 8)) (pos l) ∷ es) (complete i) hn
      (any_together ext_block_level (fixed (unsigned 8)) (after_level start (pos n)) p (pos l) es (complete i) hl
      (must_together (length_rule start (pos n) l) (λ own. content_of l n) (p + 8) es (complete i) hr (h (p + 8))))

  whole_block_takes : (i : Item) → plain i ≡ true → Follow (whole_block start) at (item_elements i) (complete i)
  whole_block_takes (kept Nothing) h = let z : ◌≡◌ {A = ℕ} 0 1 = cc in clash z
  whole_block_takes (kept (Level1 min max avg)) h = by_rules 5 1 _ (kept (Level1 min max avg)) refl refl refl (content_takes (Level1 min max avg) h)
  whole_block_takes (kept (Level2 t s o p c g m)) h = by_rules 11 2 _ (kept (Level2 t s o p c g m)) refl refl refl (content_takes (Level2 t s o p c g m) h)
  whole_block_takes (kept (Level5 l r t b)) h = by_rules 7 5 _ (kept (Level5 l r t b)) refl refl refl (content_takes (Level5 l r t b) h)
  whole_block_takes (passed l n zs) h =
      let f : known l ≡ false = unknown (known l) (search tests depth 12) in
      let m = leb-true n most_reserved (search tests depth 12) in
      let e : hold_all (replicate (8 * n) (unsigned 1)) zs ≡ true = search tests depth 12 in
      by_rules n l (field_elements (reserved_bits n) zs) (passed l n zs) (ue-holds n (omega arith)) (search tests depth 12)
      (rw f (rw (le-leb 0 n (omega arith), le-leb n most_reserved m) refl)) (λ there. rw f (reserved_takes l n zs e there))
    where
      unknown : (b : Bool) → not b ≡ true → b ≡ false
      unknown true e = sym e
      unknown false e = refl

known_fine : (b : Block) → is_block b ≡ known (level_of b)
known_fine Nothing = refl
known_fine (Level1 min max avg) = refl
known_fine (Level2 t s o p c g m) = refl
known_fine (Level5 l r t b) = refl

-- the block that a known level's values make, and its elements
block_made : (l : ℕ) → known l ≡ true → (zs : List ℤ) → hold_all (codings l) zs ≡ true
    → (plain (kept (block_of l zs)) ≡ true) × (opened (pos (level l).bytes) (pos l) (field_elements (fields_of l) zs ++ pad l) ≡ block_elements (block_of l zs))
block_made l k zs h =
    let b = block_of l zs in
    let e : level_of b ≡ l = level_of_lem l k zs in
    let v : values_of b ≡ zs = values_of_lem l k zs h in
    let f : is_block b ≡ true = known_fine b ∙ rw e k in
    let r : in_range b ≡ true = rw (e, v) h in
    (and_both (is_block b) (in_range b) f r, sym (rw (e, v) refl))

module _ (start at : ℕ) where
  decided : (n l : ℕ) (es : List (Element Name)) (i : Item) → holds (unsigned 8) (pos l) ≡ true → meets (length_rule start (pos n) l) ≡ true
      → (there : ℕ) → Follow (content_of l n) there es (complete i) → (plain i ≡ true) × (opened (pos n) (pos l) es ≡ item_elements i)
  decided n l es i hl hr there f = go (known l) refl
    where
      go : (b : Bool) → known l ≡ b → (plain i ≡ true) × (opened (pos n) (pos l) es ≡ item_elements i)
      go true q =
          let c = content_only l there es i (rw q at f) in
          let s : pos n ≡ pos (level l).bytes = same_number (level l).bytes (pos n) (rw q at hr) in
          let m = block_made l q c.0 c.1 in
          let e : opened (pos n) (pos l) es ≡ block_elements (block_of l c.0) = ap (opened (pos n) (pos l)) c.3 ∙ rw s m.1 in
          rw c.2 (m.0, e)
      go false q =
          let c = reserved_only l n there es i (rw q at f) in
          let k : leb 0 n && leb n most_reserved ≡ true = rw q at hr in
          let g : plain (passed l n c.0) ≡ true = rw (q, hl, and_right (leb 0 n) (leb n most_reserved) k, c.1) refl in
          rw c.2 (g, ap (opened (pos n) (pos l)) c.3)

  -- neither the length nor the level has a sign
  ruled : (n l : ℤ) (es : List (Element Name)) (i : Item) → holds_in variable n ≡ true → holds (unsigned 8) l ≡ true → meets (length_rule start n (natural l)) ≡ true
      → (there : ℕ) → Follow (content_of (natural l) (natural n)) there es (complete i) → (plain i ≡ true) × (opened n l es ≡ item_elements i)
  ruled (pos n) (pos l) es i hn hl hr there f = decided n l es i hl hr there f
  ruled (pos n) (negsuc l) es i hn hl hr there f = let z : ◌≡◌ {A = ℕ} 0 1 = cc in clash z
  ruled (negsuc n) l es i hn hl hr there f = let z : ◌≡◌ {A = ℕ} 0 1 = cc in clash z

  pub whole_block_only : (es : List (Element Name)) (i : Item) → Follow (whole_block start) at es (complete i) → (plain i ≡ true) × (es ≡ item_elements i)
  unfolding whole_block
  whole_block_only es i h =
      let one = any_only ext_block_length variable (after_length start) at es i h in
      let n = one.value in
      let p = at + width_in variable n in
      let two = any_only ext_block_level (fixed (unsigned 8)) (after_level start n) p one.rest i one.on in
      let l = two.value in
      let own = must_only (length_rule start n (natural l)) (λ own. content_of (natural l) (natural n)) (p + 8) two.rest i two.on in
      let d = ruled n l two.rest i one.held two.held own.0 (p + 8) own.1 in
      (d.0, one.all ∙ ap (λ (fs : List (Element Name)). element ext_block_length variable n ∷ fs) two.all ∙ d.1)

-- ---- the order of level 1

abbrev pub ordered : Item → Bool
ordered (kept b) = in_order b
ordered (passed l n zs) = true

fits_plain : (i : Item) → item_fits i ≡ true → (plain i ≡ true) × (ordered i ≡ true)
fits_plain (kept b) h = (and_left (is_block b && in_range b) (in_order b) h, and_right (is_block b && in_range b) (in_order b) h)
fits_plain (passed l n zs) h = (h, refl)

plain_fits : (i : Item) → plain i ≡ true → ordered i ≡ true → item_fits i ≡ true
plain_fits (kept b) h k = and_both (is_block b && in_range b) (in_order b) h k
plain_fits (passed l n zs) h k = h

module _ {B : Type 0} (g : Unit {0} → Syntax Name B) (start at : ℕ) (es : List (Element Name)) where
  order_takes : (i : Item) (x : Next Name B) → ordered i ≡ true → Follow (g tt) at es x → Follow (order_rules start i >>= g) at es x
  unfolding ◌>>=◌
  order_takes (kept Nothing) x h k = k
  order_takes (kept (Level1 min max avg)) x h k = must_together (average_rule start min max avg) g at es x h k
  order_takes (kept (Level2 t s o p c w m)) x h k = k
  order_takes (kept (Level5 l r t b)) x h k = k
  order_takes (passed l n zs) x h k = k

  order_only : (i : Item) (a : B) → Follow (order_rules start i >>= g) at es (complete a) → (ordered i ≡ true) × Follow (g tt) at es (complete a)
  unfolding ◌>>=◌
  order_only (kept Nothing) a h = (refl, h)
  order_only (kept (Level1 min max avg)) a h = must_only (average_rule start min max avg) g at es a h
  order_only (kept (Level2 t s o p c w m)) a h = (refl, h)
  order_only (kept (Level5 l r t b)) a h = (refl, h)
  order_only (passed l n zs) a h = (refl, h)

pub block_takes : (i : Item) → item_fits i ≡ true → (at : ℕ) → Follow block at (item_elements i) (complete i)
unfolding block Follow ◌>>=◌
block_takes i h at =
    let f = fits_plain i h in
    let t = together (whole_block at) (λ j. order_rules at j >>= λ o. done j) at (item_elements i) [] i (complete i) (whole_block_takes at at i f.0)
    (order_takes (λ o. done i) at (at + sum_of_widths (item_elements i)) [] i (complete i) f.1 (refl, refl)) in
    rw (append-nil (item_elements i)) at t

pub block_only : (at : ℕ) (es : List (Element Name)) (i : Item) → Follow block at es (complete i) → (item_fits i ≡ true) × (es ≡ item_elements i)
unfolding block Follow ◌>>=◌
block_only at es i h =
    let a = apart_complete (whole_block at) (λ j. order_rules at j >>= λ o. done j) at es i h in
    let w = whole_block_only at at a.first a.made a.one in
    let there = at + sum_of_widths a.first in
    let o = order_only (λ o. done a.made) at there a.second a.made i a.two in
    let d = done_only a.made i there a.second o.1 in
    let e : es ≡ item_elements a.made = alone es a.first a.second _ a.all d.0 w.1 in
    rw d.1 (plain_fits a.made w.0 o.0, e)
