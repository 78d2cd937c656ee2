-- Laws by which reading meets its tables.
use Prim.Native.Nat.{ℕ, suc, ◌+◌, ◌-◌, ◌*◌, ◌/◌, ◌<◌, ◌≤◌}
use mathlib.Core.Path.{◌≡◌, refl, ap, sym, ◌∙◌}
use mathlib.Core.List.{List, [], ◌∷◌, ◌++◌, append_assoc, append-nil}
use mathlib.Core.Bool.{Bool, true, false, cond, ◌&&◌}
use native.Mathlib.Omega.{arith}
use native.Mathlib.Nat.{zero-add, add-zero}
use borrow.Author.Tests.{eq-eqb, ne_eqb}
use lib.Dec.{eqb}
use lib.ListN.{length, drop, length-append}
use lib.Seq.{drop-drop}
use Rattle.std.proofs.Common.{Option, Some, Ok, Err}
use Rattle.refusals.specs.Refusals.{repeated_target}
use Rattle.refusals.specs.Numbered.{number_of, refusal_of}
use Rattle.refusals.specs.declared.Refusal.{Refusal}
use Rattle.refusals.specs.declared.Refusal.TheVariants.{BytesRemain}
use Rattle.tree.specs.Reading.{Rule, Fault, number_in, meets, breaks, Out, ok, no, widened, mapped, to_boundary}
use Rattle.tree.specs.Syntax.{Syntax, done, zero_bits, alignment, left_over, read_whole, read, ◌>>=◌}
use Rattle.tree.proofs.Truth.{clash, range_of_one}
use Rattle.tree.proofs.Tables.{then_no, then_ok, then_done, then_same, then_then}
use Rattle.bits.specs.declared.Number.{Number}
use Rattle.bits.specs.declared.Unread.{Unread}
use Rattle.bits.specs.Answer.{nameless, unread_as, span_of}
use Rattle.bits.proofs.Reading.{ToldOf, spans_ok, named_zeros, refused_zeros, widened_none}
use Rattle.element.specs.declared.Element.{Element as Title}
use Rattle.element.specs.declared.Refused.{Refused}
use Rattle.element.specs.Refused.{refused, unread_of}
use Rattle.element.specs.declared.Element.TheVariants.{DmAlignmentZeroBit, ExtBlockLevel, TargetMaxPq, End as Last}
use Rattle.record.specs.declared.Block.{Block}
use Rattle.record.specs.declared.Block.TheVariants.{Nothing, Level1, Level2, Level5}
use Rattle.record.specs.declared.Record.{Record}
use Rattle.record.specs.Name.{Name, element_of, dm_alignment_zero_bit, ext_block_level, target_max_PQ, «end»}
use Rattle.record.specs.Level.{level, level_of}
use Rattle.record.specs.Made.{record_of}
use Rattle.record.specs.Blocks.{most_blocks, no_blocks, in_range, in_order}
use Rattle.record.proofs.Laws.{and_left, and_right, and_both}
use Rattle.valid.specs.Valid.{is_block, many, valid_block, not_too_many, may_follow, repeat_number, repeat_element, well_formed, with_block}
use Rattle.valid.proofs.Clauses.{well_formed_more, few_blocks, few_of_level_2}
use Rattle.valid.proofs.Made.{made_more}
use Rattle.syntax.specs.Data.{Head, announced, Item, kept, passed, kept_in, passed_in, Data, block, blocks_after, head, first_alignment, ST2094-10_data, bare_data}
use Rattle.syntax.specs.Element.{item_fits, item_follows}
use Rattle.syntax.proofs.Items.{behind}
use Rattle.syntax.proofs.Steps.{read-may_follow, read_may_not_follow}
use Rattle.syntax.proofs.Exact.{holding, lastly, after_head, after_first}
use Rattle.syntax.proofs.Largest.{block_most}
use Rattle.syntax.proofs.Records.{kept_and_passed}
use Rattle.syntax.proofs.Reasons.{kept_more}
use Rattle.syntax.proofs.Named.{not_in_the_wrapper, told_in_bits}
use Rattle.syntax.specs.Wrapper.{inside_wrapper, told_at}
use Rattle.syntax.specs.Told.{ToldAs, Tells, refused_as}
use Rattle.syntax.proofs.Told.{told_by_number}
use Rattle.block.specs.Parts.{part_of}
use Rattle.block.specs.declared.Part.TheVariants.{Kept, Passed}
use Rattle.block.proofs.Laws.{accepted_few, accepted_fits, part_kept, part_passed, part_no}
use Rattle.head.specs.Opening.{opening, aligned_head}
use Rattle.head.proofs.Laws.{opening_few, zeros_took}
use Rattle.met.specs.declared.Met.{Met}
use Rattle.met.specs.Met.{most_targets, met_of, repeat_of}
use Rattle.cause.specs.declared.Cause.{Cause}
use Rattle.cause.specs.Cause.{cause_in}
use Rattle.reader.specs.Reading.{Summary, summary, summary_of, summary_in, accepted_reading, reading_of, refused_reading, end_from, end_of, head_and_blocks}

-- what data comes to
mapped_ok : {A B : Type 0} (f : A → B) (o : Out Name A) (b : B) (n : ℕ) → mapped f o ≡ ok b n → (a : A) × (o ≡ ok a n) × (f a ≡ b)
mapped_ok f (ok a m) b n e =
    let k : m ≡ n = cc in
    let q : f a ≡ b = cc in
    (a, ap (ok a) k, q)
mapped_ok f (no q) b n e = let z : ◌≡◌ {A = ℕ} 0 1 = cc in clash z

mapped_no : {A B : Type 0} (f : A → B) (o : Out Name A) (q : Fault Name) → mapped f o ≡ no q → o ≡ no q
mapped_no f (ok a m) q e = let z : ◌≡◌ {A = ℕ} 0 1 = cc in clash z
mapped_no f (no r) q e = cc

some_of : {A : Type 0} {a b : A} → Some a ≡ Some b → a ≡ b
some_of e = cc

-- ---- the blocks

-- a block more
module _ (before : List Block) (k at : ℕ) (s : List Bool) where
  blocks-read : read (blocks_after before (suc k)) at s ≡ read (block >>= behind at before k) at s
  unfolding read ◌>>=◌ blocks_after
  blocks-read = refl

  blocks_no : (f : Fault Name) → read block at s ≡ no f → read (blocks_after before (suc k)) at s ≡ no f
  blocks_no f e = blocks-read ∙ then_no block (behind at before k) at s f e

  module _ (i : Item) (m : ℕ) (e : read block at s ≡ ok i m) where
    next-read : read (blocks_after before (suc k)) at s ≡ widened m (read (behind at before k i) (at + m) (drop m s))
    next-read = blocks-read ∙ then_ok block (behind at before k) at s i m e

    pub own : item_fits i ≡ true
    own = accepted_fits at s i m e

  -- a block that fits is one
  fits_block : (b : Block) → valid_block b ≡ true → is_block b ≡ true
  fits_block b h = and_left (is_block b) (in_range b) (and_left (is_block b && in_range b) (in_order b) h)

  abbrev others : Item → Unit {0} → Syntax Name (List Item)
  others i o = blocks_after (before ++ kept_in (i ∷ [])) k >>= λ is. done (i ∷ is)

  blocks_repeated : (b : Block) (m : ℕ) → read block at s ≡ ok (kept b) m → may_follow before b ≡ false
      → Tells (read (blocks_after before (suc k)) at s) (refused (refusal_of (repeat_number before b)) (element_of (repeat_element before b)) at)
  blocks_repeated b m e h =
      let r = read_may_not_follow (others (kept b)) (at + m) (drop m s) at before b (fits_block b (own (kept b) m e)) h in
      let told : refused (refusal_of (repeat_number before b)) (element_of (repeat_element before b)) at ≡ refused_as (breaks r.0) =
      ap (λ (i : ℕ). refused (refusal_of i) (element_of (repeat_element before b)) at) (sym r.1) ∙ ap (λ (n : Name). refused (refusal_of r.0.number) (element_of n) at) (sym r.2) ∙ ap (refused (refusal_of r.0.number) (element_of r.0.element)) (sym r.3) in
      (breaks r.0, next-read (kept b) m e ∙ ap (widened m) r.4, told)

  -- the rules let it through
  follows : (i : Item) (m : ℕ) → item_fits i ≡ true → item_follows before i ≡ true → read (behind at before k i) (at + m) (drop m s) ≡ read (others i tt) (at + m) (drop m s)
  unfolding ◌>>=◌
  follows (kept b) m f h = read-may_follow (others (kept b)) (at + m) (drop m s) at before b (fits_block b f) h
  follows (passed l n zs) m f h = refl

  blocks_more : (i : Item) (m : ℕ) → read block at s ≡ ok i m → item_follows before i ≡ true
      → read (blocks_after before (suc k)) at s ≡ widened m (mapped (λ is. i ∷ is) (read (blocks_after (before ++ kept_in (i ∷ [])) k) (at + m) (drop m s)))
  blocks_more i m e h =
      next-read i m e ∙ ap (widened m) (follows i m (own i m e) h ∙ then_done (blocks_after (before ++ kept_in (i ∷ [])) k) (λ is. i ∷ is) (at + m) (drop m s))

regroup : (flag : Bool) (met : List Item) (i : Item) (width m : ℕ) (o : Out Name (List Item))
    → widened (width + m) (mapped (λ rest. summary_of flag ((met ++ (i ∷ [])) ++ rest)) o) ≡ widened width (mapped (λ rest. summary_of flag (met ++ rest)) (widened m (mapped (λ is. i ∷ is) o)))
regroup flag met i width m (ok is j) =
    let e : width + m + j ≡ width + (m + j) = omega arith in
    rw (e, append_assoc met (i ∷ []) is)
regroup flag met i width m (no r) = refl

-- one block more, known or passed over
passed_more : (is : List Item) (i : Item) → passed_in (is ++ (i ∷ [])) ≡ passed_in is + passed_in (i ∷ [])
unfolding passed_in
passed_more [] i = sym (zero-add (passed_in (i ∷ [])))
passed_more (kept b ∷ is) i = passed_more is i
passed_more (passed l n zs ∷ is) i = omega (arith, passed_more is i)

-- a repeat has its own number
repeat_is_named : (before : List Block) (b : Block) → is_block b ≡ true → number_of (refusal_of (repeat_number before b)) ≡ repeat_number before b
repeat_is_named before b h = go (not_too_many before b) b h
  where
    go : (t : Bool) (b : Block) → is_block b ≡ true → number_of (refusal_of (cond t repeated_target (level (level_of b)).surplus)) ≡ cond t repeated_target (level (level_of b)).surplus
    go true b h = refl
    go false Nothing h = let z : ◌≡◌ {A = ℕ} 0 1 = cc in clash z
    go false (Level1 min max avg) h = refl
    go false (Level2 t s o p c g m) h = refl
    go false (Level5 l r t b) h = refl

-- and a block that is one is named by what the code keeps
repeat_there : (before : List Block) (b : Block) → is_block b ≡ true → repeat_of before b ≡ Some (refusal_of (repeat_number before b))
repeat_there before Nothing h = let z : ◌≡◌ {A = ℕ} 0 1 = cc in clash z
repeat_there before (Level1 min max avg) h = refl
repeat_there before (Level2 t s o p c g m) h = refl
repeat_there before (Level5 l r t b) h = refl

-- the number of a repeat tells what it is about
repeat_named : (before : List Block) (b : Block) (number : ℕ) → number ≡ repeat_number before b → cond (eqb number repeated_target) TargetMaxPq ExtBlockLevel ≡ element_of (repeat_element before b)
repeat_named before b number e = rw e (go (not_too_many before b) b)
  where
    go : (t : Bool) (b : Block) → cond (eqb (cond t repeated_target (level (level_of b)).surplus) repeated_target) TargetMaxPq ExtBlockLevel ≡ element_of (cond t target_max_PQ ext_block_level)
    go true b = refl
    go false Nothing = refl
    go false (Level1 min max avg) = refl
    go false (Level2 t s o p c g m) = refl
    go false (Level5 l r t b) = refl

-- the walk over n blocks: i are met, they took `width` bits, r holds the known ones, m what is kept of them, and the others are
-- `skipped`; the answer from here is the answer from the start
module _ (flag : Bool) (bits : List Bool) (start n : ℕ) where
  abbrev all_of : Out Name Summary
  all_of = mapped (summary_of flag) (read (blocks_after [] n) start (drop start bits))

  abbrev from : List Item → ℕ → ℕ → Out Name Summary
  from met width i = widened width (mapped (λ rest. summary_of flag (met ++ rest)) (read (blocks_after (kept_in met) (n - i)) (start + width) (drop (start + width) bits)))

pub record Reached (flag : Bool) (bits : List Bool) (start n : ℕ) (r : Record) (m : Met) (width skipped i : ℕ) : Type 0 where
  pub met : List Item
  pub few : i ≤ n
  pub many : length met ≡ i
  pub short : width ≤ block_most * i
  pub walk : well_formed [] (kept_in met) ≡ true
  pub made : r ≡ record_of flag (kept_in met)
  pub counted : m ≡ met_of (kept_in met)
  pub others : skipped ≡ passed_in met
  pub answer : from flag bits start n met width i ≡ all_of flag bits start n

module _ (flag : Bool) (bits : List Bool) (start n : ℕ) where
  pub reached_none : Reached flag bits start n (no_blocks flag) (met_of []) 0 0 0
  unfolding kept_in passed_in well_formed
  reached_none =
      let e : n - 0 ≡ n = omega arith in
      record {
        met = [];
        few = omega arith;
        many = refl;
        short = omega arith;
        walk = refl;
        made = refl;
        counted = refl;
        others = refl;
        answer = rw (e, add-zero start) (widened_none (all_of flag bits start n));
      }

module _ {flag : Bool} {bits : List Bool} {start n : ℕ} {r : Record} {m : Met} {width skipped i : ℕ} (x : Reached flag bits start n r m width skipped i) where
  abbrev known : List Block
  known = kept_in x.met

  pub reached_few : skipped ≤ i
  reached_few = omega (arith, x.others, x.many, kept_and_passed x.met)

  -- all that is read lies near the start
  pub reached_near : read opening 0 bits ≡ ok (announced flag n) start → (start + width < 134217728) × (n ≤ 254) × (skipped ≤ 254)
  reached_near e =
      let few = opening_few bits (announced flag n) start e in
      (omega (arith, few, x.short, x.few), omega (arith, few), omega (arith, few, reached_few, x.few))

  -- of level 2 there are no more than there may be
  reached_twos : many 2 known ≤ most_targets
  reached_twos = few_of_level_2 known x.walk

  pub reached_counted : m.twos ≤ most_targets
  reached_counted = rw x.counted reached_twos

  pub reached_all : i ≡ n → all_of flag bits start n ≡ ok (summary r skipped) width
  unfolding blocks_after read
  reached_all h =
      let e : n - i ≡ 0 = omega arith in
      sym x.answer ∙ rw (e, append-nil x.met, add-zero width, x.made, x.others) refl

  module _ (h : i < n) where
    next : n - i ≡ suc (n - (i + 1))
    next = omega arith

    abbrev there : ℕ
    there = start + width

    -- what is read from here on
    onward : (o : Out Name (List Item)) → read (blocks_after known (suc (n - (i + 1)))) there (drop there bits) ≡ o → all_of flag bits start n ≡ widened width (mapped (λ rest. summary_of flag (x.met ++ rest)) o)
    onward o e = sym x.answer ∙ rw (next, e) refl

    pub reached_no : {why : Refused} → Err why ≡ part_of (read block there (drop there bits)) → Tells (all_of flag bits start n) why
    reached_no {why} e =
        let f = part_no (read block there (drop there bits)) why e in
        (f.0, onward (no f.0) (blocks_no known (n - (i + 1)) there (drop there bits) f.0 f.1), f.2)

    -- with a block more, where it may follow
    reached_item : (j : Item) (w : ℕ) → read block there (drop there bits) ≡ ok j w → item_follows known j ≡ true → (q : Record) (p : Met) (k : ℕ)
        → well_formed [] (kept_in (x.met ++ (j ∷ []))) ≡ true → q ≡ record_of flag (kept_in (x.met ++ (j ∷ []))) → p ≡ met_of (kept_in (x.met ++ (j ∷ [])))
        → k ≡ passed_in (x.met ++ (j ∷ [])) → Reached flag bits start n q p (width + w) k (i + 1)
    reached_item j w e g q p k walk made counted others =
        let t = accepted_few there (drop there bits) j w e in
        let c = x.many in
        let d : start + (width + w) ≡ there + w = omega arith in
        let after = known ++ kept_in (j ∷ []) in
        let rest = read (blocks_after after (n - (i + 1))) (there + w) (drop (there + w) bits) in
        let y = onward _ (blocks_more known (n - (i + 1)) there (drop there bits) j w e g) in
        let z : from flag bits start n (x.met ++ (j ∷ [])) (width + w) (i + 1) ≡ all_of flag bits start n =
        rw (d, kept_more x.met j) (regroup flag x.met j width w rest) ∙ sym (rw (drop-drop w there bits) at y) in
        record {
          met = x.met ++ (j ∷ []);
          few = omega arith;
          many = omega (arith, length-append x.met (j ∷ []));
          short = omega (arith, t);
          walk = walk;
          made = made;
          counted = counted;
          others = others;
          answer = z;
        }

    -- passed over
    pub reached_past : {w : ℕ} → Ok (Passed w) ≡ part_of (read block there (drop there bits)) → Reached flag bits start n r m (width + w) (skipped + 1) (i + 1)
    unfolding kept_in passed_in
    reached_past {w} e =
        let o = part_passed (read block there (drop there bits)) w e in
        let j = passed o.0 o.1 o.2 in
        let kept : kept_in (x.met ++ (j ∷ [])) ≡ known = kept_more x.met j ∙ append-nil known in
        reached_item j w o.3 refl r m (skipped + 1) (rw kept x.walk) (x.made ∙ ap (record_of flag) (sym kept)) (x.counted ∙ ap met_of (sym kept))
        (omega (arith, x.others, passed_more x.met j))

    module _ {b : Block} {w : ℕ} (e : Ok (Kept w b) ≡ part_of (read block there (drop there bits))) where
      one_read : read block there (drop there bits) ≡ ok (kept b) w
      one_read = part_kept (read block there (drop there bits)) b w e

      its_own : valid_block b ≡ true
      its_own = own known 0 there (drop there bits) (kept b) w one_read

      pub reached_range : in_range b ≡ true
      reached_range = and_right (is_block b) (in_range b) (and_left (is_block b && in_range b) (in_order b) its_own)

      -- what is kept of the blocks decides
      module _ {test : Bool} (decided : (before : List Block) → m ≡ met_of before → test ≡ may_follow before b) where
        may_follow_is : test ≡ may_follow known b
        may_follow_is = decided known x.counted

        -- and which repeat it is
        module _ (f : test ≡ false) {told : Option Refusal} (tells : (before : List Block) → m ≡ met_of before → may_follow before b ≡ false → told ≡ repeat_of before b) where
          may-not : may_follow known b ≡ false
          may-not = sym may_follow_is ∙ f

          a_block : is_block b ≡ true
          a_block = fits_block known 0 there (drop there bits) b its_own

          pub reached_told : told ≡ Some (refusal_of (repeat_number known b))
          reached_told = tells known x.counted may-not ∙ repeat_there known b a_block

          pub reached_repeated : {refusal : Refusal} → told ≡ Some refusal → {name : Title} → name ≡ cond (eqb (number_of refusal) repeated_target) TargetMaxPq ExtBlockLevel
              → Tells (all_of flag bits start n) (refused refusal name there)
          reached_repeated {refusal} own {name} title =
              let y = blocks_repeated known (n - (i + 1)) there (drop there bits) b w one_read may-not in
              let same : refusal ≡ refusal_of (repeat_number known b) = some_of (sym own ∙ reached_told) in
              let number : number_of refusal ≡ repeat_number known b = ap number_of same ∙ repeat_is_named known b a_block in
              let element : name ≡ element_of (repeat_element known b) = title ∙ repeat_named known b (number_of refusal) number in
              (y.0, onward (no y.0) y.1, rw (same, element) y.2)

        module _ (f : test ≡ true) where
          may : may_follow known b ≡ true
          may = sym may_follow_is ∙ f

          -- one known block more passes the walk too
          walked : well_formed [] (known ++ (b ∷ [])) ≡ true
          walked =
              well_formed_more known b
              ∙ and_both (well_formed [] known) (valid_block b && may_follow known b) x.walk (and_both (valid_block b) (may_follow known b) its_own may)

          -- so there is a place for it
          pub reached_room : r.count < most_blocks
          reached_room = omega (arith, ap (λ (q : Record). q.count) x.made, length-append known (b ∷ []), few_blocks (known ++ (b ∷ [])) walked)

          pub reached_more : {p : Met} → ((before : List Block) → m ≡ met_of before → p ≡ met_of (before ++ (b ∷ []))) → Reached flag bits start n (with_block r b) p (width + w) skipped (i + 1)
          unfolding kept_in passed_in
          reached_more {p} more =
              let k = kept_more x.met (kept b) in
              let l : length known < most_blocks = omega (arith, reached_room, ap (λ (q : Record). q.count) x.made) in
              reached_item (kept b) w one_read may (with_block r b) p skipped (rw k walked)
              (ap (λ (q : Record). with_block q b) x.made ∙ made_more flag known b l ∙ ap (record_of flag) (sym k))
              (more known x.counted ∙ ap met_of (sym k)) (omega (arith, x.others, passed_more x.met (kept b)))

-- ---- answers

pub end_told : (o : Out Name ℕ) (why : Refused) → Err why ≡ end_of o → Tells o why
end_told (ok a m) why e = let z : ◌≡◌ {A = ℕ} 0 1 = cc in clash z
end_told (no f) why e = (f, refl, cc)

pub end_there : (o : Out Name ℕ) (bits : ℕ) → Ok bits ≡ end_of o → (n : ℕ) × (o ≡ ok bits n)
end_there (ok a m) bits e = let x : a ≡ bits = cc in (m, ap (λ (k : ℕ). ok k m) x)
end_there (no f) bits e = let z : ◌≡◌ {A = ℕ} 0 1 = cc in clash z

-- ---- what stands before the blocks, and the blocks

abbrev blocks_of : Head → Syntax Name Summary
blocks_of h = blocks_after [] h.count >>= λ is. done (summary_of h.refresh is)

-- as the code reads them
abbrev pub blocks_from : Head → ℕ → List Bool → Out Name Summary
blocks_from h at s = mapped (summary_of h.refresh) (read (blocks_after [] h.count) at s)

module _ (s : List Bool) where
  both_no : (f : Fault Name) → read opening 0 s ≡ no f → read head_and_blocks 0 s ≡ no f
  unfolding head_and_blocks
  both_no f e = then_no opening blocks_of 0 s f e

  module _ (h : Head) (n : ℕ) (e : read opening 0 s ≡ ok h n) where
    both : read head_and_blocks 0 s ≡ widened n (blocks_from h n (drop n s))
    unfolding head_and_blocks
    both = then_ok opening blocks_of 0 s h n e ∙ rw (zero-add n) (ap (widened n) (then_done (blocks_after [] h.count) (summary_of h.refresh) n (drop n s)))

    pub both_later : (f : Fault Name) → blocks_from h n (drop n s) ≡ no f → read head_and_blocks 0 s ≡ no f
    both_later f g = both ∙ ap (widened n) g

    pub both_ok : (r : Summary) (m : ℕ) → blocks_from h n (drop n s) ≡ ok r m → read head_and_blocks 0 s ≡ ok r (n + m)
    both_ok r m g = both ∙ ap (widened n) g

-- ---- zero bits to the next byte boundary

abbrev ending : Summary → Syntax Name Summary
ending r = alignment dm_alignment_zero_bit >>= λ z. done r

-- what data comes to
abbrev summing : Data → Syntax Name Summary
summing d = done (summary_in d)

-- the whole table is what is read up to the last block, and zero bits
module _ (h : Head) where
  -- the blocks and the zero bits behind them, either way
  abbrev summary_after : Syntax Name Summary
  summary_after = blocks_after [] h.count >>= λ is. ending (summary_of h.refresh is)

  lastly_summed : (is : List Item) (at : ℕ) (t : List Bool) → read (lastly h is >>= summing) at t ≡ read (ending (summary_of h.refresh is)) at t
  unfolding ◌>>=◌
  lastly_summed is at t = then_then (alignment dm_alignment_zero_bit) (λ z. done (holding h is)) summing at t

  first_summed : (at : ℕ) (t : List Bool) → read (after_first h >>= summing) at t ≡ read summary_after at t
  first_summed at t =
      then_then (blocks_after [] h.count) (lastly h) summing at t
      ∙ then_same (blocks_after [] h.count) (λ is. lastly h is >>= summing) (λ is. ending (summary_of h.refresh is)) lastly_summed at t

  blocks_end : (at : ℕ) (t : List Bool) → read (blocks_of h >>= ending) at t ≡ read summary_after at t
  unfolding ◌>>=◌
  blocks_end at t = then_then (blocks_after [] h.count) (λ is. done (summary_of h.refresh is)) ending at t

  head_summed : (at : ℕ) (t : List Bool) → read (after_head h >>= summing) at t ≡ read (first_alignment h.count >>= λ y. summary_after) at t
  head_summed at t =
      then_then (first_alignment h.count) (λ y. after_first h) summing at t
      ∙ then_same (first_alignment h.count) (λ y. after_first h >>= summing) (λ y. summary_after) (λ y. first_summed) at t

  head_end : (at : ℕ) (t : List Bool) → read (aligned_head h >>= λ g. blocks_of g >>= ending) at t ≡ read (first_alignment h.count >>= λ y. summary_after) at t
  unfolding aligned_head ◌>>=◌
  head_end at t =
      then_then (first_alignment h.count) (λ y. done h) (λ g. blocks_of g >>= ending) at t
      ∙ then_same (first_alignment h.count) (λ y. blocks_of h >>= ending) (λ y. summary_after) (λ y. blocks_end) at t

data_read : (s : List Bool) → mapped summary_in (read ST2094-10_data 0 s) ≡ read (head_and_blocks >>= ending) 0 s
unfolding ST2094-10_data head_and_blocks opening
data_read s =
    sym (then_done ST2094-10_data summary_in 0 s) ∙ then_then head after_head summing 0 s
    ∙ then_same head (λ h. after_head h >>= summing) (λ h. aligned_head h >>= λ g. blocks_of g >>= ending) (λ h at t. head_summed h at t ∙ sym (head_end h at t)) 0 s
    ∙ sym (then_then opening blocks_of ending 0 s ∙ then_then head aligned_head (λ h. blocks_of h >>= ending) 0 s)

-- ---- the answer

-- what stands behind the last block, and the whole: a fault of the one is that of the other; else the data comes to r, and so many bits are read
abbrev Ends : Summary → Out Name ℕ → Out Name Data → Type 0
Ends r (ok bits m) o = (d : Data) × (o ≡ ok d bits) × (summary_in d ≡ r)
Ends r (no f) o = o ≡ no f

-- they go by the same test: bytes remain, or none do
by_the_end : (b : Bool) (q : Rule Name) (d : Data) (r : Summary) (n m : ℕ) → summary_in d ≡ r → Ends r (widened m (cond b (ok n 0) (no (breaks q)))) (widened n (cond b (ok d 0) (no (breaks q))))
by_the_end true q d r n m e = (d, ap (ok d) (add-zero n), e)
by_the_end false q d r n m e = refl

-- bytes that remain behind n bits
abbrev rest : List Bool → ℕ → Rule Name
rest s n = left_over «end» n (drop n s)

-- the whole, where the data is read; and the end, where the zero bits are
data_then_end : (s : List Bool) (d : Data) (n : ℕ) → read ST2094-10_data 0 s ≡ ok d n → bare_data s ≡ widened n (cond (meets (rest s n)) (ok d 0) (no (breaks (rest s n))))
unfolding read_whole
data_then_end s d n e = rw (e, zero-add n) refl

zeros_then_end : (s : List Bool) (at m : ℕ) → read (alignment dm_alignment_zero_bit) at (drop at s) ≡ ok tt m → end_from at (drop at s) ≡ widened m (cond (meets (rest s (at + m))) (ok (at + m) 0) (no (breaks (rest s (at + m)))))
zeros_then_end s at m e = rw (e, drop-drop m at s) refl

-- what `read_end` finds: no zero bits; zero bits, behind which bytes remain; and the end
module _ (at : ℕ) (s : List Bool) (k : ℕ) (own : k ≡ to_boundary at) where
  abbrev gap : Out (Unit {0}) (Unit {0})
  gap = read (zero_bits nameless k) at (drop at s)

  aligned : read (alignment dm_alignment_zero_bit) at (drop at s) ≡ read (zero_bits dm_alignment_zero_bit k) at (drop at s)
  unfolding read
  aligned = rw own refl

  pub end_refused : (why : Unread) → Err why ≡ span_of gap → Err (unread_of DmAlignmentZeroBit why) ≡ end_of (end_from at (drop at s))
  end_refused why e = go (refused_zeros dm_alignment_zero_bit at (drop at s) why k e)
    where
      go : ToldOf (read (zero_bits dm_alignment_zero_bit k) at (drop at s)) dm_alignment_zero_bit why → Err (unread_of DmAlignmentZeroBit why) ≡ end_of (end_from at (drop at s))
      go (f, q, n, u) =
          let z : end_from at (drop at s) ≡ no f = rw (aligned, q) refl in
          rw u (ap (λ (m : Name). Err (unread_of (element_of m) (unread_as f))) n ∙ sym (ap end_of z))

  module _ (zeros : Number) (e : Ok zeros ≡ span_of gap) where
    gap_read : read (zero_bits dm_alignment_zero_bit k) at (drop at s) ≡ ok tt zeros.width
    gap_read = spans_ok (read (zero_bits dm_alignment_zero_bit k) at (drop at s)) zeros.value zeros.width (e ∙ named_zeros dm_alignment_zero_bit k at (drop at s))

    pub gap_took : zeros.width ≡ k
    gap_took = zeros_took dm_alignment_zero_bit k at (drop at s) zeros.width gap_read

    abbrev left : ℕ
    left = length (drop (at + zeros.width) s) / 8

    end_test : end_from at (drop at s) ≡ widened zeros.width (cond (eqb left 0) (ok (at + zeros.width) 0) (no (breaks (rest s (at + zeros.width)))))
    end_test = zeros_then_end s at zeros.width (aligned ∙ gap_read) ∙ rw (range_of_one 0 left) refl

    pub end_remains : (left ≡ 0 → ⊥) → Err (refused BytesRemain Last (at + zeros.width)) ≡ end_of (end_from at (drop at s))
    end_remains h = sym (ap end_of end_test ∙ rw (ne_eqb left 0 h) refl)

    pub end_is : left ≡ 0 → Ok (at + zeros.width) ≡ end_of (end_from at (drop at s))
    end_is h = sym (ap end_of end_test ∙ rw (eq-eqb left 0 h) refl)

module _ (s : List Bool) where
  -- the answer to data with a fault, of which the code has the number, the element and the offset
  pub by_told : (j : ℕ) (x : Title) (w : ℕ) → ToldAs (bare_data s) j x w → (c : Cause) → c ≡ cause_in (bare_data s) → refused_reading j w false c ≡ reading_of (bare_data s)
  by_told j x w (f, e, k, n, y) c q =
      let in-bits = y ∙ sym (told_in_bits s f e) in
      ap (λ (i : ℕ). refused_reading i w false c) k ∙ ap (λ (at : ℕ). refused_reading (number_in f) at false c) in-bits ∙ ap (λ (b : Bool). refused_reading (number_in f) (told_at f) b c) (sym (not_in_the_wrapper s f e))
      ∙ ap (refused_reading (number_in f) (told_at f) (inside_wrapper f)) (q ∙ ap cause_in e) ∙ sym (ap reading_of e)

  -- and of which it has the refusal
  pub by_refusal : (why : Refused) → Tells (bare_data s) why → (c : Cause) → c ≡ cause_in (bare_data s) → refused_reading (number_of why.refusal) why.offset false c ≡ reading_of (bare_data s)
  by_refusal why t = by_told (number_of why.refusal) why.element why.offset (told_by_number s why t)

  -- a part that is refused refuses the data
  pub told_on : {A : Type 0} (o : Out Name A) (why : Refused) → Tells o why → ((f : Fault Name) → o ≡ no f → bare_data s ≡ no f) → Tells (bare_data s) why
  told_on o why (f, e, t) on = (f, on f e, t)

  data_refused : (f : Fault Name) → mapped summary_in (read ST2094-10_data 0 s) ≡ no f → bare_data s ≡ no f
  unfolding read_whole
  data_refused f e = rw (mapped_no summary_in (read ST2094-10_data 0 s) f e) refl

  -- no head, no data
  pub no_head : (f : Fault Name) → read opening 0 s ≡ no f → bare_data s ≡ no f
  no_head f e = data_refused f (data_read s ∙ then_no head_and_blocks ending 0 s f (both_no s f e))

  -- behind a head
  module _ (h : Head) (start : ℕ) (e : read opening 0 s ≡ ok h start) where
    pub no_blocks_lem : (f : Fault Name) → blocks_from h start (drop start s) ≡ no f → bare_data s ≡ no f
    no_blocks_lem f g = data_refused f (data_read s ∙ then_no head_and_blocks ending 0 s f (both_later s h start e f g))

    -- and behind the blocks
    module _ (r : Summary) (width : ℕ) (g : blocks_from h start (drop start s) ≡ ok r width) where
      abbrev last : ℕ
      last = start + width

      up_to_there : read head_and_blocks 0 s ≡ ok r last
      up_to_there = both_ok s h start e r width g

      before_the_end : mapped summary_in (read ST2094-10_data 0 s) ≡ widened last (read (ending r) last (drop last s))
      before_the_end = data_read s ∙ then_ok head_and_blocks ending 0 s r last up_to_there ∙ rw (zero-add last) refl

      the_end : Ends r (end_from last (drop last s)) (bare_data s)
      the_end = go (read (alignment dm_alignment_zero_bit) last (drop last s)) refl
        where
          go : (o : Out Name (Unit {0})) → read (alignment dm_alignment_zero_bit) last (drop last s) ≡ o → Ends r (end_from last (drop last s)) (bare_data s)
          go (no f) q = rw q (data_refused f (before_the_end ∙ ap (widened last) (then_no (alignment dm_alignment_zero_bit) (λ z. done r) last (drop last s) f q)))
          go (ok z m) q =
              let k = mapped_ok summary_in (read ST2094-10_data 0 s) r (last + m) (before_the_end ∙ ap (widened last) (then_done (alignment dm_alignment_zero_bit) (λ z. r) last (drop last s) ∙ ap (mapped (λ z. r)) q)) in
              rw (zeros_then_end s last m q, data_then_end s k.0 (last + m) k.1) (by_the_end (meets (rest s (last + m))) (rest s (last + m)) k.0 r (last + m) m k.2)

      pub no_end : (f : Fault Name) → end_from last (drop last s) ≡ no f → bare_data s ≡ no f
      no_end f q = rw q at the_end

      pub at_the_end : (bits m : ℕ) → end_from last (drop last s) ≡ ok bits m → accepted_reading bits r.skipped r.«record» ≡ reading_of (bare_data s)
      at_the_end bits m q =
          let x : Ends r (ok bits m) (bare_data s) = rw q at the_end in
          sym (ap reading_of x.1 ∙ ap (λ (y : Summary). accepted_reading bits y.skipped y.«record») x.2)
