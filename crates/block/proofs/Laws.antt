-- Laws by which the functions that read a block meet their definitions.
use Prim.Native.Nat.{ℕ, ◌+◌, ◌-◌, ◌*◌, ◌^◌, ◌<◌, ◌≤◌}
use mathlib.Core.Path.{◌≡◌, refl, ap, sym, ◌∙◌}
use mathlib.Core.List.{List, map}
use mathlib.Core.Bool.{Bool, true, false, cond}
use native.Mathlib.Omega.{arith}
use native.Mathlib.Nat.{add-zero}
use borrow.Author.Tests.{leb-true}
use lib.Dec.{eqb, leb}
use lib.IntN.{ℤ, pos, negsuc}
use lib.ListN.{length, drop}
use lib.Seq.{drop-drop}
use Rattle.std.specs.Prelude.{Result, Ok, Err}
use Rattle.refusals.specs.declared.Refusal.TheVariants.{PastEnd, WrongLength, NotInOrder}
use Rattle.tree.specs.Bits.{bits_of}
use Rattle.tree.specs.Reading.{between, allows, Rule, meets, breaks, Out, ok, no, Reader, widened, and_then, mapped, u, ue}
use Rattle.tree.specs.Coding.{unsigned, total_width, most_zeros, Descriptor, variable, fixed, natural, holds_in, width_in}
use Rattle.tree.specs.Syntax.{Syntax, done, must, any, coding_of, row, zero_bits, read, ◌>>=◌}
use Rattle.tree.specs.Meaning.{Element, sum_of_widths, complete, Follow, Means}
use Rattle.tree.proofs.Truth.{and_parts}
use Rattle.tree.proofs.Bits.{length_rest}
use Rattle.tree.proofs.Codes.{no_not_ok}
use Rattle.tree.proofs.Elements.{codes_ue, length-ue, u_took, zeros_few}
use Rattle.tree.proofs.Meaning.{widths_append, every_answer_is_true}
use Rattle.tree.proofs.Tables.{read_then, then_done, then_same, then_then}
use Rattle.tree.proofs.Spells.{apart_complete, any_only, must_only, done_only, row_only, zeros_only}
use Rattle.tree.proofs.Steps.{read-any, bits_there, bits_short}
use Rattle.tree.proofs.Widths.{widths_fields}
use Rattle.tree.proofs.Accepted.{widths_zeros}
use Rattle.bits.specs.declared.Number.{Number}
use Rattle.bits.specs.declared.Unread.{Unread}
use Rattle.bits.specs.Answer.{nameless, number_of, span_of}
use Rattle.bits.proofs.Reading.{ToldOf, is_ok, spans_ok, named_u, named_ue, named_zeros, refused_u, refused_ue, refused_zeros}
use Rattle.element.specs.declared.Element.TheVariants.{AvgPq, ExtBlockLength, ExtBlockLevel, ExtDmAlignmentZeroBit}
use Rattle.element.specs.declared.Refused.{Refused}
use Rattle.element.specs.Refused.{refused, unread_of}
use Rattle.record.specs.declared.Block.{Block}
use Rattle.record.specs.declared.Block.TheVariants.{Nothing, Level1, Level2, Level5}
use Rattle.record.specs.Name.{Name, element_of, ext_block_length, ext_block_level, ext_dm_alignment_zero_bit}
use Rattle.record.specs.Level.{Level, level, level1, level2, level5, reserved, known, fields_of, codings, padding}
use Rattle.record.specs.Blocks.{in_order}
use Rattle.syntax.specs.Data.{most_reserved, Item, kept, passed, block_of, length_rule, average_rule, order_rules, content, reserved_bits, reserved_content, whole_block, block}
use Rattle.syntax.specs.Element.{item_fits}
use Rattle.syntax.specs.Told.{Tells}
use Rattle.syntax.proofs.Blocks.{content_of, block_only}
use Rattle.syntax.proofs.Largest.{block_most, reserved-width, widths_item}
use Rattle.syntax.proofs.Steps.{read_own_length, read-reserved-length, read-in_order, read-not_in_order}
use Rattle.fields.specs.declared.Step.{Step}
use Rattle.fields.specs.Step.{step_of}
use Rattle.fields.proofs.Laws.{step_ok, step_no}
use Rattle.block.specs.declared.Part.{Part}
use Rattle.block.specs.declared.Part.TheVariants.{Kept, Passed}
use Rattle.block.specs.Parts.{part_of, part_behind, part_took, after_fields, content_from, body, after_length}

-- ---- how many bits are taken

-- p takes at most k bits
abbrev pub Takes : {A : Type 0} → ℕ → Syntax Name A → Type 0
Takes {A} k p = (at : ℕ) (es : List (Element Name)) (a : A) → Follow p at es (complete a) → sum_of_widths es ≤ k

module _ {A : Type 0} (k : ℕ) (p : Syntax Name A) (h : Takes k p) (at : ℕ) (s : List Bool) where
  -- when it accepts
  pub takes_few : (a : A) (n : ℕ) → read p at s ≡ ok a n → n ≤ k
  takes_few a n e =
      let m : Means p at s (ok a n) = rw e at (every_answer_is_true p at s) in
      omega (arith, m.3, h at m.0 a m.1)

-- as a part
pub took_few : (k : ℕ) (p : Syntax Name Item) → Takes k p → (at : ℕ) (s : List Bool) (t : Part) → Ok t ≡ part_of (read p at s) → part_took t ≤ k
took_few k p h at s t e = go (read p at s) refl e
  where
    go : (o : Out Name Item) → read p at s ≡ o → Ok t ≡ part_of o → part_took t ≤ k
    go (ok (kept b) m) q x =
        let y : t ≡ Kept m b = cc in
        rw y (takes_few k p h at s (kept b) m q)
    go (ok (passed l n zs) m) q x =
        let y : t ≡ Passed m = cc in
        rw y (takes_few k p h at s (passed l n zs) m q)
    go (no r) q x = cc

module _ {A B : Type 0} (k j : ℕ) where
  takes_then : (p : Syntax Name A) (g : A → Syntax Name B) → Takes k p → ((a : A) → Takes j (g a)) → Takes (k + j) (p >>= g)
  takes_then p g hp hg at es b h =
      let a = apart_complete p g at es b h in
      omega (arith, ap sum_of_widths a.all, widths_append a.first a.second, hp at a.first a.made a.one, hg a.made (at + sum_of_widths a.first) a.second b a.two)

module _ {B : Type 0} (k : ℕ) where
  takes_element : (j : ℕ) (n : Name) (d : Descriptor) (g : ℤ → Syntax Name B) → ((z : ℤ) → holds_in d z ≡ true → width_in d z ≤ j) → ((z : ℤ) → Takes k (g z)) → Takes (j + k) (any n d >>= g)
  unfolding sum_of_widths
  takes_element j n d g hd hg at es b h =
      let a = any_only n d g at es b h in
      omega (arith, ap sum_of_widths a.all, hd a.value a.held, hg a.value (at + width_in d a.value) a.rest b a.on)

  takes_must : (r : Rule Name) (g : Unit {0} → Syntax Name B) → Takes k (g tt) → Takes k (must r >>= g)
  takes_must r g h at es b f = h at es b (must_only r g at es b f).1

takes_done : {A : Type 0} (a : A) → Takes 0 (done a)
unfolding sum_of_widths
takes_done a at es b f = omega (arith, ap sum_of_widths (done_only a b at es f).0)

-- a ue(v) code
pub takes_length : (at : ℕ) (s : List Bool) (v n : ℕ) → ue ext_block_length most_zeros at s ≡ ok v n → n ≤ 2 * most_zeros + 1
takes_length at s v n e =
    let c = (codes_ue ext_block_length most_zeros at).only s v n e in
    omega (arith, c.2, length-ue v, zeros_few most_zeros v c.0)

-- the fields of a level fit into its bytes, with its zero bits behind them; no level has more bytes than level 2
abbrev tested : Bool → Bool → Bool → Level
tested a b c = cond a level1 (cond b level2 (cond c level5 reserved))

few : (l : ℕ) → (total_width (codings l) + padding l ≡ 8 * (level l).bytes) × ((level l).bytes ≤ (level 2).bytes)
unfolding total_width
few l = go (eqb l 1) (eqb l 2) (eqb l 5)
  where
    go : (a b c : Bool) → (total_width (map coding_of (tested a b c).fields) + (8 * (tested a b c).bytes - total_width (map coding_of (tested a b c).fields)) ≡ 8 * (tested a b c).bytes) × ((tested a b c).bytes ≤ (level 2).bytes)
    go true b c = (refl, omega arith)
    go false true c = (refl, omega arith)
    go false false true = (refl, omega arith)
    go false false false = (refl, omega arith)

-- the most bits of a block's content
abbrev pub content_bits : ℕ
content_bits = 8 * most_reserved

takes_fields : (l : ℕ) → Takes (total_width (codings l)) (row (fields_of l))
takes_fields l at es zs h =
    let r = row_only (fields_of l) at es zs h in
    omega (arith, ap sum_of_widths r.1, widths_fields (fields_of l) zs r.0)

module _ (l at : ℕ) (s : List Bool) where
  pub few_fields : (b : Block) (n : ℕ) → mapped (block_of l) (read (row (fields_of l)) at s) ≡ ok b n → n ≤ content_bits
  few_fields b n e = go (read (row (fields_of l)) at s) refl e
    where
      go : (o : Out Name (List ℤ)) → read (row (fields_of l)) at s ≡ o → mapped (block_of l) o ≡ ok b n → n ≤ content_bits
      go (ok zs m) q x =
          let y : m ≡ n = cc in
          omega (arith, takes_few (total_width (codings l)) (row (fields_of l)) (takes_fields l) at s zs m q, few l)
      go (no f) q x = no_not_ok x

-- the order of level 1, in a block that began at `start`
abbrev pub ordered : ℕ → Item → Syntax Name Item
ordered start i = order_rules start i >>= λ o. done i

takes_order : (start : ℕ) (b : Block) → Takes 0 (ordered start (kept b))
unfolding ◌>>=◌
takes_order start Nothing = takes_done (kept Nothing)
takes_order start (Level1 min max avg) = takes_must 0 (average_rule start min max avg) (λ o. done (kept (Level1 min max avg))) (takes_done (kept (Level1 min max avg)))
takes_order start (Level2 t s o p c g m) = takes_done (kept (Level2 t s o p c g m))
takes_order start (Level5 l r t b) = takes_done (kept (Level5 l r t b))

takes_after_fields : (start l : ℕ) (b : Block) → Takes (padding l) (after_fields start l b)
takes_after_fields start l b at es a h =
    let t = takes_then (padding l) 0 (zero_bits ext_dm_alignment_zero_bit (padding l)) (λ z. ordered start (kept b))
    (λ there fs z f. omega (arith, ap sum_of_widths (zeros_only ext_dm_alignment_zero_bit (padding l) there fs f), widths_zeros (padding l) ext_dm_alignment_zero_bit)) (λ z. takes_order start b) at es a h in
    omega (arith, t)

takes_content : (start l : ℕ) → Takes content_bits (content_from start l)
takes_content start l at es b h =
    let t = takes_then (total_width (codings l)) (padding l) (row (fields_of l)) (λ zs. after_fields start l (block_of l zs)) (takes_fields l) (λ zs. takes_after_fields start l (block_of l zs)) at es b h in
    omega (arith, t, few l)

-- the content of a block, as the functions read it
abbrev either : (start l n : ℕ) → Syntax Name Item
either start l n = cond (known l) (content_from start l) (reserved_content l n)

takes_reserved : (l n : ℕ) → n ≤ most_reserved → Takes content_bits (reserved_content l n)
unfolding reserved_content
takes_reserved l n h at es i k =
    let a = apart_complete (row (reserved_bits n)) (λ zs. done (passed l n zs)) at es i k in
    let r = row_only (reserved_bits n) at a.first a.made a.one in
    omega (
      arith,
      ap sum_of_widths a.all,
      widths_append a.first a.second,
      ap sum_of_widths r.1,
      widths_fields (reserved_bits n) a.made r.0,
      reserved-width n,
      takes_done (passed l n a.made) (at + sum_of_widths a.first) a.second i a.two,
    )

-- a length that a reserved block may have
few_bytes : (n : ℤ) → allows (between (pos 0) (pos most_reserved)) n ≡ true → natural n ≤ most_reserved
few_bytes (pos n) h = leb-true n most_reserved (and_parts (leb 0 n) (leb n most_reserved) h).1
few_bytes (negsuc n) h = omega arith

pub takes_body : (start : ℕ) (n l : ℤ) → Takes content_bits (body start n l)
takes_body start n l at es i f =
    let m = must_only (length_rule start n (natural l)) (λ own. either start (natural l) (natural n)) at es i f in
    go (known (natural l)) refl m.0 m.1
  where
    go : (t : Bool) → known (natural l) ≡ t → meets (length_rule start n (natural l)) ≡ true → Follow (either start (natural l) (natural n)) at es (complete i) → sum_of_widths es ≤ content_bits
    go true q own k = takes_content start (natural l) at es i (rw q at k)
    go false q own k = takes_reserved (natural l) (natural n) (few_bytes n (rw q at own)) at es i (rw q at k)

pub takes_after_length : (start : ℕ) (n : ℤ) → Takes (8 + content_bits) (after_length start n)
takes_after_length start n = takes_element content_bits 8 ext_block_level (fixed (unsigned 8)) (body start n) (λ z q. omega arith) (takes_body start n)

-- ---- the order of level 1, right behind the zero bits

module _ (start : ℕ) where
  zeros_ordered : (l : ℕ) (b : Block) (at : ℕ) (s : List Bool) → read (zero_bits ext_dm_alignment_zero_bit (padding l) >>= (λ z. done (kept b)) >>= ordered start) at s ≡ read (after_fields start l b) at s
  unfolding ◌>>=◌
  zeros_ordered l b at s = then_then (zero_bits ext_dm_alignment_zero_bit (padding l)) (λ z. done (kept b)) (ordered start) at s

  content_ordered : (l at : ℕ) (s : List Bool) → read (content l >>= ordered start) at s ≡ read (content_from start l) at s
  unfolding content
  content_ordered l at s =
      then_then (row (fields_of l)) (λ zs. zero_bits ext_dm_alignment_zero_bit (padding l) >>= λ z. done (kept (block_of l zs))) (ordered start) at s
      ∙ then_same (row (fields_of l)) (λ zs. zero_bits ext_dm_alignment_zero_bit (padding l) >>= (λ z. done (kept (block_of l zs))) >>= ordered start) (λ zs. after_fields start l (block_of l zs)) (λ zs. zeros_ordered l (block_of l zs)) at s

  -- a reserved block has no order
  reserved_ordered : (l n at : ℕ) (s : List Bool) → read (reserved_content l n >>= ordered start) at s ≡ read (reserved_content l n) at s
  unfolding reserved_content ◌>>=◌
  reserved_ordered l n at s = then_then (row (reserved_bits n)) (λ zs. done (passed l n zs)) (ordered start) at s

  either_ordered : (l n at : ℕ) (s : List Bool) → read (content_of l n >>= ordered start) at s ≡ read (either start l n) at s
  either_ordered l n at s = go (known l)
    where
      go : (t : Bool) → read (cond t (content l) (reserved_content l n) >>= ordered start) at s ≡ read (cond t (content_from start l) (reserved_content l n)) at s
      go true = content_ordered l at s
      go false = reserved_ordered l n at s

  -- the same parts, with the order behind the block
  abbrev body_then : (n l : ℤ) → Syntax Name Item
  body_then n l = must (length_rule start n (natural l)) >>= λ own. content_of (natural l) (natural n) >>= ordered start

  body_ordered : (n l : ℤ) (at : ℕ) (s : List Bool) → read (body_then n l) at s ≡ read (body start n l) at s
  body_ordered n l =
      then_same (must (length_rule start n (natural l))) (λ own. content_of (natural l) (natural n) >>= ordered start) (λ own. either start (natural l) (natural n)) (λ own. either_ordered (natural l) (natural n))

  abbrev length_then : ℤ → Syntax Name Item
  length_then n = any ext_block_level (fixed (unsigned 8)) >>= body_then n

  length_ordered : (n : ℤ) (at : ℕ) (s : List Bool) → read (length_then n) at s ≡ read (after_length start n) at s
  length_ordered n = then_same (any ext_block_level (fixed (unsigned 8))) (body_then n) (body start n) (body_ordered n)

here_block : (at : ℕ) (s : List Bool) → read block at s ≡ read (any ext_block_length variable >>= length_then at) at s
unfolding read ◌>>=◌ whole_block block
here_block at s = refl

-- a block as its functions read it
abbrev block_from : ℕ → Syntax Name Item
block_from start = any ext_block_length variable >>= after_length start

block_ordered : (at : ℕ) (s : List Bool) → read block at s ≡ read (block_from at) at s
block_ordered at s = here_block at s ∙ then_same (any ext_block_length variable) (length_then at) (after_length at) (length_ordered at) at s

-- ---- what is accepted

-- fits, and has no more bits than a block may have
module _ (at : ℕ) (s : List Bool) (i : Item) (n : ℕ) (e : read block at s ≡ ok i n) where
  accepted_means : Means block at s (ok i n)
  accepted_means = rw e at (every_answer_is_true block at s)

  pub accepted_fits : item_fits i ≡ true
  accepted_fits = (block_only at accepted_means.0 i accepted_means.1).0

  pub accepted_few : n ≤ block_most
  accepted_few =
      let m = accepted_means in
      omega (arith, m.3, ap sum_of_widths (block_only at m.0 i m.1).1, widths_item i accepted_fits)

-- ---- what reading each part comes to

-- what the first part gave, as another value
map_then : {A B C : Type 0} (h : A → B) (o : Out Name A) (k : B → Reader Name C) (at : ℕ) (s : List Bool) → and_then (mapped h o) k at s ≡ and_then o (λ a. k (h a)) at s
map_then h (ok a n) k at s = refl
map_then h (no f) k at s = refl

pub read_closing : (start l : ℕ) (b : Block) (at : ℕ) (s : List Bool) → read (after_fields start l b) at s ≡ and_then (read (zero_bits ext_dm_alignment_zero_bit (padding l)) at s) (λ z. read (ordered start (kept b))) at s
read_closing start l b at s = read_then (zero_bits ext_dm_alignment_zero_bit (padding l)) (λ z. ordered start (kept b)) at s

pub read_fields : (start l at : ℕ) (s : List Bool) → read (content_from start l) at s ≡ and_then (mapped (block_of l) (read (row (fields_of l)) at s)) (λ b. read (after_fields start l b)) at s
read_fields start l at s = read_then (row (fields_of l)) (λ zs. after_fields start l (block_of l zs)) at s ∙ sym (map_then (block_of l) (read (row (fields_of l)) at s) (λ b. read (after_fields start l b)) at s)

pub read-level : (start : ℕ) (n : ℤ) (at : ℕ) (s : List Bool) → read (after_length start n) at s ≡ and_then (u ext_block_level 8 at s) (λ l. read (body start n (pos l))) at s
read-level start n at s = read-any ext_block_level (fixed (unsigned 8)) (body start n) at s ∙ map_then pos (u ext_block_level 8 at s) (λ l. read (body start n l)) at s

pub read_length : (at : ℕ) (s : List Bool) → read block at s ≡ and_then (ue ext_block_length most_zeros at s) (λ n. read (after_length at (pos n))) at s
read_length at s = block_ordered at s ∙ read-any ext_block_length variable (after_length at) at s ∙ map_then pos (ue ext_block_length most_zeros at s) (λ n. read (after_length at n)) at s

-- ---- answers

-- what an answer says of the reading that it is of
pub part_kept : (o : Out Name Item) (b : Block) (n : ℕ) → Ok (Kept n b) ≡ part_of o → o ≡ ok (kept b) n
part_kept (ok (kept a) m) b n e = cc
part_kept (ok (passed l k zs) m) b n e = cc
part_kept (no f) b n e = cc

pub part_passed : (o : Out Name Item) (n : ℕ) → Ok (Passed n) ≡ part_of o → (l k : ℕ) × (zs : List ℤ) × (o ≡ ok (passed l k zs) n)
part_passed (ok (kept a) m) n e = cc
part_passed (ok (passed l k zs) m) n e = (l, k, zs, cc)
part_passed (no f) n e = cc

pub part_no : (o : Out Name Item) (r : Refused) → Err r ≡ part_of o → Tells o r
part_no (ok (kept a) m) r e = cc
part_no (ok (passed l k zs) m) r e = cc
part_no (no f) r e = (f, refl, cc)

-- behind bits that are taken already
abbrev behind : ℕ → Result Part Refused → Result Part Refused
behind n (Ok t) = Ok (part_behind n t)
behind n (Err r) = Err r

shifted : (n : ℕ) (o : Out Name Item) → behind n (part_of o) ≡ part_of (widened n o)
shifted n (ok (kept b) m) = refl
shifted n (ok (passed l k zs) m) = refl
shifted n (no r) = refl

-- the answer of a table whose first part gave o, and whose second goes on from the position where that ended: a refusal of the first;
-- else a refusal or an answer of the second
module _ {A : Type 0} (t : Syntax Name Item) (o : Out Name A) (g : A → Syntax Name Item) (at : ℕ) (bits : List Bool)
    (q : read t at (drop at bits) ≡ and_then o (λ a. read (g a)) at (drop at bits)) where
  pub first_no : (r : Refused) → Tells o r → Err r ≡ part_of (read t at (drop at bits))
  first_no r (f, e, k) = sym (ap part_of q ∙ rw (e, k) refl)

  -- of one element, which has a name
  pub first_told : (name : Name) (why : Unread) → ToldOf o name why → Err (unread_of (element_of name) why) ≡ part_of (read t at (drop at bits))
  first_told name why (f, e, n, k) = sym (ap part_of q ∙ rw (e, n, k) refl)

  module _ (a : A) (n : ℕ) (e : o ≡ ok a n) where
    pub second_on : behind n (part_of (read (g a) (at + n) (drop (at + n) bits))) ≡ part_of (read t at (drop at bits))
    second_on = shifted n (read (g a) (at + n) (drop (at + n) bits)) ∙ sym (ap part_of q ∙ rw (e, drop-drop n at bits) refl)

    second_no : (r : Refused) → Err r ≡ part_of (read (g a) (at + n) (drop (at + n) bits)) → Err r ≡ part_of (read t at (drop at bits))
    second_no r x = ap (behind n) x ∙ second_on

    second_is : (rest : Part) → Ok rest ≡ part_of (read (g a) (at + n) (drop (at + n) bits)) → Ok (part_behind n rest) ≡ part_of (read t at (drop at bits))
    second_is rest x = ap (behind n) x ∙ second_on

-- ---- behind the fields: the zero bits, then the order of level 1

module _ (start l : ℕ) (b : Block) (at : ℕ) (bits : List Bool) where
  abbrev gap : Out Name (Unit {0})
  gap = read (zero_bits ext_dm_alignment_zero_bit (padding l)) at (drop at bits)

  pub zeros_no : (why : Unread) → Err why ≡ span_of (read (zero_bits nameless (padding l)) at (drop at bits)) → Err (unread_of ExtDmAlignmentZeroBit why) ≡ part_of (read (after_fields start l b) at (drop at bits))
  zeros_no why e =
      first_told (after_fields start l b) gap (λ z. ordered start (kept b)) at bits (read_closing start l b at (drop at bits)) ext_dm_alignment_zero_bit why
      (refused_zeros ext_dm_alignment_zero_bit at (drop at bits) why (padding l) e)

  module _ (r : Number) (e : Ok r ≡ span_of (read (zero_bits nameless (padding l)) at (drop at bits))) where
    abbrev n : ℕ
    n = r.width

    gap_read : gap ≡ ok tt n
    gap_read = spans_ok gap r.value n (e ∙ named_zeros ext_dm_alignment_zero_bit (padding l) at (drop at bits))

    closing : behind n (part_of (read (ordered start (kept b)) (at + n) (drop (at + n) bits))) ≡ part_of (read (after_fields start l b) at (drop at bits))
    closing = second_on (after_fields start l b) gap (λ z. ordered start (kept b)) at bits (read_closing start l b at (drop at bits)) tt n gap_read

    pub ordered_is : in_order b ≡ true → Ok (Kept n b) ≡ part_of (read (after_fields start l b) at (drop at bits))
    unfolding read
    ordered_is h =
        let o : read (ordered start (kept b)) (at + n) (drop (at + n) bits) ≡ ok (kept b) 0 = read-in_order (λ o. done (kept b)) (at + n) (drop (at + n) bits) start b h in
        ap (λ (w : ℕ). Ok (Kept w b)) (sym (add-zero n)) ∙ ap (λ (x : Out Name Item). behind n (part_of x)) (sym o) ∙ closing

    pub out_of_order : in_order b ≡ false → Err (refused NotInOrder AvgPq start) ≡ part_of (read (after_fields start l b) at (drop at bits))
    out_of_order h =
        let o = read-not_in_order (λ o. done (kept b)) (at + n) (drop (at + n) bits) start b h in
        sym (rw (o.1, o.2, o.3) refl) ∙ ap (λ (x : Out Name Item). behind n (part_of x)) (sym o.4) ∙ closing

-- ---- the fields, and what follows them

module _ (start l at : ℕ) (bits : List Bool) where
  abbrev fields_read : Out Name Block
  fields_read = mapped (block_of l) (read (row (fields_of l)) at (drop at bits))

  pub fields_no : (why : Refused) → Err why ≡ step_of fields_read → Err why ≡ part_of (read (content_from start l) at (drop at bits))
  fields_no why e =
      first_no (content_from start l) fields_read (after_fields start l) at bits (read_fields start l at (drop at bits)) why (step_no fields_read why e)

  module _ (t : Step) (e : Ok t ≡ step_of fields_read) where
    pub fields_few : t.width ≤ content_bits
    fields_few = few_fields l at (drop at bits) t.block t.width (step_ok fields_read t e)

    pub fields_then_no : (why : Refused) → Err why ≡ part_of (read (after_fields start l t.block) (at + t.width) (drop (at + t.width) bits)) → Err why ≡ part_of (read (content_from start l) at (drop at bits))
    fields_then_no =
        second_no (content_from start l) fields_read (after_fields start l) at bits (read_fields start l at (drop at bits)) t.block t.width (step_ok fields_read t e)

    pub fields_then : (rest : Part) → Ok rest ≡ part_of (read (after_fields start l t.block) (at + t.width) (drop (at + t.width) bits)) → Ok (part_behind t.width rest) ≡ part_of (read (content_from start l) at (drop at bits))
    fields_then =
        second_is (content_from start l) fields_read (after_fields start l) at bits (read_fields start l at (drop at bits)) t.block t.width (step_ok fields_read t e)

pub closing_few : (start l : ℕ) (b : Block) (at : ℕ) (s : List Bool) (rest : Part) → Ok rest ≡ part_of (read (after_fields start l b) at s) → part_took rest ≤ content_bits
closing_few start l b at s rest e = omega (arith, took_few (padding l) (after_fields start l b) (takes_after_fields start l b) at s rest e, few l)

-- ---- the body: 9 before the content

-- whether the length n is one of level l
abbrev pub is_length : ℕ → ℕ → Bool
is_length n l = cond (known l) (eqb n (level l).bytes) (leb n most_reserved)

module _ (start n l at : ℕ) (s : List Bool) where
  abbrev rest : Unit {0} → Syntax Name Item
  rest own = either start l n

  known-body : known l ≡ true → read (body start (pos n) (pos l)) at s ≡ cond (eqb n (level l).bytes) (read (content_from start l) at s) (no (breaks (length_rule start (pos n) l)))
  known-body h = read_own_length rest at s start n l h ∙ ap (λ (t : Bool). cond (eqb n (level l).bytes) (read (cond t (content_from start l) (reserved_content l n)) at s) (no (breaks (length_rule start (pos n) l)))) h

  reserved-body : known l ≡ false → read (body start (pos n) (pos l)) at s ≡ cond (leb n most_reserved) (read (reserved_content l n) at s) (no (breaks (length_rule start (pos n) l)))
  reserved-body h = read-reserved-length rest at s start n l h ∙ ap (λ (t : Bool). cond (leb n most_reserved) (read (cond t (content_from start l) (reserved_content l n)) at s) (no (breaks (length_rule start (pos n) l)))) h

  pub body_no : is_length n l ≡ false → Err (refused WrongLength ExtBlockLength start) ≡ part_of (read (body start (pos n) (pos l)) at s)
  body_no = go (known l) refl
    where
      go : (t : Bool) → known l ≡ t → cond t (eqb n (level l).bytes) (leb n most_reserved) ≡ false → Err (refused WrongLength ExtBlockLength start) ≡ part_of (read (body start (pos n) (pos l)) at s)
      go true h f = sym (ap part_of (known-body h) ∙ rw f refl)
      go false h f = sym (ap part_of (reserved-body h) ∙ rw f refl)

  pub body_is : is_length n l ≡ true → known l ≡ true → part_of (read (content_from start l) at s) ≡ part_of (read (body start (pos n) (pos l)) at s)
  body_is f h = sym (ap part_of (known-body h) ∙ rw (rw h at f) refl)

  pub body-reserved : is_length n l ≡ true → known l ≡ false → part_of (read (reserved_content l n) at s) ≡ part_of (read (body start (pos n) (pos l)) at s)
  body-reserved f h = sym (ap part_of (reserved-body h) ∙ rw (rw h at f) refl)

-- ---- the level, and the body

module _ (start n at : ℕ) (s : List ℕ) where
  abbrev level_read : Out Name ℕ
  level_read = u ext_block_level 8 at (drop at (bits_of s))

  pub level_no : (why : Unread) → Err why ≡ number_of (u nameless 8 at (drop at (bits_of s))) → Err (unread_of ExtBlockLevel why) ≡ part_of (read (after_length start (pos n)) at (drop at (bits_of s)))
  level_no why e =
      first_told (after_length start (pos n)) level_read (λ v. body start (pos n) (pos v)) at (bits_of s) (read-level start (pos n) at (drop at (bits_of s))) ext_block_level why
      (refused_u ext_block_level at (drop at (bits_of s)) why 8 e)

  module _ (r : Number) (e : Ok r ≡ number_of (u nameless 8 at (drop at (bits_of s)))) where
    level_is : level_read ≡ ok r.value r.width
    level_is = is_ok level_read r.value r.width (e ∙ named_u ext_block_level at (drop at (bits_of s)) 8)

    pub level_fits : (r.value < 2 ^ 8) × (r.width ≡ 8) × (at + 8 ≤ 8 * length s)
    level_fits =
        let t = u_took ext_block_level 8 at (drop at (bits_of s)) r.value r.width level_is in
        (t.1, t.0, omega (arith, t.2, length_rest s at))

    pub level_then_no : (why : Refused) → Err why ≡ part_of (read (body start (pos n) (pos r.value)) (at + r.width) (drop (at + r.width) (bits_of s))) → Err why ≡ part_of (read (after_length start (pos n)) at (drop at (bits_of s)))
    level_then_no =
        second_no (after_length start (pos n)) level_read (λ v. body start (pos n) (pos v)) at (bits_of s) (read-level start (pos n) at (drop at (bits_of s))) r.value r.width level_is

    pub level_then : (rest : Part) → Ok rest ≡ part_of (read (body start (pos n) (pos r.value)) (at + r.width) (drop (at + r.width) (bits_of s))) → Ok (part_behind r.width rest) ≡ part_of (read (after_length start (pos n)) at (drop at (bits_of s)))
    level_then =
        second_is (after_length start (pos n)) level_read (λ v. body start (pos n) (pos v)) at (bits_of s) (read-level start (pos n) at (drop at (bits_of s))) r.value r.width level_is

pub body_few : (start n l at : ℕ) (s : List Bool) (rest : Part) → Ok rest ≡ part_of (read (body start (pos n) (pos l)) at s) → part_took rest ≤ content_bits
body_few start n l = took_few content_bits (body start (pos n) (pos l)) (takes_body start (pos n) (pos l))

-- ---- the length, and the rest

module _ (at : ℕ) (bits : List Bool) where
  abbrev length_read : Out Name ℕ
  length_read = ue ext_block_length most_zeros at (drop at bits)

  pub size_no : (why : Unread) → Err why ≡ number_of (ue nameless most_zeros at (drop at bits)) → Err (unread_of ExtBlockLength why) ≡ part_of (read block at (drop at bits))
  size_no why e =
      first_told block length_read (λ v. after_length at (pos v)) at bits (read_length at (drop at bits)) ext_block_length why
      (refused_ue ext_block_length at (drop at bits) why e)

  module _ (r : Number) (e : Ok r ≡ number_of (ue nameless most_zeros at (drop at bits))) where
    length_is : length_read ≡ ok r.value r.width
    length_is = is_ok length_read r.value r.width (e ∙ named_ue ext_block_length at (drop at bits) most_zeros)

    pub size_few : r.width ≤ 2 * most_zeros + 1
    size_few = takes_length at (drop at bits) r.value r.width length_is

    pub size_then_no : (why : Refused) → Err why ≡ part_of (read (after_length at (pos r.value)) (at + r.width) (drop (at + r.width) bits)) → Err why ≡ part_of (read block at (drop at bits))
    size_then_no =
        second_no block length_read (λ v. after_length at (pos v)) at bits (read_length at (drop at bits)) r.value r.width length_is

    pub size_then : (rest : Part) → Ok rest ≡ part_of (read (after_length at (pos r.value)) (at + r.width) (drop (at + r.width) bits)) → Ok (part_behind r.width rest) ≡ part_of (read block at (drop at bits))
    size_then =
        second_is block length_read (λ v. after_length at (pos v)) at bits (read_length at (drop at bits)) r.value r.width length_is

pub level_few : (start n at : ℕ) (s : List Bool) (rest : Part) → Ok rest ≡ part_of (read (after_length start (pos n)) at s) → part_took rest ≤ 8 + content_bits
level_few start n = took_few (8 + content_bits) (after_length start (pos n)) (takes_after_length start (pos n))

-- ---- passing over

-- the bits of a reserved block are all there, or the first that is not stands at the end
module _ (l n at : ℕ) (s : List ℕ) where
  reserved-read : read (reserved_content l n) at (drop at (bits_of s)) ≡ mapped (passed l n) (read (row (reserved_bits n)) at (drop at (bits_of s)))
  unfolding reserved_content
  reserved-read = then_done (row (reserved_bits n)) (passed l n) at (drop at (bits_of s))

  pub passed_over : at + 8 * n ≤ 8 * length s → Ok (Passed (8 * n)) ≡ part_of (read (reserved_content l n) at (drop at (bits_of s)))
  passed_over h = go (bits_there ext_dm_alignment_zero_bit (8 * n) at (drop at (bits_of s)) (omega (arith, length_rest s at)))
    where
      go : (zs : List ℤ) × (read (row (reserved_bits n)) at (drop at (bits_of s)) ≡ ok zs (8 * n)) → Ok (Passed (8 * n)) ≡ part_of (read (reserved_content l n) at (drop at (bits_of s)))
      go (zs, e) = sym (ap part_of (reserved-read ∙ ap (mapped (passed l n)) e))

  pub cut_short : at ≤ 8 * length s → 8 * length s < at + 8 * n → Err (refused PastEnd ExtDmAlignmentZeroBit (8 * length s)) ≡ part_of (read (reserved_content l n) at (drop at (bits_of s)))
  cut_short b h =
      ap (λ (w : ℕ). Err (refused PastEnd ExtDmAlignmentZeroBit w)) (omega (arith, length_rest s at))
      ∙ sym (ap part_of (reserved-read ∙ ap (mapped (passed l n)) (bits_short ext_dm_alignment_zero_bit (8 * n) at (drop at (bits_of s)) (omega (arith, length_rest s at)))))
