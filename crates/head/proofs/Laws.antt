-- Laws by which reading what stands before the blocks meets its tables.
use Prim.Native.Nat.{ℕ, ◌+◌, ◌*◌, ◌<◌, ◌≤◌}
use mathlib.Core.Path.{◌≡◌, refl, ap, sym, ◌∙◌}
use mathlib.Core.List.{List, [], ◌++◌}
use mathlib.Core.Bool.{Bool, true, false, cond, not}
use native.Mathlib.Omega.{arith}
use native.Mathlib.Nat.{zero-add, add-zero}
use borrow.Author.Tests.{le-leb, lt-leb, eq-eqb, ne_eqb}
use lib.Dec.{eqb}
use lib.IntN.{ℤ, pos}
use lib.ListN.{drop}
use lib.Seq.{drop-drop}
use Rattle.std.specs.Prelude.{Result, Ok, Err}
use Rattle.refusals.specs.Refusals.{wrong_version, too_many_blocks}
use Rattle.refusals.specs.Numbered.{number_of as refusal_number, refusal_of}
use Rattle.tree.specs.Reading.{Fault, number_in, element_in, Out, ok, no, widened, u, ue, to_boundary}
use Rattle.tree.specs.Coding.{most_zeros, unsigned, variable, fixed, width_in, natural}
use Rattle.tree.specs.Syntax.{Syntax, done, any, ranged, zero_bits, alignment, read, ◌>>=◌, ◌>>◌}
use Rattle.tree.specs.Meaning.{Element, sum_of_widths, complete, Follow, Means, Breaks}
use Rattle.tree.proofs.Truth.{range_of_one}
use Rattle.tree.proofs.Elements.{codes_ue, length-ue, u_took, zeros_few}
use Rattle.tree.proofs.Meaning.{every_answer_is_true}
use Rattle.tree.proofs.Tables.{read_then, then_no}
use Rattle.tree.proofs.Steps.{read-any, read-ranged}
use Rattle.tree.proofs.Spells.{joined, alone, apart_complete, any_only, ranged_only, done_only, zeros_only}
use Rattle.tree.proofs.Accepted.{widths_zeros}
use Rattle.tree.proofs.Breaks.{breaks_done, breaks_if, breaks_then}
use Rattle.tree.proofs.Widths.{variable_width}
use Rattle.bits.specs.declared.Number.{Number}
use Rattle.bits.specs.declared.Unread.{Unread}
use Rattle.bits.specs.Answer.{nameless, number_of, span_of, unread_as}
use Rattle.bits.proofs.Reading.{is_ok, spans_ok, named_u, named_ue, named_zeros, refused_u, refused_ue, refused_zeros}
use Rattle.element.specs.declared.Element.TheVariants.{MetadataRefreshFlag, NumExtBlocks, DmAlignmentZeroBit}
use Rattle.element.specs.declared.Refused.{Refused}
use Rattle.element.specs.Refused.{refused, unread_of}
use Rattle.record.specs.Name.{Name, element_of, app_version, metadata_refresh_flag, num_ext_blocks, dm_alignment_zero_bit}
use Rattle.syntax.specs.Data.{most_announced, Head, announced, block_count, head, first_alignment}
use Rattle.syntax.specs.Element.{head_elements, open_elements}
use Rattle.syntax.specs.Reason.{Speaks}
use Rattle.syntax.specs.Told.{Tells}
use Rattle.syntax.proofs.Exact.{Announced, head_only, first_gap, first_only, opens_with}
use Rattle.syntax.proofs.Largest.{widths_head, widths_open}
use Rattle.syntax.proofs.Reasons.{grow, the_head, the_alignment}
use Rattle.syntax.proofs.Told.{part_is_named}
use Rattle.head.specs.declared.Opening.{Opening}
use Rattle.head.specs.Opening.{opening_of, opening_behind, from_flag, from_version, aligned_head, opening}

-- ---- answers

-- what an answer says of the reading that it is of
pub opening_ok : (o : Out Name Head) (h : Opening) → Ok h ≡ opening_of o → o ≡ ok (announced h.refresh h.count) h.width
opening_ok (ok g n) h e =
    let q : h ≡ record { refresh = g.refresh; count = g.count; width = n } = cc in
    rw q
opening_ok (no f) h e = cc

pub opening_no : (o : Out Name Head) (r : Refused) → Err r ≡ opening_of o → Tells o r
opening_no (ok h n) r e = cc
opening_no (no f) r e = (f, refl, cc)

-- behind bits that are taken already
abbrev behind : ℕ → Result Opening Refused → Result Opening Refused
behind n (Ok o) = Ok (opening_behind n o)
behind n (Err r) = Err r

shifted : (n : ℕ) (o : Out Name Head) → behind n (opening_of o) ≡ opening_of (widened n o)
shifted n (ok h m) = refl
shifted n (no f) = refl

-- a fault, by what is told of it
by_told : (name : Name) (why : Unread) (f : Fault Name) (o : Out Name Head) → name ≡ element_in f → why ≡ unread_as f → o ≡ no f → Err (unread_of (element_of name) why) ≡ opening_of o
by_told name why f o n w q = rw (q, n, w)

-- ---- how many bits a table takes

-- no ue(v) code has more
abbrev pub longest : ℕ
longest = 2 * most_zeros + 1

pub ue_short : (at : ℕ) (s : List Bool) (r : Number) → Ok r ≡ number_of (ue nameless most_zeros at s) → r.width ≤ longest
ue_short at s r e =
    let c = (codes_ue nameless most_zeros at).only s r.value r.width (is_ok (ue nameless most_zeros at s) r.value r.width e) in
    omega (arith, c.2, length-ue r.value, zeros_few most_zeros r.value c.0)

-- the elements by which it is followed have at most k bits
abbrev Brief : ℕ → Syntax Name Head → Type 0
Brief k p = (at : ℕ) (es : List (Element Name)) (h : Head) → Follow p at es (complete h) → sum_of_widths es ≤ k

-- so that what is read of it is no wider
pub took_few : (k : ℕ) (p : Syntax Name Head) → Brief k p → (at : ℕ) (s : List Bool) (o : Opening) → Ok o ≡ opening_of (read p at s) → o.width ≤ k
took_few k p b at s o e =
    let m : Means p at s (ok (announced o.refresh o.count) o.width) = rw (opening_ok (read p at s) o e) at (every_answer_is_true p at s) in
    omega (arith, m.3, b at m.0 (announced o.refresh o.count) m.1)

pub brief_count : Brief longest block_count
unfolding block_count sum_of_widths
brief_count at es h k =
    let m = ranged_only num_ext_blocks variable too_many_blocks (pos 0) (pos most_announced) (λ n. done (announced true (natural n))) at es h k in
    let d = done_only (announced true (natural m.0)) h (at + width_in variable m.0) m.1 m.5 in
    omega (arith, ap sum_of_widths m.2, variable_width m.0 m.3, ap sum_of_widths d.0)

pub brief_flag : Brief (1 + longest) from_flag
unfolding from_flag sum_of_widths
brief_flag at es h k =
    let m = any_only metadata_refresh_flag (fixed (unsigned 1)) (λ f. cond (eqb (natural f) 1) block_count (done (announced false 0))) at es h k in
    omega (arith, ap sum_of_widths m.all, go (eqb (natural m.value) 1) (at + 1) m.rest m.on)
  where
    go : (b : Bool) (there : ℕ) (fs : List (Element Name)) → Follow (cond b block_count (done (announced false 0))) there fs (complete h) → sum_of_widths fs ≤ longest
    go true there fs f = brief_count there fs h f
    go false there fs f = omega (arith, ap sum_of_widths (done_only (announced false 0) h there fs f).0)

pub brief_version : Brief (longest + (1 + longest)) from_version
unfolding from_version sum_of_widths
brief_version at es h k =
    let m = ranged_only app_version variable wrong_version (pos 0) (pos 0) (λ v. from_flag) at es h k in
    omega (arith, ap sum_of_widths m.2, variable_width m.0 m.3, brief_flag (at + width_in variable m.0) m.1 h m.5)

-- the head as far as num_ext_blocks
pub head_short : (s : List Bool) (h : Head) (n : ℕ) → read head 0 s ≡ ok h n → n ≤ 20
head_short s h n e =
    let m : Means head 0 s (ok h n) = rw e at (every_answer_is_true head 0 s) in
    let k = head_only 0 m.0 h m.1 in
    let few = k.0.few in
    omega (arith, m.3, ap sum_of_widths k.1, widths_head h.refresh h.count 7 (omega arith))

-- and all that stands before the blocks: at most 254 are announced
pub open_only : (es : List (Element Name)) (h : Head) → Follow opening 0 es (complete h) → Announced h × (es ≡ open_elements h.refresh h.count)
unfolding opening aligned_head
open_only es h k =
    let a = apart_complete head aligned_head 0 es h k in
    let g = a.made in
    let there = 0 + sum_of_widths a.first in
    let b = apart_complete (first_alignment g.count) (λ y. done g) there a.second h a.two in
    let d = done_only g h (there + sum_of_widths b.first) b.second b.two in
    let x = head_only 0 a.first g a.one in
    let y = first_only (eqb g.count 0) there b.first b.one in
    rw d.1 (x.0, whole g a.first a.second b.first b.second a.all x.1 b.all y d.0)
  where
    whole : (g : Head) (f1 s1 f2 s2 : List (Element Name)) → es ≡ f1 ++ s1 → f1 ≡ head_elements g.refresh g.count → s1 ≡ f2 ++ s2 → f2 ≡ first_gap (eqb g.count 0) (0 + sum_of_widths f1) → s2 ≡ []
        → es ≡ open_elements g.refresh g.count
    whole g f1 s1 f2 s2 e1 q1 e2 q2 e3 =
        let f = head_elements g.refresh g.count in
        let r : f2 ≡ first_gap (eqb g.count 0) (sum_of_widths f) = q2 ∙ rw (q1, zero-add (sum_of_widths f)) refl in
        joined es f1 s1 f (first_gap (eqb g.count 0) (sum_of_widths f)) e1 q1 (alone s1 f2 s2 (first_gap (eqb g.count 0) (sum_of_widths f)) e2 e3 r)
        ∙ sym (opens_with g.refresh g.count)

pub opening_few : (s : List Bool) (h : Head) (n : ℕ) → read opening 0 s ≡ ok h n → (h.count ≤ most_announced) × (n ≤ 24)
opening_few s h n e =
    let m : Means opening 0 s (ok h n) = rw e at (every_answer_is_true opening 0 s) in
    let k = open_only m.0 h m.1 in
    let few = k.0.few in
    (few, omega (arith, m.3, ap sum_of_widths k.1, widths_open h.refresh h.count 7 3 (omega arith) (omega arith)))

-- zero bits are as many as are asked for
pub zeros_took : (name : Name) (k at : ℕ) (s : List Bool) (n : ℕ) → read (zero_bits name k) at s ≡ ok tt n → n ≡ k
zeros_took name k at s n e =
    let m : Means (zero_bits name k) at s (ok tt n) = rw e at (every_answer_is_true (zero_bits name k) at s) in
    m.3 ∙ ap sum_of_widths (zeros_only name k at m.0 m.1) ∙ widths_zeros k name

-- ---- an element, and by what it is, what follows

-- what cannot be read is not judged
ranged_no : (name : Name) (k : ℕ) (low high : ℤ) (g : ℤ → Syntax Name Head) (at : ℕ) (s : List Bool) (f : Fault Name) → ue name most_zeros at s ≡ no f → read (ranged name variable k low high >>= g) at s ≡ no f
ranged_no name k low high g at s f e = read-ranged name variable k low high g at s ∙ rw e refl

any_no : (name : Name) (n : ℕ) (g : ℤ → Syntax Name Head) (at : ℕ) (s : List Bool) (f : Fault Name) → u name n at s ≡ no f → read (any name (fixed (unsigned n)) >>= g) at s ≡ no f
any_no name n g at s f e = read-any name (fixed (unsigned n)) g at s ∙ rw e refl

-- a ue(v) element of one value alone
module _ (name : Name) (k x : ℕ) (p : Syntax Name Head) (at : ℕ) (bits : List Bool) where
  abbrev table : Syntax Name Head
  table = ranged name variable k (pos x) (pos x) >> p

  pub one_no : (why : Unread) → Err why ≡ number_of (ue nameless most_zeros at (drop at bits)) → Err (unread_of (element_of name) why) ≡ opening_of (read table at (drop at bits))
  one_no why e =
      let s = drop at bits in
      let f = refused_ue name at s why e in
      by_told name why f.0 (read table at s) f.2 f.3 (ranged_no name k (pos x) (pos x) (λ z. p) at s f.0 f.1)

  module _ (r : Number) (e : Ok r ≡ number_of (ue nameless most_zeros at (drop at bits))) where
    stands : ue name most_zeros at (drop at bits) ≡ ok r.value r.width
    stands = is_ok (ue name most_zeros at (drop at bits)) r.value r.width (e ∙ named_ue name at (drop at bits) most_zeros)

    pub one_other : (r.value ≡ x → ⊥) → Err (refused (refusal_of k) (element_of name) at) ≡ opening_of (read table at (drop at bits))
    one_other h = sym (ap opening_of (read-ranged name variable k (pos x) (pos x) (λ z. p) at (drop at bits)) ∙ rw (stands, range_of_one x r.value, ne_eqb r.value x h) refl)

    pub one_on : r.value ≡ x → behind r.width (opening_of (read p (at + r.width) (drop (at + r.width) bits))) ≡ opening_of (read table at (drop at bits))
    one_on h =
        shifted r.width (read p (at + r.width) (drop (at + r.width) bits))
        ∙ sym (ap opening_of (read-ranged name variable k (pos x) (pos x) (λ z. p) at (drop at bits)) ∙ rw (stands, range_of_one x r.value, eq-eqb r.value x h, drop-drop r.width at bits) refl)

    module _ (h : r.value ≡ x) (there : ℕ) where
      pub one_then_no : (why : Refused) → Err why ≡ opening_of (read p there (drop there bits)) → there ≡ at + r.width → Err why ≡ opening_of (read table at (drop at bits))
      one_then_no why q t = ap (behind r.width) (rw t at q) ∙ one_on h

      pub one_then : (rest : Opening) → Ok rest ≡ opening_of (read p there (drop there bits)) → there ≡ at + r.width → Ok (opening_behind r.width rest) ≡ opening_of (read table at (drop at bits))
      one_then rest q t = ap (behind r.width) (rw t at q) ∙ one_on h

-- metadata_refresh_flag
module _ (at : ℕ) (bits : List Bool) where
  abbrev by_flag : ℕ → Syntax Name Head
  by_flag f = cond (eqb f 1) block_count (done (announced false 0))

  pub flag_no : (why : Unread) → Err why ≡ number_of (u nameless 1 at (drop at bits)) → Err (unread_of MetadataRefreshFlag why) ≡ opening_of (read from_flag at (drop at bits))
  unfolding from_flag
  flag_no why e =
      let s = drop at bits in
      let f = refused_u metadata_refresh_flag at s why 1 e in
      by_told metadata_refresh_flag why f.0 (read from_flag at s) f.2 f.3 (any_no metadata_refresh_flag 1 (λ z. by_flag (natural z)) at s f.0 f.1)

  module _ (r : Number) (e : Ok r ≡ number_of (u nameless 1 at (drop at bits))) where
    flag_is : u metadata_refresh_flag 1 at (drop at bits) ≡ ok r.value r.width
    flag_is = is_ok (u metadata_refresh_flag 1 at (drop at bits)) r.value r.width (e ∙ named_u metadata_refresh_flag at (drop at bits) 1)

    read_flag_lem : read from_flag at (drop at bits) ≡ widened r.width (read (by_flag r.value) (at + r.width) (drop (at + r.width) bits))
    unfolding from_flag
    read_flag_lem = read-any metadata_refresh_flag (fixed (unsigned 1)) (λ z. by_flag (natural z)) at (drop at bits) ∙ rw (flag_is, drop-drop r.width at bits) refl

    pub flag_one : r.width ≡ 1
    flag_one = (u_took metadata_refresh_flag 1 at (drop at bits) r.value r.width flag_is).0

    pub flag_off : (r.value ≡ 1 → ⊥) → Ok (record { refresh = false; count = 0; width = r.width }) ≡ opening_of (read from_flag at (drop at bits))
    unfolding read
    flag_off h = sym (ap opening_of read_flag_lem ∙ rw (ne_eqb r.value 1 h, add-zero r.width) refl)

    pub flag_on : r.value ≡ 1 → behind r.width (opening_of (read block_count (at + r.width) (drop (at + r.width) bits))) ≡ opening_of (read from_flag at (drop at bits))
    flag_on h = shifted r.width (read block_count (at + r.width) (drop (at + r.width) bits)) ∙ sym (ap opening_of read_flag_lem ∙ rw (eq-eqb r.value 1 h) refl)

    pub flag_then_no : r.value ≡ 1 → (why : Refused) → Err why ≡ opening_of (read block_count (at + r.width) (drop (at + r.width) bits)) → Err why ≡ opening_of (read from_flag at (drop at bits))
    flag_then_no h why q = ap (behind r.width) q ∙ flag_on h

    pub flag_then : r.value ≡ 1 → (rest : Opening) → Ok rest ≡ opening_of (read block_count (at + r.width) (drop (at + r.width) bits)) → Ok (opening_behind r.width rest) ≡ opening_of (read from_flag at (drop at bits))
    flag_then h rest q = ap (behind r.width) q ∙ flag_on h

-- num_ext_blocks
module _ (at : ℕ) (s : List Bool) where
  pub count_no : (why : Unread) → Err why ≡ number_of (ue nameless most_zeros at s) → Err (unread_of NumExtBlocks why) ≡ opening_of (read block_count at s)
  unfolding block_count
  count_no why e =
      let f = refused_ue num_ext_blocks at s why e in
      by_told num_ext_blocks why f.0 (read block_count at s) f.2 f.3 (ranged_no num_ext_blocks too_many_blocks (pos 0) (pos most_announced) (λ n. done (announced true (natural n))) at s f.0 f.1)

  module _ (r : Number) (e : Ok r ≡ number_of (ue nameless most_zeros at s)) where
    count : ue num_ext_blocks most_zeros at s ≡ ok r.value r.width
    count = is_ok (ue num_ext_blocks most_zeros at s) r.value r.width (e ∙ named_ue num_ext_blocks at s most_zeros)

    pub count_is : r.value ≤ most_announced → Ok (record { refresh = true; count = r.value; width = r.width }) ≡ opening_of (read block_count at s)
    unfolding block_count read
    count_is h = sym (ap opening_of (read-ranged num_ext_blocks variable too_many_blocks (pos 0) (pos most_announced) (λ m. done (announced true (natural m))) at s) ∙ rw (count, le-leb 0 r.value (omega arith), le-leb r.value most_announced h, add-zero r.width) refl)

    pub count_many : most_announced < r.value → Err (refused (refusal_of too_many_blocks) NumExtBlocks at) ≡ opening_of (read block_count at s)
    unfolding block_count
    count_many h = sym (ap opening_of (read-ranged num_ext_blocks variable too_many_blocks (pos 0) (pos most_announced) (λ m. done (announced true (natural m))) at s) ∙ rw (count, le-leb 0 r.value (omega arith), lt-leb r.value most_announced h) refl)

-- ---- zero bits to the next byte boundary

module _ (h : Head) (at : ℕ) (s : List Bool) where
  -- as many as the code asks for
  abbrev pub gap : ℕ
  gap = cond (not (eqb h.count 0)) (to_boundary at) 0

  first_read : (none : Bool) → read (cond none (done tt) (alignment dm_alignment_zero_bit)) at s ≡ read (zero_bits dm_alignment_zero_bit (cond (not none) (to_boundary at) 0)) at s
  unfolding read zero_bits
  first_read true = refl
  first_read false = refl

  aligned_none : (f : Fault Name) → read (zero_bits dm_alignment_zero_bit gap) at s ≡ no f → read (aligned_head h) at s ≡ no f
  unfolding aligned_head
  aligned_none f e = then_no (first_alignment h.count) (λ y. done h) at s f (first_read (eqb h.count 0) ∙ e)

  aligned-all : (n : ℕ) → read (zero_bits dm_alignment_zero_bit gap) at s ≡ ok tt n → read (aligned_head h) at s ≡ ok h n
  unfolding aligned_head read
  aligned-all n e = read_then (first_alignment h.count) (λ y. done h) at s ∙ rw (first_read (eqb h.count 0), e, add-zero n) refl

  pub aligned_no : (why : Unread) → Err why ≡ span_of (read (zero_bits nameless gap) at s) → Err (unread_of DmAlignmentZeroBit why) ≡ opening_of (read (aligned_head h) at s)
  aligned_no why e =
      let f = refused_zeros dm_alignment_zero_bit at s why gap e in
      by_told dm_alignment_zero_bit why f.0 (read (aligned_head h) at s) f.2 f.3 (aligned_none f.0 f.1)

  module _ (r : Number) (e : Ok r ≡ span_of (read (zero_bits nameless gap) at s)) where
    gap_read : read (zero_bits dm_alignment_zero_bit gap) at s ≡ ok tt r.width
    gap_read = spans_ok (read (zero_bits dm_alignment_zero_bit gap) at s) r.value r.width (e ∙ named_zeros dm_alignment_zero_bit gap at s)

    pub aligned_took : r.width ≡ gap
    aligned_took = zeros_took dm_alignment_zero_bit gap at s r.width gap_read

    pub aligned_is : Ok (record { refresh = h.refresh; count = h.count; width = r.width }) ≡ opening_of (read (aligned_head h) at s)
    aligned_is = sym (ap opening_of (aligned-all r.width gap_read))

gap_few : (none : Bool) (at : ℕ) → cond (not none) (to_boundary at) 0 ≤ 7
gap_few true at = omega arith
gap_few false at = omega arith

-- the head, and its zero bits
module _ (s : List Bool) where
  pub head_no : (r : Refused) → Err r ≡ opening_of (read head 0 s) → Err r ≡ opening_of (read opening 0 s)
  unfolding opening
  head_no r e =
      let f = opening_no (read head 0 s) r e in
      ap (λ (x : Refused). Err x) f.2 ∙ sym (ap opening_of (then_no head aligned_head 0 s f.0 f.1))

  module _ (h : Opening) (e : Ok h ≡ opening_of (read head 0 s)) where
    abbrev made : Head
    made = announced h.refresh h.count

    is_read : read head 0 s ≡ ok made h.width
    is_read = opening_ok (read head 0 s) h e

    pub head_few : h.width ≤ 20
    head_few = head_short s made h.width is_read

    -- the zero bits that the code asks for
    abbrev pub zeros : Result Number Unread
    zeros = span_of (read (zero_bits nameless (gap made h.width (drop h.width s))) h.width (drop h.width s))

    opens : behind h.width (opening_of (read (aligned_head made) h.width (drop h.width s))) ≡ opening_of (read opening 0 s)
    unfolding opening
    opens = shifted h.width (read (aligned_head made) h.width (drop h.width s)) ∙ sym (ap opening_of (read_then head aligned_head 0 s) ∙ rw (is_read, zero-add h.width) refl)

    pub open_no : (why : Unread) → Err why ≡ zeros → Err (unread_of DmAlignmentZeroBit why) ≡ opening_of (read opening 0 s)
    open_no why q = ap (behind h.width) (aligned_no made h.width (drop h.width s) why q) ∙ opens

    pub open_few : (r : Number) → Ok r ≡ zeros → r.width ≤ 7
    open_few r q = omega (arith, aligned_took made h.width (drop h.width s) r q, gap_few (eqb h.count 0) h.width)

    pub open_is : (r : Number) → Ok r ≡ zeros → Ok (record { refresh = h.refresh; count = h.count; width = h.width + r.width }) ≡ opening_of (read opening 0 s)
    open_is r q = ap (behind h.width) (aligned_is made h.width (drop h.width s) r q) ∙ opens

-- ---- the number of a refusal

-- a rule of what stands before the blocks that is broken is about elements that were read
opening_speaks : Breaks Speaks opening
unfolding opening aligned_head
opening_speaks =
    breaks_then Speaks grow head aligned_head the_head
    (λ h. breaks_then Speaks grow (first_alignment h.count) (λ y. done h) (breaks_if Speaks (eqb h.count 0) (done tt) (alignment dm_alignment_zero_bit) (breaks_done Speaks tt) the_alignment)
    (λ y. breaks_done Speaks h))

-- what stands before the blocks is refused by a number that has its own refusal
pub opening_is_named : (at : ℕ) (s : List Bool) (f : Fault Name) → read opening at s ≡ no f → refusal_number (refusal_of (number_in f)) ≡ number_in f
opening_is_named = part_is_named opening opening_speaks
