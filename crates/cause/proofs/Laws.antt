-- What stands from a refusal's offset on shows its cause: row by row of the table of reasons.
use Prim.Native.Nat.{ℕ, zero, suc, ◌+◌, ◌/◌, ◌^◌, ◌<◌, ◌≤◌}
use mathlib.Core.Path.{◌≡◌, refl, ap, sym, ◌∙◌, subst}
use mathlib.Core.List.{List, [], ◌∷◌, ◌++◌, append_assoc}
use mathlib.Core.Bool.{Bool, true, false}
use mathlib.Core.Logic.{inl, inr}
use native.Mathlib.Omega.{arith}
use borrow.Author.Tests.{ltb-true, eqb-false, ne_eqb, lt-leb}
use lib.Dec.{ltb, leb, eqb}
use lib.IntN.{ℤ, pos, negsuc}
use lib.ListN.{length, take, drop, replicate, length-append}
use lib.Seq.{drop-drop, drop_at}
use Rattle.std.specs.Prelude.{Ok}
use Rattle.refusals.specs.Refusals.{too_many_zeros}
use Rattle.refusals.specs.Numbered.{number_of, refusal_of}
use Rattle.refusals.specs.declared.Refusal.{Refusal}
use Rattle.refusals.specs.declared.Refusal.TheVariants.{PastEnd, TooManyZeros, NotZero, BytesRemain}
use Rattle.refusals.proofs.Numbered.{each_has_its_own_number}
use Rattle.tree.specs.Bits.{code, value}
use Rattle.tree.specs.Codes.{ue_code}
use Rattle.tree.specs.Reading.{Rule, meets, Fault, cut_off, overlong, breaks, number_in, offset_in, element_in, ok, no, ue}
use Rattle.tree.specs.Coding.{most_zeros, unsigned, variable, fixed, holds_in, natural}
use Rattle.tree.specs.Syntax.{range_rule, left_over}
use Rattle.tree.specs.Meaning.{Element, zero_bit, field_elements, sum_of_widths, all_bits, broken}
use Rattle.tree.proofs.Truth.{clash, range_of_one}
use Rattle.tree.proofs.Bits.{length-code}
use Rattle.tree.proofs.Elements.{codes_ue, length-ue, zeros_few}
use Rattle.tree.proofs.Meaning.{all_bits-append}
use Rattle.tree.proofs.Held.{AllHeld, follow_held, held_later, behind_elements, bits_first, front_number, front_rest}
use Rattle.bits.specs.declared.Number.{Number}
use Rattle.bits.specs.Answer.{nameless, read_as, number_of as read_number}
use Rattle.element.specs.declared.Element.TheVariants.{ExtBlockLength, ExtBlockLevel, AvgPq, TargetMaxPq, DmAlignmentZeroBit, ExtDmAlignmentZeroBit}
use Rattle.element.specs.declared.Refused.{Refused}
use Rattle.record.specs.declared.Block.{Block}
use Rattle.record.specs.declared.Block.TheVariants.{Nothing, Level1, Level2, Level5}
use Rattle.record.specs.Name.{Name, element_of, app_identifier, app_version, num_ext_blocks, ext_block_length, ext_block_level, min_PQ, max_PQ, avg_PQ, target_max_PQ, ext_dm_alignment_zero_bit, «end»}
use Rattle.record.specs.Level.{level, level_of, fields_of, values_of, padding}
use Rattle.syntax.specs.Data.{lengths, bare_data, ST2094-10_data}
use Rattle.syntax.specs.Element.{variable_element, fixed_element, block_elements}
use Rattle.syntax.specs.Reason.{About, identifier, version, count, alignment_bit, block_alignment_bit, other_length, average, surplus, target, Reason}
use Rattle.syntax.specs.Told.{Tells}
use Rattle.syntax.proofs.Reasons.{the_reason_is_true}
use Rattle.syntax.proofs.Told.{each_is_named}
use Rattle.cause.specs.Cause.{range, other, cause_by, cause_of, cause_in}
use Rattle.cause.specs.Shown.{number_behind, ShownCode, Shown}

-- a u(w) of the number v, and u behind it
pub record Fronts (w v : ℕ) (x u : List Bool) : Type 0 where
  pub number : value (take w x) ≡ v
  pub rest : drop w x ≡ u
  pub long : length x ≡ w + length u

fronts : (w v : ℕ) (x u : List Bool) → x ≡ code w v ++ u → v < 2 ^ w → Fronts w v x u
fronts w v x u e h = rw e (record { number = front_number w v u h; rest = front_rest w v u; long = length-append (code w v) u ∙ ap (λ (n : ℕ). n + length u) (length-code w v) })

-- an element of a fixed width, behind which others stand and then t
first_fronts : (w : ℕ) (n : Name) (v : ℕ) (es : List (Element Name)) (t : List Bool) → ltb v (2 ^ w) ≡ true → Fronts w v (all_bits (fixed_element w n v ∷ es) ++ t) (all_bits es ++ t)
first_fronts w n v es t h = fronts w v (all_bits (fixed_element w n v ∷ es) ++ t) (all_bits es ++ t) (bits_first (fixed_element w n v) es t) (ltb-true v (2 ^ w) h)

-- behind a block's level: its fields and zero bits
abbrev zeros_of : ℕ → List (Element Name)
zeros_of l = replicate (padding l) (zero_bit ext_dm_alignment_zero_bit)

abbrev fields_then : Block → List (Element Name)
fields_then b = field_elements (fields_of (level_of b)) (values_of b) ++ zeros_of (level_of b)

-- behind its length: its level too, and what stands behind the block
abbrev after_length : Block → List Bool → List Bool
after_length b t = all_bits (fixed_element 8 ext_block_level (level_of b) ∷ fields_then b) ++ t

length_then_lem : (b : Block) (t : List Bool) → all_bits (block_elements b) ++ t ≡ ue_code (level (level_of b)).bytes ++ after_length b t
length_then_lem b t = bits_first (variable_element ext_block_length (level (level_of b)).bytes) (fixed_element 8 ext_block_level (level_of b) ∷ fields_then b) t

-- 17, 18, 19
surplus_shown : (b : Block) (t : List Bool) → AllHeld (block_elements b) → (8 ≤ length (after_length b t)) × (other ExtBlockLevel (level_of b) ≡ other ExtBlockLevel (number_behind 0 8 (after_length b t)))
surplus_shown b t h =
    let f = first_fronts 8 ext_block_level (level_of b) (fields_then b) t h.1.0 in
    (omega (arith, f.long), ap (other ExtBlockLevel) (sym f.number))

-- 10
average_shown : (min max avg : ℕ) (t : List Bool) → AllHeld (block_elements (Level1 min max avg))
    → (8 ≤ length (after_length (Level1 min max avg) t)) × ((44 ≤ length (after_length (Level1 min max avg) t)) × (range AvgPq avg min max ≡ range AvgPq (number_behind 32 12 (after_length (Level1 min max avg) t)) (number_behind 8 12 (after_length (Level1 min max avg) t)) (number_behind 20 12 (after_length (Level1 min max avg) t))))
unfolding field_elements
average_shown min max avg t h =
    let x = after_length (Level1 min max avg) t in
    let third = fixed_element 12 avg_PQ avg ∷ zeros_of 1 in
    let second = fixed_element 12 max_PQ max ∷ third in
    let f = first_fronts 8 ext_block_level 1 (fixed_element 12 min_PQ min ∷ second) t h.1.0 in
    let a = first_fronts 12 min_PQ min second t h.1.1.0 in
    let b = first_fronts 12 max_PQ max third t h.1.1.1.0 in
    let c = first_fronts 12 avg_PQ avg (zeros_of 1) t h.1.1.1.1.0 in
    let d = sym (drop-drop 12 8 x) ∙ ap (drop 12) f.rest ∙ a.rest in
    let e = sym (drop-drop 12 20 x) ∙ ap (drop 12) d ∙ b.rest in (
      omega (arith, f.long),
      (omega (arith, f.long, a.long, b.long, c.long), sym (rw (f.rest, d, e, a.number, b.number, c.number) refl)),
    )

-- 11
target_shown : (t s o p c g : ℕ) (m : ℤ) (r : List Bool) → AllHeld (block_elements (Level2 t s o p c g m))
    → (8 ≤ length (after_length (Level2 t s o p c g m) r)) × ((20 ≤ length (after_length (Level2 t s o p c g m) r)) × (other TargetMaxPq t ≡ other TargetMaxPq (number_behind 8 12 (after_length (Level2 t s o p c g m) r))))
unfolding field_elements
target_shown t s o p c g m r h =
    let others = field_elements (drop 1 (fields_of 2)) (pos s ∷ pos o ∷ pos p ∷ pos c ∷ pos g ∷ m ∷ []) ++ zeros_of 2 in
    let f = first_fronts 8 ext_block_level 2 (fixed_element 12 target_max_PQ t ∷ others) r h.1.0 in
    let a = first_fronts 12 target_max_PQ t others r h.1.1.0 in
    (omega (arith, f.long), (omega (arith, f.long, a.long), ap (other TargetMaxPq) (sym (ap (λ (l : List Bool). value (take 12 l)) f.rest ∙ a.number))))

-- a zero bit that is none is a one
one : (z : ℤ) → holds_in (fixed (unsigned 1)) z ≡ true → meets (range_rule «end» 7 (pos 0) (pos 0) 0 z) ≡ false → natural z ≡ 1
one (pos v) h m = omega (arith, ltb-true v 2 h, eqb-false v 0 (sym (range_of_one 0 v) ∙ m))
one (negsuc v) h m = let z : ◌≡◌ {A = ℕ} 0 1 = cc in clash z

-- every row of the table
rule_shown : (earlier theirs : List (Element Name)) (r : Rule Name) (t : List Bool) → About earlier theirs r → AllHeld theirs → meets r ≡ false → Shown r.number (all_bits theirs ++ t) (element_of r.element) (cause_of (breaks r))
unfolding all_bits
rule_shown earlier theirs r t (identifier at (pos v)) h m = (v, t, bits_first (variable_element app_identifier v) [] t, h.0, refl)
rule_shown earlier theirs r t (identifier at (negsuc v)) h m = let z : ◌≡◌ {A = ℕ} 0 1 = cc in clash z
rule_shown earlier theirs r t (version at (pos v)) h m = (v, t, bits_first (variable_element app_version v) [] t, h.0, refl)
rule_shown earlier theirs r t (version at (negsuc v)) h m = let z : ◌≡◌ {A = ℕ} 0 1 = cc in clash z
rule_shown earlier theirs r t (count at (pos v)) h m = (v, t, bits_first (variable_element num_ext_blocks v) [] t, h.0, refl)
rule_shown earlier theirs r t (count at (negsuc v)) h m = let z : ◌≡◌ {A = ℕ} 0 1 = cc in clash z
rule_shown earlier theirs r t (alignment_bit at z) h m = ap (λ (v : ℕ). range DmAlignmentZeroBit v 0 0) (one z h.0 m)
rule_shown earlier theirs r t (block_alignment_bit at z) h m = ap (λ (v : ℕ). range ExtDmAlignmentZeroBit v 0 0) (one z h.0 m)
rule_shown earlier theirs r t (other_length at (pos n) (pos l)) h m =
    let f = first_fronts 8 ext_block_level l [] t h.1.0 in
    let x = all_bits (fixed_element 8 ext_block_level l ∷ []) ++ t in
    let long : 8 ≤ length x = omega (arith, f.long) in
    (n, x, bits_first (variable_element ext_block_length n) (fixed_element 8 ext_block_level l ∷ []) t, h.0, (long, ap (λ (k : ℕ). cause_by ExtBlockLength n (lengths k)) (sym f.number)))
rule_shown earlier theirs r t (other_length at (pos n) (negsuc l)) h m = let z : ◌≡◌ {A = ℕ} 0 1 = cc in clash z
rule_shown earlier theirs r t (other_length at (negsuc n) l) h m = let z : ◌≡◌ {A = ℕ} 0 1 = cc in clash z
rule_shown earlier theirs r t (average at min max avg) h m = (5, after_length (Level1 min max avg) t, length_then_lem (Level1 min max avg) t, refl, average_shown min max avg t h)
rule_shown earlier theirs r t (surplus at Nothing opening is e f) h m = let z : ◌≡◌ {A = ℕ} 0 1 = cc in clash z
rule_shown earlier theirs r t (surplus at (Level1 min max avg) opening is e f) h m = (5, after_length (Level1 min max avg) t, length_then_lem (Level1 min max avg) t, refl, surplus_shown (Level1 min max avg) t h)
rule_shown earlier theirs r t (surplus at (Level2 v s o p c g w) opening is e f) h m = (11, after_length (Level2 v s o p c g w) t, length_then_lem (Level2 v s o p c g w) t, refl, surplus_shown (Level2 v s o p c g w) t h)
rule_shown earlier theirs r t (surplus at (Level5 a b c d) opening is e f) h m = (7, after_length (Level5 a b c d) t, length_then_lem (Level5 a b c d) t, refl, surplus_shown (Level5 a b c d) t h)
rule_shown earlier theirs r t (target at v s o p c g w opening is e f k) h m = (11, after_length (Level2 v s o p c g w) t, length_then_lem (Level2 v s o p c g w) t, refl, target_shown v s o p c g w t h)

-- what stands behind the earlier elements
after : (earlier theirs : List (Element Name)) (t : List Bool) → drop (sum_of_widths earlier) ((all_bits earlier ++ all_bits theirs) ++ t) ≡ all_bits theirs ++ t
after earlier theirs t = ap (drop (sum_of_widths earlier)) (append_assoc (all_bits earlier) (all_bits theirs) t) ∙ behind_elements earlier (all_bits theirs ++ t)

-- 12
bytes_over_lem : (t : List Bool) (at : ℕ) → meets (left_over «end» at t) ≡ false → 8 ≤ length t
bytes_over_lem t at m = let n = eqb-false (length t / 8) 0 (sym (range_of_one 0 (length t / 8)) ∙ m) in omega (arith, n)

-- THE LAW: from its offset on, the input shows why it is refused
pub cause_is_shown : (s : List Bool) (f : Fault Name) → bare_data s ≡ no f → Shown (number_in f) (drop (offset_in f) s) (element_of (element_in f)) (cause_of f)
cause_is_shown s f e = go f (the_reason_is_true s f e)
  where
    over : (es : List (Element Name)) (t : List Bool) (r : Rule Name) → s ≡ all_bits es ++ t → meets r ≡ false → r ≡ left_over «end» (sum_of_widths es) t → Shown r.number (drop r.offset s) (element_of r.element) (cause_of (breaks r))
    over es t r b m q =
        let x : meets (left_over «end» (sum_of_widths es) t) ≡ false = rw q at m in
        let y : Shown 12 t (element_of «end») (cause_of (breaks (left_over «end» (sum_of_widths es) t))) = (bytes_over_lem t (sum_of_widths es) x, refl) in
        rw (q, b, behind_elements es t) y

    go : (f : Fault Name) → Reason s f → Shown (number_in f) (drop (offset_in f) s) (element_of (element_in f)) (cause_of f)
    go (cut_off at n) m = refl
    go (overlong at n) m = refl
    go (breaks r) (es, t, b, bad, inl k) =
        let sp = k.1 in
        let o : r.offset ≡ sum_of_widths sp.earlier = omega (arith, sp.offset) in
        let d : drop r.offset s ≡ all_bits sp.theirs ++ t = rw (o, b, sp.all, all_bits-append sp.earlier sp.theirs) (after sp.earlier sp.theirs t) in
        let held = held_later sp.earlier sp.theirs (subst AllHeld sp.all (follow_held ST2094-10_data 0 es (broken r) k.0)) in
        rw d (rule_shown sp.earlier sp.theirs r t sp.about held bad)
    go (breaks r) (es, t, b, bad, inr k) = over es t r b bad k.2

-- as the code knows it
pub told_is_shown : (s : List Bool) (why : Refused) → Tells (bare_data s) why → Shown (number_of why.refusal) (drop why.offset s) why.element (cause_in (bare_data s))
told_is_shown s why (f, q, t) = rw (t, each_is_named s f q, ap cause_in q) (cause_is_shown s f q)

-- ---- a code that is read again

pub code_again : (bits : List Bool) (at v : ℕ) (t : List Bool) → bits ≡ ue_code v ++ t → holds_in variable (pos v) ≡ true → (ue nameless most_zeros at bits ≡ ok v (length (ue_code v))) × (drop (length (ue_code v)) bits ≡ t)
code_again bits at v t e h = rw e ((codes_ue nameless most_zeros at).takes v (ltb-true (v + 1) (2 ^ suc most_zeros) h) t, drop_at (ue_code v) t (length (ue_code v)) refl)

pub code_short : (v : ℕ) → holds_in variable (pos v) ≡ true → length (ue_code v) ≤ 63
code_short v h = omega (arith, length-ue v, zeros_few most_zeros v (ltb-true (v + 1) (2 ^ suc most_zeros) h))

-- refusals but for these have other numbers
other_number : (r t : Refusal) → (r ≡ t → ⊥) → eqb (number_of r) (number_of t) ≡ false
other_number r t n = ne_eqb (number_of r) (number_of t) (λ e. n (sym (each_has_its_own_number r) ∙ ap refusal_of e ∙ each_has_its_own_number t))

later_number : (r : Refusal) → (r ≡ PastEnd → ⊥) → (r ≡ TooManyZeros → ⊥) → leb (number_of r) too_many_zeros ≡ false
later_number r x y = go (number_of r) (each_has_its_own_number r)
  where
    go : (n : ℕ) → refusal_of n ≡ r → leb n too_many_zeros ≡ false
    go zero e = absurd (x (sym e))
    go (suc zero) e = absurd (x (sym e))
    go (suc (suc zero)) e = absurd (y (sym e))
    go (suc (suc (suc n))) e = lt-leb (suc (suc (suc n))) too_many_zeros (omega arith)

-- a refusal's code: it is read again, and what stands behind it shows the cause
pub record Coded (s : List Bool) (why : Refused) : Type 0 where
  pub code : Number
  pub again : read_number (ue nameless most_zeros why.offset (drop why.offset s)) ≡ Ok code
  pub short : code.width ≤ 63
  pub shown : ShownCode (number_of why.refusal) code.value (drop (why.offset + code.width) s) why.element (cause_in (bare_data s))

coded : (s : List Bool) (why : Refused) (v : ℕ) (t : List Bool) → drop why.offset s ≡ ue_code v ++ t → holds_in variable (pos v) ≡ true → ShownCode (number_of why.refusal) v t why.element (cause_in (bare_data s)) → Coded s why
coded s why v t e h shown =
    let there = code_again (drop why.offset s) why.offset v t e h in
    let behind = sym (drop-drop (length (ue_code v)) why.offset s) ∙ there.1 in
    record { code = read_as v (length (ue_code v)); again = ap read_number there.0; short = code_short v h; shown = rw behind shown }

pub a_code : (s : List Bool) (why : Refused) → Tells (bare_data s) why → (why.refusal ≡ PastEnd → ⊥) → (why.refusal ≡ TooManyZeros → ⊥) → (why.refusal ≡ NotZero → ⊥) → (why.refusal ≡ BytesRemain → ⊥) → Coded s why
a_code s why h x y z w =
    let r = why.refusal in
    let (v, t, e, held, shown) = rw (later_number r x y, other_number r NotZero z, other_number r BytesRemain w) at (told_is_shown s why h) in
    coded s why v t e held shown

-- ---- a block that is read again

-- bits behind k others from a position on stand k further
pub further : (k n at : ℕ) (bits : List Bool) → number_behind k n (drop at bits) ≡ value (take n (drop (at + k) bits))
further k n at bits = ap (λ (l : List Bool). value (take n l)) (drop-drop k at bits)
