-- 02, e and f: every refusal says where and why, and says it rightly; and wherever an input fails, that is told. Of bare data, wrapped data and units.
use Prim.Native.Nat.{ℕ, suc, ◌+◌, ◌*◌, ◌/◌, ◌<◌, ◌≤◌}
use mathlib.Core.Path.{◌≡◌, refl, ap, sym, subst, ◌∙◌}
use mathlib.Core.List.{List, [], ◌∷◌, ◌++◌, append-nil}
use mathlib.Core.Bool.{Bool, true, false}
use mathlib.Core.Logic.{◌⊎◌, inl, inr}
use native.Mathlib.Omega.{arith}
use native.Mathlib.Nat.{zero-add, add-zero}
use borrow.Author.Tests.{eqb-true, eqb-false, ne_eqb, eq-eqb}
use lib.Dec.{eqb}
use lib.IntN.{pos}
use lib.ListN.{length, get_or, take, drop, length-append, take-append-drop}
use lib.Seq.{drop_at, drop-cons, length-take-le}
use Rattle.refusals.specs.Refusals.{wrapper_differs}
use Rattle.tree.specs.Bits.{bits_of, Bytes}
use Rattle.tree.specs.Reading.{Rule, meets, Fault, cut_off, overlong, breaks, number_in, offset_in, element_in, no, widened}
use Rattle.tree.specs.Coding.{unsigned, fixed, complement}
use Rattle.tree.specs.Syntax.{range_rule, left_over, read}
use Rattle.tree.specs.Meaning.{Element, sum_of_widths, all_bits, complete, awaits, broken, Follow, CutOff}
use Rattle.tree.specs.Wrapper.{wrapper_table}
use Rattle.tree.proofs.Truth.{clash}
use Rattle.tree.proofs.Lists.{bytes_take, bytes_drop}
use Rattle.tree.proofs.Breaks.{broken_is_not_met}
use Rattle.tree.proofs.Bits.{length_bits, length-code}
use Rattle.tree.proofs.Meaning.{length-all}
use Rattle.tree.proofs.Wrapper.{wrapper_end, wrapper_byte_lem}
use Rattle.tree.proofs.Stands as generic
use Rattle.bits.proofs.Reading.{widened_twice, widened_none}
use Rattle.record.specs.declared.Block.TheVariants.{Nothing, Level1, Level2, Level5}
use Rattle.element.specs.declared.Element.TheVariants.{Wrapper}
use Rattle.record.specs.Name.{Name, element_of, «end», «wrapper»}
use Rattle.valid.specs.Valid.{among}
use Rattle.syntax.specs.Data.{Data, ST2094-10_data, bare_data}
use Rattle.syntax.specs.Element.{data_elements, data_width}
use Rattle.syntax.specs.Wrapper.{wrapper_bytes, wrapped_data}
use Rattle.syntax.specs.Reason.{About, identifier, version, count, alignment_bit, block_alignment_bit, other_length, average, surplus, target, Speaks, Reason}
use Rattle.syntax.proofs.Exact.{data_spells}
use Rattle.syntax.proofs.Reasons.{the_reason_is_true, a_true_reason_is_given}
use Rattle.syntax.proofs.Wrapped.{wrapper_is_bytes, handed_on}
use Rattle.cause.specs.declared.Cause.{Cause}
use Rattle.cause.specs.Cause.{untold, range, cause_of, cause_in}
use Rattle.reader.specs.declared.Reading.{Reading}
use Rattle.reader.specs.Reading.{refused_reading, reading_of, read_bare}
use Rattle.reader.proofs.Laws.{by_told}
use Rattle.wrapper.specs.Wrapper.{read_wrapped}
use Rattle.rbsp.specs.Message.{Message}
use Rattle.sei.specs.SeiUnit.{read_unit}
use Rattle.sei.specs.Units.{Thirty, ThirtyOne, ThirtyTwo, ThirtyThree, HoldsOurs}
use Rattle.sei.proofs.Units.{gets_30, gets_31, gets_32, gets_33, ours_is_read, one_of_five}
use Rattle.promises.specs.Where.{Fails, cut_off_next, overlong_next, rule_broken, bytes_over, points_at, WrappedFails, wrapper_cut, wrapper_byte, data_behind, UnitFails, by30, by31, by32, by33, in_our_message}
use Rattle.promises.proofs.Reasons.{fault_of}
use Rattle.promises.proofs.Units.{our_message_begins}

-- ---- bare data

-- where a reason is true, the input fails as it says
reason_fails : (s : List Bool) (f : Fault Name) → Reason s f → Fails s (number_in f) (offset_in f) (cause_of f)
reason_fails s (cut_off offset name) m = rw m.5 (cut_off_next m.0 name m.2 m.1 m.3 m.4 m.6)
reason_fails s (overlong offset name) m = rw m.5 (overlong_next m.0 name m.2 m.1 m.3 m.4 m.6)
reason_fails s (breaks r) m = go m.0 m.1 m.2 m.3 m.4
  where
    go : (es : List (Element Name)) (t : List Bool) → s ≡ all_bits es ++ t → meets r ≡ false
        → (Follow ST2094-10_data 0 es (broken r) × Speaks 0 es r) ⊎ ((d : Data) × Follow ST2094-10_data 0 es (complete d) × (r ≡ left_over «end» (sum_of_widths es) t)) → Fails s r.number r.offset (cause_of (breaks r))
    go es t b h (inl k) =
        let x = k.1 in
        let o : r.offset ≡ sum_of_widths x.earlier = omega (arith, x.offset) in
        rw o (rule_broken x.earlier x.theirs r t (rw x.all at k.0) x.about o (rw x.all at b))
    go es t b h (inr k) =
        let w = data_spells.only es k.0 k.1 in
        let l : 8 ≤ length t = generic.left_over_lem «end» (sum_of_widths es) t (rw k.2 at h) in
        rw (k.2, w.1) (bytes_over k.0 t w.0 (rw w.1 at b) l)

-- and an input that fails is refused so
fails_refused : (s : List Bool) {n k : ℕ} {c : Cause} → Fails s n k c → (f : Fault Name) × (bare_data s ≡ no f) × (number_in f ≡ n) × (offset_in f ≡ k) × (cause_of f ≡ c)
fails_refused s (cut_off_next es name d t h b c) = (cut_off (sum_of_widths es) name, a_true_reason_is_given s (cut_off (sum_of_widths es) name) (es, t, d, h, b, refl, c), refl, refl, refl)
fails_refused s (overlong_next es name d t h b c) = (overlong (sum_of_widths es) name, a_true_reason_is_given s (overlong (sum_of_widths es) name) (es, t, d, h, b, refl, c), refl, refl, refl)
fails_refused s (rule_broken es theirs r t h a o b) =
    (breaks r, a_true_reason_is_given s (breaks r) (es ++ theirs, t, b, broken_is_not_met ST2094-10_data 0 (es ++ theirs) r h, inl (h, record { earlier = es; theirs = theirs; all = refl; offset = omega (arith, o); about = a })), refl, o, refl)
fails_refused s (bytes_over d t w b l) =
    (breaks (left_over «end» (data_width d) t), ap bare_data b ∙ generic.anything_behind «end» ST2094-10_data (data_elements d) d t (data_spells.takes d w) l, refl, refl, refl)

-- the answer to data with a fault
told : (s : List ℕ) (f : Fault Name) → bare_data (bits_of s) ≡ no f → refused_reading (number_in f) (offset_in f) false (cause_of f) ≡ read_bare s
told s f e = by_told (bits_of s) (number_in f) (element_of (element_in f)) (offset_in f) (f, e, refl, refl, refl) (cause_of f) (sym (ap cause_in e))

-- EVERY REFUSAL SAYS WHERE AND WHY: its offset is that at which the input fails, its cause is why, and it is not marked
pub a_refusal_says_where : (s : List ℕ) → ((read_bare s).result ≡ 0 → ⊥) → Fails (bits_of s) (read_bare s).result (read_bare s).offset (read_bare s).cause × ((read_bare s).in_wrapper ≡ false)
a_refusal_says_where s h =
    let x = fault_of (bare_data (bits_of s)) h in
    let e = told s x.0 x.1 in
    rw (← e) (reason_fails (bits_of s) x.0 (the_reason_is_true (bits_of s) x.0 x.1), refl)

-- AND WHEREVER AN INPUT FAILS, THAT IS TOLD
pub where_it_fails_is_told : (s : List ℕ) (n k : ℕ) (c : Cause) → Fails (bits_of s) n k c → read_bare s ≡ refused_reading n k false c
where_it_fails_is_told s n k c w =
    let x = fails_refused (bits_of s) w in
    sym (told s x.0 x.1) ∙ rw (x.2, x.3, x.4) refl

-- the elements that a broken rule is about begin with the one at which it points: the block's length for 9 and for a fault that is found
-- after a block, and else the element that is named
pub a_rule_points_at_its_first : (es theirs : List (Element Name)) (r : Rule Name) → About es theirs r → (e : Element Name) × (rest : List (Element Name)) × (theirs ≡ e ∷ rest) × (e.name ≡ points_at r)
unfolding among
a_rule_points_at_its_first es theirs r (identifier at z) = (_, _, refl, refl)
a_rule_points_at_its_first es theirs r (version at z) = (_, _, refl, refl)
a_rule_points_at_its_first es theirs r (count at z) = (_, _, refl, refl)
a_rule_points_at_its_first es theirs r (alignment_bit at z) = (_, _, refl, refl)
a_rule_points_at_its_first es theirs r (block_alignment_bit at z) = (_, _, refl, refl)
a_rule_points_at_its_first es theirs r (other_length at n l) = (_, _, refl, refl)
a_rule_points_at_its_first es theirs r (average at min max avg) = (_, _, refl, refl)
a_rule_points_at_its_first es theirs r (surplus at (Level1 min max avg) opening is e f) = (_, _, refl, refl)
a_rule_points_at_its_first es theirs r (surplus at (Level2 t s o p c g m) opening is e f) = (_, _, refl, refl)
a_rule_points_at_its_first es theirs r (surplus at (Level5 l y t b) opening is e f) = (_, _, refl, refl)
a_rule_points_at_its_first es theirs r (surplus at Nothing opening is e f) = let z : ◌≡◌ {A = ℕ} 0 1 = cc in clash z
a_rule_points_at_its_first es theirs r (target at t s o p c g m opening is e f h) = (_, _, refl, refl)

-- each zero bit and each bit of a reserved block is an element of its own: a missing one is told at the end of the data
pub a_missing_bit_is_told_at_the_end : (s : List ℕ) (es : List (Element Name)) (name : Name) (t : List Bool) → Follow ST2094-10_data 0 es (awaits name (fixed (unsigned 1)))
    → bits_of s ≡ all_bits es ++ t → CutOff (fixed (unsigned 1)) t → read_bare s ≡ refused_reading 1 (8 * length s) false (untold (element_of name))
a_missing_bit_is_told_at_the_end s es name t h b c =
    let none : length t ≡ 0 = omega (arith, c.some, ap length c.begun, length-append t c.missing, length-code 1 (complement 1 c.value)) in
    let all : sum_of_widths es ≡ 8 * length s = omega (arith, ap length b, length-append (all_bits es) t, length-all es, length_bits s) in
    where_it_fails_is_told s 1 (sum_of_widths es) (untold (element_of name)) (cut_off_next es name (fixed (unsigned 1)) t h b c) ∙ ap (λ (k : ℕ). refused_reading 1 k false (untold (element_of name))) all

-- ---- wrapped data

-- how bytes begin, beside those of ws: with all of them; with the first n, and there they end; or with the first n and another
abbrev pub Begins : List ℕ → List ℕ → Type 0
Begins ws s =
    ((t : List ℕ) × (s ≡ ws ++ t)) ⊎ (((n : ℕ) × (n < length ws) × (s ≡ take n ws)) ⊎ ((n b : ℕ) × (t : List ℕ) × (n < length ws) × (s ≡ take n ws ++ (b ∷ t)) × (b ≡ get_or ws n 0 → ⊥)))

pub begins : (ws s : List ℕ) → Begins ws s
begins [] s = inl (s, refl)
begins (w ∷ ws) [] = inr (inl (0, omega arith, refl))
begins (w ∷ ws) (b ∷ s) = go (begins ws s) (eqb b w) refl
  where
    go : Begins ws s → (q : Bool) → eqb b w ≡ q → Begins (w ∷ ws) (b ∷ s)
    go x false q = inr (inr (0, b, s, omega arith, refl, eqb-false b w q))
    go (inl (t, e)) true q = inl (t, rw (eqb-true b w q, e))
    go (inr (inl (n, l, e))) true q = inr (inl (suc n, omega arith, rw (eqb-true b w q, e)))
    go (inr (inr (n, c, t, l, e, d))) true q = inr (inr (suc n, c, t, omega arith, rw (eqb-true b w q, e), d))

-- bytes of the wrapper that are there are passed
passed_bytes : (ws vs u : List ℕ) (at : ℕ) → Bytes ws → read (wrapper_table «wrapper» (ws ++ vs)) at (bits_of (ws ++ u)) ≡ widened (8 * length ws) (read (wrapper_table «wrapper» vs) (at + 8 * length ws) (bits_of u))
passed_bytes [] vs u at h = rw (add-zero at) (sym (widened_none (read (wrapper_table «wrapper» vs) at (bits_of u))))
passed_bytes (w ∷ ws) vs u at h =
    let p : at + 8 + 8 * length ws ≡ at + 8 * suc (length ws) = omega arith in
    let q : 8 + 8 * length ws ≡ 8 * suc (length ws) = omega arith in
    wrapper_byte_lem «wrapper» w (ws ++ vs) at w (ws ++ u) h.0
    ∙ rw (eq-eqb w w refl) (ap (widened 8) (passed_bytes ws vs u (at + 8) h.1) ∙ widened_twice 8 (8 * length ws) (read (wrapper_table «wrapper» vs) (at + 8 + 8 * length ws) (bits_of u)) ∙ rw (p, q) refl)

-- behind the first n bytes of the wrapper
module _ (n : ℕ) (l : n < 8) where
  abbrev first : List ℕ
  first = take n wrapper_bytes

  abbrev next : ℕ
  next = get_or wrapper_bytes n 0

  as_many : length first ≡ n
  as_many = length-take-le n wrapper_bytes (omega arith)

  behind_first : (u : List ℕ) → read (wrapper_table «wrapper» wrapper_bytes) 0 (bits_of (first ++ u)) ≡ widened (8 * n) (read (wrapper_table «wrapper» (next ∷ drop (suc n) wrapper_bytes)) (8 * n) (bits_of u))
  behind_first u =
      let split : wrapper_bytes ≡ first ++ (next ∷ drop (suc n) wrapper_bytes) = sym (take-append-drop n wrapper_bytes) ∙ ap (λ (r : List ℕ). first ++ r) (drop-cons wrapper_bytes n 0 l) in
      ap (λ (ws : List ℕ). read (wrapper_table «wrapper» ws) 0 (bits_of (first ++ u))) split
      ∙ passed_bytes first (next ∷ drop (suc n) wrapper_bytes) u 0 (bytes_take n wrapper_bytes wrapper_is_bytes)
      ∙ rw (as_many, zero-add (8 * n)) refl

  pub in_bytes : 8 * n / 8 ≡ n
  in_bytes = omega arith

  -- a fault there is that of the whole
  of_the_whole : (s : List ℕ) (f : Fault Name) → read (wrapper_table «wrapper» wrapper_bytes) 0 (bits_of s) ≡ no f → wrapped_data (bits_of s) ≡ no f
  of_the_whole s f e = rw e refl

  pub missing_fault : (s : List ℕ) → s ≡ first → wrapped_data (bits_of s) ≡ no (cut_off (8 * n) «wrapper»)
  missing_fault s e =
      of_the_whole s (cut_off (8 * n) «wrapper»)
      (ap (λ (x : List ℕ). read (wrapper_table «wrapper» wrapper_bytes) 0 (bits_of x)) (e ∙ sym (append-nil first)) ∙ behind_first [] ∙ ap (widened (8 * n)) (wrapper_end «wrapper» next (drop (suc n) wrapper_bytes) (8 * n)))

  pub differs_fault : (s : List ℕ) → Bytes s → (b : ℕ) (t : List ℕ) → s ≡ first ++ (b ∷ t) → (b ≡ next → ⊥) → wrapped_data (bits_of s) ≡ no (breaks (range_rule «wrapper» wrapper_differs (pos next) (pos next) (8 * n) (pos b)))
  differs_fault s h b t e d =
      let small : Bytes (b ∷ t) = subst Bytes (ap (drop n) e ∙ drop_at first (b ∷ t) n as_many) (bytes_drop n s h) in
      let f : Fault Name = breaks (range_rule «wrapper» wrapper_differs (pos next) (pos next) (8 * n) (pos b)) in
      let one : read (wrapper_table «wrapper» (next ∷ drop (suc n) wrapper_bytes)) (8 * n) (bits_of (b ∷ t)) ≡ no f =
      wrapper_byte_lem «wrapper» next (drop (suc n) wrapper_bytes) (8 * n) b t small.0 ∙ rw (ne_eqb b next d) refl in
      of_the_whole s f (ap (λ (x : List ℕ). read (wrapper_table «wrapper» wrapper_bytes) 0 (bits_of x)) e ∙ behind_first (b ∷ t) ∙ ap (widened (8 * n)) one)

  -- and it is told by its byte
  missing_told : (s : List ℕ) → s ≡ first → read_wrapped s ≡ refused_reading 1 n true (untold Wrapper)
  missing_told s e = rw (missing_fault s e, in_bytes) refl

  differs_told : (s : List ℕ) → Bytes s → (b : ℕ) (t : List ℕ) → s ≡ first ++ (b ∷ t) → (b ≡ next → ⊥) → read_wrapped s ≡ refused_reading 3 n true (range Wrapper b next next)
  differs_told s h b t e d = rw (differs_fault s h b t e d, in_bytes) refl

-- data behind the wrapper
behind_is : (s t : List ℕ) → s ≡ wrapper_bytes ++ t → read_wrapped s ≡ read_bare t
behind_is s t e = ap read_wrapped e ∙ ap reading_of (handed_on t)

pub where_wrapped_data_fails_is_told : (s : List ℕ) → Bytes s → (n k : ℕ) (mark : Bool) (c : Cause) → WrappedFails s n k mark c → read_wrapped s ≡ refused_reading n k mark c
where_wrapped_data_fails_is_told s h n k mark c w = go w
  where
    go : {n k : ℕ} {mark : Bool} {c : Cause} → WrappedFails s n k mark c → read_wrapped s ≡ refused_reading n k mark c
    go (wrapper_cut i l e) = missing_told i l s e
    go (wrapper_byte i b t l e d) = differs_told i l s h b t e d
    go (data_behind t {number} {offset} {c} e f) = behind_is s t e ∙ where_it_fails_is_told t number offset c f

pub a_wrapped_refusal_says_where : (s : List ℕ) → Bytes s → ((read_wrapped s).result ≡ 0 → ⊥) → WrappedFails s (read_wrapped s).result (read_wrapped s).offset (read_wrapped s).in_wrapper (read_wrapped s).cause
a_wrapped_refusal_says_where s h n = go (begins wrapper_bytes s)
  where
    go : Begins wrapper_bytes s → WrappedFails s (read_wrapped s).result (read_wrapped s).offset (read_wrapped s).in_wrapper (read_wrapped s).cause
    go (inl (t, e)) =
        let q = behind_is s t e in
        let x = a_refusal_says_where t (λ z. n (ap (λ (r : Reading). r.result) q ∙ z)) in
        rw (q, x.1) (data_behind t e x.0)
    go (inr (inl (i, l, e))) = rw (missing_told i l s e) (wrapper_cut i l e)
    go (inr (inr (i, b, t, l, e, d))) = rw (differs_told i l s h b t e d) (wrapper_byte i b t l e d)

-- ---- a unit

pub where_a_unit_fails_is_told : (u : List ℕ) → Bytes u → (n k : ℕ) (c : Cause) → UnitFails u n k c → read_unit u ≡ refused_reading n k false c
where_a_unit_fails_is_told u h n k c w = go w
  where
    go : {n k : ℕ} {c : Cause} → UnitFails u n k c → read_unit u ≡ refused_reading n k false c
    go (by30 t) = gets_30 u t
    go (by31 t) = gets_31 u h t
    go (by32 t) = gets_32 u h t
    go (by33 t) = gets_33 u h t
    go (in_our_message m t {number} {offset} {c} o e f) = ours_is_read u h m o ∙ behind_is m.content t e ∙ where_it_fails_is_told t number offset c f

pub a_refused_unit_says_where : (u : List ℕ) → Bytes u → ((read_unit u).result ≡ 0 → ⊥) → UnitFails u (read_unit u).result (read_unit u).offset (read_unit u).cause × ((read_unit u).in_wrapper ≡ false)
a_refused_unit_says_where u h n = go (one_of_five u h)
  where
    go : Thirty u ⊎ (ThirtyOne u ⊎ (ThirtyTwo u ⊎ (ThirtyThree u ⊎ ((m : Message) × HoldsOurs u m)))) → UnitFails u (read_unit u).result (read_unit u).offset (read_unit u).cause × ((read_unit u).in_wrapper ≡ false)
    go (inl t) = rw (gets_30 u t) (by30 t, refl)
    go (inr (inl t)) = rw (gets_31 u h t) (by31 t, refl)
    go (inr (inr (inl t))) = rw (gets_32 u h t) (by32 t, refl)
    go (inr (inr (inr (inl t)))) = rw (gets_33 u h t) (by33 t, refl)
    go (inr (inr (inr (inr (m, o))))) =
        let e = our_message_begins m o.first.ours in
        let q = ours_is_read u h m o ∙ behind_is m.content (drop 8 m.content) e in
        let x = a_refusal_says_where (drop 8 m.content) (λ z. n (ap (λ (r : Reading). r.result) q ∙ z)) in
        rw q (in_our_message m (drop 8 m.content) o e x.0, x.1)
