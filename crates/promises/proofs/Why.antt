-- 02, f: the text that is written for a refused input is true of it, and no other text is.
use Prim.Native.Nat.{ℕ, ◌*◌, ◌/◌, ◌≤◌}
use mathlib.Core.Path.{◌≡◌, refl, ap, sym, ◌∙◌, subst}
use mathlib.Core.List.{List, [], ◌++◌, append_assoc, append-nil}
use mathlib.Core.Bool.{Bool, true, false}
use mathlib.Core.Logic.{◌⊎◌, inl, inr}
use native.Mathlib.Omega.{arith}
use lib.IntN.{pos}
use lib.ListN.{length, get_or}
use Rattle.refusals.specs.Refusals.{wrapper_differs}
use Rattle.tree.specs.Bits.{bits_of, Bytes}
use Rattle.tree.specs.Reading.{between, Rule, meets, Fault, cut_off, overlong, breaks, number_in, offset_in, Out, ok, no}
use Rattle.tree.specs.Syntax.{range_rule, left_over}
use Rattle.tree.specs.Meaning.{Element, sum_of_widths, all_bits, complete, broken, Follow}
use Rattle.tree.proofs.Truth.{clash}
use Rattle.tree.proofs.Codes.{same_no}
use Rattle.tree.proofs.Stands as generic
use Rattle.text.specs.Text.{ascii, size_within, digits, line, line_text}
use Rattle.name.specs.Name.{name_of}
use Rattle.record.specs.Name.{Name, element_of, «end», «wrapper»}
use Rattle.valid.specs.Valid.{among}
use Rattle.syntax.specs.Data.{Data, ST2094-10_data, bare_data}
use Rattle.syntax.specs.Element.{data_elements, data_width}
use Rattle.syntax.specs.Wrapper.{wrapper_bytes, told_at, wrapped_data}
use Rattle.syntax.specs.Reason.{Speaks, Reason, wrapped_numbers}
use Rattle.syntax.proofs.Exact.{data_spells}
use Rattle.syntax.proofs.Reasons.{the_reason_is_true, a_true_reason_is_given, the_named_element_is_there}
use Rattle.syntax.proofs.Named.{told_in_bits}
use Rattle.syntax.proofs.Wrapped.{handed_on, wrapped_data_gets_a_listed_number}
use Rattle.reader.specs.Reading.{reading_of, read_bare, unplaced}
use Rattle.wrapper.specs.Wrapper.{read_wrapped}
use Rattle.reason.specs.Reason.{word_text, reason_of, why_text, reason_text, reason}
use Rattle.reason.proofs.Told.{the_text_is_that_of_the_answer, the_text_is_that_of_the_wrapped_answer}
use Rattle.promises.specs.Why.{place_text, value_text, TrueOfData, cut_short, too_many_zeros, not_allowed, left_over_bytes, TrueOfWrapped, wrapper_ends, wrapper_other, of_the_data}
use Rattle.promises.proofs.Reasons.{fault_of}
use Rattle.promises.proofs.Where.{Begins, begins, missing_fault, differs_fault}

-- ---- the text of a fault, in parts

parts : (a b c d : List ℕ) → a ++ (b ++ (c ++ d)) ≡ (a ++ (b ++ c)) ++ d
parts a b c d = ap (λ (l : List ℕ). a ++ l) (sym (append_assoc b c d)) ∙ sym (append_assoc a (b ++ c) d)

-- of a fault that begins at an offset in the data
module _ (number offset : ℕ) (name : Name) where
  abbrev first : List ℕ
  first = line_text (line "result" (pos number))

  abbrev second : List ℕ
  second = line_text (line "offset" (pos offset))

  abbrev third : List ℕ
  third = word_text "element" (ascii (name_of (element_of name)))

  in_parts : (d : List ℕ) → first ++ (second ++ (third ++ d)) ≡ place_text number offset name ++ d
  in_parts d = parts first second third d

  without-value : first ++ (second ++ (third ++ [])) ≡ place_text number offset name
  without-value = in_parts [] ∙ append-nil (place_text number offset name)

-- ---- bare data

reason_is_true : (s : List Bool) (f : Fault Name) → bare_data s ≡ no f → TrueOfData s (reason_of f)
reason_is_true s f e = go f (told_in_bits s f e) (the_reason_is_true s f e)
  where
    rules : (r : Rule Name) → told_at (breaks r) ≡ r.offset → (es : List (Element Name)) (t : List Bool) → s ≡ all_bits es ++ t → meets r ≡ false
        → (Follow ST2094-10_data 0 es (broken r) × Speaks 0 es r) ⊎ ((d : Data) × Follow ST2094-10_data 0 es (complete d) × (r ≡ left_over «end» (sum_of_widths es) t)) → TrueOfData s (reason_of (breaks r))
    rules r w es t b h (inl k) =
        let x = k.1 in
        let o : r.offset ≡ sum_of_widths x.earlier = omega (arith, x.offset) in
        rw (w, o, in_parts r.number (sum_of_widths x.earlier) r.element (value_text r.value r.allowed))
        (not_allowed x.earlier x.theirs r t (rw x.all at k.0) x.about (the_named_element_is_there x.earlier x.theirs r x.about) h o (rw x.all at b))
    rules r w es t b h (inr k) =
        let u = data_spells.only es k.0 k.1 in
        let l : 8 ≤ length t = generic.left_over_lem «end» (sum_of_widths es) t (rw k.2 at h) in
        rw (k.2, u.1, in_parts 12 (data_width k.0) «end» (value_text (pos (length t / 8)) (between (pos 0) (pos 0)))) (left_over_bytes k.0 t u.0 (rw u.1 at b) l)

    go : (f : Fault Name) → told_at f ≡ offset_in f → Reason s f → TrueOfData s (reason_of f)
    go (cut_off at n) w m = rw (w, m.5, without-value 1 (sum_of_widths m.0) n) (cut_short m.0 n m.2 m.1 m.3 m.4 m.6)
    go (overlong at n) w m = rw (w, m.5, without-value 2 (sum_of_widths m.0) n) (too_many_zeros m.0 n m.2 m.1 m.3 m.4 m.6)
    go (breaks r) w m = rules r w m.0 m.1 m.2 m.3 m.4

-- a text that is true is that of the fault
true_is_told : (s : List Bool) {text : List ℕ} → TrueOfData s text → (f : Fault Name) × (bare_data s ≡ no f) × (reason_of f ≡ text)
true_is_told s (cut_short es name d t h b c) =
    let e = a_true_reason_is_given s (cut_off (sum_of_widths es) name) (es, t, d, h, b, refl, c) in
    (cut_off (sum_of_widths es) name, e, rw (told_in_bits s (cut_off (sum_of_widths es) name) e) (without-value 1 (sum_of_widths es) name))
true_is_told s (too_many_zeros es name d t h b c) =
    let e = a_true_reason_is_given s (overlong (sum_of_widths es) name) (es, t, d, h, b, refl, c) in
    (overlong (sum_of_widths es) name, e, rw (told_in_bits s (overlong (sum_of_widths es) name) e) (without-value 2 (sum_of_widths es) name))
true_is_told s (not_allowed es theirs r t h a n m o b) =
    let e = a_true_reason_is_given s (breaks r) (es ++ theirs, t, b, m, inl (h, record { earlier = es; theirs = theirs; all = refl; offset = omega (arith, o); about = a })) in
    (breaks r, e, rw (told_in_bits s (breaks r) e, o) (in_parts r.number (sum_of_widths es) r.element (value_text r.value r.allowed)))
true_is_told s (left_over_bytes d t w b l) =
    let f = breaks (left_over «end» (data_width d) t) in
    let e : bare_data s ≡ no f = ap bare_data b ∙ generic.anything_behind «end» ST2094-10_data (data_elements d) d t (data_spells.takes d w) l in
    (f, e, rw (told_in_bits s f e) (in_parts 12 (data_width d) «end» (value_text (pos (length t / 8)) (between (pos 0) (pos 0)))))

-- EVERY REFUSED INPUT HAS A TRUE TEXT, which is that of its reading
pub the_text_is_true : (s : List ℕ) → ((read_bare s).result ≡ 0 → ⊥) → TrueOfData (bits_of s) (reason_text (read_bare s))
the_text_is_true s h =
    let x = fault_of (bare_data (bits_of s)) h in
    subst (TrueOfData (bits_of s)) (sym (the_text_is_that_of_the_answer (bits_of s) ∙ ap why_text x.1)) (reason_is_true (bits_of s) x.0 x.1)

-- AND NO OTHER
pub no_other_text_is_true : (s : List ℕ) {text : List ℕ} → TrueOfData (bits_of s) text → text ≡ reason_text (read_bare s)
no_other_text_is_true s w =
    let x = true_is_told (bits_of s) w in
    sym (the_text_is_that_of_the_answer (bits_of s) ∙ ap why_text x.1 ∙ x.2)

-- ---- wrapped data

-- a byte's offset
same : (n : ℕ) → 8 * n / 8 ≡ n
same n = omega arith

-- a byte of the wrapper
module _ (n : ℕ) where
  cut_text : reason_of (cut_off (8 * n) «wrapper») ≡ place_text 1 n «wrapper»
  cut_text = rw (same n) (without-value 1 n «wrapper»)

  other_text : (b due : ℕ) → reason_of (breaks (range_rule «wrapper» wrapper_differs (pos due) (pos due) (8 * n) (pos b))) ≡ place_text 3 n «wrapper» ++ value_text (pos b) (between (pos due) (pos due))
  other_text b due = rw (same n) (in_parts 3 n «wrapper» (value_text (pos b) (between (pos due) (pos due))))

-- data behind the wrapper
behind : (s t : List ℕ) → s ≡ wrapper_bytes ++ t → wrapped_data (bits_of s) ≡ bare_data (bits_of t)
behind s t e = ap (λ (x : List ℕ). wrapped_data (bits_of x)) e ∙ handed_on t

wrapped_is_true : (s : List ℕ) → Bytes s → (f : Fault Name) → wrapped_data (bits_of s) ≡ no f → TrueOfWrapped s (reason_of f)
wrapped_is_true s h f q = go (begins wrapper_bytes s)
  where
    known : (g : Fault Name) → wrapped_data (bits_of s) ≡ no g → g ≡ f
    known g e = same_no {A = Data} g f (sym e ∙ q)

    go : Begins wrapper_bytes s → TrueOfWrapped s (reason_of f)
    go (inl (t, e)) = of_the_data t e (reason_is_true (bits_of t) f (sym (behind s t e) ∙ q))
    go (inr (inl (n, l, e))) = subst (TrueOfWrapped s) (sym (cut_text n) ∙ ap reason_of (known _ (missing_fault n l s e))) (wrapper_ends n l e)
    go (inr (inr (n, b, t, l, e, d))) = subst (TrueOfWrapped s) (sym (other_text n b (get_or wrapper_bytes n 0)) ∙ ap reason_of (known _ (differs_fault n l s h b t e d))) (wrapper_other n b t l e d)

wrapped_is_told : (s : List ℕ) → Bytes s → {text : List ℕ} → TrueOfWrapped s text → (f : Fault Name) × (wrapped_data (bits_of s) ≡ no f) × (reason_of f ≡ text)
wrapped_is_told s h (wrapper_ends n l e) = (cut_off (8 * n) «wrapper», missing_fault n l s e, cut_text n)
wrapped_is_told s h (wrapper_other n b t l e d) = (breaks (range_rule «wrapper» wrapper_differs (pos (get_or wrapper_bytes n 0)) (pos (get_or wrapper_bytes n 0)) (8 * n) (pos b)), differs_fault n l s h b t e d, other_text n b (get_or wrapper_bytes n 0))
wrapped_is_told s h (of_the_data t e w) = let x = true_is_told (bits_of t) w in (x.0, behind s t e ∙ x.1, x.2)

pub the_wrapped_text_is_true : (s : List ℕ) → Bytes s → ((read_wrapped s).result ≡ 0 → ⊥) → TrueOfWrapped s (reason_text (read_wrapped s))
the_wrapped_text_is_true s b h =
    let x = fault_of (wrapped_data (bits_of s)) h in
    subst (TrueOfWrapped s) (sym (the_text_is_that_of_the_wrapped_answer (bits_of s) ∙ ap why_text x.1)) (wrapped_is_true s b x.0 x.1)

pub no_other_wrapped_text_is_true : (s : List ℕ) → Bytes s → {text : List ℕ} → TrueOfWrapped s text → text ≡ reason_text (read_wrapped s)
no_other_wrapped_text_is_true s b w =
    let x = wrapped_is_told s b w in
    sym (the_text_is_that_of_the_wrapped_answer (bits_of s) ∙ ap why_text x.1 ∙ x.2)

-- ---- no element

-- no number of a refusal is 0
not_0 : (n : ℕ) → among n wrapped_numbers ≡ true → n ≡ 0 → ⊥
unfolding among
not_0 n h e = let k : among 0 wrapped_numbers ≡ true = rw e at h in let z : ◌≡◌ {A = ℕ} 0 1 = cc in clash z

-- an accepted input has its result line only
pub an_accepted_input_has_its_result_only : (s : List ℕ) → (read_wrapped s).result ≡ 0 → reason_text (read_wrapped s) ≡ ascii "result=0\n"
unfolding ascii size_within digits
an_accepted_input_has_its_result_only s h = the_text_is_that_of_the_wrapped_answer (bits_of s) ∙ go (wrapped_data (bits_of s)) (wrapped_data_gets_a_listed_number (bits_of s)) h
  where
    go : (o : Out Name Data) → ((f : Fault Name) → o ≡ no f → among (number_in f) wrapped_numbers ≡ true) → (reading_of o).result ≡ 0 → why_text o ≡ ascii "result=0\n"
    go (ok d n) l h = refl
    go (no f) l h = absurd (not_0 (number_in f) (l f refl) h)

-- and so has a refusal of no element, as of a unit
pub a_refusal_of_no_element_has_its_result_only : (number : ℕ) → reason_text (unplaced number) ≡ line_text (line "result" (pos number))
unfolding reason ascii
a_refusal_of_no_element_has_its_result_only number = append-nil (line_text (line "result" (pos number)))
