-- Why an input is refused: "given exactly when" and "the first failure decides", of the functions' own bytes. Then which inputs get 1
-- and 12, and which refusals stand whatever follows.
use Prim.Native.Nat.{ℕ, ◌<◌, ◌≤◌}
use mathlib.Core.Path.{◌≡◌, refl, ap, sym, ◌∙◌}
use mathlib.Core.List.{List, ◌++◌}
use mathlib.Core.Bool.{Bool}
use native.Mathlib.Omega.{arith}
use lib.ListN.{length, take}
use Rattle.refusals.specs.Refusals.{past_end, bytes_remain}
use Rattle.tree.specs.Bits.{bits_of, Bytes}
use Rattle.tree.specs.Reading.{Allowed, between, other_than, Fault, cut_off, overlong, breaks, number_in, element_in, Out, ok, no}
use Rattle.tree.specs.Coding.{natural}
use Rattle.tree.specs.Stands.{ToldAlike}
use Rattle.record.specs.Name.{Name, element_of}
use Rattle.syntax.specs.Data.{Data, bare_data}
use Rattle.syntax.specs.Element.{data_payload, WellFormedData}
use Rattle.syntax.specs.Wrapper.{wrapped_data, wrapped_data_payload}
use Rattle.syntax.specs.Reason.{Reason, WrappedReason}
use Rattle.syntax.specs.Largest.{longest_data}
use Rattle.syntax.proofs.Largest.{longest-length}
use Rattle.syntax.proofs.Reasons.{the_reason_is_true, a_true_reason_is_given}
use Rattle.syntax.proofs.Stands as bare
use Rattle.syntax.proofs.Wrapped as wrapped
use Rattle.cause.specs.Cause.{cause_by, cause_of}
use Rattle.reader.specs.declared.Reading.{Reading}
use Rattle.reader.specs.Reading.{reading_of, read_bare}
use Rattle.wrapper.specs.Wrapper.{read_wrapped}

-- a result that is not 0 is the number of a fault
pub fault_of : (o : Out Name Data) → ((reading_of o).result ≡ 0 → ⊥) → (f : Fault Name) × (o ≡ no f) × ((reading_of o).result ≡ number_in f)
fault_of (ok d n) h = absurd (h refl)
fault_of (no f) h = (f, refl, refl)

-- what is told of a refusal, but for its value and what is allowed: its number, where it is, and its element
pub record Placed (q r : Reading) : Type 0 where
  pub result : q.result ≡ r.result
  pub offset : q.offset ≡ r.offset
  pub mark : q.in_wrapper ≡ r.in_wrapper
  pub element : q.cause.element ≡ r.cause.element

element_told : (f : Fault Name) → (cause_of f).element ≡ element_of (element_in f)
element_told (cut_off at n) = refl
element_told (overlong at n) = refl
element_told (breaks r) = go r.allowed
  where
    go : (a : Allowed) → (cause_by (element_of r.element) (natural r.value) a).element ≡ element_of r.element
    go (between low high) = refl
    go (other_than zs) = refl

-- of faults that are told alike it is the same
alike : (f g : Fault Name) → ToldAlike f g → Placed (reading_of (no g)) (reading_of (no f))
alike f g t = record {
  result = sym t.number;
  offset = rw (t.offset, t.element) refl;
  mark = rw t.element refl;
  element = element_told g ∙ ap element_of (sym t.element) ∙ sym (element_told f);
}

pub number_of_lem : {o : Out Name Data} (f : Fault Name) → o ≡ no f → (reading_of o).result ≡ number_in f
number_of_lem f e = ap (λ (o : Out Name Data). (reading_of o).result) e

not_done : {n : ℕ} (k : ℕ) → 0 < k → n ≡ k → n ≡ 0 → ⊥
not_done k h e z = omega arith

-- what holds of a refusal by its number, of bare data and of wrapped data alike
module _ (told : List Bool → Out Name Data) where
  abbrev result_of : List ℕ → ℕ
  result_of s = (reading_of (told (bits_of s))).result

  fault_in : (s : List ℕ) → (result_of s ≡ 0 → ⊥) → (f : Fault Name) × (told (bits_of s) ≡ no f) × (result_of s ≡ number_in f)
  fault_in s h = fault_of (told (bits_of s)) h

  -- a number above 0 is that of a fault
  pub fault_with : (k : ℕ) → 0 < k → (s : List ℕ) → result_of s ≡ k → (f : Fault Name) × (told (bits_of s) ≡ no f) × (number_in f ≡ k)
  fault_with k h s e = let x = fault_in s (not_done k h e) in (x.0, x.1, sym x.2 ∙ e)

  stands : ((s t : List ℕ) (f : Fault Name) → told (bits_of s) ≡ no f → (number_in f ≡ past_end → ⊥) → (g : Fault Name) × (told (bits_of (s ++ t)) ≡ no g) × ToldAlike f g)
      → (s t : List ℕ) → (result_of s ≡ 0 → ⊥) → (result_of s ≡ 1 → ⊥)
      → Placed (reading_of (told (bits_of (s ++ t)))) (reading_of (told (bits_of s))) × ((result_of s ≡ 12 → ⊥) → reading_of (told (bits_of (s ++ t))) ≡ reading_of (told (bits_of s)))
  stands law s t h k =
      let x = fault_in s h in
      let y = law s t x.0 x.1 (λ e. k (x.2 ∙ e)) in
      let p : Placed (reading_of (told (bits_of (s ++ t)))) (reading_of (told (bits_of s))) = rw (y.1, x.1) (alike x.0 y.0 y.2) in
      (p, λ w. ap reading_of (y.1 ∙ ap no (sym (y.2.whole (λ e. w (x.2 ∙ e))))) ∙ sym (ap reading_of x.1))

  never_1 : (n : ℕ) → ((s : List ℕ) → n ≤ length s → (f : Fault Name) → told (bits_of s) ≡ no f → number_in f ≡ past_end → ⊥) → (s : List ℕ) → n ≤ length s → result_of s ≡ 1 → ⊥
  never_1 n law s l e = let x = fault_with 1 (omega arith) s e in law s l x.0 x.1 x.2

  only_12 : (whole : Data → List ℕ)
      → ((s : List ℕ) → Bytes s → (f : Fault Name) → told (bits_of s) ≡ no f → number_in f ≡ bytes_remain → (d : Data) × (t : List ℕ) × WellFormedData d × (s ≡ whole d ++ t) × (0 < length t))
      → (s : List ℕ) → Bytes s → result_of s ≡ 12 → (d : Data) × (t : List ℕ) × WellFormedData d × (s ≡ whole d ++ t) × (0 < length t)
  only_12 whole law s h e = let x = fault_with 12 (omega arith) s e in law s h x.0 x.1 x.2

-- ---- the reason: which elements stand before, each meeting its rule, which one fails, and how

-- every refusal has a reason with its number
pub a_refusal_has_its_reason : (s : List ℕ) → ((read_bare s).result ≡ 0 → ⊥) → (f : Fault Name) × Reason (bits_of s) f × ((read_bare s).result ≡ number_in f)
a_refusal_has_its_reason s h = let x = fault_in bare_data s h in (x.0, the_reason_is_true (bits_of s) x.0 x.1, x.2)

-- and where a reason holds, its number is given
pub a_reason_gives_its_number : (s : List ℕ) (f : Fault Name) → Reason (bits_of s) f → (read_bare s).result ≡ number_in f
a_reason_gives_its_number s f r = number_of_lem f (a_true_reason_is_given (bits_of s) f r)

-- ---- a refusal other than 1 stands, whatever bytes follow, with where it is and its element; and all of it, but that 12 counts the bytes

pub a_refusal_other_than_1_stands : (s t : List ℕ) → ((read_bare s).result ≡ 0 → ⊥) → ((read_bare s).result ≡ 1 → ⊥)
    → Placed (read_bare (s ++ t)) (read_bare s) × (((read_bare s).result ≡ 12 → ⊥) → read_bare (s ++ t) ≡ read_bare s)
a_refusal_other_than_1_stands = stands bare_data bare.a_refusal_stands

-- ---- 1: what is cut short

-- every proper beginning of a payload gets 1
pub every_proper_beginning_gets_1 : (d : Data) → WellFormedData d → (s t : List ℕ) → data_payload d ≡ s ++ t → 0 < length t → (read_bare s).result ≡ 1
every_proper_beginning_gets_1 d w s t e h = let x = bare.every_proper_beginning_gets_1 d w s t e h in number_of_lem _ x.2

-- bare data of 260,766 bytes or more never gets 1
pub data_of_260766_bytes_never_gets_1 : (s : List ℕ) → 260766 ≤ length s → (read_bare s).result ≡ 1 → ⊥
data_of_260766_bytes_never_gets_1 = never_1 bare_data 260766 bare.bare_data_of_260766_bytes_never_gets_1

-- and no shorter length will do: the longest payload has as many, and cut by its last byte it gets 1
pub data_of_260765_bytes_can_get_1 : (length (data_payload longest_data) ≡ 260766) × ((read_bare (take 260765 (data_payload longest_data))).result ≡ 1)
data_of_260765_bytes_can_get_1 = (longest-length, number_of_lem _ (bare.the_longest_that_gets_1).2)

-- ---- 12: a payload with anything behind it, and only that

pub a_payload_with_anything_behind_gets_12 : (d : Data) → WellFormedData d → (t : List ℕ) → 0 < length t → (read_bare (data_payload d ++ t)).result ≡ 12
a_payload_with_anything_behind_gets_12 d w t h = number_of_lem _ (bare.a_payload_with_anything_behind_gets_12 d w t h)

pub only_such_an_input_gets_12 : (s : List ℕ) → Bytes s → (read_bare s).result ≡ 12 → (d : Data) × (t : List ℕ) × WellFormedData d × (s ≡ data_payload d ++ t) × (0 < length t)
only_such_an_input_gets_12 = only_12 bare_data data_payload bare.only_such_an_input_gets_12

-- ---- the same of wrapped data

pub a_wrapped_refusal_has_its_reason : (s : List ℕ) → ((read_wrapped s).result ≡ 0 → ⊥) → (f : Fault Name) × WrappedReason (bits_of s) f × ((read_wrapped s).result ≡ number_in f)
a_wrapped_refusal_has_its_reason s h = let x = fault_in wrapped_data s h in (x.0, wrapped.the_wrapped_reason_is_true (bits_of s) x.0 x.1, x.2)

pub a_wrapped_reason_gives_its_number : (s : List ℕ) (f : Fault Name) → WrappedReason (bits_of s) f → (read_wrapped s).result ≡ number_in f
a_wrapped_reason_gives_its_number s f r = number_of_lem f (wrapped.a_true_wrapped_reason_is_given (bits_of s) f r)

pub a_wrapped_refusal_other_than_1_stands : (s t : List ℕ) → ((read_wrapped s).result ≡ 0 → ⊥) → ((read_wrapped s).result ≡ 1 → ⊥)
    → Placed (read_wrapped (s ++ t)) (read_wrapped s) × (((read_wrapped s).result ≡ 12 → ⊥) → read_wrapped (s ++ t) ≡ read_wrapped s)
a_wrapped_refusal_other_than_1_stands = stands wrapped_data wrapped.a_refusal_of_wrapped_data_stands

pub every_proper_beginning_of_a_wrapped_payload_gets_1 : (d : Data) → WellFormedData d → (s t : List ℕ) → wrapped_data_payload d ≡ s ++ t → 0 < length t → (read_wrapped s).result ≡ 1
every_proper_beginning_of_a_wrapped_payload_gets_1 d w s t e h = let x = wrapped.every_proper_beginning_of_a_wrapped_payload_gets_1 d w s t e h in number_of_lem _ x.2

pub wrapped_data_of_260774_bytes_never_gets_1 : (s : List ℕ) → 260774 ≤ length s → (read_wrapped s).result ≡ 1 → ⊥
wrapped_data_of_260774_bytes_never_gets_1 = never_1 wrapped_data 260774 wrapped.wrapped_data_of_260774_bytes_never_gets_1

pub a_wrapped_payload_with_anything_behind_gets_12 : (d : Data) → WellFormedData d → (t : List ℕ) → 0 < length t → (read_wrapped (wrapped_data_payload d ++ t)).result ≡ 12
a_wrapped_payload_with_anything_behind_gets_12 d w t h = number_of_lem _ (wrapped.a_wrapped_payload_with_anything_behind_gets_12 d w t h)

pub only_such_a_wrapped_input_gets_12 : (s : List ℕ) → Bytes s → (read_wrapped s).result ≡ 12 → (d : Data) × (t : List ℕ) × WellFormedData d × (s ≡ wrapped_data_payload d ++ t) × (0 < length t)
only_such_a_wrapped_input_gets_12 = only_12 wrapped_data wrapped_data_payload wrapped.only_such_a_wrapped_input_gets_12
