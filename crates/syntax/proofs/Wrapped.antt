-- The same of wrapped data: exactness, reasons, what stands, and which inputs get 1 and 12.
use Prim.Native.Nat.{ℕ, ◌/◌, ◌<◌, ◌≤◌}
use mathlib.Core.Path.{◌≡◌, refl, ap, sym, ◌∙◌}
use mathlib.Core.List.{List, ◌++◌, append_assoc}
use mathlib.Core.Bool.{Bool, true, false, ◌||◌}
use mathlib.Core.Logic.{◌⊎◌, inl, inr}
use native.Mathlib.Omega.{arith}
use lib.Dec.{eqb}
use lib.ListN.{length, length-append}
use Rattle.refusals.specs.Refusals.{past_end, wrapper_differs, bytes_remain}
use Rattle.tree.specs.Bits.{bits_of, pack, Bytes}
use Rattle.tree.specs.Reading.{Fault, cut_off, overlong, breaks, number_in, ok, no}
use Rattle.tree.specs.Syntax.{left_over}
use Rattle.tree.specs.Meaning.{Breaks, AboutLast, Means}
use Rattle.tree.specs.Wrapper.{wrapper_table}
use Rattle.tree.specs.Stands.{ToldAlike}
use Rattle.tree.proofs.Bits.{bits_append, length_bits, packed_bytes}
use Rattle.tree.proofs.Wrapper as generic
use Rattle.tree.proofs.Reasons.{in_the_wrapper}
use Rattle.tree.proofs.Accepted.{accepted_wrapped_means, what_fits_is_accepted_wrapped, behind_bytes}
use Rattle.tree.proofs.Widths.{cut_off_before, ends_wrapper}
use Rattle.tree.proofs.Stands.{other_than_1, a_wrapped_refusal_stands, a_wrapped_beginning_is_cut_off}
use Rattle.record.specs.declared.Record.{Record}
use Rattle.record.specs.Name.{Name, «end», «wrapper»}
use Rattle.valid.specs.Valid.{among, Proper}
use Rattle.syntax.specs.Data.{Data, ST2094-10_data, bare_data}
use Rattle.syntax.specs.Element.{data_elements, data_payload, data_width, WellFormedData, data_of}
use Rattle.syntax.specs.Wrapper.{wrapper_bytes, wrapped_data, wrapped_payload, wrapped_data_payload}
use Rattle.syntax.specs.Reason.{WrappedReason, data_numbers, wrapped_numbers}
use Rattle.syntax.proofs.Exact.{data_spells, whole_data}
use Rattle.syntax.proofs.Records.{same_payload}
use Rattle.syntax.proofs.Reasons.{the_reason_is_true, a_true_reason_is_given, data_gets_a_listed_number}
use Rattle.syntax.proofs.Stands.{a_payload_with_anything_behind_gets_12, only_such_an_input_gets_12, enough_bits}

pub wrapper_is_bytes : Bytes wrapper_bytes
wrapper_is_bytes = (omega arith, (omega arith, (omega arith, (omega arith, (omega arith, (omega arith, (omega arith, (omega arith, tt))))))))

-- ---- exactness

-- wrapped data is accepted exactly if it is the wrapped payload of well-formed data; the wrapper is not counted
pub accepted_is_a_wrapped_payload : (s : List ℕ) → Bytes s → (d : Data) (n : ℕ) → wrapped_data (bits_of s) ≡ ok d n → WellFormedData d × (s ≡ wrapped_data_payload d) × (n ≡ data_width d)
accepted_is_a_wrapped_payload = accepted_wrapped_means «wrapper» «end» wrapper_bytes wrapper_is_bytes ST2094-10_data data_elements WellFormedData data_spells whole_data

pub a_wrapped_payload_is_accepted : (d : Data) → WellFormedData d → wrapped_data (bits_of (wrapped_data_payload d)) ≡ ok d (data_width d)
a_wrapped_payload_is_accepted = what_fits_is_accepted_wrapped «wrapper» «end» wrapper_bytes wrapper_is_bytes ST2094-10_data data_elements WellFormedData data_spells whole_data

-- a record's own
pub same_wrapped_payload : (r : Record) → Proper r → wrapped_data_payload (data_of r) ≡ wrapped_payload r
same_wrapped_payload r p = ap (λ (l : List ℕ). wrapper_bytes ++ l) (same_payload r p)

-- ---- reasons

-- 3 is about the byte that was read last, at its own offset
pub wrapper_speaks : Breaks AboutLast (wrapper_table «wrapper» wrapper_bytes)
wrapper_speaks = generic.wrapper_speaks «wrapper» wrapper_bytes

-- every refusal of wrapped data gives a true reason, and where a reason is true it is given
pub the_wrapped_reason_is_true : (s : List Bool) (f : Fault Name) → wrapped_data s ≡ no f → WrappedReason s f
the_wrapped_reason_is_true s f e = go (generic.refused_behind_the_wrapper «wrapper» wrapper_bytes «end» ST2094-10_data s f e)
  where
    go : Means (wrapper_table «wrapper» wrapper_bytes) 0 s (no f) ⊎ ((t : List Bool) × (s ≡ bits_of wrapper_bytes ++ t) × (bare_data t ≡ no f)) → WrappedReason s f
    go (inl m) = inl m
    go (inr m) = inr (m.0, m.1, the_reason_is_true m.0 f m.2)

pub a_true_wrapped_reason_is_given : (s : List Bool) (f : Fault Name) → WrappedReason s f → wrapped_data s ≡ no f
a_true_wrapped_reason_is_given s f r = generic.behind_the_wrapper_refused «wrapper» wrapper_bytes «end» ST2094-10_data wrapper_is_bytes s f (go r)
  where
    go : WrappedReason s f → Means (wrapper_table «wrapper» wrapper_bytes) 0 s (no f) ⊎ ((t : List Bool) × (s ≡ bits_of wrapper_bytes ++ t) × (bare_data t ≡ no f))
    go (inl m) = inl m
    go (inr m) = inr (m.0, m.1, a_true_reason_is_given m.0 f m.2)

-- no wrapped data gets another number
pub wrapped_data_gets_a_listed_number : (s : List Bool) (f : Fault Name) → wrapped_data s ≡ no f → among (number_in f) wrapped_numbers ≡ true
unfolding among
wrapped_data_gets_a_listed_number s f e = go (generic.refused_behind_the_wrapper «wrapper» wrapper_bytes «end» ST2094-10_data s f e)
  where
    one_more : (a b : Bool) → b ≡ true → a || b ≡ true
    one_more true b h = refl
    one_more false b h = h

    go : Means (wrapper_table «wrapper» wrapper_bytes) 0 s (no f) ⊎ ((t : List Bool) × (s ≡ bits_of wrapper_bytes ++ t) × (bare_data t ≡ no f)) → among (number_in f) wrapped_numbers ≡ true
    go (inl m) = in_the_wrapper «wrapper» wrapper_bytes (λ n. among n wrapped_numbers ≡ true) refl refl s f m
    go (inr m) = one_more (eqb (number_in f) wrapper_differs) (among (number_in f) data_numbers) (data_gets_a_listed_number m.0 f m.2)

-- ---- what stands

-- a refusal other than 1 stands whatever bytes follow, with its number, offset and element
pub a_refusal_of_wrapped_data_stands : (s t : List ℕ) (f : Fault Name) → wrapped_data (bits_of s) ≡ no f → (number_in f ≡ past_end → ⊥) → (g : Fault Name) × (wrapped_data (bits_of (s ++ t)) ≡ no g) × ToldAlike f g
a_refusal_of_wrapped_data_stands s t f e h = rw (bits_append s t) (a_wrapped_refusal_stands «wrapper» «end» wrapper_bytes wrapper_is_bytes ST2094-10_data (bits_of s) (bits_of t) f (other_than_1 f h) e)

-- every proper beginning of a wrapped payload gets 1
pub every_proper_beginning_of_a_wrapped_payload_gets_1 : (d : Data) → WellFormedData d → (s t : List ℕ) → wrapped_data_payload d ≡ s ++ t → 0 < length t → (offset : ℕ) × (name : Name) × (wrapped_data (bits_of s) ≡ no (cut_off offset name))
every_proper_beginning_of_a_wrapped_payload_gets_1 d w s t e h =
    let a : wrapped_data (bits_of s ++ bits_of t) ≡ ok d (data_width d) = ap wrapped_data (sym (bits_append s t) ∙ ap bits_of (sym e)) ∙ a_wrapped_payload_is_accepted d w in
    a_wrapped_beginning_is_cut_off «wrapper» «end» wrapper_bytes wrapper_is_bytes ST2094-10_data (bits_of s) (bits_of t) d (data_width d) a (omega (arith, length_bits t))

-- the data behind the wrapper's bytes
pub handed_on : (s : List ℕ) → wrapped_data (bits_of (wrapper_bytes ++ s)) ≡ bare_data (bits_of s)
handed_on s = ap wrapped_data (bits_append wrapper_bytes s) ∙ generic.behind_the_wrapper «wrapper» wrapper_bytes «end» ST2094-10_data wrapper_is_bytes (bits_of s)

-- a wrapped payload with anything behind it gets 12, and only such an input does
pub a_wrapped_payload_with_anything_behind_gets_12 : (d : Data) → WellFormedData d → (t : List ℕ) → 0 < length t
    → wrapped_data (bits_of (wrapped_data_payload d ++ t)) ≡ no (breaks (left_over «end» (data_width d) (bits_of t)))
a_wrapped_payload_with_anything_behind_gets_12 d w t h =
    ap (λ (s : List ℕ). wrapped_data (bits_of s)) (append_assoc wrapper_bytes (data_payload d) t) ∙ handed_on (data_payload d ++ t) ∙ a_payload_with_anything_behind_gets_12 d w t h

pub only_such_a_wrapped_input_gets_12 : (s : List ℕ) → Bytes s → (f : Fault Name) → wrapped_data (bits_of s) ≡ no f → number_in f ≡ bytes_remain
    → (d : Data) × (t : List ℕ) × WellFormedData d × (s ≡ wrapped_data_payload d ++ t) × (0 < length t)
only_such_a_wrapped_input_gets_12 s h f e n = go (generic.refused_behind_the_wrapper «wrapper» wrapper_bytes «end» ST2094-10_data (bits_of s) f e)
  where
    go : Means (wrapper_table «wrapper» wrapper_bytes) 0 (bits_of s) (no f) ⊎ ((t : List Bool) × (bits_of s ≡ bits_of wrapper_bytes ++ t) × (bare_data t ≡ no f))
        → (d : Data) × (t : List ℕ) × WellFormedData d × (s ≡ wrapped_data_payload d ++ t) × (0 < length t)
    go (inl m) = absurd (in_the_wrapper «wrapper» wrapper_bytes (λ k. k ≡ bytes_remain → ⊥) (λ q. omega arith) (λ q. omega arith) (bits_of s) f m n)
    go (inr m) =
        let b = behind_bytes s wrapper_bytes m.0 h wrapper_is_bytes m.1 in
        let k = only_such_an_input_gets_12 (pack m.0) (packed_bytes (length m.0 / 8) m.0) f (ap bare_data b.1 ∙ m.2) n in
        (k.0, k.1, k.2, b.0 ∙ ap (λ (l : List ℕ). wrapper_bytes ++ l) k.3 ∙ sym (append_assoc wrapper_bytes (data_payload k.0) k.1), k.4)

-- wrapped data of 260,774 bytes or more never gets 1
pub wrapped_data_of_260774_bytes_never_gets_1 : (s : List ℕ) → 260774 ≤ length s → (f : Fault Name) → wrapped_data (bits_of s) ≡ no f → number_in f ≡ past_end → ⊥
wrapped_data_of_260774_bytes_never_gets_1 s l f e n = go f n (generic.refused_behind_the_wrapper «wrapper» wrapper_bytes «end» ST2094-10_data (bits_of s) f e)
  where
    inside : (f : Fault Name) → number_in f ≡ past_end → Means (wrapper_table «wrapper» wrapper_bytes) 0 (bits_of s) (no f) → ⊥
    inside (cut_off offset name) n m =
        let b = cut_off_before (wrapper_table «wrapper» wrapper_bytes) 64 (ends_wrapper «wrapper» wrapper_bytes 0 64 (omega arith)) (bits_of s) offset name m in
        absurd (omega (arith, b, length_bits s))
    inside (overlong offset name) n m = absurd (omega arith)
    inside (breaks r) n m = let k : r.number ≡ wrapper_differs = generic.wrapper_number «wrapper» wrapper_bytes 0 m.0 r m.2 in absurd (omega (arith, k))

    go : (f : Fault Name) → number_in f ≡ past_end → Means (wrapper_table «wrapper» wrapper_bytes) 0 (bits_of s) (no f) ⊎ ((t : List Bool) × (bits_of s ≡ bits_of wrapper_bytes ++ t) × (bare_data t ≡ no f)) → ⊥
    go f n (inl m) = inside f n m
    go f n (inr m) = enough_bits m.0 (omega (arith, ap length m.1, length-append (bits_of wrapper_bytes) m.0, length_bits s, length_bits wrapper_bytes)) f m.2 n
