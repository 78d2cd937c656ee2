-- Demand 1 for reading, and the reading half of demand 2, as request b has it.
use Prim.Native.Nat.{ℕ, ◌+◌, ◌≤◌}
use mathlib.Core.Path.{◌≡◌, refl, ap, sym, ◌∙◌}
use mathlib.Core.List.{List, ◌∷◌}
use mathlib.Core.Bool.{Bool, true, false, ◌||◌}
use native.Mathlib.Omega.{arith}
use lib.Dec.{eqb}
use lib.ListN.{length}
use Rattle.tree.specs.Bits.{bits_of, Bytes}
use Rattle.tree.specs.Reading.{Fault, number_in, Out, ok, no}
use Rattle.record.specs.declared.Record.{Record}
use Rattle.record.specs.Name.{Name}
use Rattle.record.specs.Blocks.{empty_record}
use Rattle.valid.specs.Valid.{among, Valid, Proper}
use Rattle.valid.proofs.Clauses.{valid_means}
use Rattle.syntax.specs.Data.{passed_in, Data, bare_data}
use Rattle.syntax.specs.Element.{payload, data_payload, data_width, WellFormedData, data_of}
use Rattle.syntax.specs.Wrapper.{wrapped_data, wrapped_payload, wrapped_data_payload}
use Rattle.syntax.specs.Reason.{data_numbers, wrapped_numbers}
use Rattle.syntax.proofs.Exact.{accepted_is_a_payload, a_payload_is_accepted}
use Rattle.syntax.proofs.Records.{kept_and_passed, the_record_is_valid, data_is_well_formed, record_of_data, none_passed, same_payload, same_width, with_nothing_passed}
use Rattle.syntax.proofs.Reasons.{data_gets_a_listed_number}
use Rattle.syntax.proofs.Wrapped.{accepted_is_a_wrapped_payload, a_wrapped_payload_is_accepted, same_wrapped_payload, wrapped_data_gets_a_listed_number as wrapped-data-is-listed}
use Rattle.reader.specs.declared.Reading.{Reading}
use Rattle.reader.specs.Reading.{reading_of, read_bare}
use Rattle.wrapper.specs.Wrapper.{read_wrapped}
use Rattle.promises.specs.Payloads.{reading_for, plain_reading, Carries}

-- ---- the number of an answer says which kind it is

-- every number that a refusal can have is one of these, and 0 is none of them
module _ (ns : List ℕ) (without : among 0 ns ≡ false) (o : Out Name Data) (listed : (f : Fault Name) → o ≡ no f → among (number_in f) ns ≡ true) where
  not_zero_lem : (f : Fault Name) → among (number_in f) ns ≡ true → number_in f ≡ 0 → ⊥
  not_zero_lem f h e =
      let x : among 0 ns ≡ true = rw e at h in
      let y : false ≡ true = sym without ∙ x in
      let z : ◌≡◌ {A = ℕ} 0 1 = cc in omega arith

  taken : (reading_of o).result ≡ 0 → (d : Data) × (n : ℕ) × (o ≡ ok d n)
  taken = go o refl
    where
      go : (p : Out Name Data) → o ≡ p → (reading_of p).result ≡ 0 → (d : Data) × (n : ℕ) × (o ≡ ok d n)
      go (ok d n) q e = (d, n, q)
      go (no f) q e = absurd (not_zero_lem f (listed f q) e)

  one_of : among (reading_of o).result (0 ∷ ns) ≡ true
  unfolding among
  one_of = go o refl
    where
      or_right : (a b : Bool) → b ≡ true → a || b ≡ true
      or_right true b e = refl
      or_right false b e = e

      go : (p : Out Name Data) → o ≡ p → among (reading_of p).result (0 ∷ ns) ≡ true
      go (ok d n) q = refl
      go (no f) q = or_right (eqb (number_in f) 0) (among (number_in f) ns) (listed f q)

bare_taken : (s : List ℕ) → (read_bare s).result ≡ 0 → (d : Data) × (n : ℕ) × (bare_data (bits_of s) ≡ ok d n)
unfolding among
bare_taken s = taken data_numbers refl (bare_data (bits_of s)) (data_gets_a_listed_number (bits_of s))

wrapped_taken : (s : List ℕ) → (read_wrapped s).result ≡ 0 → (d : Data) × (n : ℕ) × (wrapped_data (bits_of s) ≡ ok d n)
unfolding among
wrapped_taken s = taken wrapped_numbers refl (wrapped_data (bits_of s)) (wrapped-data-is-listed (bits_of s))

-- ---- demand 1: every input gets an answer, and a refusal is empty

-- data gets 0 or one of the numbers 1, 2, 4 to 7, 9 to 12 and 17 to 19: 8 does not occur
pub bare_data_gets_a_listed_number : (s : List ℕ) → among (read_bare s).result (0 ∷ data_numbers) ≡ true
unfolding among
bare_data_gets_a_listed_number s = one_of data_numbers refl (bare_data (bits_of s)) (data_gets_a_listed_number (bits_of s))

-- wrapped data gets one of the same numbers, or 3
pub wrapped_data_gets_a_listed_number : (s : List ℕ) → among (read_wrapped s).result (0 ∷ wrapped_numbers) ≡ true
unfolding among
wrapped_data_gets_a_listed_number s = one_of wrapped_numbers refl (wrapped_data (bits_of s)) (wrapped-data-is-listed (bits_of s))

-- 02, b: 8 no longer occurs
pub eight_is_none : (n : ℕ) (ns : List ℕ) → among 8 ns ≡ false → among n ns ≡ true → n ≡ 8 → ⊥
eight_is_none n ns h k e =
    let x : false ≡ true = sym h ∙ (rw e at k) in
    let z : ◌≡◌ {A = ℕ} 0 1 = cc in omega arith

pub eight_does_not_occur : (s : List ℕ) → ((read_bare s).result ≡ 8 → ⊥) × ((read_wrapped s).result ≡ 8 → ⊥)
unfolding among
eight_does_not_occur s = (eight_is_none (read_bare s).result (0 ∷ data_numbers) refl (bare_data_gets_a_listed_number s), eight_is_none (read_wrapped s).result (0 ∷ wrapped_numbers) refl (wrapped_data_gets_a_listed_number s))

-- on a refusal the record is empty, the bits read are 0 and nothing is said to be passed over, bare and wrapped
pub a_refusal_is_empty : (o : Out Name Data) → ((reading_of o).result ≡ 0 → ⊥) → ((reading_of o).«record» ≡ empty_record) × ((reading_of o).bits ≡ 0) × ((reading_of o).skipped ≡ 0)
a_refusal_is_empty (ok d n) h = absurd (h refl)
a_refusal_is_empty (no f) h = (refl, refl, refl)

-- ---- what an accepted payload holds

-- the reading of a record's own data
pub plain_is : (r : Record) → Proper r → reading_for (data_of r) ≡ plain_reading r
plain_is r p = rw (record_of_data r p, none_passed r p, same_width r p) refl

-- all that is said of a reading that carries data
module _ (bytes_of : Data → List ℕ) (s : List ℕ) (q : Reading) (c : Carries bytes_of s q) where
  -- its record is valid, and has its 18 places: they suffice however many blocks are announced
  pub carried_is_valid : Proper q.«record»
  carried_is_valid = rw c.reading (the_record_is_valid c.held c.fits)

  -- each block that is announced is in the record or passed over, and there are never more than 254
  pub announced_are_kept_or_skipped : (q.«record».count + q.skipped ≡ length c.held.items) × (length c.held.items ≤ 254)
  announced_are_kept_or_skipped = rw c.reading (kept_and_passed c.held.items, c.fits.few)

  -- with nothing passed over, what it holds is its record and nothing else
  carried_plain : q.skipped ≡ 0 → c.held ≡ data_of q.«record»
  carried_plain z =
      let x : passed_in c.held.items ≡ 0 = sym (ap (λ (p : Reading). p.skipped) c.reading) ∙ z in
      with_nothing_passed c.held x ∙ ap (λ (p : Reading). data_of p.«record») (sym c.reading)

  carried_alone : (own_of : Record → List ℕ) → ((r : Record) → Proper r → bytes_of (data_of r) ≡ own_of r) → q.skipped ≡ 0 → (s ≡ own_of q.«record») × (q ≡ plain_reading q.«record»)
  carried_alone own_of own z =
      let p = carried_is_valid in
      let e = carried_plain z in
      (c.bytes ∙ ap bytes_of e ∙ own q.«record» p, c.reading ∙ ap reading_for e ∙ plain_is q.«record» p)

-- ---- demand 2: accepted exactly when it follows the syntax within the limits

-- an accepted input is the payload of well-formed data: the record that comes back is that of its known blocks, as many are said to be passed
-- over as there are others, and the bits read are the sum of the widths of all its elements
pub accepted_carries_data : (s : List ℕ) → Bytes s → (read_bare s).result ≡ 0 → Carries data_payload s (read_bare s)
accepted_carries_data s h e =
    let t = bare_taken s e in
    let m = accepted_is_a_payload s h t.0 t.1 t.2 in
    record { held = t.0; fits = m.0; bytes = m.1; reading = ap reading_of t.2 ∙ ap (λ (n : ℕ). reading_of (ok t.0 n)) m.2 }

-- and the payload of all such data is accepted so
pub every-payload_is_read : (d : Data) → WellFormedData d → read_bare (data_payload d) ≡ reading_for d
every-payload_is_read d w = ap reading_of (a_payload_is_accepted d w)

-- the blocks, the reserved ones with their levels, lengths and bits among them, are determined by the input
same_data : (d e : Data) (n m : ℕ) → ◌≡◌ {A = Out Name Data} (ok d n) (ok e m) → d ≡ e
same_data d e n m q = cc

pub one_payload_holds_one_data : (d e : Data) → WellFormedData d → WellFormedData e → data_payload d ≡ data_payload e → d ≡ e
one_payload_holds_one_data d e w v q =
    same_data d e (data_width d) (data_width e) (sym (a_payload_is_accepted d w) ∙ ap (λ (s : List ℕ). bare_data (bits_of s)) q ∙ a_payload_is_accepted e v)

-- every clause of a valid record holds of what comes back
pub accepted_is_proper : (s : List ℕ) → Bytes s → (read_bare s).result ≡ 0 → Proper (read_bare s).«record»
accepted_is_proper s h e = carried_is_valid data_payload s (read_bare s) (accepted_carries_data s h e)

pub accepted_is_valid : (s : List ℕ) → Bytes s → (read_bare s).result ≡ 0 → Valid (read_bare s).«record»
accepted_is_valid s h e = valid_means (read_bare s).«record» (accepted_is_proper s h e).valid_record

-- with nothing passed over the input is the one payload of the record, and the bits read are the sum of its widths
pub accepted_means_the_one_payload : (s : List ℕ) → Bytes s → (read_bare s).result ≡ 0 → (read_bare s).skipped ≡ 0
    → (s ≡ payload (read_bare s).«record») × (read_bare s ≡ plain_reading (read_bare s).«record»)
accepted_means_the_one_payload s h e z = carried_alone data_payload s (read_bare s) (accepted_carries_data s h e) payload same_payload z

-- the payload of every valid record is accepted, with that record and nothing passed over
pub every-valid_record_is_read : (r : Record) → Proper r → read_bare (payload r) ≡ plain_reading r
every-valid_record_is_read r p = ap read_bare (sym (same_payload r p)) ∙ every-payload_is_read (data_of r) (data_is_well_formed r p) ∙ plain_is r p

-- two accepted inputs with one record and nothing passed over are the same bytes: a cache holds one of them
pub one_record_one_payload : (s t : List ℕ) → Bytes s → Bytes t → (read_bare s).result ≡ 0 → (read_bare t).result ≡ 0 → (read_bare s).skipped ≡ 0 → (read_bare t).skipped ≡ 0
    → (read_bare s).«record» ≡ (read_bare t).«record» → s ≡ t
one_record_one_payload s t hs ht es et zs zt e = (accepted_means_the_one_payload s hs es zs).0 ∙ ap payload e ∙ sym (accepted_means_the_one_payload t ht et zt).0

-- ---- the same of wrapped data

-- the wrapper is not counted
pub accepted_wrapped_carries_data : (s : List ℕ) → Bytes s → (read_wrapped s).result ≡ 0 → Carries wrapped_data_payload s (read_wrapped s)
accepted_wrapped_carries_data s h e =
    let t = wrapped_taken s e in
    let m = accepted_is_a_wrapped_payload s h t.0 t.1 t.2 in
    record { held = t.0; fits = m.0; bytes = m.1; reading = ap reading_of t.2 ∙ ap (λ (n : ℕ). reading_of (ok t.0 n)) m.2 }

pub every-wrapped_payload_is_read : (d : Data) → WellFormedData d → read_wrapped (wrapped_data_payload d) ≡ reading_for d
every-wrapped_payload_is_read d w = ap reading_of (a_wrapped_payload_is_accepted d w)

pub accepted_wrapped_is_proper : (s : List ℕ) → Bytes s → (read_wrapped s).result ≡ 0 → Proper (read_wrapped s).«record»
accepted_wrapped_is_proper s h e = carried_is_valid wrapped_data_payload s (read_wrapped s) (accepted_wrapped_carries_data s h e)

pub accepted_wrapped_means_the_one_payload : (s : List ℕ) → Bytes s → (read_wrapped s).result ≡ 0 → (read_wrapped s).skipped ≡ 0
    → (s ≡ wrapped_payload (read_wrapped s).«record») × (read_wrapped s ≡ plain_reading (read_wrapped s).«record»)
accepted_wrapped_means_the_one_payload s h e z = carried_alone wrapped_data_payload s (read_wrapped s) (accepted_wrapped_carries_data s h e) wrapped_payload same_wrapped_payload z

pub every-valid_record_is_read_wrapped : (r : Record) → Proper r → read_wrapped (wrapped_payload r) ≡ plain_reading r
every-valid_record_is_read_wrapped r p = ap read_wrapped (sym (same_wrapped_payload r p)) ∙ every-wrapped_payload_is_read (data_of r) (data_is_well_formed r p) ∙ plain_is r p

pub one_record_one_wrapped_payload : (s t : List ℕ) → Bytes s → Bytes t → (read_wrapped s).result ≡ 0 → (read_wrapped t).result ≡ 0 → (read_wrapped s).skipped ≡ 0 → (read_wrapped t).skipped ≡ 0
    → (read_wrapped s).«record» ≡ (read_wrapped t).«record» → s ≡ t
one_record_one_wrapped_payload s t hs ht es et zs zt e =
    (accepted_wrapped_means_the_one_payload s hs es zs).0 ∙ ap wrapped_payload e ∙ sym (accepted_wrapped_means_the_one_payload t ht et zt).0
