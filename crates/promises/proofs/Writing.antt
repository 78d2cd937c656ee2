-- Demand 1 for writing, and the writing half of demand 2.
use Prim.Native.Nat.{ℕ, ◌<◌, ◌≤◌}
use mathlib.Core.Path.{◌≡◌, refl, ap, sym, ◌∙◌}
use mathlib.Core.List.{List, ◌++◌}
use mathlib.Core.Bool.{true, false}
use native.Mathlib.Omega.{arith}
use lib.ListN.{length, take, drop}
use lib.Seq.{take_at}
use Rattle.tree.specs.Bits.{Bytes}
use Rattle.output.specs.declared.Written.{Written}
use Rattle.output.specs.Output.{written}
use Rattle.output.proofs.Output.{done, short, bad}
use Rattle.record.specs.declared.Record.{Record}
use Rattle.valid.specs.Valid.{valid, Proper}
use Rattle.syntax.specs.Element.{payload}
use Rattle.syntax.specs.Largest.{largest}
use Rattle.syntax.specs.Wrapper.{wrapped_payload}
use Rattle.syntax.proofs.Largest.{no_payload_is_longer, largest-length, largest_proper}
use Rattle.reader.specs.Reading.{read_bare}
use Rattle.writer.specs.Writing.{write_bare, bare_buffer}
use Rattle.wrapper.specs.Wrapper.{read_wrapped, write_wrapped, wrapped_buffer}
use Rattle.promises.specs.Payloads.{plain_reading}
use Rattle.promises.proofs.Reading.{accepted_means_the_one_payload, accepted_is_proper, every-valid_record_is_read, accepted_wrapped_means_the_one_payload, accepted_wrapped_is_proper, every-valid_record_is_read_wrapped}

-- a record that is not valid is refused with 14, whatever the room, and no byte changes
pub not_valid_is_14 : (r : Record) (out : List ℕ) → valid r ≡ false
    → ((write_bare r out ≡ written 14 0) × (bare_buffer r out ≡ out)) × ((write_wrapped r out ≡ written 14 0) × (wrapped_buffer r out ≡ out))
not_valid_is_14 r out v =
    let a = bad (payload r) (valid r) out v in
    let b = bad (wrapped_payload r) (valid r) out v in
    ((sym a.0, sym a.1), (sym b.0, sym b.1))

-- a valid record without room is refused with 13, and no byte changes
pub no_room_is_13 : (r : Record) (out : List ℕ) → valid r ≡ true → length out < length (payload r) → (write_bare r out ≡ written 13 0) × (bare_buffer r out ≡ out)
no_room_is_13 r out v h = let a = short (payload r) (valid r) out v h in (sym a.0, sym a.1)

pub no_room_is_13_wrapped : (r : Record) (out : List ℕ) → valid r ≡ true → length out < length (wrapped_payload r) → (write_wrapped r out ≡ written 13 0) × (wrapped_buffer r out ≡ out)
no_room_is_13_wrapped r out v h = let a = short (wrapped_payload r) (valid r) out v h in (sym a.0, sym a.1)

-- given room, a valid record becomes its one payload, and later bytes stay
pub written_is_the_one_payload : (r : Record) (out : List ℕ) → valid r ≡ true → length (payload r) ≤ length out
    → (write_bare r out ≡ written 0 (length (payload r))) × (bare_buffer r out ≡ payload r ++ drop (length (payload r)) out)
written_is_the_one_payload r out v h = let a = done (payload r) (valid r) out v h in (sym a.0, sym a.1)

pub written_wrapped_is_the_one_payload : (r : Record) (out : List ℕ) → valid r ≡ true → length (wrapped_payload r) ≤ length out
    → (write_wrapped r out ≡ written 0 (length (wrapped_payload r))) × (wrapped_buffer r out ≡ wrapped_payload r ++ drop (length (wrapped_payload r)) out)
written_wrapped_is_the_one_payload r out v h = let a = done (wrapped_payload r) (valid r) out v h in (sym a.0, sym a.1)

-- reading what was written gives the record back
pub written_reads_back : (r : Record) (out : List ℕ) → Proper r → length (payload r) ≤ length out
    → read_bare (take (write_bare r out).bytes (bare_buffer r out)) ≡ plain_reading r
written_reads_back r out p h =
    let w = written_is_the_one_payload r out p.valid_record h in
    let t : take (write_bare r out).bytes (bare_buffer r out) ≡ payload r = rw (w.0, w.1) (take_at (payload r) (drop (length (payload r)) out) (length (payload r)) refl) in
    ap read_bare t ∙ every-valid_record_is_read r p

pub written_wrapped_reads_back : (r : Record) (out : List ℕ) → Proper r → length (wrapped_payload r) ≤ length out
    → read_wrapped (take (write_wrapped r out).bytes (wrapped_buffer r out)) ≡ plain_reading r
written_wrapped_reads_back r out p h =
    let w = written_wrapped_is_the_one_payload r out p.valid_record h in
    let t : take (write_wrapped r out).bytes (wrapped_buffer r out) ≡ wrapped_payload r =
    rw (w.0, w.1) (take_at (wrapped_payload r) (drop (length (wrapped_payload r)) out) (length (wrapped_payload r)) refl) in
    ap read_wrapped t ∙ every-valid_record_is_read_wrapped r p

-- writing back an accepted payload gives its bytes, where nothing was passed over
pub accepted_writes_back : (s : List ℕ) → Bytes s → (read_bare s).result ≡ 0 → (read_bare s).skipped ≡ 0 → (out : List ℕ) → length s ≤ length out
    → (write_bare (read_bare s).«record» out ≡ written 0 (length s)) × (bare_buffer (read_bare s).«record» out ≡ s ++ drop (length s) out)
accepted_writes_back s b e z out h =
    let a = accepted_means_the_one_payload s b e z in
    let w = written_is_the_one_payload (read_bare s).«record» out (accepted_is_proper s b e).valid_record (omega (arith, ap length a.0)) in
    (w.0 ∙ ap (λ (p : List ℕ). written 0 (length p)) (sym a.0), w.1 ∙ ap (λ (p : List ℕ). p ++ drop (length p) out) (sym a.0))

pub accepted_wrapped_writes_back : (s : List ℕ) → Bytes s → (read_wrapped s).result ≡ 0 → (read_wrapped s).skipped ≡ 0 → (out : List ℕ) → length s ≤ length out
    → (write_wrapped (read_wrapped s).«record» out ≡ written 0 (length s)) × (wrapped_buffer (read_wrapped s).«record» out ≡ s ++ drop (length s) out)
accepted_wrapped_writes_back s b e z out h =
    let a = accepted_wrapped_means_the_one_payload s b e z in
    let w = written_wrapped_is_the_one_payload (read_wrapped s).«record» out (accepted_wrapped_is_proper s b e).valid_record (omega (arith, ap length a.0)) in
    (w.0 ∙ ap (λ (p : List ℕ). written 0 (length p)) (sym a.0), w.1 ∙ ap (λ (p : List ℕ). p ++ drop (length p) out) (sym a.0))

-- and whatever was passed over, the rewritten payload reads to the same record with none passed over; 224 bytes have room for it
pub rewritten_reads_to_the_same_record : (s : List ℕ) → Bytes s → (read_bare s).result ≡ 0 → (out : List ℕ) → length (payload (read_bare s).«record») ≤ length out
    → read_bare (take (write_bare (read_bare s).«record» out).bytes (bare_buffer (read_bare s).«record» out)) ≡ plain_reading (read_bare s).«record»
rewritten_reads_to_the_same_record s b e out h = written_reads_back (read_bare s).«record» out (accepted_is_proper s b e) h

pub rewritten_wrapped_reads_to_the_same_record : (s : List ℕ) → Bytes s → (read_wrapped s).result ≡ 0 → (out : List ℕ) → length (wrapped_payload (read_wrapped s).«record») ≤ length out
    → read_wrapped (take (write_wrapped (read_wrapped s).«record» out).bytes (wrapped_buffer (read_wrapped s).«record» out)) ≡ plain_reading (read_wrapped s).«record»
rewritten_wrapped_reads_to_the_same_record s b e out h = written_wrapped_reads_back (read_wrapped s).«record» out (accepted_wrapped_is_proper s b e) h

-- room of 224 bytes always suffices, 232 wrapped, and 223 do not for the largest record
pub room_of_224_suffices : (r : Record) (out : List ℕ) → Proper r → 224 ≤ length out → (write_bare r out).result ≡ 0
room_of_224_suffices r out p h = ap (λ (w : Written). w.result) (written_is_the_one_payload r out p.valid_record (omega (arith, no_payload_is_longer r p, largest-length))).0

pub room_of_232_suffices_wrapped : (r : Record) (out : List ℕ) → Proper r → 232 ≤ length out → (write_wrapped r out).result ≡ 0
room_of_232_suffices_wrapped r out p h = ap (λ (w : Written). w.result) (written_wrapped_is_the_one_payload r out p.valid_record (omega (arith, no_payload_is_longer r p, largest-length))).0

pub room_of_223_does_not : (out : List ℕ) → length out ≡ 223 → write_bare largest out ≡ written 13 0
room_of_223_does_not out h = (no_room_is_13 largest out largest_proper.valid_record (omega (arith, largest-length))).0
