-- Request a (02): the SEI unit whole. Each of 30 to 33 exactly when, exactness, the others passed over, and what is written.
use Prim.Native.Nat.{ℕ, ◌<◌, ◌≤◌}
use mathlib.Core.Path.{◌≡◌, refl, ap, sym, subst, ◌∙◌}
use mathlib.Core.List.{List, [], ◌∷◌, ◌++◌}
use mathlib.Core.Bool.{Bool, true, false, ◌||◌, or-true, true≢false, false≢true}
use mathlib.Core.Logic.{◌⊎◌, inl, inr}
use native.Mathlib.Omega.{arith}
use borrow.Author.Tests.{eqb-true}
use lib.Dec.{eqb}
use lib.ListN.{length, take, drop}
use lib.Seq.{take_at}
use Rattle.tree.specs.Bits.{bits_of, Bytes}
use Rattle.tree.proofs.Truth.{and_parts}
use Rattle.tree.proofs.Lists.{bytes_drop}
use Rattle.output.specs.declared.Written.{Written}
use Rattle.output.specs.Output.{written}
use Rattle.output.proofs.Output.{done, short, bad}
use Rattle.record.specs.declared.Record.{Record}
use Rattle.record.specs.Blocks.{empty_record}
use Rattle.valid.specs.Valid.{among, valid, Proper}
use Rattle.syntax.specs.Data.{Data}
use Rattle.syntax.specs.Element.{data_of}
use Rattle.syntax.specs.Wrapper.{wrapper_bytes, wrapped_data}
use Rattle.syntax.specs.Reason.{data_numbers, wrapped_numbers}
use Rattle.syntax.proofs.Records.{the_record_is_valid, data_is_well_formed}
use Rattle.syntax.proofs.Wrapped.{same_wrapped_payload, handed_on}
use Rattle.reader.specs.declared.Reading.{Reading}
use Rattle.reader.specs.Reading.{unplaced, reading_of, read_bare}
use Rattle.wrapper.specs.Wrapper.{begins_with, read_wrapped, write_wrapped, wrapped_buffer}
use Rattle.emulation.specs.Emulation.{escaped, StartCodeInside}
use Rattle.emulation.proofs.Laws.{removing_undoes_inserting, escaping_is_free, what_stands_is_forbidden, behind_a_header, removed_bytes}
use Rattle.rbsp.specs.Message.{Message, registered, is_ours, sei_rbsp, NoneOurs, our_message}
use Rattle.rbsp.proofs.Laws.{content_bytes}
use Rattle.sei.specs.Header.{nal_unit_type, nuh_layer_id, nuh_temporal_id_plus1, most_unit_bytes, AllowedHeader}
use Rattle.sei.specs.SeiUnit.{unit_of, read_unit, unit_bytes, write_unit, unit_buffer}
use Rattle.sei.specs.Units.{body_of, Thirty, ThirtyOne, ThirtyTwo, ThirtyThree, HoldsOurs, IsUnit}
use Rattle.promises.specs.Units.{HoldsData, unit_numbers}
use Rattle.promises.specs.Payloads.{reading_for, plain_reading}
use Rattle.sei.proofs.Functions.{most_unit_bytes_lem}
use Rattle.sei.proofs.Units.{gets_30, gets_31, gets_32, gets_33, ours_is_read, one_of_five, is_a_unit, unit_is_read}
use Rattle.promises.proofs.Reading.{eight_is_none, bare_data_gets_a_listed_number, a_refusal_is_empty, wrapped_data_gets_a_listed_number, plain_is, accepted_wrapped_carries_data, every-wrapped_payload_is_read}
use Rattle.promises.proofs.Writing.{accepted_wrapped_writes_back}

-- ---- 30 to 33

module _ (u : List ℕ) (h : Bytes u) where
  abbrev result_of : ℕ
  result_of = (read_unit u).result

  -- the number of each of the five
  abbrev Five : Type 0
  Five = Thirty u ⊎ (ThirtyOne u ⊎ (ThirtyTwo u ⊎ (ThirtyThree u ⊎ ((m : Message) × HoldsOurs u m))))

  -- which number goes with each
  abbrev Numbered : ℕ → Five → Type 0
  Numbered n (inl t) = n ≡ 30
  Numbered n (inr (inl t)) = n ≡ 31
  Numbered n (inr (inr (inl t))) = n ≡ 32
  Numbered n (inr (inr (inr (inl t)))) = n ≡ 33
  Numbered n (inr (inr (inr (inr t)))) = among n (0 ∷ wrapped_numbers) ≡ true

  told : (k : Reading) → read_unit u ≡ k → result_of ≡ k.result
  told k e = ap (λ (q : Reading). q.result) e

  numbered : (f : Five) → Numbered result_of f
  numbered (inl t) = told (unplaced 30) (gets_30 u t)
  numbered (inr (inl t)) = told (unplaced 31) (gets_31 u h t)
  numbered (inr (inr (inl t))) = told (unplaced 32) (gets_32 u h t)
  numbered (inr (inr (inr (inl t)))) = told (unplaced 33) (gets_33 u h t)
  numbered (inr (inr (inr (inr (m, t))))) = subst (λ (n : ℕ). among n (0 ∷ wrapped_numbers) ≡ true) (sym (told (read_wrapped m.content) (ours_is_read u h m t))) (wrapped_data_gets_a_listed_number m.content)

  -- one of the five, and its number is n
  at_number : (n : ℕ) → result_of ≡ n → (f : Five) × Numbered n f
  at_number n e = (one_of_five u h, subst (λ (k : ℕ). Numbered k (one_of_five u h)) e (numbered (one_of_five u h)))

  -- 30 is given exactly when the unit is shorter than two bytes or above 4,096, its first header bit is set, its temporal id plus one is 0, or it is of another type
  pub thirty_exactly : (result_of ≡ 30 → Thirty u) × (Thirty u → read_unit u ≡ unplaced 30)
  unfolding among
  thirty_exactly = (λ e. go (at_number 30 e), gets_30 u)
    where
      go : (f : Five) × Numbered 30 f → Thirty u
      go (inl t, q) = t
      go (inr (inl t), q) = absurd (omega (arith, q))
      go (inr (inr (inl t)), q) = absurd (omega (arith, q))
      go (inr (inr (inr (inl t))), q) = absurd (omega (arith, q))
      go (inr (inr (inr (inr t))), q) = absurd (false≢true q)

  -- 31 exactly when it is not that, and two zero bytes are followed by 00, 01 or 02, or by 03 and then a byte above 03
  pub thirty_one_exactly : (result_of ≡ 31 → ThirtyOne u) × (ThirtyOne u → read_unit u ≡ unplaced 31)
  unfolding among
  thirty_one_exactly = (λ e. go (at_number 31 e), gets_31 u h)
    where
      go : (f : Five) × Numbered 31 f → ThirtyOne u
      go (inl t, q) = absurd (omega (arith, q))
      go (inr (inl t), q) = t
      go (inr (inr (inl t)), q) = absurd (omega (arith, q))
      go (inr (inr (inr (inl t))), q) = absurd (omega (arith, q))
      go (inr (inr (inr (inr t))), q) = absurd (false≢true q)

  -- 32 exactly when it is neither, and there is no message at all, a type, size or content runs past the end, or the end is not the single byte 80 after a whole message
  pub thirty_two_exactly : (result_of ≡ 32 → ThirtyTwo u) × (ThirtyTwo u → read_unit u ≡ unplaced 32)
  unfolding among
  thirty_two_exactly = (λ e. go (at_number 32 e), gets_32 u h)
    where
      go : (f : Five) × Numbered 32 f → ThirtyTwo u
      go (inl t, q) = absurd (omega (arith, q))
      go (inr (inl t), q) = absurd (omega (arith, q))
      go (inr (inr (inl t)), q) = t
      go (inr (inr (inr (inl t))), q) = absurd (omega (arith, q))
      go (inr (inr (inr (inr t))), q) = absurd (false≢true q)

  -- 33 exactly when it is none of these, and none of the messages is ours
  pub thirty_three_exactly : (result_of ≡ 33 → ThirtyThree u) × (ThirtyThree u → read_unit u ≡ unplaced 33)
  unfolding among
  thirty_three_exactly = (λ e. go (at_number 33 e), gets_33 u h)
    where
      go : (f : Five) × Numbered 33 f → ThirtyThree u
      go (inl t, q) = absurd (omega (arith, q))
      go (inr (inl t), q) = absurd (omega (arith, q))
      go (inr (inr (inl t)), q) = absurd (omega (arith, q))
      go (inr (inr (inr (inl t))), q) = t
      go (inr (inr (inr (inr t))), q) = absurd (false≢true q)

  -- and any other number is that of our first message, whose answer stands
  pub else_ours_decides : (n : ℕ) → result_of ≡ n → n < 30 → (m : Message) × HoldsOurs u m × (read_unit u ≡ read_wrapped m.content)
  else_ours_decides n e l = go (at_number n e)
    where
      go : (f : Five) × Numbered n f → (m : Message) × HoldsOurs u m × (read_unit u ≡ read_wrapped m.content)
      go (inl t, q) = absurd (omega (arith, q, l))
      go (inr (inl t), q) = absurd (omega (arith, q, l))
      go (inr (inr (inl t)), q) = absurd (omega (arith, q, l))
      go (inr (inr (inr (inl t))), q) = absurd (omega (arith, q, l))
      go (inr (inr (inr (inr (m, t)))), q) = (m, t, ours_is_read u h m t)

-- ---- exactly

-- an accepted unit holds well-formed data whose reading comes back; and each unit that holds such data is accepted so
pub an_accepted_unit_holds_its_data : (u : List ℕ) → Bytes u → (read_unit u).result ≡ 0 → (d : Data) × HoldsData u d × (read_unit u ≡ reading_for d)
an_accepted_unit_holds_its_data u h e = go (else_ours_decides u h 0 e (omega arith))
  where
    go : (m : Message) × HoldsOurs u m × (read_unit u ≡ read_wrapped m.content) → (d : Data) × HoldsData u d × (read_unit u ≡ reading_for d)
    go (m, t, q) =
        let b : Bytes m.content = content_bytes t.messages m (subst Bytes t.all (removed_bytes (drop 2 u) (bytes_drop 2 u h))) t.first in
        let a = accepted_wrapped_carries_data m.content b (sym (ap (λ (x : Reading). x.result) q) ∙ e) in (
          a.held,
          record { messages = t.messages; unit = is_a_unit u h t.right_unit t.none_inside t.messages t.all; ours = m; first = t.first; payload = a.bytes; fits = a.fits },
          q ∙ a.reading,
        )

pub a_unit_that_holds_data_is_accepted : (u : List ℕ) (d : Data) → HoldsData u d → read_unit u ≡ reading_for d
a_unit_that_holds_data_is_accepted u d k =
    let v = k.unit in
    ap read_unit v.is ∙ unit_is_read v.first v.second v.header k.messages (omega (arith, v.few, ap length v.is)) k.ours k.first
    ∙ ap read_wrapped k.payload ∙ every-wrapped_payload_is_read d k.fits

-- a unit is its header and the one escaping of what stands behind it
rebuilt : (u : List ℕ) (ms : List Message) → IsUnit u ms → u ≡ take 2 u ++ escaped (body_of u)
rebuilt u ms k =
    let whole : unit_of k.first k.second ms ≡ take 2 (unit_of k.first k.second ms) ++ escaped (body_of (unit_of k.first k.second ms)) =
    ap (λ (l : List ℕ). k.first ∷ k.second ∷ escaped l) (sym (removing_undoes_inserting (sei_rbsp ms))) in
    subst (λ (v : List ℕ). v ≡ take 2 v ++ escaped (body_of v)) (sym k.is) whole

-- so two units that differ in emulation bytes only cannot both be accepted
pub emulation_bytes_cannot_differ : (u v : List ℕ) → Bytes u → Bytes v → (read_unit u).result ≡ 0 → (read_unit v).result ≡ 0 → take 2 u ≡ take 2 v → body_of u ≡ body_of v → u ≡ v
emulation_bytes_cannot_differ u v hu hv eu ev header body =
    let x = (an_accepted_unit_holds_its_data u hu eu).1 in
    let y = (an_accepted_unit_holds_its_data v hv ev).1 in
    rebuilt u x.messages x.unit ∙ ap (λ (l : List ℕ). l ++ escaped (body_of u)) header ∙ ap (λ (l : List ℕ). take 2 v ++ escaped l) body ∙ sym (rebuilt v y.messages y.unit)

-- ---- the others are passed over

-- whatever stands in the other messages, before or behind: the answer is that of our message's content
pub the_others_are_passed_over : (a b : ℕ) → AllowedHeader a b → (before behind : List Message) (m : Message) → NoneOurs before → is_ours m ≡ true
    → length (unit_of a b (before ++ (m ∷ behind))) ≤ most_unit_bytes → read_unit (unit_of a b (before ++ (m ∷ behind))) ≡ read_wrapped m.content
the_others_are_passed_over a b h before behind m n o l =
    unit_is_read a b h (before ++ (m ∷ behind)) l m (record { before = before; behind = behind; all = refl; others = n; ours = o })

-- so they change no answer
pub the_others_change_nothing : (a b c d : ℕ) → AllowedHeader a b → AllowedHeader c d → (before behind before' behind' : List Message) (m : Message) → NoneOurs before → NoneOurs before' → is_ours m ≡ true
    → length (unit_of a b (before ++ (m ∷ behind))) ≤ most_unit_bytes → length (unit_of c d (before' ++ (m ∷ behind'))) ≤ most_unit_bytes
    → read_unit (unit_of a b (before ++ (m ∷ behind))) ≡ read_unit (unit_of c d (before' ++ (m ∷ behind')))
the_others_change_nothing a b c d h k before behind before' behind' m n n' o l l' =
    the_others_are_passed_over a b h before behind m n o l ∙ sym (the_others_are_passed_over c d k before' behind' m n' o l')

-- ---- what is written

-- 4E 01 is type 39, layer 0, temporal id plus one of 1
pub our_header_lem : AllowedHeader 0x4E 0x01
our_header_lem = record { zero_bit = refl; type = inl refl; temporal = λ e. absurd (omega (arith, e)) }

pub our_header_says : (nal_unit_type 0x4E ≡ 39) × (nuh_layer_id 0x4E 0x01 ≡ 0) × (nuh_temporal_id_plus1 0x01 ≡ 1)
our_header_says = (refl, refl, refl)

-- a unit that we write is 4E 01, then the one escaping of our message alone and 80
pub a_written_unit_is : (r : Record) → unit_bytes r ≡ unit_of 0x4E 0x01 (our_message r ∷ [])
a_written_unit_is r = refl

pub not_valid_unit_is_14 : (r : Record) (out : List ℕ) → valid r ≡ false → (write_unit r out ≡ written 14 0) × (unit_buffer r out ≡ out)
not_valid_unit_is_14 r out v = let a = bad (unit_bytes r) (valid r) out v in (sym a.0, sym a.1)

-- 13 counts the whole unit with its emulation bytes
pub no_room_for_a_unit_is_13 : (r : Record) (out : List ℕ) → valid r ≡ true → length out < length (unit_bytes r) → (write_unit r out ≡ written 13 0) × (unit_buffer r out ≡ out)
no_room_for_a_unit_is_13 r out v h = let a = short (unit_bytes r) (valid r) out v h in (sym a.0, sym a.1)

-- given room, later bytes of the buffer stay
pub a_unit_is_written : (r : Record) (out : List ℕ) → valid r ≡ true → length (unit_bytes r) ≤ length out
    → (write_unit r out ≡ written 0 (length (unit_bytes r))) × (unit_buffer r out ≡ unit_bytes r ++ drop (length (unit_bytes r)) out)
a_unit_is_written r out v h = let a = done (unit_bytes r) (valid r) out v h in (sym a.0, sym a.1)

-- it holds no 00 00 00, 00 00 01 or 00 00 02, nor 00 00 03 before a byte above 03
pub a_written_unit_holds_no_start_code : (r : Record) → StartCodeInside (unit_bytes r) → ⊥
a_written_unit_holds_no_start_code r s =
    true≢false (sym (what_stands_is_forbidden (unit_bytes r) s) ∙ behind_a_header 0x4E 0x01 (escaped (sei_rbsp (our_message r ∷ []))) (λ e. absurd (omega (arith, e))) ∙ escaping_is_free (sei_rbsp (our_message r ∷ [])))

-- our message is ours
pub our_message-is_ours : (r : Record) → is_ours (our_message r) ≡ true
unfolding begins_with
our_message-is_ours r = refl

-- it holds its record and nothing else
written_holds : (r : Record) → Proper r → HoldsData (unit_bytes r) (data_of r)
unfolding NoneOurs
written_holds r p =
    record {
      messages = our_message r ∷ [];
      unit = record { first = 0x4E; second = 0x01; header = our_header_lem; few = omega (arith, most_unit_bytes_lem r p); is = refl };
      ours = our_message r;
      first = record { before = []; behind = []; all = refl; others = tt; ours = our_message-is_ours r };
      payload = sym (same_wrapped_payload r p);
      fits = data_is_well_formed r p;
    }

-- and reads back to it
pub a_written_unit_reads_back : (r : Record) (out : List ℕ) → Proper r → length (unit_bytes r) ≤ length out
    → read_unit (take (write_unit r out).bytes (unit_buffer r out)) ≡ plain_reading r
a_written_unit_reads_back r out p h =
    let w = a_unit_is_written r out p.valid_record h in
    let t : take (write_unit r out).bytes (unit_buffer r out) ≡ unit_bytes r = rw (w.0, w.1) (take_at (unit_bytes r) (drop (length (unit_bytes r)) out) (length (unit_bytes r)) refl) in
    ap read_unit t ∙ a_unit_that_holds_data_is_accepted (unit_bytes r) (data_of r) (written_holds r p) ∙ plain_is r p

-- an accepted unit's record, written by itself, is the content of its message, where nothing was passed over in it: demand 2 of the unwrapped message
pub our_message_writes_back : (u : List ℕ) → Bytes u → (read_unit u).result ≡ 0 → (read_unit u).skipped ≡ 0 → (m : Message) × HoldsOurs u m × ((out : List ℕ) → length m.content ≤ length out
    → (write_wrapped (read_unit u).«record» out ≡ written 0 (length m.content)) × (wrapped_buffer (read_unit u).«record» out ≡ m.content ++ drop (length m.content) out))
our_message_writes_back u h e none = go (else_ours_decides u h 0 e (omega arith))
  where
    go : (m : Message) × HoldsOurs u m × (read_unit u ≡ read_wrapped m.content) → (m : Message) × HoldsOurs u m × ((out : List ℕ) → length m.content ≤ length out
        → (write_wrapped (read_unit u).«record» out ≡ written 0 (length m.content)) × (wrapped_buffer (read_unit u).«record» out ≡ m.content ++ drop (length m.content) out))
    go (m, t, q) =
        let b : Bytes m.content = content_bytes t.messages m (subst Bytes t.all (removed_bytes (drop 2 u) (bytes_drop 2 u h))) t.first in
        let same : (read_unit u).«record» ≡ (read_wrapped m.content).«record» = ap (λ (x : Reading). x.«record») q in (
          m,
          t,
          λ out l. subst (λ (r : Record). (write_wrapped r out ≡ written 0 (length m.content)) × (wrapped_buffer r out ≡ m.content ++ drop (length m.content) out)) (sym same)
              (accepted_wrapped_writes_back m.content b (sym (ap (λ (x : Reading). x.result) q) ∙ e) (sym (ap (λ (x : Reading). x.skipped) q) ∙ none) out l),
        )

-- and whatever was passed over, a unit rewritten from its record reads to the same record with none passed over
pub a_rewritten_unit_reads_to_the_same_record : (u : List ℕ) → Bytes u → (read_unit u).result ≡ 0 → (out : List ℕ) → length (unit_bytes (read_unit u).«record») ≤ length out
    → read_unit (take (write_unit (read_unit u).«record» out).bytes (unit_buffer (read_unit u).«record» out)) ≡ plain_reading (read_unit u).«record»
a_rewritten_unit_reads_to_the_same_record u h e out l =
    let a = an_accepted_unit_holds_its_data u h e in
    let p : Proper (read_unit u).«record» = rw a.2 (the_record_is_valid a.0 a.1.fits) in
    a_written_unit_reads_back (read_unit u).«record» out p l

-- 354 bytes always suffice
pub room_of_354_suffices_for_a_unit : (r : Record) (out : List ℕ) → Proper r → 354 ≤ length out → (write_unit r out).result ≡ 0
room_of_354_suffices_for_a_unit r out p h = ap (λ (w : Written). w.result) (a_unit_is_written r out p.valid_record (omega (arith, most_unit_bytes_lem r p))).0

-- ---- demand 1: every unit gets an answer, and a refusal is empty

-- our message is the wrapper and something behind it, which is read as bare data: 3 does not occur
begins_is : (ws s : List ℕ) → begins_with ws s ≡ true → s ≡ ws ++ drop (length ws) s
unfolding begins_with
begins_is [] s e = refl
begins_is (w ∷ ws) [] e = absurd (false≢true e)
begins_is (w ∷ ws) (b ∷ s) e =
    let p = and_parts (eqb b w) (begins_with ws s) e in
    ap (λ (x : ℕ). x ∷ s) (eqb-true b w p.0) ∙ ap (λ (l : List ℕ). w ∷ l) (begins_is ws s p.1)

pub our_message_begins : (m : Message) → is_ours m ≡ true → m.content ≡ wrapper_bytes ++ drop 8 m.content
our_message_begins m o = begins_is wrapper_bytes m.content (and_parts (eqb m.«payloadType» registered) (begins_with wrapper_bytes m.content) o).1

pub our_message_is_read_as_data : (m : Message) → is_ours m ≡ true → read_wrapped m.content ≡ read_bare (drop 8 m.content)
our_message_is_read_as_data m o = ap read_wrapped (our_message_begins m o) ∙ ap reading_of (handed_on (drop 8 m.content))

-- a unit gets a listed number
pub a_unit_gets_a_listed_number : (u : List ℕ) → Bytes u → among (read_unit u).result unit_numbers ≡ true
unfolding among
a_unit_gets_a_listed_number u h = go (one_of_five u h)
  where
    at : (k : Reading) → read_unit u ≡ k → among k.result unit_numbers ≡ true → among (read_unit u).result unit_numbers ≡ true
    at k e a = ap (λ (q : Reading). among q.result unit_numbers) e ∙ a

    further : (n : ℕ) → among n (0 ∷ data_numbers) ≡ true → among n unit_numbers ≡ true
    further n a = rw a (right (eqb n 30) (eqb n 31) (eqb n 32) (eqb n 33))
      where
        right : (a b c d : Bool) → (a || (b || (c || (d || true)))) ≡ true
        right a b c d = rw (or-true d, or-true c, or-true b, or-true a) refl

    go : Thirty u ⊎ (ThirtyOne u ⊎ (ThirtyTwo u ⊎ (ThirtyThree u ⊎ ((m : Message) × HoldsOurs u m)))) → among (read_unit u).result unit_numbers ≡ true
    go (inl t) = at (unplaced 30) (gets_30 u t) refl
    go (inr (inl t)) = at (unplaced 31) (gets_31 u h t) refl
    go (inr (inr (inl t))) = at (unplaced 32) (gets_32 u h t) refl
    go (inr (inr (inr (inl t)))) = at (unplaced 33) (gets_33 u h t) refl
    go (inr (inr (inr (inr (m, t))))) =
        at (read_bare (drop 8 m.content)) (ours_is_read u h m t ∙ our_message_is_read_as_data m t.first.ours) (further (read_bare (drop 8 m.content)).result (bare_data_gets_a_listed_number (drop 8 m.content)))

pub eight_does_not_occur_in_a_unit : (u : List ℕ) → Bytes u → (read_unit u).result ≡ 8 → ⊥
unfolding among
eight_does_not_occur_in_a_unit u h = eight_is_none (read_unit u).result unit_numbers refl (a_unit_gets_a_listed_number u h)

pub a_refused_unit_is_empty : (u : List ℕ) → Bytes u → ((read_unit u).result ≡ 0 → ⊥) → ((read_unit u).«record» ≡ empty_record) × ((read_unit u).bits ≡ 0) × ((read_unit u).skipped ≡ 0)
a_refused_unit_is_empty u h n = go (one_of_five u h)
  where
    empty : (k : ℕ) → read_unit u ≡ unplaced k → ((read_unit u).«record» ≡ empty_record) × ((read_unit u).bits ≡ 0) × ((read_unit u).skipped ≡ 0)
    empty k e = (ap (λ (q : Reading). q.«record») e, ap (λ (q : Reading). q.bits) e, ap (λ (q : Reading). q.skipped) e)

    go : Thirty u ⊎ (ThirtyOne u ⊎ (ThirtyTwo u ⊎ (ThirtyThree u ⊎ ((m : Message) × HoldsOurs u m)))) → ((read_unit u).«record» ≡ empty_record) × ((read_unit u).bits ≡ 0) × ((read_unit u).skipped ≡ 0)
    go (inl t) = empty 30 (gets_30 u t)
    go (inr (inl t)) = empty 31 (gets_31 u h t)
    go (inr (inr (inl t))) = empty 32 (gets_32 u h t)
    go (inr (inr (inr (inl t)))) = empty 33 (gets_33 u h t)
    go (inr (inr (inr (inr (m, t))))) =
        let e = ours_is_read u h m t in
        let r = a_refusal_is_empty (wrapped_data (bits_of m.content)) (λ z. n (ap (λ (q : Reading). q.result) e ∙ z)) in
        (ap (λ (q : Reading). q.«record») e ∙ r.0, ap (λ (q : Reading). q.bits) e ∙ r.1, ap (λ (q : Reading). q.skipped) e ∙ r.2)
