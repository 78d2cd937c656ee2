-- Laws of the functions on units: what lies in a buffer, and what is written around a message.
use Prim.Native.Nat.{ℕ, ◌≤◌}
use mathlib.Core.Path.{◌≡◌, refl, ap, sym, ◌∙◌}
use mathlib.Core.List.{List, ◌++◌}
use mathlib.Core.Bool.{Bool, true, false, cond}
use native.Mathlib.Omega.{arith}
use lib.ListN.{length, take, drop, length-append}
use lib.Seq.{take_at}
use Rattle.std.specs.Prelude.{Ok, Err}
use Rattle.refusals.specs.Refusals.{wrong_unit}
use Rattle.refusals.specs.Numbered.{number_of}
use Rattle.refusals.specs.declared.Refusal.{Refusal}
use Rattle.refusals.specs.declared.Refusal.TheVariants.{WrongUnit, StartCodeInside}
use Rattle.reader.specs.Reading.{unplaced}
use Rattle.sei.specs.Header.{admitted}
use Rattle.tree.proofs.Truth.{clash}
use Rattle.output.specs.Output.{outcome_as, buffer_as}
use Rattle.output.proofs.Output.{ends_done, ends_bad}
use Rattle.record.specs.declared.Record.{Record}
use Rattle.record.specs.Blocks.{most_blocks}
use Rattle.valid.specs.Valid.{valid, Proper}
use Rattle.syntax.specs.Wrapper.{wrapped_payload}
use Rattle.emulation.specs.Emulation.{forbidden, escaped}
use Rattle.emulation.proofs.Laws.{escaped_fits}
use Rattle.rbsp.specs.Message.{trailing}
use Rattle.messages.specs.Answer.{message_rbsp}
use Rattle.messages.proofs.Writing.{rbsp_is, wrapped_length}
use Rattle.sei.specs.SeiUnit.{checked, read_body, read_unit, our_header, unit_bytes, unit_buffer, sufficient_bytes}

-- ---- reading

-- the beginning of a buffer that bytes were put into
pub beginning : (bytes rest out : List ℕ) (n : ℕ) → n ≡ length bytes → out ≡ bytes ++ rest → (n ≤ length out) × (take n out ≡ bytes)
beginning bytes rest out n e f = (omega (arith, e, ap (length {A = ℕ}) f, length-append bytes rest), ap (take n) f ∙ take_at bytes rest n (sym e))

-- where the header or the bytes refuse a unit, so is its reading refused
pub unit_refused : (u : List ℕ) (r : Refusal) → Err r ≡ checked u → unplaced (number_of r) ≡ read_unit u
unit_refused u r e = go (admitted u) (forbidden u) e
  where
    go : (a f : Bool) → Err r ≡ cond a (cond f (Err StartCodeInside) (Ok (drop 2 u))) (Err WrongUnit) → unplaced (number_of r) ≡ cond a (read_body f u) (unplaced wrong_unit)
    go true true q = let a : r ≡ StartCodeInside = cc in rw a
    go true false q = let z : ◌≡◌ {A = ℕ} 0 1 = cc in clash z
    go false f q = let a : r ≡ WrongUnit = cc in rw a

-- ---- writing

-- our message has at most 235 bytes
pub message-length : (r : Record) → length r.places ≡ most_blocks → valid r ≡ true → length (message_rbsp r) ≤ 235
message-length r p v = omega (arith, ap (length {A = ℕ}) (rbsp_is r p v), wrapped_length r p v, length-append (wrapped_payload r) trailing)

-- and our unit at most 354
pub most_unit_bytes_lem : (r : Record) → Proper r → length (unit_bytes r) ≤ sufficient_bytes
most_unit_bytes_lem r p = omega (arith, message-length r p.places p.valid_record, escaped_fits (message_rbsp r))

-- the message is first written into a body that it always fits
module _ (r : Record) (p : length r.places ≡ most_blocks) (body : List ℕ) (l : length body ≡ 235) where
  -- where that is refused, the record is not valid, and so is the unit refused
  pub message_refused : (out : List ℕ) (f : Refusal) → Err f ≡ outcome_as (message_rbsp r) (valid r) body → (Err f ≡ outcome_as (unit_bytes r) (valid r) out) × (out ≡ unit_buffer r out)
  message_refused out f e = go (valid r) refl
    where
      go : (t : Bool) → valid r ≡ t → (Err f ≡ outcome_as (unit_bytes r) (valid r) out) × (out ≡ unit_buffer r out)
      go true v =
          let x = ends_done (message_rbsp r) (valid r) body v (omega (arith, message-length r p v)) in
          let a = e ∙ sym x.0 in
          let z : ◌≡◌ {A = ℕ} 0 1 = cc in clash z
      go false v =
          let x = ends_bad (message_rbsp r) (valid r) body v in
          let y = ends_bad (unit_bytes r) (valid r) out v in
          (e ∙ sym x.0 ∙ y.0, y.1)

  -- where it is written, the record is valid, and the body begins with the message
  pub message_written : (n : ℕ) → Ok n ≡ outcome_as (message_rbsp r) (valid r) body
      → (valid r ≡ true) × (n ≡ length (message_rbsp r)) × (buffer_as (message_rbsp r) (valid r) body ≡ message_rbsp r ++ drop (length (message_rbsp r)) body)
  message_written n e = go (valid r) refl
    where
      go : (t : Bool) → valid r ≡ t → (valid r ≡ true) × (n ≡ length (message_rbsp r)) × (buffer_as (message_rbsp r) (valid r) body ≡ message_rbsp r ++ drop (length (message_rbsp r)) body)
      go true v =
          let x = ends_done (message_rbsp r) (valid r) body v (omega (arith, message-length r p v)) in
          let a = e ∙ sym x.0 in
          (v, cc, sym x.1)
      go false v =
          let a = e ∙ sym (ends_bad (message_rbsp r) (valid r) body v).0 in
          let z : ◌≡◌ {A = ℕ} 0 1 = cc in clash z

  -- so that the part of it that is handed on is the message
  pub message_handed : (n : ℕ) (now : List ℕ) → Ok n ≡ outcome_as (message_rbsp r) (valid r) body → now ≡ buffer_as (message_rbsp r) (valid r) body
      → (valid r ≡ true) × (n ≤ length now) × (take n now ≡ message_rbsp r)
  message_handed n now e f =
      let x = message_written n e in
      let y = beginning (message_rbsp r) (drop (length (message_rbsp r)) body) now n x.1 (f ∙ x.2) in
      (x.0, y.0, y.1)

-- the unit of a valid record is what is written of its message
pub unit_written : (r : Record) (message out : List ℕ) → valid r ≡ true → message ≡ message_rbsp r
    → (outcome_as (our_header ++ escaped message) true out ≡ outcome_as (unit_bytes r) (valid r) out) × (buffer_as (our_header ++ escaped message) true out ≡ unit_buffer r out)
unit_written r message out v e = (
  ap (λ (m : List ℕ). outcome_as (our_header ++ escaped m) true out) e ∙ ap (λ (t : Bool). outcome_as (unit_bytes r) t out) (sym v),
  ap (λ (m : List ℕ). buffer_as (our_header ++ escaped m) true out) e ∙ ap (λ (t : Bool). buffer_as (unit_bytes r) t out) (sym v),
)
