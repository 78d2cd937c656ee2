-- An SEI unit whole (02, a): a header, then the one escaping of messages and the trailing byte. What reading and writing one answer.
use Rattle.std.specs.Prelude.{ℕ, Bool, cond, List, [], ◌∷◌, ◌++◌, drop, Result, Ok, Err}
use Rattle.std.specs.Borrow.{Bor}
use Rattle.refusals.specs.Refusals.{wrong_unit, start_code_inside}
use Rattle.refusals.specs.declared.Refusal.{Refusal}
use Rattle.refusals.specs.declared.Refusal.TheVariants.{WrongUnit, StartCodeInside}
use Rattle.output.specs.declared.Written.{Written}
use Rattle.output.specs.Output.{written_as, buffer_as}
use Rattle.record.specs.declared.Record.{Record}
use Rattle.valid.specs.Valid.{valid}
use Rattle.reader.specs.declared.Reading.{Reading}
use Rattle.reader.specs.Reading.{unplaced}
use Rattle.emulation.specs.Emulation.{forbidden, removed, escaped}
use Rattle.rbsp.specs.Message.{Message, sei_rbsp}
use Rattle.messages.specs.Answer.{read_messages, message_rbsp}
use Rattle.sei.specs.Header.{admitted}

-- the unit of messages under a header of two bytes
abbrev pub unit_of : ℕ → ℕ → List Message → List ℕ
unit_of first second ms = first ∷ second ∷ escaped (sei_rbsp ms)

-- read_unit: 30, then 31, then 32 and 33, each over the whole unit and before document 01's numbers
abbrev pub read_body : Bool → List ℕ → Reading
read_body start_code u = cond start_code (unplaced start_code_inside) (read_messages (removed (drop 2 u)))

abbrev pub read_unit : List ℕ → Reading
read_unit u = cond (admitted u) (read_body (forbidden u) u) (unplaced wrong_unit)

-- 30 and 31 on the way to it: what is behind the header, where neither refuses
abbrev pub checked : List ℕ → Result (List ℕ) Refusal
checked u = cond (admitted u) (cond (forbidden u) (Err StartCodeInside) (Ok (drop 2 u))) (Err WrongUnit)

-- what the code gives of it, with the bytes for the slice of them
abbrev pub behind_header : Result (Bor (List ℕ)) Refusal → Result (List ℕ) Refusal
behind_header (Ok s) = Ok s.now
behind_header (Err r) = Err r

-- the header that we write: type 39, layer 0, temporal id plus one of 1
abbrev pub our_header : List ℕ
our_header = 0x4E ∷ 0x01 ∷ []

-- the one unit that we write of a record
abbrev pub unit_bytes : Record → List ℕ
unit_bytes r = our_header ++ escaped (message_rbsp r)

-- write_unit: the answer, and the buffer afterwards
abbrev pub write_unit : Record → List ℕ → Written
write_unit r out = written_as (unit_bytes r) (valid r) out

abbrev pub unit_buffer : Record → List ℕ → List ℕ
unit_buffer r out = buffer_as (unit_bytes r) (valid r) out

-- how many bytes always suffice for it; a bound, and not the longest
abbrev pub sufficient_bytes : ℕ
sufficient_bytes = 354
