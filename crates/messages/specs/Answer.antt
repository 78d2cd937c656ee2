-- What the functions on messages answer, and on the way to it: parts of the bytes s.
use Rattle.std.specs.Prelude.{ℕ, ◌+◌, cond, List, [], ◌∷◌, take, drop, Option, None, Some, Result, Ok, Err}
use Rattle.std.specs.Borrow.{Bor}
use Rattle.std.proofs.Math.Option.{Option as Maybe, none, some}
use Rattle.refusals.specs.Refusals.{broken_messages, none_of_ours}
use Rattle.refusals.specs.declared.Refusal.{Refusal}
use Rattle.refusals.specs.declared.Refusal.TheVariants.{BrokenMessages, NoneOfOurs}
use Rattle.output.specs.declared.Written.{Written}
use Rattle.output.specs.Output.{written_as, buffer_as}
use Rattle.record.specs.declared.Record.{Record}
use Rattle.valid.specs.Valid.{valid}
use Rattle.reader.specs.declared.Reading.{Reading}
use Rattle.reader.specs.Reading.{unplaced}
use Rattle.wrapper.specs.Wrapper.{read_wrapped}
use Rattle.rbsp.specs.Message.{Message, Chain, counts, past, Frame, frame, no_frame, messages_in, is_ours, first_of_ours, our_message, sei_rbsp}

-- a type or a size, and the bytes behind it, if they do not end within it
abbrev pub number_in : List ℕ → Chain → Option (ℕ × List ℕ)
number_in s past = None
number_in s (counts v n) = Some (v, drop n s)

-- a message: its type, its content and the bytes behind it, if they do not end within it
abbrev pub message_at : List ℕ → Frame → Option (ℕ × List ℕ × List ℕ)
message_at s no_frame = None
message_at s (frame t head size) = Some (t, take size (drop head s), drop (head + size) s)

-- the content of our first message; or none is ours, or the bytes are no messages
abbrev pub first_content : Maybe Message → Result (List ℕ) Refusal
first_content none = Err NoneOfOurs
first_content (some m) = Ok m.content

abbrev pub ours_in : Maybe (List Message) → Result (List ℕ) Refusal
ours_in none = Err BrokenMessages
ours_in (some ms) = first_content (first_of_ours ms)

-- the first where there is one, and else the content of a message if it is ours
abbrev pub or_ours : Option (List ℕ) → Message → Option (List ℕ)
or_ours None m = cond (is_ours m) (Some m.content) None
or_ours (Some c) m = Some c

-- what the code gives of these, with the bytes for the slices of them
abbrev pub number_read : Option (ℕ × Bor (List ℕ)) → Option (ℕ × List ℕ)
number_read None = None
number_read (Some x) = Some (x.0, x.1.now)

abbrev pub message_read : Option (ℕ × Bor (List ℕ) × Bor (List ℕ)) → Option (ℕ × List ℕ × List ℕ)
message_read None = None
message_read (Some x) = Some (x.0, x.1.now, x.2.now)

abbrev pub first_read : Option (Bor (List ℕ)) → Option (List ℕ)
first_read None = None
first_read (Some c) = Some c.now

abbrev pub content_found : Result (Bor (List ℕ)) Refusal → Result (List ℕ) Refusal
content_found (Ok c) = Ok c.now
content_found (Err r) = Err r

-- 02, a: our first message goes to the reader of wrapped data, whose answer stands; 02, e: a refusal of the unit itself has no place
abbrev pub read_first : Maybe Message → Reading
read_first none = unplaced none_of_ours
read_first (some m) = read_wrapped m.content

abbrev pub read_ours : Maybe (List Message) → Reading
read_ours none = unplaced broken_messages
read_ours (some ms) = read_first (first_of_ours ms)

-- read_messages
abbrev pub read_messages : List ℕ → Reading
read_messages s = read_ours (messages_in s)

-- write_message: the answer, and the buffer afterwards
abbrev pub message_rbsp : Record → List ℕ
message_rbsp r = sei_rbsp (our_message r ∷ [])

abbrev pub write_message : Record → List ℕ → Written
write_message r out = written_as (message_rbsp r) (valid r) out

abbrev pub message_buffer : Record → List ℕ → List ℕ
message_buffer r out = buffer_as (message_rbsp r) (valid r) out
