-- The messages of an SEI unit: sei_rbsp() and sei_message() of H.265, 7.3.2.4 and 7.3.5. Bytes behind bytes: no bits are needed.
use Rattle.std.specs.Prelude.{ℕ, zero, suc, ◌+◌, ◌/◌, ◌%◌, ◌<◌, ◌≡◌, Bool, true, false, cond, ◌&&◌, List, [], ◌∷◌, ◌++◌, eqb, leb, length, take, drop, replicate}
use Rattle.std.proofs.Math.Option.{Option, none, some}
use Rattle.record.specs.declared.Record.{Record}
use Rattle.syntax.specs.Wrapper.{wrapper_bytes, wrapped_payload}
use Rattle.wrapper.specs.Wrapper.{begins_with}

-- sei_message(): its payloadType, and the bytes of its sei_payload(), which are payloadSize many
pub record Message : Type 0 where
  pub «payloadType» : ℕ
  pub content : List ℕ

abbrev pub message : ℕ → List ℕ → Message
message t c = record { «payloadType» = t; content = c }

abbrev pub ff_byte : ℕ
ff_byte = 0xFF

-- a type or a size: an ff_byte for each 255, then last_payload_type_byte or last_payload_size_byte, which is below 255
unfoldable pub chained : ℕ → List ℕ
chained n = replicate (n / 255) ff_byte ++ (n % 255 ∷ [])

abbrev pub message_bytes : Message → List ℕ
message_bytes m = chained m.«payloadType» ++ (chained (length m.content) ++ m.content)

unfoldable pub all_messages : List Message → List ℕ
all_messages [] = []
all_messages (m ∷ ms) = message_bytes m ++ all_messages ms

-- rbsp_trailing_bits() behind whole bytes
abbrev pub trailing : List ℕ
trailing = 0x80 ∷ []

-- sei_rbsp(): the messages, and the trailing byte
abbrev pub sei_rbsp : List Message → List ℕ
sei_rbsp ms = all_messages ms ++ trailing

-- ---- reading

-- a type or size and how many bytes it has; or it runs past the end
pub data Chain : Type 0 where
  counts : ℕ → ℕ → Chain
  past : Chain

abbrev pub further : Chain → Chain
further (counts v n) = counts (255 + v) (suc n)
further past = past

unfoldable pub chain : List ℕ → Chain
chain [] = past
chain (b ∷ s) = cond (eqb b ff_byte) (further (chain s)) (counts b 1)

-- a message: its type, how many bytes stand before its content, and its size; or something runs past the end
pub data Frame : Type 0 where
  frame : ℕ → ℕ → ℕ → Frame
  no_frame : Frame

abbrev pub sized : ℕ → ℕ → Chain → List ℕ → Frame
sized t n past s = no_frame
sized t n (counts size m) s = cond (leb (n + m + size) (length s)) (frame t (n + m) size) no_frame

abbrev pub typed : Chain → List ℕ → Frame
typed past s = no_frame
typed (counts t n) s = sized t n (chain (drop n s)) s

unfoldable pub frame_of : List ℕ → Frame
frame_of s = typed (chain s) s

-- the end: the single byte 80
abbrev pub is_end : List ℕ → Bool
is_end [] = false
is_end (b ∷ []) = eqb b 0x80
is_end (b ∷ c ∷ s) = false

-- a message ahead of the others, if these are messages
abbrev pub ahead : Message → Option (List Message) → Option (List Message)
ahead m none = none
ahead m (some ms) = some (m ∷ ms)

abbrev pub behind_frame : (List ℕ → Option (List Message)) → List ℕ → Frame → Option (List Message)
behind_frame on s no_frame = none
behind_frame on s (frame t head size) = let rest = drop (head + size) s in ahead (message t (take size (drop head s))) (cond (is_end rest) (some []) (on rest))

-- do sei_message() while more_rbsp_data(): at most `most` of them
unfoldable pub messages_within : ℕ → List ℕ → Option (List Message)
messages_within zero s = none
messages_within (suc most) s = behind_frame (messages_within most) s (frame_of s)

-- the messages that the bytes are, if they are sei_rbsp(); no message is without a byte
abbrev pub messages_in : List ℕ → Option (List Message)
messages_in s = messages_within (length s) s

-- ---- ours

-- user_data_registered_itu_t_t35
abbrev pub registered : ℕ
registered = 4

-- 02, a: of type 4, and begins with our eight wrapper bytes
abbrev pub is_ours : Message → Bool
is_ours m = eqb m.«payloadType» registered && begins_with wrapper_bytes m.content

-- the first of ours
unfoldable pub first_of_ours : List Message → Option Message
first_of_ours [] = none
first_of_ours (m ∷ ms) = cond (is_ours m) (some m) (first_of_ours ms)

-- the message of a record
abbrev pub our_message : Record → Message
our_message r = message registered (wrapped_payload r)

-- none of them is ours
unfoldable pub NoneOurs : List Message → Type 0
NoneOurs [] = Unit {0}
NoneOurs (m ∷ ms) = (is_ours m ≡ false) × NoneOurs ms

-- the first of ours is m: behind others that are not, and before others of any kind
pub record FirstOurs (ms : List Message) (m : Message) : Type 0 where
  pub before : List Message
  pub behind : List Message
  pub all : ms ≡ before ++ (m ∷ behind)
  pub others : NoneOurs before
  pub ours : is_ours m ≡ true

-- one or more messages
abbrev pub OneOrMore : List Message → Type 0
OneOrMore [] = ⊥
OneOrMore (m ∷ ms) = Unit {0}

-- the bytes are one or more messages and the trailing byte
abbrev pub AreMessages : List ℕ → Type 0
AreMessages s = (ms : List Message) × OneOrMore ms × (s ≡ sei_rbsp ms)

-- 02, a, 32: bytes t that end within a message: its type runs past the end (or there is nothing at all), or its size, or its content
pub data RunsPast (t : List ℕ) : Type 0 where
  type_runs_past : (k : ℕ) → t ≡ replicate k ff_byte → RunsPast t
  size_runs_past : (type k : ℕ) → t ≡ chained type ++ replicate k ff_byte → RunsPast t
  content_runs_past : (type size : ℕ) (c : List ℕ) → length c < size → t ≡ chained type ++ (chained size ++ c) → RunsPast t

-- behind whole messages, or at the beginning, something runs past the end, or the end is not the single byte 80 after a whole message
pub record Broken (s : List ℕ) : Type 0 where
  pub messages : List Message
  pub last : List ℕ
  pub all : s ≡ all_messages messages ++ last
  pub runs : RunsPast last
  pub no_end : OneOrMore messages → last ≡ trailing → ⊥
