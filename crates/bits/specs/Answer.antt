-- What the functions that read bits answer: a value and its width, or the refusal and the offset of a fault, which goes by no name.
use Rattle.std.specs.Prelude.{ℕ, ◌+◌, ◌*◌, ◌^◌, ◌<◌, ◌≤◌, ◌≡◌, Result, Ok, Err, List, length, take, drop}
use Rattle.refusals.specs.Numbered.{refusal_of}
use Rattle.refusals.specs.declared.Refusal.{Refusal}
use Rattle.tree.specs.Bits.{bits_of, value}
use Rattle.tree.specs.Reading.{Fault, number_in, offset_in, Out, ok, no, ue}
use Rattle.bits.specs.declared.Number.{Number}
use Rattle.bits.specs.declared.Unread.{Unread}
use Rattle.bits.specs.declared.Lead.{Lead}

-- what is read has a name to those who ask for it, and none here
abbrev pub nameless : Unit {0}
nameless = tt

-- a refusal, by where its element begins
abbrev pub unread : Refusal → ℕ → Unread
unread r at = record { refusal = r; offset = at }

-- of a fault the code holds which refusal it is, and where its element begins
abbrev pub unread_as : {N : Type 0} → Fault N → Unread
unread_as f = unread (refusal_of (number_in f)) (offset_in f)

abbrev pub read_as : ℕ → ℕ → Number
read_as v n = record { value = v; width = n }

abbrev pub number_of : {N : Type 0} → Out N ℕ → Result Number Unread
number_of (ok v n) = Ok (read_as v n)
number_of (no f) = Err (unread_as f)

-- zero bits are the number 0
abbrev pub span_of : {N : Type 0} → Out N (Unit {0}) → Result Number Unread
span_of (ok z n) = Ok (read_as 0 n)
span_of (no f) = Err (unread_as f)

-- the number of a ue(v) code fits 32 bits if it has so many zeros, and with one more it need not
abbrev pub zeros_that_fit : ℕ
zeros_that_fit = 31

-- ---- on the way to a ue(v) code

-- bits up to the byte that holds their first one, or the answer for the whole code
abbrev pub Leads : List ℕ → ℕ → ℕ → Result Lead Unread → Type 0
Leads s at most (Ok l) = (l.value ≡ value (take l.width (drop at (bits_of s)))) × (0 < l.value) × (at + l.width ≡ 8 * l.next) × (l.next ≤ length s) × (l.width ≤ most + 8)
Leads s at most (Err u) = Err u ≡ number_of (ue nameless most at (drop at (bits_of s)))

-- a code of so many zeros, whose first bits these are
abbrev pub Begun : List ℕ → ℕ → Lead → ℕ → Type 0
Begun s at l zeros =
    (l.value ≡ value (take l.width (drop at (bits_of s)))) × (at + l.width ≡ 8 * l.next) × (l.next ≤ length s) × (zeros < l.width) × (l.width ≤ zeros_that_fit + 8) × (value (take (zeros + 1) (drop at (bits_of s))) ≡ 1)
    × (zeros ≤ zeros_that_fit) × (at < 2 ^ 32)
