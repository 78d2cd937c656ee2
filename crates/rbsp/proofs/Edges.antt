-- Messages at their edges, by hand from H.265, 7.3.5, and 02, a.
use mathlib.Core.Path.{◌≡◌, refl}
use mathlib.Core.Bool.{true, false}
use mathlib.Core.List.{[], ◌∷◌}
use mathlib.Core.Option.{none, some}
use Rattle.wrapper.specs.Wrapper.{begins_with}
use Rattle.rbsp.specs.Message.{message, chained, counts, past, chain, frame_of, messages_within, messages_in, is_ours}

-- an ff_byte counts 255, and the last byte is below 255
pub chains_in_numbers :
    (chained 0 ≡ 0 ∷ []) × (chained 254 ≡ 254 ∷ []) × (chained 255 ≡ 0xFF ∷ 0 ∷ []) × (chained 259 ≡ 0xFF ∷ 4 ∷ []) × (chained 510 ≡ 0xFF ∷ 0xFF ∷ 0 ∷ [])
    × (chain (254 ∷ 9 ∷ []) ≡ counts 254 1) × (chain (0xFF ∷ 4 ∷ 9 ∷ []) ≡ counts 259 2) × (chain (0xFF ∷ 0xFF ∷ 0 ∷ []) ≡ counts 510 3) × (chain (0xFF ∷ 0xFF ∷ []) ≡ past)
unfolding chained chain
chains_in_numbers = (refl, refl, refl, refl, refl, refl, refl, refl, refl)

-- type, size, content; one or more of them, and the single byte 80
pub messages_in_numbers :
    (messages_in (5 ∷ 1 ∷ 9 ∷ 0x80 ∷ []) ≡ some (message 5 (9 ∷ []) ∷ [])) × (messages_in (5 ∷ 0 ∷ 0x80 ∷ []) ≡ some (message 5 [] ∷ []))
    × (messages_in (5 ∷ 1 ∷ 9 ∷ 0xFF ∷ 4 ∷ 2 ∷ 7 ∷ 8 ∷ 0x80 ∷ []) ≡ some (message 5 (9 ∷ []) ∷ message 259 (7 ∷ 8 ∷ []) ∷ []))
    × (messages_in (5 ∷ 1 ∷ 9 ∷ 0x80 ∷ 0 ∷ 0x80 ∷ []) ≡ some (message 5 (9 ∷ []) ∷ message 128 [] ∷ []))
    × (messages_in [] ≡ none) × (messages_in (0x80 ∷ []) ≡ none) × (messages_in (5 ∷ []) ≡ none) × (messages_in (0xFF ∷ []) ≡ none) × (messages_in (5 ∷ 1 ∷ []) ≡ none)
    × (messages_in (5 ∷ 1 ∷ 9 ∷ []) ≡ none) × (messages_in (5 ∷ 1 ∷ 9 ∷ 0x81 ∷ []) ≡ none) × (messages_in (5 ∷ 1 ∷ 9 ∷ 0x80 ∷ 0x80 ∷ []) ≡ none) × (messages_in (5 ∷ 2 ∷ 9 ∷ 0x80 ∷ []) ≡ none)
unfolding messages_within frame_of chain
messages_in_numbers = (refl, refl, refl, refl, refl, refl, refl, refl, refl, refl, refl, refl, refl)

-- ours is of type 4 and begins with B5 00 31 47 41 39 34 09
pub ours_in_numbers :
    (is_ours (message 4 (0xB5 ∷ 0x00 ∷ 0x31 ∷ 0x47 ∷ 0x41 ∷ 0x39 ∷ 0x34 ∷ 0x09 ∷ [])) ≡ true) × (is_ours (message 4 (0xB5 ∷ 0x00 ∷ 0x31 ∷ 0x47 ∷ 0x41 ∷ 0x39 ∷ 0x34 ∷ 0x09 ∷ 7 ∷ [])) ≡ true)
    × (is_ours (message 4 (0xB5 ∷ 0x00 ∷ 0x31 ∷ 0x47 ∷ 0x41 ∷ 0x39 ∷ 0x34 ∷ [])) ≡ false) × (is_ours (message 4 (0xB5 ∷ 0x00 ∷ 0x31 ∷ 0x47 ∷ 0x41 ∷ 0x39 ∷ 0x34 ∷ 0x08 ∷ [])) ≡ false)
    × (is_ours (message 5 (0xB5 ∷ 0x00 ∷ 0x31 ∷ 0x47 ∷ 0x41 ∷ 0x39 ∷ 0x34 ∷ 0x09 ∷ [])) ≡ false) × (is_ours (message 259 (0xB5 ∷ 0x00 ∷ 0x31 ∷ 0x47 ∷ 0x41 ∷ 0x39 ∷ 0x34 ∷ 0x09 ∷ [])) ≡ false)
unfolding begins_with
ours_in_numbers = (refl, refl, refl, refl, refl, refl)
