-- nal_unit_header() of H.265, 7.3.1.2: forbidden_zero_bit f(1), nal_unit_type u(6), nuh_layer_id u(6), nuh_temporal_id_plus1 u(3), in two bytes.
use Rattle.std.specs.Prelude.{ℕ, ◌+◌, ◌*◌, ◌/◌, ◌%◌, ◌<◌, ◌≡◌, ◌⊎◌, Bool, false, ◌&&◌, ◌||◌, not, List, [], ◌∷◌, eqb, leb, length}

abbrev pub forbidden_zero_bit : ℕ → ℕ
forbidden_zero_bit first = first / 128

abbrev pub nal_unit_type : ℕ → ℕ
nal_unit_type first = first / 2 % 64

abbrev pub nuh_layer_id : ℕ → ℕ → ℕ
nuh_layer_id first second = first % 2 * 32 + second / 8

abbrev pub nuh_temporal_id_plus1 : ℕ → ℕ
nuh_temporal_id_plus1 second = second % 8

-- PREFIX_SEI_NUT and SUFFIX_SEI_NUT
abbrev pub prefix_type : ℕ
prefix_type = 39

abbrev pub suffix_type : ℕ
suffix_type = 40

-- ours: a unit has at most 4,096 bytes as it arrives, header and emulation bytes included
abbrev pub most_unit_bytes : ℕ
most_unit_bytes = 4096

-- a header as 02, a allows it
abbrev pub allowed_header : ℕ → ℕ → Bool
allowed_header first second =
    eqb (forbidden_zero_bit first) 0 && ((eqb (nal_unit_type first) prefix_type || eqb (nal_unit_type first) suffix_type) && not (eqb (nuh_temporal_id_plus1 second) 0))

-- a unit that is long enough begins with such a header
abbrev pub begins_allowed : List ℕ → Bool
begins_allowed [] = false
begins_allowed (a ∷ []) = false
begins_allowed (a ∷ b ∷ s) = allowed_header a b

-- and is not too long
abbrev pub admitted : List ℕ → Bool
admitted u = leb (length u) most_unit_bytes && begins_allowed u

-- 02, a, 30: a unit shorter than two bytes or above 4,096, first header bit set, temporal id plus one of 0, or another type
pub data WrongUnit (u : List ℕ) : Type 0 where
  too_short : length u < 2 → WrongUnit u
  too_long : most_unit_bytes < length u → WrongUnit u
  first_bit_set : (first second : ℕ) (s : List ℕ) → u ≡ first ∷ second ∷ s → forbidden_zero_bit first ≡ 1 → WrongUnit u
  temporal_id_zero : (first second : ℕ) (s : List ℕ) → u ≡ first ∷ second ∷ s → nuh_temporal_id_plus1 second ≡ 0 → WrongUnit u
  another_type : (first second : ℕ) (s : List ℕ) → u ≡ first ∷ second ∷ s → (nal_unit_type first ≡ prefix_type → ⊥) → (nal_unit_type first ≡ suffix_type → ⊥) → WrongUnit u

-- and the opposite: a header as 02 allows
pub record AllowedHeader (first second : ℕ) : Type 0 where
  pub zero_bit : forbidden_zero_bit first ≡ 0
  pub type : (nal_unit_type first ≡ prefix_type) ⊎ (nal_unit_type first ≡ suffix_type)
  pub temporal : nuh_temporal_id_plus1 second ≡ 0 → ⊥
