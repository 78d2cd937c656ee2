-- Emulation prevention in a NAL unit (H.265, 7.3.1.1 and 7.4.2): no bytes within it may look like a start code.
use Rattle.std.specs.Prelude.{ℕ, suc, ◌<◌, ◌≡◌, ◌⊎◌, List, [], ◌∷◌, ◌++◌, Bool, true, false, cond, ◌&&◌, ◌||◌, eqb, leb, ltb}

abbrev pub emulation_prevention_three_byte : ℕ
emulation_prevention_three_byte = 3

-- how many zero bytes stand in a row, behind one more byte
abbrev pub zeros_behind : ℕ → ℕ → ℕ
zeros_behind zeros b = cond (eqb b 0) (suc zeros) 0

-- two zero bytes stand right before
abbrev pub behind_two_zeros : ℕ → Bool
behind_two_zeros zeros = leb 2 zeros

-- REMOVING: 03 behind two zero bytes is an emulation_prevention_three_byte, and is left out; `zeros` zero bytes stand right before
abbrev pub is_emulation : ℕ → ℕ → Bool
is_emulation zeros b = behind_two_zeros zeros && eqb b emulation_prevention_three_byte

abbrev pub left_out : Bool → ℕ → List ℕ → List ℕ
left_out true b s = s
left_out false b s = b ∷ s

unfoldable pub removed_behind : ℕ → List ℕ → List ℕ
removed_behind n [] = []
removed_behind n (b ∷ s) = left_out (is_emulation n b) b (removed_behind (zeros_behind n b) s)

abbrev pub removed : List ℕ → List ℕ
removed s = removed_behind 0 s

-- INSERTING: where 00 to 03 would come behind two zero bytes, an emulation_prevention_three_byte comes before it, and the zeros count anew
abbrev pub needs_emulation : ℕ → ℕ → Bool
needs_emulation zeros b = behind_two_zeros zeros && leb b 3

abbrev pub put_before : Bool → List ℕ → List ℕ
put_before true s = emulation_prevention_three_byte ∷ s
put_before false s = s

unfoldable pub escaped_behind : ℕ → List ℕ → List ℕ
escaped_behind n [] = []
escaped_behind n (b ∷ s) = put_before (needs_emulation n b) (b ∷ escaped_behind (zeros_behind (cond (needs_emulation n b) 0 n) b) s)

-- the one escaping of bytes
abbrev pub escaped : List ℕ → List ℕ
escaped s = escaped_behind 0 s

-- WHAT MAY NOT STAND (02, a, 31): two zero bytes followed by 00, 01 or 02, or by 03 and then a byte above 03
abbrev pub begins_above : ℕ → List ℕ → Bool
begins_above n [] = false
begins_above n (b ∷ s) = ltb n b

abbrev pub begins_forbidden : List ℕ → Bool
begins_forbidden [] = false
begins_forbidden (a ∷ []) = false
begins_forbidden (a ∷ b ∷ []) = false
begins_forbidden (a ∷ b ∷ c ∷ s) = (eqb a 0 && eqb b 0) && (ltb c 3 || (eqb c 3 && begins_above 3 s))

-- at some place
unfoldable pub forbidden : List ℕ → Bool
forbidden [] = false
forbidden (b ∷ s) = begins_forbidden (b ∷ s) || forbidden s

-- the same in 02's words: it stands between what is before and what is behind it
pub record StartCodeInside (s : List ℕ) : Type 0 where
  pub before : List ℕ
  pub third : ℕ
  pub behind : List ℕ
  pub stands : s ≡ before ++ (0 ∷ 0 ∷ third ∷ behind)
  pub is : (third < 3) ⊎ ((third ≡ 3) × (fourth : ℕ) × (rest : List ℕ) × (behind ≡ fourth ∷ rest) × (3 < fourth))
