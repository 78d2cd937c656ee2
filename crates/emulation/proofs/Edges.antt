-- Emulation prevention at its edges, by hand from H.265, 7.4.2, and 02, a.
use mathlib.Core.Path.{◌≡◌, refl}
use mathlib.Core.Bool.{true, false}
use mathlib.Core.List.{[], ◌∷◌}
use Rattle.emulation.specs.Emulation.{removed_behind, removed, escaped_behind, escaped, forbidden}

-- 00 to 03 behind two zero bytes, and no other; the zeros count anew behind an inserted byte
pub inserted_in_numbers :
    (escaped (0 ∷ 0 ∷ 0 ∷ []) ≡ 0 ∷ 0 ∷ 3 ∷ 0 ∷ []) × (escaped (0 ∷ 0 ∷ 1 ∷ []) ≡ 0 ∷ 0 ∷ 3 ∷ 1 ∷ []) × (escaped (0 ∷ 0 ∷ 2 ∷ []) ≡ 0 ∷ 0 ∷ 3 ∷ 2 ∷ [])
    × (escaped (0 ∷ 0 ∷ 3 ∷ []) ≡ 0 ∷ 0 ∷ 3 ∷ 3 ∷ []) × (escaped (0 ∷ 0 ∷ 4 ∷ []) ≡ 0 ∷ 0 ∷ 4 ∷ []) × (escaped (0 ∷ 1 ∷ 0 ∷ 1 ∷ []) ≡ 0 ∷ 1 ∷ 0 ∷ 1 ∷ [])
    × (escaped (0 ∷ 0 ∷ []) ≡ 0 ∷ 0 ∷ []) × (escaped (0 ∷ 0 ∷ 0 ∷ 0 ∷ 0 ∷ []) ≡ 0 ∷ 0 ∷ 3 ∷ 0 ∷ 0 ∷ 3 ∷ 0 ∷ []) × (escaped (7 ∷ 0 ∷ 0 ∷ 1 ∷ 0 ∷ 0 ∷ 2 ∷ []) ≡ 7 ∷ 0 ∷ 0 ∷ 3 ∷ 1 ∷ 0 ∷ 0 ∷ 3 ∷ 2 ∷ [])
unfolding escaped_behind
inserted_in_numbers = (refl, refl, refl, refl, refl, refl, refl, refl, refl)

-- 03 behind two zero bytes is left out, also as the last byte, and stays elsewhere
pub removed_in_numbers :
    (removed (0 ∷ 0 ∷ 3 ∷ 0 ∷ []) ≡ 0 ∷ 0 ∷ 0 ∷ []) × (removed (0 ∷ 0 ∷ 3 ∷ 3 ∷ []) ≡ 0 ∷ 0 ∷ 3 ∷ []) × (removed (0 ∷ 0 ∷ 3 ∷ []) ≡ 0 ∷ 0 ∷ [])
    × (removed (0 ∷ 3 ∷ []) ≡ 0 ∷ 3 ∷ []) × (removed (0 ∷ 0 ∷ 3 ∷ 0 ∷ 3 ∷ []) ≡ 0 ∷ 0 ∷ 0 ∷ 3 ∷ []) × (removed (0 ∷ 0 ∷ 3 ∷ 0 ∷ 0 ∷ 3 ∷ 1 ∷ []) ≡ 0 ∷ 0 ∷ 0 ∷ 0 ∷ 1 ∷ [])
unfolding removed_behind
removed_in_numbers = (refl, refl, refl, refl, refl, refl)

-- 31 on both sides
pub forbidden_in_numbers :
    (forbidden (0 ∷ 0 ∷ 0 ∷ []) ≡ true) × (forbidden (0 ∷ 0 ∷ 1 ∷ []) ≡ true) × (forbidden (0 ∷ 0 ∷ 2 ∷ []) ≡ true) × (forbidden (0 ∷ 0 ∷ 3 ∷ []) ≡ false)
    × (forbidden (0 ∷ 0 ∷ 3 ∷ 3 ∷ []) ≡ false) × (forbidden (0 ∷ 0 ∷ 3 ∷ 4 ∷ []) ≡ true) × (forbidden (0 ∷ 0 ∷ 4 ∷ []) ≡ false) × (forbidden (0 ∷ 1 ∷ 0 ∷ 1 ∷ []) ≡ false)
    × (forbidden (9 ∷ 8 ∷ 0 ∷ 0 ∷ 1 ∷ 7 ∷ []) ≡ true) × (forbidden (0 ∷ 0 ∷ 3 ∷ 0 ∷ 0 ∷ 1 ∷ []) ≡ true)
unfolding forbidden
forbidden_in_numbers = (refl, refl, refl, refl, refl, refl, refl, refl, refl, refl)
