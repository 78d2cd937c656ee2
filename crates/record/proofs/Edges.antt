-- Blocks on both sides of each range and of the order of level 1, by hand from 01: what the definition and the code could get wrong together.
use mathlib.Core.Path.{◌≡◌, refl}
use mathlib.Core.List.{[], ◌∷◌, map}
use mathlib.Core.Bool.{true, false}
use lib.IntN.{pos, negsuc}
use Rattle.tree.specs.Coding.{hold_all}
use Rattle.record.specs.declared.Block.TheVariants.{Level1, Level2, Level5}
use Rattle.record.specs.Blocks.{in_range, in_order}

-- min ≤ avg ≤ max, equality allowed
pub in_order_at_the_edges : map in_order (Level1 7 7 7 ∷ Level1 7 9 7 ∷ Level1 7 9 9 ∷ Level1 8 9 7 ∷ Level1 7 9 10 ∷ Level1 9 7 8 ∷ []) ≡ true ∷ true ∷ true ∷ false ∷ false ∷ false ∷ []
in_order_at_the_edges = refl

-- u(12) in level 1: 0 to 4,095
pub level_1_at_the_edges : map in_range (Level1 0 0 0 ∷ Level1 4095 4095 4095 ∷ Level1 4096 0 0 ∷ Level1 0 4096 0 ∷ Level1 0 0 4096 ∷ []) ≡ true ∷ true ∷ false ∷ false ∷ false ∷ []
unfolding hold_all
level_1_at_the_edges = refl

-- u(12), and i(13) for ms_weight: −4,096 to 4,095
pub level_2_at_the_edges : map in_range (Level2 4095 4095 4095 4095 4095 4095 (pos 4095) ∷ Level2 0 0 0 0 0 0 (negsuc 4095) ∷ Level2 0 0 0 0 0 0 (pos 4096) ∷ Level2 0 0 0 0 0 0 (negsuc 4096) ∷ Level2 4096 0 0 0 0 0 (pos 0) ∷ Level2 0 4096 0 0 0 0 (pos 0) ∷ Level2 0 0 4096 0 0 0 (pos 0) ∷ Level2 0 0 0 4096 0 0 (pos 0) ∷ Level2 0 0 0 0 4096 0 (pos 0) ∷ Level2 0 0 0 0 0 4096 (pos 0) ∷ []) ≡ true ∷ true ∷ false ∷ false ∷ false ∷ false ∷ false ∷ false ∷ false ∷ false ∷ []
unfolding hold_all
level_2_at_the_edges = refl

-- u(13) in level 5: 0 to 8,191
pub level_5_at_the_edges : map in_range (Level5 8191 8191 8191 8191 ∷ Level5 8192 0 0 0 ∷ Level5 0 8192 0 0 ∷ Level5 0 0 8192 0 ∷ Level5 0 0 0 8192 ∷ []) ≡ true ∷ false ∷ false ∷ false ∷ false ∷ []
unfolding hold_all
level_5_at_the_edges = refl
