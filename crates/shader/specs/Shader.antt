-- What a conversion for the shader answers: seven numbers by their bits, or a refusal.
use Rattle.std.specs.Prelude.{ℕ, zero, suc, ◌+◌, ◌-◌, ◌*◌, ◌^◌, List, [], ◌∷◌, map, Bool, cond, ◌&&◌, eqb, ltb, ℤ, pos, negsuc, replicate}
use Rattle.std.specs.Float.{binary32}
use Rattle.std.specs.Float.Ieee.{to_bits}
use Rattle.refusals.specs.Refusals.{not_valid}
use Rattle.record.specs.declared.Block.{Block}
use Rattle.record.specs.Level.{level_of, values_of}
use Rattle.record.specs.Blocks.{in_range}
use Rattle.singles.specs.Singles.{single_bits}
use Rattle.shader.specs.declared.Numbers.{Numbers}

-- a level 2 block in range
abbrev pub convertible : Block → Bool
convertible b = eqb (level_of b) 2 && in_range b

-- 0, or 14 for a block out of range or of another level
abbrev pub conversion_result : Block → ℕ
conversion_result b = cond (convertible b) 0 not_valid

-- the bits of the seven numbers, in the order of the fields; seven plus zeros on a refusal
abbrev pub conversion_bits : Block → List ℕ
conversion_bits b = cond (convertible b) (map single_bits (values_of b)) (replicate 7 0)

abbrev pub bits_in : Numbers → List ℕ
bits_in n =
    to_bits binary32 n.target_max_pq ∷ to_bits binary32 n.trim_slope ∷ to_bits binary32 n.trim_offset ∷ to_bits binary32 n.trim_power
    ∷ to_bits binary32 n.trim_chroma_weight ∷ to_bits binary32 n.trim_saturation_gain ∷ to_bits binary32 n.ms_weight ∷ []
