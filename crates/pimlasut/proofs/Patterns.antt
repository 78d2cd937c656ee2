-- No number that the shader gets has the pattern of what is no number.
use Prim.Native.Nat.{ℕ, ◌<◌}
use mathlib.Core.Path.{◌≡◌, refl, subst}
use mathlib.Core.Bool.{Bool, true, false, not, cond, ◌&&◌}
use mathlib.Core.List.{map}
use native.Mathlib.Omega.{arith}
use lib.Dec.{T, eqb}
use lib.Ieee.{Float, nan, inf, fin, binary32, to_bits, is_nan}
use lib.IntN.{ℤ, pos, negsuc}
use lib.ListN.{replicate}
use lib.Signed.{mag}
use Rattle.record.specs.declared.Block.{Block}
use Rattle.record.specs.declared.Block.TheVariants.{Nothing, Level1, Level2, Level5}
use Rattle.record.specs.Level.{level_of, values_of}
use Rattle.record.specs.Blocks.{in_range}
use Rattle.singles.specs.Singles.{single_bits}
use Rattle.singles.proofs.Codes.{below, at_each_code}
use Rattle.shader.specs.Shader.{conversion_bits}
use Rattle.shader.proofs.Ranges.{codes}
use Rattle.pimlasut.specs.Boundary.{no_number, Patterns}

-- whatever has another pattern is a number
pub is_number : (x : Float) → (to_bits binary32 x ≡ no_number → ⊥) → T (not (is_nan x))
unfolding is_nan to_bits
is_number nan h = absurd (h refl)
is_number (inf s) h = tt
is_number (fin s m e) h = tt

is_other : ℤ → Bool
is_other z = not (eqb (single_bits z) no_number)

plus : T (below (λ (n : ℕ). is_other (pos n)) 4096)
unfolding is_other single_bits
plus = tt

minus : T (below (λ (n : ℕ). is_other (negsuc n)) 4096)
unfolding is_other single_bits
minus = tt

code_is_number : (z : ℤ) → mag z < 4096 → single_bits z ≡ no_number → ⊥
unfolding is_other
code_is_number z h e = subst (λ (m : ℕ). T (not (eqb m no_number))) e (at_each_code is_other plus minus z h)

pub conversion_is_numbers : (b : Block) → Patterns (conversion_bits b)
conversion_is_numbers b = go b (in_range b) refl
  where
    zero_is : 0 ≡ no_number → ⊥
    zero_is e = omega (arith, e)

    zeros : Patterns (replicate 7 0)
    zeros = (zero_is, (zero_is, (zero_is, (zero_is, (zero_is, (zero_is, (zero_is, tt)))))))

    go : (b : Block) (t : Bool) → in_range b ≡ t → Patterns (cond (eqb (level_of b) 2 && t) (map single_bits (values_of b)) (replicate 7 0))
    go Nothing t h = zeros
    go (Level1 min max avg) t h = zeros
    go (Level2 x s o p c g m) true h =
        let k = codes x s o p c g m h in
        (code_is_number (pos x) k.target, (code_is_number (pos s) k.slope, (code_is_number (pos o) k.offset, (code_is_number (pos p) k.power, (code_is_number (pos c) k.chroma, (code_is_number (pos g) k.gain, (code_is_number m k.weight, tt)))))))
    go (Level2 x s o p c g m) false h = zeros
    go (Level5 l r t' b) t h = zeros
