-- What the range of a level 2 block says of its codes, and the answers of a conversion.
use Prim.Native.Nat.{ℕ, ◌<◌}
use mathlib.Core.Path.{◌≡◌}
use mathlib.Core.Bool.{true}
use borrow.Author.Tests.{ltb-true}
use lib.Dec.{ltb}
use lib.IntN.{ℤ, pos, negsuc}
use lib.Signed.{mag}
use Rattle.tree.specs.Coding.{signed, holds, hold_all}
use Rattle.record.specs.declared.Block.TheVariants.{Level2}
use Rattle.record.specs.Blocks.{in_range}
use Rattle.record.proofs.Laws.{and_left, and_right}

pub record Codes (t s o p c g : ℕ) (m : ℤ) : Type 0 where
  pub target : t < 4096
  pub slope : s < 4096
  pub offset : o < 4096
  pub power : p < 4096
  pub chroma : c < 4096
  pub gain : g < 4096
  pub weight : mag m < 4096

pub codes : (t s o p c g : ℕ) (m : ℤ) → in_range (Level2 t s o p c g m) ≡ true → Codes t s o p c g m
unfolding hold_all
codes t s o p c g m h =
    let h1 = and_right (ltb t 4096) _ h in
    let h2 = and_right (ltb s 4096) _ h1 in
    let h3 = and_right (ltb o 4096) _ h2 in
    let h4 = and_right (ltb p 4096) _ h3 in
    let h5 = and_right (ltb c 4096) _ h4 in
    let h6 = and_right (ltb g 4096) _ h5 in
    record {
      target = ltb-true t 4096 (and_left (ltb t 4096) _ h);
      slope = ltb-true s 4096 (and_left (ltb s 4096) _ h1);
      offset = ltb-true o 4096 (and_left (ltb o 4096) _ h2);
      power = ltb-true p 4096 (and_left (ltb p 4096) _ h3);
      chroma = ltb-true c 4096 (and_left (ltb c 4096) _ h4);
      gain = ltb-true g 4096 (and_left (ltb g 4096) _ h5);
      weight = small m (and_left (holds (signed 13) m) true h6);
    }
  where
    small : (m : ℤ) → holds (signed 13) m ≡ true → mag m < 4096
    small (pos v) h = ltb-true v 4096 h
    small (negsuc v) h = ltb-true v 4096 h
