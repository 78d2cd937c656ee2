-- When two faults are the same to who is told number, offset and element.
use Rattle.std.specs.Prelude.{◌≡◌, Bool, true, false}
use Rattle.refusals.specs.Refusals.{bytes_remain}
use Rattle.tree.specs.Reading.{Fault, cut_off, overlong, breaks, number_in, offset_in, element_in}

-- the input ends too early
abbrev pub is_cut_off : {N : Type 0} → Fault N → Bool
is_cut_off (cut_off at n) = true
is_cut_off (overlong at n) = false
is_cut_off (breaks r) = false

-- one number, one offset, one element; and all the same, but that of bytes that remain there may be more
pub record ToldAlike {N : Type 0} (f g : Fault N) : Type 0 where
  pub number : number_in f ≡ number_in g
  pub offset : offset_in f ≡ offset_in g
  pub element : element_in f ≡ element_in g
  pub whole : (number_in f ≡ bytes_remain → ⊥) → f ≡ g
