-- Elements that follow a table are each held by its descriptor, and stand in the bits one behind another.
use Prim.Native.Nat.{ℕ, ◌+◌, ◌^◌, ◌<◌}
use mathlib.Core.Path.{◌≡◌, refl, ap, ◌∙◌}
use mathlib.Core.List.{List, [], ◌∷◌, ◌++◌, append_assoc}
use mathlib.Core.Bool.{Bool, true, false}
use lib.ListN.{take, drop}
use lib.Seq.{take_at, drop_at}
use Rattle.tree.specs.Bits.{code, value}
use Rattle.tree.specs.Reading.{meets}
use Rattle.tree.specs.Coding.{holds_in}
use Rattle.tree.specs.Syntax.{Syntax, done, reads, checks, here}
use Rattle.tree.specs.Meaning.{Element, element, width, element_bits, sum_of_widths, all_bits, Next, Follow}
use Rattle.tree.proofs.Bits.{length-code, value-code}
use Rattle.tree.proofs.Meaning.{length-all}

-- each is held
abbrev pub AllHeld : {N : Type 0} → List (Element N) → Type 0
AllHeld [] = Unit {0}
AllHeld (e ∷ es) = (holds_in e.descriptor e.value ≡ true) × AllHeld es

pub follow_held : {N A : Type 0} (p : Syntax N A) (at : ℕ) (es : List (Element N)) (x : Next N A) → Follow p at es x → AllHeld es
unfolding Follow
follow_held (done a) at es x h = rw h.0 tt
follow_held (reads n d f) at [] x h = tt
follow_held (reads n d f) at (e ∷ es) x h = (rw h.0.1 h.0.2, follow_held (f e.value) (at + width e) es x h.1)
follow_held {N} {A} (checks r p) at es x h = go (follow_held p at es x) (meets r) refl
  where
    go : (Follow p at es x → AllHeld es) → (b : Bool) → meets r ≡ b → AllHeld es
    go ih true q = ih (rw q at h)
    go ih false q = let k : (es ≡ []) × _ = rw q at h in rw k.0 tt
follow_held (here f) at es x h = follow_held (f at) at es x h

pub held_later : {N : Type 0} (es fs : List (Element N)) → AllHeld (es ++ fs) → AllHeld fs
held_later [] fs h = h
held_later (e ∷ es) fs h = held_later es fs h.1

-- what stands behind elements
pub behind_elements : {N : Type 0} (es : List (Element N)) (t : List Bool) → drop (sum_of_widths es) (all_bits es ++ t) ≡ t
behind_elements es t = drop_at (all_bits es) t (sum_of_widths es) (length-all es)

-- one element, and what stands behind it
pub bits_first : {N : Type 0} (e : Element N) (es : List (Element N)) (t : List Bool) → all_bits (e ∷ es) ++ t ≡ element_bits e ++ (all_bits es ++ t)
unfolding all_bits
bits_first e es t = append_assoc (element_bits e) (all_bits es) t

-- a u(n) at the front: its number, and what stands behind it
pub front_number : (n v : ℕ) (t : List Bool) → v < 2 ^ n → value (take n (code n v ++ t)) ≡ v
front_number n v t h = ap value (take_at (code n v) t n (length-code n v)) ∙ value-code n v h

pub front_rest : (n v : ℕ) (t : List Bool) → drop n (code n v ++ t) ≡ t
front_rest n v t = drop_at (code n v) t n (length-code n v)
